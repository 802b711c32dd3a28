use Rattle.std.proofs.Common.{◌≡◌, length, arith}
use Rattle.std.proofs.lemmas.Result.{IfErr-weaker, IfOk-weaker}
use Rattle.jsonml_tree.specs.LentView.{lent_tree_view}
use Rattle.key_spec.specs.View.{spec_view}
use Rattle.archive_tree.specs.ArchiveView.{archive_view}
use Rattle.archive_rekey.specs.View.{bad_version}
use Rattle.archive_rekey.proofs.Rekeyings.{first-bad, if-some, reaches-keyed, reaches-next, room}
use Rattle.archive_rekey.proofs.plain.with_version.Goals as goal

pub with_document-requires-clause-room : goal.with_document-requires-clause-room
with_document-requires-clause-room c =
    let old = c.args.old.now in
    let kept = c.archives_stand_for_one_list.ensures.told (archive_view old) old.stands in
    let size : length kept.versions ≡ (archive_view old).n = kept.is.count in
    room (spec_view c.args.spec.now) kept.versions c.args.before (archive_view c.args.archive) (omega (arith, size, c.requires.more)) c.requires.room (c.requires.so_far kept.versions kept.is)

pub with_document-requires-clause-keyed : goal.with_document-requires-clause-keyed
with_document-requires-clause-keyed c =
    let old = c.args.old.now in
    let kept = c.archives_stand_for_one_list.ensures.told (archive_view old) old.stands in
    reaches-keyed c.archives_stand_for_one_list.ensures.one_list (spec_view c.args.spec.now) kept.versions c.args.before (archive_view c.args.archive) (c.requires.so_far kept.versions kept.is)

pub returns-clause-next : goal.returns-clause-next
returns-clause-next c =
    IfOk-weaker c.with_document.result _ _ (λ a behind vs is. reaches-next (spec_view c.args.spec.now) vs c.args.before (archive_view c.args.archive) (archive_view a) (lent_tree_view c.in_ok-document.document) (c.requires.so_far vs is)
    (c.in_ok-document.ensures.spelled vs is) behind) c.with_document.ensures.next

pub returns-clause-key : goal.returns-clause-key
returns-clause-key c =
    IfErr-weaker c.with_document.result _ _ (λ e. if-some (bad_version e) _ _ (λ b bad vs is. first-bad (spec_view c.args.spec.now) vs c.args.before (archive_view c.args.archive) (lent_tree_view c.in_ok-document.document) b (c.requires.so_far vs is)
    (c.in_ok-document.ensures.spelled vs is) bad)) c.with_document.ensures.key
