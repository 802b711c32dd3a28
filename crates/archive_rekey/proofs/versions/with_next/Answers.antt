use Rattle.std.proofs.Common.{◌∙◌, ◌<◌, length, get_or, refl, ap, arith}
use Rattle.std.proofs.lemmas.Result.{IfErr-weaker, IfOk-weaker}
use Rattle.std.specs.Option.{option_map}
use Rattle.jsonml_tree.specs.LentView.{lent_tree_view}
use Rattle.keyed_tree.specs.Plain.{plain}
use Rattle.key_spec.specs.View.{spec_view}
use Rattle.archive_tree.specs.ArchiveView.{archive_view}
use Rattle.new_archive.specs.ArchiveView.{new_archive_view}
use Rattle.version_runs.specs.Runs.{versions_at}
use Rattle.archive_rekey.specs.View.{bad_version}
use Rattle.archive_rekey.proofs.Rekeyings.{if-some, reaches-keyed, reaches-next, room}
use Rattle.archive_rekey.proofs.RunVersions.{are-starts, bad-run, count-runs, run-version, start-between}
use Rattle.archive_rekey.proofs.versions.with_next.Goals as goal

pub lend_document-requires-clause-first : goal.lend_document-requires-clause-first
lend_document-requires-clause-first c =
    let old = archive_view c.args.old.now in
    (start-between c.args.starts.now old.n c.args.before 0 (are-starts c.args.starts.now old c.requires.starts) c.requires.more).0

pub lend_document-requires-clause-last : goal.lend_document-requires-clause-last
lend_document-requires-clause-last c =
    let old = archive_view c.args.old.now in
    (start-between c.args.starts.now old.n c.args.before 0 (are-starts c.args.starts.now old c.requires.starts) c.requires.more).1

pub with_document-requires-clause-room : goal.with_document-requires-clause-room
with_document-requires-clause-room c =
    let old = c.args.old.now in
    let kept = c.archives_stand_for_one_list.ensures.told (archive_view old) old.stands in
    let size = count-runs c.args.starts.now kept.versions (archive_view old) kept.is c.requires.starts in
    let more : c.args.before < length (versions_at c.args.starts.now kept.versions) = omega (arith, size, c.requires.more) in
    room (spec_view c.args.spec.now) (versions_at c.args.starts.now kept.versions) c.args.before (new_archive_view c.args.archive) more c.requires.room (c.requires.so_far kept.versions kept.is)

pub with_document-requires-clause-keyed : goal.with_document-requires-clause-keyed
with_document-requires-clause-keyed c =
    let old = c.args.old.now in
    let kept = c.archives_stand_for_one_list.ensures.told (archive_view old) old.stands in
    reaches-keyed c.archives_stand_for_one_list.ensures.one_list (spec_view c.args.spec.now) (versions_at c.args.starts.now kept.versions) c.args.before (new_archive_view c.args.archive) (c.requires.so_far kept.versions kept.is)

pub returns-clause-next : goal.returns-clause-next
returns-clause-next c =
    IfOk-weaker c.with_document.result _ _ (λ a behind vs is. (
    let starts = c.args.starts.now in
    let here = run-version starts vs (archive_view c.args.old.now) c.args.before 0 is c.requires.starts c.requires.more in
    reaches-next (spec_view c.args.spec.now) (versions_at starts vs) c.args.before (new_archive_view c.args.archive) (new_archive_view a) (lent_tree_view c.in_ok-document.document) (c.requires.so_far vs is)
    (ap (option_map plain) here ∙ c.in_ok-document.ensures.spelled vs is) behind)) c.with_document.ensures.next

pub returns-clause-key : goal.returns-clause-key
returns-clause-key c =
    IfErr-weaker c.with_document.result _ _ (λ e. if-some (bad_version e) _ _ (λ b bad vs is. (
    let starts = c.args.starts.now in
    let here = run-version starts vs (archive_view c.args.old.now) c.args.before 0 is c.requires.starts c.requires.more in
    bad-run (spec_view c.args.spec.now) starts vs (archive_view c.args.old.now) c.args.before (get_or starts c.args.before 0) (new_archive_view c.args.archive) (lent_tree_view c.in_ok-document.document) b is c.requires.starts c.requires.more refl
    (c.requires.so_far vs is) (ap (option_map plain) here ∙ c.in_ok-document.ensures.spelled vs is) bad))) c.with_document.ensures.key
