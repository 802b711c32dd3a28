use Rattle.std.proofs.Common.{◌≡◌, ◌∙◌, length, sym, arith}
use Rattle.key_spec.specs.View.{spec_view}
use Rattle.archive_tree.specs.ArchiveView.{archive_view}
use Rattle.archive_rekey.proofs.Rekeyings.{reaches-all, reaches-count, reaches-keyed}
use Rattle.archive_rekey.proofs.plain.rekey.Goals as goal

pub returns-clause-archive : goal.returns-clause-archive
returns-clause-archive c = λ vs is. (
    let size : length vs ≡ (archive_view c.args.old.now).n = is.count in
    let end : c.loop-before.before ≡ c.n-count.result = omega (arith, c.loop-before.auto.before-end, c.loop-before-test.false) in
    reaches-all (spec_view c.args.spec.now) vs c.loop-before.before (archive_view c.loop-before.archive) (size ∙ sym c.n-count.ensures ∙ sym end) (c.loop-before.invariant vs is))

pub returns-clause-count : goal.returns-clause-count
returns-clause-count c =
    let old = archive_view c.args.old.now in
    let kept = c.archives_stand_for_one_list.ensures.told old c.args.old.now.stands in
    let size : length kept.versions ≡ old.n = kept.is.count in
    let end : c.loop-before.before ≡ c.n-count.result = omega (arith, c.loop-before.auto.before-end, c.loop-before-test.false) in
    let all : c.loop-before.before ≡ old.n = end ∙ c.n-count.ensures in
    reaches-count (spec_view c.args.spec.now) kept.versions c.loop-before.before (archive_view c.loop-before.archive) (omega (arith, all, size)) (c.loop-before.invariant kept.versions kept.is) ∙ all

pub returns-clause-keyed : goal.returns-clause-keyed
returns-clause-keyed c =
    let old = archive_view c.args.old.now in
    let kept = c.archives_stand_for_one_list.ensures.told old c.args.old.now.stands in
    reaches-keyed c.archives_stand_for_one_list.ensures.one_list (spec_view c.args.spec.now) kept.versions c.loop-before.before (archive_view c.loop-before.archive) (c.loop-before.invariant kept.versions kept.is)
