use Rattle.std.proofs.Common.{◌≡◌, ◌≤◌, length, map, sym, subst, arith}
use Rattle.key_spec.specs.View.{spec_view}
use Rattle.archive_tree.specs.ArchiveView.{archive_view}
use Rattle.archive_tree.specs.View.{node_view}
use Rattle.new_archive.specs.ArchiveView.{new_archive_view}
use Rattle.version_runs.specs.Runs.{versions_at}
use Rattle.version_runs.proofs.RunLemmas.{few_starts}
use Rattle.archive_rekey.specs.Progress.{Reaches}
use Rattle.archive_rekey.proofs.IndexLemmas.{lent-index}
use Rattle.archive_rekey.proofs.RunVersions.{are-starts}
use Rattle.archive_rekey.proofs.versions.archive_of_runs.Goals as goal

pub with_next-requires-clause-room : goal.with_next-requires-clause-room
with_next-requires-clause-room c =
    let old = archive_view c.args.old.now in
    let few : length c.args.starts.now ≤ old.n = few_starts c.args.starts.now old.n (are-starts c.args.starts.now old c.requires.starts) in
    let last = c.requires.last in
    omega (arith, few, last)

pub with_next-requires-clause-index : goal.with_next-requires-clause-index
with_next-requires-clause-index c = lent-index c.as_ref-beside.result c.in_ok-index.index (map node_view c.kids.result.now) (archive_view c.args.old.now).kids c.as_ref-beside.ensures.value c.kids.ensures.nodes c.in_ok-index.ensures

pub returns-clause-archive : goal.returns-clause-archive
returns-clause-archive c = λ vs is. (
    let end : c.loop-before.before ≡ length c.args.starts.now = omega (arith, c.loop-before.auto.before-end, c.loop-before-test.false) in
    let reached = subst (λ i. Reaches (spec_view c.args.spec.now) (versions_at c.args.starts.now vs) i (new_archive_view c.loop-before.archive)) end (c.loop-before.invariant vs is) in
    subst (λ a. Reaches (spec_view c.args.spec.now) (versions_at c.args.starts.now vs) (length c.args.starts.now) a) (sym c.in_ok-sealed.ensures) reached)
