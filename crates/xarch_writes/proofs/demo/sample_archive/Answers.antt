use Rattle.std.proofs.Common.{◌≡◌, subst, arith}
use Rattle.archive_tree.specs.ArchiveView.{archive_view}
use Rattle.xarch_meanings.specs.Demo.{IsSampleArchive}
use Rattle.xarch_writes.proofs.SampleLemmas.{sampled_none}
use Rattle.xarch_writes.proofs.demo.sample_archive.Goals as goal

pub loop-before-init : goal.loop-before-init
loop-before-init c = sampled_none c.args.seed (archive_view c.empty-archive.result) c.empty-archive.ensures

pub returns : goal.returns
returns c =
    let all : c.loop-before.before ≡ c.args.count = omega (arith, c.loop-before.auto.before-end, c.loop-before-test.false) in
    subst (λ n. IsSampleArchive c.args.seed n (archive_view c.loop-before.archive)) all c.loop-before.invariant
