use Rattle.std.proofs.Common.{◌∙◌, ap, sym}
use Rattle.std.specs.List.{slice_get}
use Rattle.version_set.specs.View.{pairs_of}
use Rattle.archive_tree.proofs.Tells.{head-members}
use Rattle.node_judge.proofs.stamp.first_number.Goals as goal

pub returns-in-Some : goal.returns-in-Some
returns-in-Some c = sym (head-members c.in-Some.pair.now (pairs_of c.args.set.now) c.in-Some.pair.now c.args.set.now.canonical (ap (λ ps. slice_get ps 0) (sym c.pairs.ensures) ∙ sym c.in-Some.ensures.value))
