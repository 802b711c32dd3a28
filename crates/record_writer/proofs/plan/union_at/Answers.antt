use Rattle.std.proofs.Common.{sym, ◌∙◌}
use Rattle.std.proofs.lemmas.Result.{IfOk-weaker}
use Rattle.version_set.specs.Members.{united}
use Rattle.record_writer.proofs.PlaceLaws.{set_at-is}
use Rattle.record_writer.proofs.plan.union_at.Goals as goal

pub returns : goal.returns
returns c =
    let one = sym (set_at-is c.args.sets.now c.args.one c.index-sets-one.result c.requires.one c.index-sets-one.is) in
    let two = sym (set_at-is c.args.sets.now c.args.two c.index-sets-two.result c.requires.two c.index-sets-two.is) in
    IfOk-weaker c.union.result _ _ (λ both h. h ∙ (λ i. united (one i) (two i))) c.union.ensures.pairs
