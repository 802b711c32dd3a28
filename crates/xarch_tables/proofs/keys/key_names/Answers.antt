use Rattle.std.proofs.Common.{arith, ◌∙◌, lit<}
use Rattle.std.proofs.lemmas.Grind.{common_steps}
use Rattle.std.proofs.lemmas.Iterator.Splits.{YieldsList-from_str_split}
use Rattle.std.proofs.lemmas.Iterator.Consumers.{YieldsList-end}
use Rattle.xarch_tables.proofs.keys.key_names.Goals as goal

pub returns : goal.returns
returns c =
    let yields = YieldsList-from_str_split 44 c.args.word.now (lit< tt) (cc) (cc) (cc) in
    let end = YieldsList-end yields c.loop-part.yielded _ c.loop-part.yielded_by _ _ c.in-None.is c.next.ensures.steps in
    c.loop-part.invariant ∙ end.0

pub loop-part-preserved : goal.loop-part-preserved
loop-part-preserved c = grind (arith, common_steps)
