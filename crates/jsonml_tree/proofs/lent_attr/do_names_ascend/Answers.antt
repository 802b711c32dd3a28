use Rattle.std.proofs.Common.{arith}
use Rattle.std.proofs.lemmas.Grind.{common_steps}
use Rattle.jsonml_tree.proofs.lent_attr.do_names_ascend.Goals as goal

pub loop-attr-preserved : goal.loop-attr-preserved
loop-attr-preserved c = grind (arith, common_steps)

pub returns : goal.returns
returns c = grind (arith, common_steps)

pub returns-then-not-is_lt : goal.returns-then-not-is_lt
returns-then-not-is_lt c = grind (arith, common_steps)
