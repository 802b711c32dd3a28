use Rattle.std.proofs.Common.{arith}
use Rattle.std.proofs.lemmas.Grind.{common_steps}
use Rattle.keyed_tree.proofs.Views.{views}
use Rattle.keyed_tree.proofs.keyed.+same.Goals as goal

pub Keyed::matches-returns-then-is_eq : goal.Keyed::matches-returns-then-is_eq
Keyed::matches-returns-then-is_eq t c = grind (arith, views)

pub Keyed::matches-returns-else-is_eq : goal.Keyed::matches-returns-else-is_eq
Keyed::matches-returns-else-is_eq t c = grind (arith, views)

pub Keyed::matches-returns-then-is_eq-2 : goal.Keyed::matches-returns-then-is_eq-2
Keyed::matches-returns-then-is_eq-2 t c = grind (arith, views)

pub Keyed::matches-returns-else-is_eq-2 : goal.Keyed::matches-returns-else-is_eq-2
Keyed::matches-returns-else-is_eq-2 t c = grind (arith, views)

pub Keyed::matches-returns-in_default : goal.Keyed::matches-returns-in_default
Keyed::matches-returns-in_default t c = grind (arith, views)

pub Keyed::matches-returns-in_default-2 : goal.Keyed::matches-returns-in_default-2
Keyed::matches-returns-in_default-2 t c = grind (arith, views)

pub all_match-loop-a-init : goal.all_match-loop-a-init
all_match-loop-a-init t c = grind (arith, common_steps)

pub all_match-returns-in_default : goal.all_match-returns-in_default
all_match-returns-in_default t c = grind (arith, common_steps)

pub all_match-returns-then-not-matches : goal.all_match-returns-then-not-matches
all_match-returns-then-not-matches t c = grind (arith, common_steps)

pub all_match-loop-a-preserved : goal.all_match-loop-a-preserved
all_match-loop-a-preserved t c = grind (arith, common_steps)

pub all_match-returns : goal.all_match-returns
all_match-returns t c = grind (arith, common_steps)
