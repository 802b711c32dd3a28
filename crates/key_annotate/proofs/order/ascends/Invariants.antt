use Rattle.std.proofs.Common.{◌≡◌, ◌-◌, map, drop}
use Rattle.keyed_tree.specs.Data.{kids_from}
use Rattle.keyed_tree.specs.Kids.{ascend}
use Rattle.key_annotate.specs.LentView.{lent_view}
use Rattle.key_annotate.proofs.order.ascends.Given as goal

-- what is left decides, from the kid before
abbrev pub invariant-loop-i : goal.invariant-loop-i
invariant-loop-i l = ascend (kids_from (map lent_view l.kids)) ≡ ascend (kids_from (map lent_view (drop (l.i - 1) l.kids)))
