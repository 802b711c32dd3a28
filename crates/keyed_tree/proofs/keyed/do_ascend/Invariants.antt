use Rattle.std.proofs.Common.{◌≡◌, map, drop}
use Rattle.keyed_tree.specs.Data.{kids_from}
use Rattle.keyed_tree.specs.Kids.{ascend, ascend_from}
use Rattle.keyed_tree.specs.View.{label_view, keyed_view}
use Rattle.keyed_tree.proofs.keyed.do_ascend.Given as goal

-- what is left decides, above the last label
abbrev pub invariant-loop-kid : goal.invariant-loop-kid
invariant-loop-kid l = ascend (kids_from (map keyed_view l.kids)) ≡ ascend_from (label_view l.last) (kids_from (map keyed_view (drop l.kid-index l.rest)))
