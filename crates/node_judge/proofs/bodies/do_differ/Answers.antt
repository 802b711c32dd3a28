use Rattle.std.proofs.Common.{◌∙◌, ap, map, List, ℕ}
use Rattle.std.proofs.lemmas.List.Sorted.{IsPermutation-map}
use Rattle.std.specs.Prelude.{Vec}
use Rattle.std.specs.declared.alloc.Global.{Global}
use Rattle.node_judge.specs.Neighbours.{neighbours_differ}
use Rattle.node_judge.proofs.Differing.{differ-is}
use Rattle.node_judge.proofs.bodies.do_differ.Goals as goal

abbrev bytes : Vec ℕ Global → List ℕ
bytes v = v.items

pub returns : goal.returns
returns c ks values spelled =
    c.do_neighbours_differ.ensures ∙ ap (λ vs. neighbours_differ (map bytes vs)) c.deref.ensures.value
    ∙ differ-is ks values _ _ spelled (IsPermutation-map bytes _ _ c.in_order.ensures.same) c.in_order.ensures.in_order
