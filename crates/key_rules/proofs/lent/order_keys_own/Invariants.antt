use Rattle.std.proofs.Common.{◌≡◌, map, drop}
use Rattle.std.specs.Cmp.Lexicographic.{slice_cmp}
use Rattle.keyed_tree.specs.Order.{key_cmp}
use Rattle.keyed_tree.specs.View.{key_view}
use Rattle.keyed_tree.specs.LentView.{lent_val_view}
use Rattle.key_rules.proofs.lent.order_keys_own.Given as goal

-- what is left decides
abbrev pub invariant-loop-a : goal.invariant-loop-a
invariant-loop-a l =
    slice_cmp key_cmp (map lent_val_view l.ours) (map key_view l.theirs)
    ≡ slice_cmp key_cmp (map lent_val_view (drop l.a-index l.ours)) (map key_view l.others.rest.now)
