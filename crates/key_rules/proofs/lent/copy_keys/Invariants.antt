use Rattle.std.proofs.Common.{◌≡◌, length, map, take, vec_len, vec_capacity}
use Rattle.keyed_tree.specs.View.{key_view}
use Rattle.keyed_tree.specs.LentView.{lent_val_view}
use Rattle.key_rules.proofs.lent.copy_keys.Given as goal

abbrev pub invariant-loop-key : goal.invariant-loop-key
invariant-loop-key l =
    (map key_view l.copies.items ≡ map lent_val_view (take l.key-index l.keys)) × (vec_len l.copies ≡ l.key-index) × (vec_capacity l.copies ≡ length l.keys)
