use Rattle.std.proofs.Common.{◌≡◌, map, take}
use Rattle.keyed_tree.specs.LentView.{lent_val_view}
use Rattle.keyed_tree.specs.View.{key_view}
use Rattle.new_archive.proofs.fresh.own_keys.Given as goal

abbrev pub invariant-loop-key : goal.invariant-loop-key
invariant-loop-key l = map key_view l.copies.items ≡ map lent_val_view (take l.key-index l.keys)
