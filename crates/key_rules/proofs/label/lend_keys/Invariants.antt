use Rattle.std.proofs.Common.{◌≡◌, ◌+◌, ◌++◌, map, drop, length, vec_len, vec_capacity, Ok}
use Rattle.jsonml_tree.specs.LentView.{lent_content_view}
use Rattle.key_spec.specs.View.{path_view}
use Rattle.keyed_tree.specs.LentView.{lent_val_view}
use Rattle.key_rules.specs.Labels.{and_then, keys_from}
use Rattle.key_rules.proofs.label.lend_keys.Given as goal

-- what is left decides, behind the values found so far
abbrev pub invariant-loop-path : goal.invariant-loop-path
invariant-loop-path l =
    (l.number ≡ l.path-index) × (vec_len l.keys ≡ l.path-index) × (vec_capacity l.keys ≡ length l.paths)
    × (keys_from 1 (map path_view l.paths) (lent_content_view l.content)
    ≡ and_then (keys_from (l.path-index + 1) (map path_view (drop l.path-index l.paths)) (lent_content_view l.content)) (λ ks. Ok (map lent_val_view l.keys.items ++ ks)))
