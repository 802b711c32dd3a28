use Rattle.std.proofs.Common.{◌≡◌, ◌++◌, map, drop, length, vec_len, vec_capacity}
use Rattle.std.specs.List.{AllByRecursion}
use Rattle.std.specs.Option.{option_map}
use Rattle.serde_json.specs.View.{items_view}
use Rattle.keyed_tree.specs.View.{key_view}
use Rattle.keyed_tree.specs.WellFormed.{IsKeyWellFormed}
use Rattle.key_spec.specs.View.{path_view}
use Rattle.key_rules.specs.UserPaths.{values_by}
use Rattle.key_rules.proofs.user_path.read_values.Given as goal

-- what is left decides
abbrev pub invariant-loop-number : goal.invariant-loop-number
invariant-loop-number l =
    record {
      left : values_by (map path_view l.paths) (items_view l.values)
          ≡ option_map (λ ks. map key_view l.keys.items ++ ks) (values_by (map path_view (drop l.number l.paths)) (items_view (drop l.number l.values)));
      well_formed : AllByRecursion IsKeyWellFormed (map key_view l.keys.items);
      count : vec_len l.keys ≡ l.number;
      room : vec_capacity l.keys ≡ length l.paths;
    }
