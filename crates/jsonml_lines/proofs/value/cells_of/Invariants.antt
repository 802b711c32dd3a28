use Rattle.std.proofs.Common.{◌≡◌, ◌++◌, map, drop, option_map, IsTrue}
use Rattle.serde_json.specs.View.{items_view}
use Rattle.keyed_tree.specs.View.{key_view}
use Rattle.keyed_tree.specs.WellFormed.{are_keys_well_formed}
use Rattle.jsonml_lines.specs.Read.{cells_in}
use Rattle.jsonml_lines.proofs.value.cells_of.Given as goal

abbrev pub invariant-loop-value : goal.invariant-loop-value
invariant-loop-value l =
    record {
      so_far : option_map (λ ks. map key_view l.cells.items ++ ks) (cells_in (items_view (drop l.value-index l.values))) ≡ cells_in (items_view l.values);
      well : IsTrue (are_keys_well_formed (map key_view l.cells.items));
    }
