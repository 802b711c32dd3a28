use Rattle.std.proofs.Common.{◌≡◌, ◌∙◌, map, refl, arith}
use Rattle.std.specs.Cmp.Lexicographic.{slice_cmp}
use Rattle.std.specs.Ordering.{on}
use Rattle.jsonml_tree.proofs.Rows.{slice_cmp-map}
use Rattle.keyed_tree.specs.Order.{key_cmp}
use Rattle.keyed_tree.specs.View.{key_view}
use Rattle.keyed_tree.proofs.label.Label.order.Goals as goal

pub returns : goal.returns
returns c =
    let keys : c.cmp.result ≡ slice_cmp key_cmp (map key_view c.as_slice.result.now) (map key_view c.as_slice-2.result.now) =
    c.cmp.ensures ∙ slice_cmp-map key_view (on key_view key_cmp) key_cmp (λ x y. refl) c.as_slice.result.now c.as_slice-2.result.now in
    grind arith
