-- Key values that are one text, in their order.
use Rattle.std.proofs.Common.{◌≡◌, ℕ, Bool, true, false, List, refl}
use Rattle.std.specs.Cmp.Lexicographic.{slice_cmp}
use Rattle.std.specs.Ordering.{nat_cmp}
use Rattle.jsonml_tree.specs.Laws.{then-Equal}
use Rattle.keyed_tree.specs.Order.{key_cmp}
use Rattle.key_annotate.specs.LabelView.{key_of_text}

-- of one kind they are compared as their texts
pub same_kind : (a b : Bool) (s t : List ℕ) → a ≡ b → key_cmp (key_of_text a s) (key_of_text b t) ≡ slice_cmp nat_cmp s t
same_kind true true s t e = refl
same_kind true false s t e = cc
same_kind false true s t e = cc
same_kind false false s t e = then-Equal (slice_cmp nat_cmp s t)
