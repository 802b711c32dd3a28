-- Bodies and their encodings.
use Rattle.std.proofs.Common.{◌≡◌, ◌↔◌, ℕ, Bool, true, false, IsTrue, List, [], ◌++◌, Some, refl, sym, ap, ◌∙◌}
use Rattle.std.specs.Ordering.{is_eq}
use Rattle.keyed_tree.specs.Data.{PlainKey}
use Rattle.keyed_tree.specs.Laws.{key_cmp-is_eq}
use Rattle.keyed_tree.specs.Order.{key_cmp}
use Rattle.xa_fields.specs.Reading.{whole}
use Rattle.xa_fields.specs.Laws.{Reads}
use Rattle.xa_fields.proofs.Combinators.{whole_again}
use Rattle.record_parts.specs.Bounds.{IsValue}
use Rattle.record_parts.specs.Reading.{value_at}
use Rattle.record_parts.specs.ShownViews.{value_in}
use Rattle.record_parts.specs.Spelling.{value_bytes}
use Rattle.record_parts.specs.Whole.{IsValueBytes}

alike : (x y : Bool) → (IsTrue x ↔ IsTrue y) → x ≡ y
alike true true h = refl
alike true false h = sym (h.0 refl)
alike false true h = h.1 refl
alike false false h = refl

-- bodies that are lent are the same exactly where they compare as equal
pub same_bodies : (b : Bool) (v w j k : PlainKey) → v ≡ j → w ≡ k → (IsTrue b ↔ (v ≡ w)) → b ≡ is_eq (key_cmp j k)
same_bodies b v w j k e f h =
    alike b (is_eq (key_cmp v w)) (λ x. (key_cmp-is_eq v w).1 (h.0 x), λ x. h.1 ((key_cmp-is_eq v w).0 x)) ∙ (λ i. is_eq (key_cmp (e i) (f i)))

-- bytes to which the encoding of a value was appended, where there were none
module _ (reads : Reads value_at value_bytes IsValue) (k : PlainKey) (old new : List ℕ) (is : IsValue k) (none : old ≡ []) (appended : new ≡ old ++ value_bytes k) where
  appended_whole : whole value_at new ≡ Some k
  appended_whole = ap (whole value_at) (appended ∙ ap (λ z. z ++ value_bytes k) none) ∙ whole_again value_at value_bytes IsValue reads k is

  pub appended_valid : IsValueBytes new
  appended_valid = (let e = appended_whole in rw e refl)

  pub appended_is : value_in (whole value_at new) ≡ k
  appended_is = ap value_in appended_whole
