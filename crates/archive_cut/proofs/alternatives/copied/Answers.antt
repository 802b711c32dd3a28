use Rattle.std.proofs.Common.{◌≡◌, ℕ, List, Some, Result, Ok, Err, IfOk, refl, ap, ◌∙◌}
use Rattle.xa_fields.specs.Reading.{whole}
use Rattle.xa_fields.specs.Laws.{Reads}
use Rattle.xa_fields.proofs.Combinators.{whole_again}
use Rattle.keyed_tree.specs.Data.{PlainKey}
use Rattle.record_parts.specs.Bounds.{IsValue}
use Rattle.record_parts.specs.Reading.{value_at}
use Rattle.record_parts.specs.ShownViews.{value_in, shown_body}
use Rattle.record_parts.specs.Spelling.{value_bytes}
use Rattle.record_parts.specs.Whole.{IsValueBytes}
use Rattle.archive_cut.proofs.alternatives.copied.Goals as goal

module _ (reads : Reads value_at value_bytes IsValue) (k : PlainKey) (is : IsValue k) where
  read : (bytes : List ℕ) → bytes ≡ value_bytes k → whole value_at bytes ≡ Some k
  read bytes e = ap (whole value_at) e ∙ whole_again value_at value_bytes IsValue reads k is

  valid : {V E : Type 0} (items : V → List ℕ) (r : Result V E) (bytes : List ℕ) → bytes ≡ value_bytes k → IfOk r (λ v. items v ≡ bytes) → IfOk r (λ v. IsValueBytes (items v))
  valid items (Ok v) bytes e h = (let whole_is = read (items v) (h ∙ e) in rw whole_is refl)
  valid items (Err f) bytes e h = tt

  same : {V E : Type 0} (items : V → List ℕ) (r : Result V E) (bytes : List ℕ) → bytes ≡ value_bytes k → IfOk r (λ v. items v ≡ bytes) → IfOk r (λ v. value_in (whole value_at (items v)) ≡ k)
  same items (Ok v) bytes e h = ap value_in (read (items v) (h ∙ e))
  same items (Err f) bytes e h = tt

pub returns : goal.returns
returns c =
    let b = c.bytes.ensures in
    let reads = c.parts_are_read_as_spelled.ensures.values in
    let k = shown_body c.args.body in
    record {
      valid = valid reads k b.is (λ v. v.items) c.from_slice.result c.bytes.result.now b.spelled c.from_slice.ensures.items;
      same = same reads k b.is (λ v. v.items) c.from_slice.result c.bytes.result.now b.spelled c.from_slice.ensures.items;
    }
