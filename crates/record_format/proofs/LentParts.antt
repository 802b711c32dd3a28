-- What is lent of the bytes of a record.
use Rattle.std.proofs.Common.{◌≡◌, ◌≢◌, ℕ, IsTrue, List, Option, Some, None, refl, sym, ap, ◌∙◌}
use Rattle.std.specs.Prelude.{IfSome, IsNone}
use Rattle.std.specs.Option.{option_map}
use Rattle.xa_fields.specs.Laws.{IsBytes}
use Rattle.record_format.specs.Data.{PlainRec}
use Rattle.record_format.specs.Spelling.{rec_bytes}
use Rattle.record_format.specs.Bounds.{IsRec}
use Rattle.record_format.specs.Reading.{whole_record}
use Rattle.record_format.specs.Whole.{has_parts, with_parts}
use Rattle.record_format.specs.ShownViews.{shown}
use Rattle.record_format.specs.declared.views.View.{View}
use Rattle.xa_fields.specs.FieldLaws.{passed_some}
use Rattle.record_format.proofs.Records.{whole_record_found, whole_record_only}

parted : (o : Option PlainRec) (r : PlainRec) → with_parts o ≡ Some r → o ≡ Some r
parted (Some x) r e = (let p = passed_some (has_parts x) x r e in ap (λ (y : PlainRec). Some y) p.1)
parted None r e = absurd cc

pub view_found : (bytes : List ℕ) (v : Option View) → IsBytes bytes → option_map shown v ≡ with_parts (whole_record bytes) → IfSome v (λ x. IsRec (shown x) × (bytes ≡ rec_bytes (shown x)))
view_found bytes (Some x) fits e = (let t = whole_record_found bytes (shown x) fits (parted (whole_record bytes) (shown x) (sym e)) in (t.1, t.0))
view_found bytes None fits e = tt

no_view : (v : Option View) (r : PlainRec) → IsNone v → option_map shown v ≡ Some r → ⊥
no_view (Some x) r h e = absurd cc
no_view None r h e = absurd cc

with_its_parts : (r : PlainRec) → IsTrue (has_parts r) → with_parts (Some r) ≡ Some r
with_its_parts r h = rw h refl

pub view_none : (bytes : List ℕ) (v : Option View) → option_map shown v ≡ with_parts (whole_record bytes) → IsNone v → (r : PlainRec) → IsTrue (has_parts r) → IsRec r → bytes ≢ rec_bytes r
view_none bytes v e h r parts is spelled =
    let read : whole_record bytes ≡ Some r = ap whole_record spelled ∙ whole_record_only r is in
    no_view v r h (e ∙ ap with_parts read ∙ with_its_parts r parts)
