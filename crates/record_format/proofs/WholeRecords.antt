-- Records that take all of some bytes.
use Rattle.std.proofs.Common.{◌≡◌, ℕ, ◌<◌, ◌==◌, cond, List, length, Option, Some, None, refl}
use Rattle.xa_fields.specs.Reading.{◌>>=◌, whole}
use Rattle.xa_fields.specs.FieldLaws.{not_zero}
use Rattle.record_format.specs.Data.{PlainRec}
use Rattle.record_format.specs.Reading.{record_of, frame_at, record_at, whole_record}

-- the record, where no byte follows it
abbrev alone : Option PlainRec → List ℕ → Option PlainRec
alone r rest = ◌>>=◌ {A = PlainRec × List ℕ} {B = PlainRec} (◌>>=◌ {A = PlainRec} {B = PlainRec × List ℕ} r (λ x. Some (x, rest))) (λ a. cond (length a.1 == 0) (Some a.0) None)

ends : (r : Option PlainRec) (rest : List ℕ) → length rest ≡ 0 → alone r rest ≡ r
ends (Some x) rest e = rw e refl
ends None rest e = refl

goes_on : (r : Option PlainRec) (rest : List ℕ) → 0 < length rest → alone r rest ≡ None
goes_on (Some x) rest lt = (let e = not_zero (length rest) lt in rw e refl)
goes_on None rest lt = refl

pub no_frame : (bytes : List ℕ) → frame_at bytes ≡ None → whole_record bytes ≡ None
unfolding whole record_at
no_frame bytes h = rw h refl

-- bytes follow the record
pub frame_behind : (bytes : List ℕ) (f : (ℕ × List ℕ) × List ℕ) → frame_at bytes ≡ Some f → 0 < length f.1 → whole_record bytes ≡ None
unfolding whole record_at
frame_behind bytes f h lt = rw h (goes_on (record_of f.0.0 f.0.1) f.1 lt)

-- no byte follows it
pub frame_whole : (bytes : List ℕ) (f : (ℕ × List ℕ) × List ℕ) → frame_at bytes ≡ Some f → length f.1 ≡ 0 → whole_record bytes ≡ record_of f.0.0 f.0.1
unfolding whole record_at
frame_whole bytes f h e = rw h (ends (record_of f.0.0 f.0.1) f.1 e)
