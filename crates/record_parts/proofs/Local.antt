-- A value is read from its own bytes alone.
use Rattle.std.proofs.Common.{◌≡◌, ℕ, ◌<◌, ◌≤◌, List, [], length, take, drop, Option, Some, None, refl, sym, ap, ◌∙◌, arith}
use Rattle.std.proofs.lemmas.List.{take-append-drop, append_cancel_right, drop_all, length-drop}
use Rattle.std.specs.Prelude.{IsSome}
use Rattle.xa_fields.specs.Reading.{Reader, both_at, whole}
use Rattle.xa_fields.specs.Laws.{IsBytes, Reads}
use Rattle.xa_fields.proofs.Fields.{some_is}
use Rattle.xa_fields.proofs.Combinators.{whole_again}
use Rattle.record_parts.specs.Behind.{behind}
use Rattle.record_parts.specs.Readers.{not_zero}

pub alone : {A : Type 0} (read : Reader A) (spell : A → List ℕ) (Fits : A → Type 0) → Reads read spell Fits → (bytes : List ℕ) (n : ℕ) (a : A) → IsBytes bytes → read bytes ≡ Some (a, drop n bytes) → whole read (take n bytes) ≡ Some a
alone read spell Fits h bytes n a fits e =
    let t = h.takes bytes (a, drop n bytes) fits e in
    let same : take n bytes ≡ spell a = append_cancel_right (take n bytes) (spell a) (drop n bytes) (take-append-drop n bytes ∙ t.takes.parts) in
    ap (whole read) same ∙ whole_again read spell Fits h a t.fits

-- what a reader that passed over a value read
pub passed : {A : Type 0} (r : Option (A × List ℕ)) (rest : List ℕ) → Some rest ≡ behind r → (a : A) × (r ≡ Some (a, rest))
passed {A} (Some x) rest e = (let f : x.1 ≡ rest = sym (some_is rest x.1 e) in (x.0, ap (λ (r : List ℕ). Some (x.0, r)) f))
passed None rest e = absurd cc

pub passed_none : {A : Type 0} (r : Option (A × List ℕ)) → None ≡ behind r → r ≡ None
passed_none (Some x) e = absurd cc
passed_none None e = refl

-- what was read up to the end is the whole
pub to_the_end : {A : Type 0} (read : Reader A) (bytes rest : List ℕ) (a : A) → read bytes ≡ Some (a, rest) → rest ≡ [] → whole read bytes ≡ Some a
unfolding whole
to_the_end read bytes rest a e f = rw (e, f) refl

-- what was read before the end is not the whole
pub before_the_end : {A : Type 0} (read : Reader A) (bytes rest : List ℕ) (a : A) → read bytes ≡ Some (a, rest) → 0 < length rest → whole read bytes ≡ None
unfolding whole
before_the_end read bytes rest a e lt = (let f = not_zero (length rest) lt in rw e (rw f refl))

pub whole_none : {A : Type 0} (read : Reader A) (bytes : List ℕ) → read bytes ≡ None → whole read bytes ≡ None
unfolding whole
whole_none read bytes e = rw e refl

-- ---- two values

-- the values that two readers give, one behind the other, of all the bytes
pub record Both {A B : Type 0} (first : Reader A) (second : Reader B) (body front back : List ℕ) : Type 0 where
  pub a : A
  pub b : B
  pub a_is : whole first front ≡ Some a
  pub b_is : whole second back ≡ Some b
  pub both_is : whole (both_at first second) body ≡ Some (a, b)

pub both_read : {A B : Type 0} (first : Reader A) (second : Reader B) (body middle rest : List ℕ) (a : A) (b : B) → first body ≡ Some (a, middle) → second middle ≡ Some (b, rest) → both_at first second body ≡ Some ((a, b), rest)
unfolding both_at
both_read first second body middle rest a b e f = rw (e, f) refl

pub both_whole : {A B : Type 0} (first : Reader A) (second : Reader B) (spell : A → List ℕ) (Fits : A → Type 0) → Reads first spell Fits → (body front back : List ℕ) (m n : ℕ) → IsBytes body → front ≡ take m body → back ≡ drop m body
    → Some (drop m body) ≡ behind (first body) → Some (drop n body) ≡ behind (second (drop m body)) → length body ≤ n → Both first second body front back
both_whole {A} {B} first second spell Fits h body front back m n fits f g e k le =
    let a = passed (first body) (drop m body) e in
    let b = passed (second (drop m body)) (drop n body) k in
    let nothing : drop n body ≡ [] = drop_all n body le in
    let read = both_read first second body (drop m body) (drop n body) a.0 b.0 a.1 b.1 in
    record {
      a = a.0;
      b = b.0;
      a_is = ap (whole first) f ∙ alone first spell Fits h body m a.0 fits a.1;
      b_is = ap (whole second) g ∙ to_the_end second (drop m body) (drop n body) b.0 b.1 nothing;
      both_is = to_the_end (both_at first second) body (drop n body) (a.0, b.0) read nothing;
    }

pub no_first : {A B : Type 0} (first : Reader A) (second : Reader B) (body : List ℕ) → None ≡ behind (first body) → whole (both_at first second) body ≡ None
unfolding both_at
no_first first second body e = whole_none (both_at first second) body (let f = passed_none (first body) e in rw f refl)

pub no_second : {A B : Type 0} (first : Reader A) (second : Reader B) (body : List ℕ) (m : ℕ) → Some (drop m body) ≡ behind (first body) → None ≡ behind (second (drop m body)) → whole (both_at first second) body ≡ None
unfolding both_at
no_second first second body m e k =
    let a = passed (first body) (drop m body) e in
    let f = a.1 in
    let g = passed_none (second (drop m body)) k in
    whole_none (both_at first second) body (rw f (rw g refl))

pub too_long : {A B : Type 0} (first : Reader A) (second : Reader B) (body : List ℕ) (m n : ℕ) → Some (drop m body) ≡ behind (first body) → Some (drop n body) ≡ behind (second (drop m body)) → n < length body → whole (both_at first second) body ≡ None
too_long {A} {B} first second body m n e k lt =
    let a = passed (first body) (drop m body) e in
    let b = passed (second (drop m body)) (drop n body) k in
    let read = both_read first second body (drop m body) (drop n body) a.0 b.0 a.1 b.1 in
    before_the_end (both_at first second) body (drop n body) (a.0, b.0) read (omega (arith, length-drop n body))

pub is_some_of : {A : Type 0} (o : Option A) (a : A) → o ≡ Some a → IsSome o
is_some_of (Some x) a e = refl
is_some_of None a e = absurd cc
