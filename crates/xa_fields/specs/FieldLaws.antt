-- What the steps of a reader answer: a step before another, a test, and a number.
use Rattle.std.proofs.Common.{◌≡◌, ℕ, ◌<◌, ◌≤◌, ◌==◌, Bool, true, false, cond, ltb, List, length, take, drop, Option, Some, None, refl, sym, ap, arith}
use Rattle.std.specs.Int.{Width, byte_len, from_be_bytes}
use Rattle.std.proofs.lemmas.Bool.{le-ltb, ltb-false}
use Rattle.std.proofs.lemmas.Bool.Decides.{nat_tests}
use Rattle.xa_fields.specs.Reading.{◌>>=◌, number_at}

-- ---- options

abbrev done : {A : Type 0} → A → Option A
done x = Some x

pub some_is : {A : Type 0} (x y : A) → done x ≡ done y → x ≡ y
some_is x y e = cc

pub none_unless : {A : Type 0} (o : Option A) → ((x : A) → o ≡ Some x → ⊥) → o ≡ None
none_unless (Some x) h = absurd (h x refl)
none_unless None h = refl

-- the value of a step that did not fail
pub bind_some : {A B : Type 0} (r : Option A) (f : A → Option B) (y : B) → (r >>= f) ≡ Some y → (x : A) × (r ≡ Some x) × (f x ≡ Some y)
bind_some (Some x) f y e = (x, refl, e)
bind_some None f y e = absurd cc

-- ---- tests

-- a test that did not fail
pub guard_some : {A : Type 0} (b : Bool) (r : Option A) (y : A) → cond b None r ≡ Some y → (b ≡ false) × (r ≡ Some y)
guard_some true r y e = absurd cc
guard_some false r y e = (refl, e)

-- a test that passed
pub passed_some : {A : Type 0} (b : Bool) (x y : A) → cond b (Some x) None ≡ Some y → (b ≡ true) × (x ≡ y)
passed_some true x y e = (refl, some_is x y e)
passed_some false x y e = absurd cc

-- a test for none
pub not_zero : (n : ℕ) → 0 < n → (n == 0) ≡ false
not_zero n lt = grind (arith, nat_tests)

-- ---- numbers

-- where enough bytes are left, a number stands
pub number-there : (w : Width) (bytes : List ℕ) → byte_len w ≤ length bytes → number_at w bytes ≡ Some (from_be_bytes w (take (byte_len w) bytes), drop (byte_len w) bytes)
number-there w bytes fits = (let long : ltb (length bytes) (byte_len w) ≡ false = le-ltb _ _ fits in rw long refl)

-- how many bytes a number takes
pub number_sizes : (w : Width) (bytes : List ℕ) (x : ℕ × List ℕ) → number_at w bytes ≡ Some x → (byte_len w ≤ length bytes) × (x.1 ≡ drop (byte_len w) bytes)
number_sizes w bytes x e =
    let g = guard_some (ltb (length bytes) (byte_len w)) (Some (from_be_bytes w (take (byte_len w) bytes), drop (byte_len w) bytes)) x e in
    (ltb-false _ _ g.0, sym (ap (λ (y : ℕ × List ℕ). y.1) (some_is (from_be_bytes w (take (byte_len w) bytes), drop (byte_len w) bytes) x g.1)))
