-- Values that are lent and spelled, part by part.
use Rattle.std.proofs.Common.{◌≡◌, ℕ, ◌+◌, ◌<◌, ◌≤◌, ◌^◌, ◌&&◌, Bool, true, false, ltb, List, ◌∷◌, ◌++◌, length, map, drop, get_or, Result, Ok, Err, refl, sym, ap, ◌∙◌, append_assoc, arith}
use Rattle.std.specs.Result.{IsErrAnd}
use Rattle.std.proofs.lemmas.Bool.{ltb-true}
use Rattle.record_parts.specs.Spells.{Spells}
use Rattle.record_parts.specs.declared.fault.SpellFault.{SpellFault}
use Rattle.record_parts.specs.declared.fault.SpellFault.TheVariants.{TooLong, Memory}
use Rattle.record_parts.proofs.Puts.{next_first}

-- ---- tests of two parts

pub and_true : (a b : Bool) → a ≡ true → b ≡ true → (a && b) ≡ true
and_true true b e f = f
and_true false b e f = absurd cc

pub and_first : (a b : Bool) → a ≡ false → (a && b) ≡ false
and_first true b e = absurd cc
and_first false b e = refl

pub and_second : (a b : Bool) → b ≡ false → (a && b) ≡ false
and_second true b e = e
and_second false b e = refl

-- a length that does not fit its field
pub long_false : (n : ℕ) → 2 ^ 32 ≤ n → ltb n (2 ^ 32) ≡ false
long_false n le = decided (ltb n (2 ^ 32)) refl
  where
    decided : (b : Bool) → ltb n (2 ^ 32) ≡ b → b ≡ false
    decided true e = (let lt = ltb-true n (2 ^ 32) e in absurd (omega (arith, lt, le)))
    decided false e = refl

-- ---- refusals

-- where a part is refused, the whole is
pub refused : {T : Type 0} (a b : Bool) (o m x p n y : List ℕ) (r : Result T SpellFault) (e : SpellFault) → IsErrAnd r (λ d. d ≡ e) → (a ≡ false → b ≡ false) → Spells {T = T} a o m x (Err e) → Spells b p n y r
refused a b o m x p n y (Ok v) e is h s = absurd is
refused a b o m x p n y (Err TooLong) TooLong is h s = h s
refused a b o m x p n y (Err TooLong) Memory is h s = absurd cc
refused a b o m x p n y (Err Memory) e is h s = tt

-- ---- one part behind another

-- bytes that need no test stand in front
pub spelled_behind : {T : Type 0} (b : Bool) (o m n x y : List ℕ) (r : Result T SpellFault) → m ≡ o ++ x → Spells b m n y r → Spells b o n (x ++ y) r
spelled_behind b o m n x y (Ok v) e s = (s.0, s.1 ∙ ap (λ (z : List ℕ). z ++ y) e ∙ append_assoc o x y)
spelled_behind b o m n x y (Err TooLong) e s = s
spelled_behind b o m n x y (Err Memory) e s = tt

-- a part that was spelled, and the one behind it
pub spelled_both : {T : Type 0} (a b : Bool) (o m n x y : List ℕ) (r : Result T SpellFault) → a ≡ true → m ≡ o ++ x → Spells b m n y r → Spells (a && b) o n (x ++ y) r
spelled_both a b o m n x y (Ok v) t e s = (and_true a b t s.0, s.1 ∙ ap (λ (z : List ℕ). z ++ y) e ∙ append_assoc o x y)
spelled_both a b o m n x y (Err TooLong) t e s = and_second a b s
spelled_both a b o m n x y (Err Memory) t e s = tt

-- the same, said otherwise
pub spelled_as : {T : Type 0} (a b : Bool) (o n x y : List ℕ) (r : Result T SpellFault) → a ≡ b → x ≡ y → Spells a o n x r → Spells b o n y r
spelled_as a b o n x y (Ok v) e f s = (sym e ∙ s.0, s.1 ∙ ap (λ (z : List ℕ). o ++ z) f)
spelled_as a b o n x y (Err TooLong) e f s = sym e ∙ s
spelled_as a b o n x y (Err Memory) e f s = tt

-- a first part, a count, and what is counted
pub spelled_counted : {T : Type 0} (a f b : Bool) (o m k n x w y : List ℕ) (r : Result T SpellFault) → a ≡ true → f ≡ true → m ≡ o ++ x → k ≡ m ++ w → Spells b k n y r → Spells ((a && f) && b) o n (x ++ (w ++ y)) r
spelled_counted a f b o m k n x w y r p q e g s =
    let front : k ≡ o ++ (x ++ w) = g ∙ ap (λ (z : List ℕ). z ++ w) e ∙ append_assoc o x w in
    spelled_as ((a && f) && b) ((a && f) && b) o n ((x ++ w) ++ y) (x ++ (w ++ y)) r refl (append_assoc x w y) (spelled_both (a && f) b o k n (x ++ w) y r (and_true a f p q) front s)

-- ---- one of many

-- where the next one does not fit, all do not
pub all_refused : {X A : Type 0} (fit : A → Bool) (all : List A → Bool) (view : X → A) (xs : List X) (i : ℕ) (x : X) (whole : Bool) → ((a : A) (others : List A) → all (a ∷ others) ≡ (fit a && all others)) → i < length xs → x ≡ get_or xs i x → whole ≡ all (map view (drop i xs)) → fit (view x) ≡ false → whole ≡ false
all_refused {X} {A} fit all view xs i x whole step lt is same wrong =
    same ∙ ap all (next_first view xs i x lt is) ∙ step (view x) (map view (drop (i + 1) xs)) ∙ and_first (fit (view x)) (all (map view (drop (i + 1) xs))) wrong

-- where it does, those behind it decide
pub all_go_on : {X A : Type 0} (fit : A → Bool) (all : List A → Bool) (view : X → A) (xs : List X) (i : ℕ) (x : X) (whole : Bool) → ((a : A) (others : List A) → all (a ∷ others) ≡ (fit a && all others)) → i < length xs → x ≡ get_or xs i x → whole ≡ all (map view (drop i xs)) → fit (view x) ≡ true → whole ≡ all (map view (drop (i + 1) xs))
all_go_on {X} {A} fit all view xs i x whole step lt is same right =
    same ∙ ap all (next_first view xs i x lt is) ∙ step (view x) (map view (drop (i + 1) xs)) ∙ ap (λ (b : Bool). b && all (map view (drop (i + 1) xs))) right

-- a count, what is counted, and a test of the whole
pub spelled_tested : {T : Type 0} (a b c : Bool) (o m n x y : List ℕ) (r : Result T SpellFault) → a ≡ true → c ≡ true → m ≡ o ++ x → Spells b m n y r → Spells ((a && b) && c) o n (x ++ y) r
spelled_tested a b c o m n x y (Ok v) p q e s = (and_true (a && b) c (and_true a b p s.0) q, s.1 ∙ ap (λ (z : List ℕ). z ++ y) e ∙ append_assoc o x y)
spelled_tested a b c o m n x y (Err TooLong) p q e s = and_first (a && b) c (and_second a b s)
spelled_tested a b c o m n x y (Err Memory) p q e s = tt
