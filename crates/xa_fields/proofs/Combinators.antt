-- The laws of readers that are made of readers.
use Rattle.std.proofs.Common.{◌≡◌, ℕ, zero, suc, ◌^◌, ◌<◌, ◌≤◌, ◌==◌, Bool, true, cond, IsTrue, List, [], ◌∷◌, ◌++◌, length, take, Some, None, refl, sym, ap, subst, ◌∙◌, append_assoc, arith}
use Rattle.std.specs.Int.{w32}
use Rattle.std.specs.List.{flat_map, AllByRecursion}
use Rattle.std.proofs.lemmas.Bool.{eqb-true}
use Rattle.std.proofs.lemmas.List.{append-nil, nil_from_length, take_all, take_at, length-take, take-take}
use Rattle.xa_fields.specs.Spelling.{u32_bytes, list_bytes}
use Rattle.xa_fields.specs.Reading.{Reader, ◌>>=◌, number_at, many_at, list_at, both_at, only_at, whole}
use Rattle.xa_fields.specs.Laws.{IsBytes, Takes, Read, Reads, Grows}
use Rattle.xa_fields.specs.FieldLaws.{bind_some, passed_some, some_is}
use Rattle.xa_fields.proofs.Fields.{Takes-then, Takes-none, u32_reads}

-- ---- many values

-- many, each of which is spelled so
record ReadMany {A : Type 0} (spell : A → List ℕ) (Fits : A → Type 0) (n : ℕ) (bytes : List ℕ) (x : List A × List ℕ) : Type 0 where
  takes : Takes bytes (flat_map spell x.0) x.1
  fits : AllByRecursion Fits x.0
  count : length x.0 ≡ n

many_read : {A : Type 0} (one : Reader A) (spell : A → List ℕ) (Fits : A → Type 0) → Reads one spell Fits → (n : ℕ) (bytes : List ℕ) (x : List A × List ℕ) → IsBytes bytes → many_at one n bytes ≡ Some x → ReadMany spell Fits n bytes x
unfolding many_at
many_read {A} one spell Fits h zero bytes x fits e =
    subst (λ (y : List A × List ℕ). ReadMany spell Fits 0 bytes y) (some_is ([], bytes) x e) (record { takes = Takes-none bytes fits; fits = tt; count = refl })
many_read {A} one spell Fits h (suc n) bytes x fits e =
    let a = bind_some (one bytes) (λ first. many_at one n first.1 >>= λ others. Some (first.0 ∷ others.0, others.1)) x e in
    let b = bind_some (many_at one n a.0.1) (λ others. Some (a.0.0 ∷ others.0, others.1)) x a.2 in
    let first = h.takes bytes a.0 fits a.1 in
    let others = many_read one spell Fits h n a.0.1 b.0 first.takes.rest_fits b.1 in
    let made : List A × List ℕ = (a.0.0 ∷ b.0.0, b.0.1) in
    subst (λ (y : List A × List ℕ). ReadMany spell Fits (suc n) bytes y) (some_is made x b.2) (record {
      takes = Takes-then bytes (spell a.0.0) a.0.1 (flat_map spell b.0.0) b.0.1 first.takes others.takes;
      fits = (first.fits, others.fits);
      count = ap suc others.count;
    })

pub many_again : {A : Type 0} (one : Reader A) (spell : A → List ℕ) (Fits : A → Type 0) → Reads one spell Fits → (xs : List A) (rest : List ℕ) → AllByRecursion Fits xs → many_at one (length xs) (flat_map spell xs ++ rest) ≡ Some (xs, rest)
unfolding many_at
many_again one spell Fits h [] rest fits = refl
many_again one spell Fits h (x ∷ xs) rest fits =
    let rests = many_again one spell Fits h xs rest fits.1 in
    let first = h.again x (flat_map spell xs ++ rest) fits.0 in
    ap (many_at one (suc (length xs))) (append_assoc (spell x) (flat_map spell xs) rest) ∙ rw (first, rests) refl

-- so many values, as a row of that length
abbrev pub AreMany : {A : Type 0} → (A → Type 0) → ℕ → List A → Type 0
AreMany Fits n xs = AllByRecursion Fits xs × (length xs ≡ n)

pub many_reads : {A : Type 0} (one : Reader A) (spell : A → List ℕ) (Fits : A → Type 0) (n : ℕ) → Reads one spell Fits → Reads (many_at one n) (flat_map spell) (AreMany Fits n)
many_reads one spell Fits n h = record {
  takes = λ bytes x fits e. (let r = many_read one spell Fits h n bytes x fits e in record { takes = r.takes; fits = (r.fits, r.count) });
  again = λ xs rest fits. subst (λ (k : ℕ). many_at one k (flat_map spell xs ++ rest) ≡ Some (xs, rest)) fits.1 (many_again one spell Fits h xs rest fits.0);
}

-- ---- a counted list

-- a list that has a spelling
pub record IsList {A : Type 0} (Fits : A → Type 0) (xs : List A) : Type 0 where
  pub few : length xs < 2 ^ 32
  pub each : AllByRecursion Fits xs

list_read : {A : Type 0} (one : Reader A) (spell : A → List ℕ) (Fits : A → Type 0) → Reads one spell Fits → (bytes : List ℕ) (x : List A × List ℕ) → IsBytes bytes → list_at one bytes ≡ Some x → Read (list_bytes spell) (IsList Fits) bytes x
unfolding list_at
list_read one spell Fits h bytes x fits e =
    let a = bind_some (number_at w32 bytes) (λ n. many_at one n.0 n.1) x e in
    let n = u32_reads.takes bytes a.0 fits a.1 in
    let m = many_read one spell Fits h a.0.0 a.0.1 x n.takes.rest_fits a.2 in
    let both = Takes-then bytes (u32_bytes a.0.0) a.0.1 (flat_map spell x.0) x.1 n.takes m.takes in
    record {
      takes = subst (λ (k : ℕ). Takes bytes (u32_bytes k ++ flat_map spell x.0) x.1) (sym m.count) both;
      fits = record { few = omega (arith, n.fits, m.count); each = m.fits };
    }

list_again : {A : Type 0} (one : Reader A) (spell : A → List ℕ) (Fits : A → Type 0) → Reads one spell Fits → (xs : List A) (rest : List ℕ) → IsList Fits xs → list_at one (list_bytes spell xs ++ rest) ≡ Some (xs, rest)
unfolding list_at
list_again one spell Fits h xs rest fits =
    ap (list_at one) (append_assoc (u32_bytes (length xs)) (flat_map spell xs) rest) ∙ rw (u32_reads.again (length xs) (flat_map spell xs ++ rest) fits.few) (many_again one spell Fits h xs rest fits.each)

pub list_reads : {A : Type 0} (one : Reader A) (spell : A → List ℕ) (Fits : A → Type 0) → Reads one spell Fits → Reads (list_at one) (list_bytes spell) (IsList Fits)
list_reads one spell Fits h = record { takes = list_read one spell Fits h; again = list_again one spell Fits h }

-- ---- one behind another

pub both_reads : {A B : Type 0} (first : Reader A) (second : Reader B) (spell : A → List ℕ) (write : B → List ℕ) (Fits : A → Type 0) (Goes : B → Type 0) → Reads first spell Fits → Reads second write Goes
    → Reads (both_at first second) (λ p. spell p.0 ++ write p.1) (λ p. Fits p.0 × Goes p.1)
unfolding both_at
both_reads {A} {B} first second spell write Fits Goes g h = record {
  takes = λ bytes x fits e.
      let a = bind_some (first bytes) (λ a. second a.1 >>= λ b. Some ((a.0, b.0), b.1)) x e in
      let b = bind_some (second a.0.1) (λ b. Some ((a.0.0, b.0), b.1)) x a.2 in
      let t = g.takes bytes a.0 fits a.1 in
      let s = h.takes a.0.1 b.0 t.takes.rest_fits b.1 in
      let made : (A × B) × List ℕ = ((a.0.0, b.0.0), b.0.1) in
      subst (λ (y : (A × B) × List ℕ). Read (λ (p : A × B). spell p.0 ++ write p.1) (λ (p : A × B). Fits p.0 × Goes p.1) bytes y) (some_is made x b.2)
      (record { takes = Takes-then bytes (spell a.0.0) a.0.1 (write b.0.0) b.0.1 t.takes s.takes; fits = (t.fits, s.fits) });
  again = λ p rest fits.
      ap (both_at first second) (append_assoc (spell p.0) (write p.1) rest) ∙ rw (g.again p.0 (write p.1 ++ rest) fits.0, h.again p.1 rest fits.1) refl;
}

-- ---- what passes a test

pub only_reads : {A : Type 0} (test : A → Bool) (read : Reader A) (spell : A → List ℕ) (Fits : A → Type 0) → Reads read spell Fits → Reads (only_at test read) spell (λ a. Fits a × IsTrue (test a))
unfolding only_at
only_reads {A} test read spell Fits h = record {
  takes = λ bytes x fits e.
      let a = bind_some (read bytes) (λ a. cond (test a.0) (Some a) None) x e in
      let t = h.takes bytes a.0 fits a.1 in
      let p = passed_some (test a.0.0) a.0 x a.2 in
      subst (λ (y : A × List ℕ). Read spell (λ (a : A). Fits a × IsTrue (test a)) bytes y) p.1 (record { takes = t.takes; fits = (t.fits, p.0) });
  again = λ a rest fits. rw (h.again a rest fits.0) (let e = fits.1 in rw e refl);
}

-- ---- all of the bytes

empty_rest : (rest : List ℕ) → (length rest == 0) ≡ true → rest ≡ []
empty_rest rest e = nil_from_length rest (eqb-true (length rest) 0 e)

-- what all of the bytes are, they spell
pub whole_takes : {A : Type 0} (read : Reader A) (spell : A → List ℕ) (Fits : A → Type 0) → Reads read spell Fits → (bytes : List ℕ) (x : A) → IsBytes bytes → whole read bytes ≡ Some x → (bytes ≡ spell x) × Fits x
unfolding whole
whole_takes {A} read spell Fits h bytes x fits e =
    let a = bind_some (read bytes) (λ a. cond (length a.1 == 0) (Some a.0) None) x e in
    let t = h.takes bytes a.0 fits a.1 in
    let c = passed_some (length a.0.1 == 0) a.0.0 x a.2 in
    let all : bytes ≡ spell a.0.0 = t.takes.parts ∙ ap (λ (r : List ℕ). spell a.0.0 ++ r) (empty_rest a.0.1 c.0) ∙ append-nil (spell a.0.0) in
    subst (λ (y : A). (bytes ≡ spell y) × Fits y) c.1 (all, t.fits)

-- a spelling is all of its bytes
pub whole_again : {A : Type 0} (read : Reader A) (spell : A → List ℕ) (Fits : A → Type 0) → Reads read spell Fits → (a : A) → Fits a → whole read (spell a) ≡ Some a
unfolding whole
whole_again read spell Fits h a fits = ap (whole read) (sym (append-nil (spell a))) ∙ rw (h.again a [] fits) refl

-- ---- what is appended

pub grows_itself : (a : List ℕ) → Grows a a
grows_itself a = record { kept = take_all (length a) a (omega arith) }

pub grows_by : (a b : List ℕ) → Grows a (a ++ b)
grows_by a b = record { kept = take_at a b (length a) refl }

pub grows_on : (a b c : List ℕ) → Grows a b → Grows b c → Grows a c
grows_on a b c p q =
    let shorter : length a ≤ length b = omega (arith, ap length p.kept, length-take (length a) b) in
    record { kept = sym (take-take (length a) (length b) c shorter) ∙ ap (take (length a)) q.kept ∙ p.kept }

-- after an append, on from there
pub grows_past : (a x c : List ℕ) → Grows (a ++ x) c → Grows a c
grows_past a x c q = grows_on a (a ++ x) c (grows_by a x) q

pub grows_to : (a b x : List ℕ) → b ≡ a ++ x → Grows a b
grows_to a b x e = subst (λ (y : List ℕ). Grows a y) (sym e) (grows_by a x)

pub grows_same : (a b : List ℕ) → b ≡ a → Grows a b
grows_same a b e = subst (λ (y : List ℕ). Grows a y) (sym e) (grows_itself a)

pub ruleset growth = (grows_itself, grows_by, grows_past, grows_to, grows_same)
