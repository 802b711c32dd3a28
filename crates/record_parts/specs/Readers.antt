-- Laws of readers under other words.
use Rattle.std.proofs.Common.{◌≡◌, ℕ, ◌<◌, ◌==◌, Bool, true, false, cond, List, ◌∷◌, ◌++◌, Some, None, refl, sym, ap, subst, ◌∙◌, arith}
use Rattle.std.proofs.lemmas.Bool.Decides.{nat_tests}
use Rattle.xa_fields.specs.Reading.{Reader, ◌>>=◌, byte_at}
use Rattle.xa_fields.specs.Laws.{IsBytes, Takes, Read, Reads}
use Rattle.xa_fields.proofs.Fields.{bind_some, some_is, byte_reads}

-- the same reader, where what fits and the spelling are said otherwise
pub reads_as : {A : Type 0} (read : Reader A) (spell write : A → List ℕ) (Fits Goes : A → Type 0) → ((a : A) → spell a ≡ write a) → ((a : A) → Fits a → Goes a) → ((a : A) → Goes a → Fits a)
    → Reads read spell Fits → Reads read write Goes
reads_as read spell write Fits Goes same there back h = record {
  takes = λ bytes x fits e. (let r = h.takes bytes x fits e in record { takes = subst (λ (front : List ℕ). Takes bytes front x.1) (same x.0) r.takes; fits = there x.0 r.fits });
  again = λ a rest goes. ap (λ (front : List ℕ). read (front ++ rest)) (sym (same a)) ∙ h.again a rest (back a goes);
}

-- a value behind the byte of its kind
pub record Kind {A : Type 0} (spell : A → List ℕ) (Fits : A → Type 0) (k : ℕ) (rest : List ℕ) (x : A × List ℕ) : Type 0 where
  pub front : List ℕ
  pub spelled : spell x.0 ≡ k ∷ front
  pub takes : Takes rest front x.1
  pub fits : Fits x.0

-- what was read behind a byte is spelled with it
pub behind_kind : {A : Type 0} (read : ℕ → Reader A) (spell : A → List ℕ) (Fits : A → Type 0) → ((k : ℕ) (rest : List ℕ) (x : A × List ℕ) → IsBytes rest → read k rest ≡ Some x → Kind spell Fits k rest x)
    → (bytes : List ℕ) (x : A × List ℕ) → IsBytes bytes → (byte_at bytes >>= λ k. read k.0 k.1) ≡ Some x → Read spell Fits bytes x
behind_kind {A} read spell Fits h bytes x fits e =
    let k = bind_some (byte_at bytes) (λ k. read k.0 k.1) x e in
    let b = byte_reads.takes bytes k.0 fits k.1 in
    let s = h k.0.0 k.0.1 x b.takes.rest_fits k.2 in
    let parts : bytes ≡ (k.0.0 ∷ s.front) ++ x.1 = b.takes.parts ∙ ap (λ (r : List ℕ). k.0.0 ∷ r) s.takes.parts in
    record { takes = record { parts = parts ∙ ap (λ (front : List ℕ). front ++ x.1) (sym s.spelled); rest_fits = s.takes.rest_fits }; fits = s.fits }

-- a test that passed
pub passed_some : {A : Type 0} (b : Bool) (x y : A) → cond b (Some x) None ≡ Some y → (b ≡ true) × (x ≡ y)
passed_some true x y e = (refl, some_is x y e)
passed_some false x y e = absurd cc

-- a test for none
pub not_zero : (n : ℕ) → 0 < n → (n == 0) ≡ false
not_zero n lt = grind (arith, nat_tests)
