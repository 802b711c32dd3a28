-- Values of which each may follow what stands before it.
use Rattle.std.proofs.Common.{◌≡◌, ℕ, zero, suc, ◌+◌, ◌-◌, ◌^◌, ◌<◌, ◌≤◌, Bool, true, false, IsTrue, List, [], ◌∷◌, ◌++◌, length, Option, Some, None, refl, sym, ap, subst, ◌∙◌, append_assoc, arith}
use Rattle.std.specs.Int.{w32}
use Rattle.std.specs.List.{flat_map, AllByRecursion}
use Rattle.std.proofs.lemmas.List.{append-nil}
use Rattle.xa_fields.specs.Spelling.{u32_bytes, list_bytes}
use Rattle.xa_fields.specs.Reading.{Reader, ◌>>=◌, number_at, chain_at, chained_at}
use Rattle.xa_fields.specs.Laws.{IsBytes, Takes, Read, Reads}
use Rattle.xa_fields.proofs.Fields.{bind_some, some_is, Takes-then, Takes-none, u32_reads}
use Rattle.xa_fields.proofs.Loops.{with_front}

abbrev pub on_some : {S : Type 0} → Option S → (S → Bool) → Bool
on_some None f = false
on_some (Some s) f = f s

-- each may follow what stands before it
abbrev pub follows : {A S : Type 0} → (S → A → Option S) → S → List A → Bool
follows next s [] = true
follows next s (x ∷ xs) = on_some (next s x) (λ t. follows next t xs)

pub record Chain {A S : Type 0} (spell : A → List ℕ) (Fits : A → Type 0) (next : S → A → Option S) (s : S) (n : ℕ) (bytes : List ℕ) (x : List A × List ℕ) : Type 0 where
  pub takes : Takes bytes (flat_map spell x.0) x.1
  pub fits : AllByRecursion Fits x.0
  pub count : length x.0 ≡ n
  pub follow : IsTrue (follows next s x.0)

pub chain_read : {A S : Type 0} (one : Reader A) (next : S → A → Option S) (spell : A → List ℕ) (Fits : A → Type 0) → Reads one spell Fits → (s : S) (n : ℕ) (bytes : List ℕ) (x : List A × List ℕ) → IsBytes bytes → chain_at one next s n bytes ≡ Some x → Chain spell Fits next s n bytes x
unfolding chain_at
chain_read {A} one next spell Fits h s zero bytes x fits e =
    subst (λ (y : List A × List ℕ). Chain spell Fits next s 0 bytes y) (some_is ([], bytes) x e) (record { takes = Takes-none bytes fits; fits = tt; count = refl; follow = refl })
chain_read {A} {S} one next spell Fits h s (suc n) bytes x fits e =
    let a = bind_some (one bytes) (λ first. next s first.0 >>= λ t. chain_at one next t n first.1 >>= λ others. Some (first.0 ∷ others.0, others.1)) x e in
    let t = bind_some (next s a.0.0) (λ t. chain_at one next t n a.0.1 >>= λ others. Some (a.0.0 ∷ others.0, others.1)) x a.2 in
    let b = bind_some (chain_at one next t.0 n a.0.1) (λ others. Some (a.0.0 ∷ others.0, others.1)) x t.2 in
    let first = h.takes bytes a.0 fits a.1 in
    let others = chain_read one next spell Fits h t.0 n a.0.1 b.0 first.takes.rest_fits b.1 in
    let made : List A × List ℕ = (a.0.0 ∷ b.0.0, b.0.1) in
    let on : IsTrue (on_some (next s a.0.0) (λ u. follows next u b.0.0)) = subst (λ (o : Option S). IsTrue (on_some o (λ u. follows next u b.0.0))) (sym t.1) others.follow in
    subst (λ (y : List A × List ℕ). Chain spell Fits next s (suc n) bytes y) (some_is made x b.2) (record {
      takes = Takes-then bytes (spell a.0.0) a.0.1 (flat_map spell b.0.0) b.0.1 first.takes others.takes;
      fits = (first.fits, others.fits);
      count = ap suc others.count;
      follow = on;
    })

on_some_is : {S : Type 0} (o : Option S) (f : S → Bool) → IsTrue (on_some o f) → (s : S) × (o ≡ Some s) × IsTrue (f s)
on_some_is (Some s) f h = (s, refl, h)
on_some_is None f h = absurd cc

chain_again : {A S : Type 0} (one : Reader A) (next : S → A → Option S) (spell : A → List ℕ) (Fits : A → Type 0) → Reads one spell Fits → (s : S) (xs : List A) (rest : List ℕ) → AllByRecursion Fits xs → IsTrue (follows next s xs) → chain_at one next s (length xs) (flat_map spell xs ++ rest) ≡ Some (xs, rest)
unfolding chain_at
chain_again one next spell Fits h s [] rest fits on = refl
chain_again one next spell Fits h s (x ∷ xs) rest fits on =
    let t = on_some_is (next s x) (λ u. follows next u xs) on in
    let rests = chain_again one next spell Fits h t.0 xs rest fits.1 t.2 in
    let first = h.again x (flat_map spell xs ++ rest) fits.0 in
    let may = t.1 in
    ap (chain_at one next s (suc (length xs))) (append_assoc (spell x) (flat_map spell xs) rest) ∙ rw (first, may, rests) refl

-- a counted list whose values follow one another
pub record IsChain {A S : Type 0} (Fits : A → Type 0) (next : S → A → Option S) (s : S) (xs : List A) : Type 0 where
  pub few : length xs < 2 ^ 32
  pub each : AllByRecursion Fits xs
  pub follow : IsTrue (follows next s xs)

chained_read : {A S : Type 0} (one : Reader A) (next : S → A → Option S) (s : S) (spell : A → List ℕ) (Fits : A → Type 0) → Reads one spell Fits → (bytes : List ℕ) (x : List A × List ℕ) → IsBytes bytes → chained_at one next s bytes ≡ Some x → Read (list_bytes spell) (IsChain Fits next s) bytes x
unfolding chained_at
chained_read one next s spell Fits h bytes x fits e =
    let a = bind_some (number_at w32 bytes) (λ n. chain_at one next s n.0 n.1) x e in
    let n = u32_reads.takes bytes a.0 fits a.1 in
    let m = chain_read one next spell Fits h s a.0.0 a.0.1 x n.takes.rest_fits a.2 in
    let both = Takes-then bytes (u32_bytes a.0.0) a.0.1 (flat_map spell x.0) x.1 n.takes m.takes in
    record {
      takes = subst (λ (k : ℕ). Takes bytes (u32_bytes k ++ flat_map spell x.0) x.1) (sym m.count) both;
      fits = record { few = omega (arith, n.fits, m.count); each = m.fits; follow = m.follow };
    }

chained_again : {A S : Type 0} (one : Reader A) (next : S → A → Option S) (s : S) (spell : A → List ℕ) (Fits : A → Type 0) → Reads one spell Fits → (xs : List A) (rest : List ℕ) → IsChain Fits next s xs → chained_at one next s (list_bytes spell xs ++ rest) ≡ Some (xs, rest)
unfolding chained_at
chained_again one next s spell Fits h xs rest fits =
    ap (chained_at one next s) (append_assoc (u32_bytes (length xs)) (flat_map spell xs) rest) ∙ rw (u32_reads.again (length xs) (flat_map spell xs ++ rest) fits.few) (chain_again one next spell Fits h s xs rest fits.each fits.follow)

pub chained_reads : {A S : Type 0} (one : Reader A) (next : S → A → Option S) (s : S) (spell : A → List ℕ) (Fits : A → Type 0) → Reads one spell Fits → Reads (chained_at one next s) (list_bytes spell) (IsChain Fits next s)
chained_reads one next s spell Fits h = record { takes = chained_read one next s spell Fits h; again = chained_again one next s spell Fits h }

-- ---- a loop that reads them

regroup : {A : Type 0} (front : List A) (a : A) (read : Option (List A × List ℕ)) → with_front front (read >>= λ x. Some (a ∷ x.0, x.1)) ≡ with_front (front ++ a ∷ []) read
regroup {A} front a (Some x) = ap (λ (xs : List A). Some (xs, x.1)) (simp append_assoc)
regroup front a None = refl

-- one more value
pub chain_on : {A S : Type 0} (one : Reader A) (next : S → A → Option S) (s t : S) (front : List A) (count i : ℕ) (bytes : List ℕ) (a : A) (after : List ℕ) (total : Option (List A × List ℕ)) → i < count → one bytes ≡ Some (a, after) → next s a ≡ Some t
    → with_front front (chain_at one next s (count - i) bytes) ≡ total → with_front (front ++ a ∷ []) (chain_at one next t (count - (i + 1)) after) ≡ total
unfolding chain_at
chain_on one next s t front count i bytes a after total lt h may so_far =
    let k : count - i ≡ suc (count - (i + 1)) = omega arith in
    let step : with_front front (chain_at one next s (count - i) bytes) ≡ with_front (front ++ a ∷ []) (chain_at one next t (count - (i + 1)) after) = rw (k, h, may) (regroup front a (chain_at one next t (count - (i + 1)) after)) in
    sym step ∙ so_far

-- no value where one is wanted
pub chain_breaks : {A S : Type 0} (one : Reader A) (next : S → A → Option S) (s : S) (front : List A) (count i : ℕ) (bytes : List ℕ) (total : Option (List A × List ℕ)) → i < count → one bytes ≡ None
    → with_front front (chain_at one next s (count - i) bytes) ≡ total → total ≡ None
unfolding chain_at
chain_breaks one next s front count i bytes total lt h so_far =
    let k : count - i ≡ suc (count - (i + 1)) = omega arith in
    let step : with_front front (chain_at one next s (count - i) bytes) ≡ None = rw (k, h) refl in
    sym so_far ∙ step

-- a value that may not follow
pub chain_stops : {A S : Type 0} (one : Reader A) (next : S → A → Option S) (s : S) (front : List A) (count i : ℕ) (bytes : List ℕ) (a : A) (after : List ℕ) (total : Option (List A × List ℕ)) → i < count → one bytes ≡ Some (a, after) → next s a ≡ None
    → with_front front (chain_at one next s (count - i) bytes) ≡ total → total ≡ None
unfolding chain_at
chain_stops one next s front count i bytes a after total lt h not so_far =
    let k : count - i ≡ suc (count - (i + 1)) = omega arith in
    let step : with_front front (chain_at one next s (count - i) bytes) ≡ None = rw (k, h, not) refl in
    sym so_far ∙ step

-- all values
pub chain_done : {A S : Type 0} (one : Reader A) (next : S → A → Option S) (s : S) (front : List A) (count i : ℕ) (bytes : List ℕ) (total : Option (List A × List ℕ)) → count ≤ i → with_front front (chain_at one next s (count - i) bytes) ≡ total → total ≡ Some (front, bytes)
unfolding chain_at
chain_done {A} one next s front count i bytes total le so_far =
    let k : count - i ≡ 0 = omega arith in
    let step : with_front front (chain_at one next s (count - i) bytes) ≡ Some (front, bytes) = rw k (ap (λ (xs : List A). Some (xs, bytes)) (append-nil front)) in
    sym so_far ∙ step
