-- Comparing many, one after another.
use Rattle.std.proofs.Common.{◌≡◌, ℕ, suc, ◌+◌, ◌-◌, ◌<◌, ◌≤◌, List, [], ◌∷◌, drop, map, length, true, false, eqb, Option, Some, None, refl, sym, ap, subst, ◌∙◌, arith}
use Rattle.std.specs.Ordering.{ordering_then, is_ne}
use Rattle.std.specs.declared.cmp.Ordering.{Ordering}
use Rattle.std.specs.declared.cmp.Ordering.TheVariants.{Less, Equal, Greater}
use Rattle.std.specs.Cmp.Lexicographic.{slice_cmp}
use Rattle.std.proofs.lemmas.Bool.{eqb-true}
use Rattle.xa_fields.proofs.Fields.{bind_some, some_is}
use Rattle.xa_fields.specs.Reading.{Reader, ◌>>=◌, many_at}
use Rattle.record_parts.specs.Compares.{Compares}

-- where the whole is read, so is what is left, and it decides
pub record Rest {A : Type 0} (cmp : A → A → Ordering) (x : List A × List ℕ) (all left : List A) (read : Option (List A × List ℕ)) : Type 0 where
  pub y : List A × List ℕ
  pub read_is : read ≡ Some y
  pub same : slice_cmp cmp x.0 all ≡ slice_cmp cmp y.0 left
  pub behind : x.1 ≡ y.1

abbrev pub Leads : {A : Type 0} → (A → A → Ordering) → Option (List A × List ℕ) → List A → Option (List A × List ℕ) → List A → Type 0
Leads {A} cmp total all read left = (x : List A × List ℕ) → total ≡ Some x → Rest cmp x all left read

pub starts : {A : Type 0} (cmp : A → A → Ordering) (total : Option (List A × List ℕ)) (all : List A) → Leads cmp total all total all
starts cmp total all = λ x e. record { y = x; read_is = e; same = refl; behind = refl }

-- the first of what is left, and the others
pub record First {A : Type 0} (cmp : A → A → Ordering) (one : Reader A) (k : ℕ) (bytes : List ℕ) (x : List A × List ℕ) (all left : List A) : Type 0 where
  pub a : A × List ℕ
  pub z : List A × List ℕ
  pub one_is : one bytes ≡ Some a
  pub others : many_at one k a.1 ≡ Some z
  pub same : slice_cmp cmp x.0 all ≡ slice_cmp cmp (a.0 ∷ z.0) left
  pub behind : x.1 ≡ z.1

first : {A : Type 0} (cmp : A → A → Ordering) (one : Reader A) (count i : ℕ) (bytes : List ℕ) (x : List A × List ℕ) (all left : List A) → i < count
    → Rest cmp x all left (many_at one (count - i) bytes) → First cmp one (count - (i + 1)) bytes x all left
unfolding many_at
first {A} cmp one count i bytes x all left lt r =
    let k : count - i ≡ suc (count - (i + 1)) = omega arith in
    let here : many_at one (suc (count - (i + 1))) bytes ≡ Some r.y = ap (λ (n : ℕ). many_at one n bytes) (sym k) ∙ r.read_is in
    let b = bind_some (one bytes) (λ first. many_at one (count - (i + 1)) first.1 >>= λ others. Some (first.0 ∷ others.0, others.1)) r.y here in
    let d = bind_some (many_at one (count - (i + 1)) b.0.1) (λ others. Some (b.0.0 ∷ others.0, others.1)) r.y b.2 in
    let made : List A × List ℕ = (b.0.0 ∷ d.0.0, d.0.1) in
    let y_is : r.y ≡ made = sym (some_is made r.y d.2) in
    record { a = b.0; z = d.0; one_is = b.1; others = d.1; same = r.same ∙ ap (λ (y : List A × List ℕ). slice_cmp cmp y.0 left) y_is; behind = r.behind ∙ ap (λ (y : List A × List ℕ). y.1) y_is }

pub decides : (o p : Ordering) → (o ≡ Equal → ⊥) → ordering_then o p ≡ o
decides Less p h = refl
decides Equal p h = absurd (h refl)
decides Greater p h = refl

pub longer : {A : Type 0} (cmp : A → A → Ordering) (one : Reader A) (count i n : ℕ) (bytes file : List ℕ) (total : Option (List A × List ℕ)) (all : List A) → i < count
    → Leads cmp total all (many_at one (count - i) bytes) [] → Compares (λ xs. slice_cmp cmp xs all) total file (Some (Greater, n))
longer {A} cmp one count i n bytes file total all lt leads = λ x e.
    let f = first cmp one count i bytes x all [] lt (leads x e) in
    (sym f.same, λ t. absurd cc)

shorter : {A : Type 0} (cmp : A → A → Ordering) (left : List A) (o : Ordering) → (left ≡ [] → o ≡ Equal) → ((b : A) (bs : List A) → left ≡ b ∷ bs → o ≡ Less) → slice_cmp cmp [] left ≡ o
shorter cmp [] o p q = sym (p refl)
shorter cmp (b ∷ bs) o p q = sym (q b bs refl)

pub ends : {A : Type 0} (cmp : A → A → Ordering) (one : Reader A) (count i n : ℕ) (file : List ℕ) (total : Option (List A × List ℕ)) (all left : List A) (o : Ordering) → count ≤ i → o ≡ slice_cmp cmp [] left
    → Leads cmp total all (many_at one (count - i) (drop n file)) left → Compares (λ xs. slice_cmp cmp xs all) total file (Some (o, n))
unfolding many_at
ends {A} cmp one count i n file total all left o le e leads = λ x f.
    let r = leads x f in
    let k : count - i ≡ 0 = omega arith in
    let made : List A × List ℕ = ([], drop n file) in
    let here : many_at one 0 (drop n file) ≡ Some r.y = ap (λ (j : ℕ). many_at one j (drop n file)) (sym k) ∙ r.read_is in
    let y_is : made ≡ r.y = some_is made r.y here in
    (e ∙ ap (λ (y : List A × List ℕ). slice_cmp cmp y.0 left) y_is ∙ sym r.same, λ t. ap (λ (y : List A × List ℕ). y.1) y_is ∙ sym r.behind)

-- ---- the same of a slice whose elements are seen by view

pub view_none : {X Y : Type 0} (view : X → Y) (xs : List X) → length xs ≡ 0 → map view xs ≡ []
view_none view [] e = refl
view_none view (x ∷ xs) e = absurd (omega arith)

pub view_first : {X Y : Type 0} (view : X → Y) (xs tail : List X) (x : X) → xs ≡ x ∷ tail → map view xs ≡ view x ∷ map view tail
view_first view xs tail x e = ap (map view) e

pub not_equal : (o : Ordering) → is_ne o ≡ true → o ≡ Equal → ⊥
not_equal Less e h = absurd cc
not_equal Equal e h = absurd cc
not_equal Greater e h = absurd cc

pub is_equal : (o : Ordering) → is_ne o ≡ false → o ≡ Equal
is_equal Less e = absurd cc
is_equal Equal e = refl
is_equal Greater e = absurd cc

pub equal_end : {X Y : Type 0} (cmp : Y → Y → Ordering) (view : X → Y) (xs : List X) → eqb (length xs) 0 ≡ true → Equal ≡ slice_cmp cmp [] (map view xs)
equal_end cmp view [] e = refl
equal_end cmp view (x ∷ xs) e = let f : suc (length xs) ≡ 0 = eqb-true (suc (length xs)) 0 e in absurd (omega arith)

pub less_end : {X Y : Type 0} (cmp : Y → Y → Ordering) (view : X → Y) (xs : List X) → eqb (length xs) 0 ≡ false → Less ≡ slice_cmp cmp [] (map view xs)
less_end cmp view [] e = absurd cc
less_end cmp view (x ∷ xs) e = refl

pub leads_at : {A : Type 0} (cmp : A → A → Ordering) (total : Option (List A × List ℕ)) (all left other : List A) (read : Option (List A × List ℕ)) → left ≡ other → Leads cmp total all read left → Leads cmp total all read other
leads_at {A} cmp total all left other read e h = subst (λ (l : List A). Leads cmp total all read l) e h

-- ---- what the comparison of the first one says

pub goes_on : {A : Type 0} (cmp : A → A → Ordering) (one : Reader A) (count i n : ℕ) (bytes file : List ℕ) (total : Option (List A × List ℕ)) (all left : List A) (b : A) (o : Ordering) → i < count → o ≡ Equal
    → Compares (λ a. cmp a b) (one bytes) file (Some (o, n)) → Leads cmp total all (many_at one (count - i) bytes) (b ∷ left) → Leads cmp total all (many_at one (count - (i + 1)) (drop n file)) left
goes_on {A} cmp one count i n bytes file total all left b o lt eq h leads = λ x e.
    let f = first cmp one count i bytes x all (b ∷ left) lt (leads x e) in
    let w = h f.a f.one_is in
    let tie : cmp f.a.0 b ≡ Equal = sym w.0 ∙ eq in
    record { y = f.z; read_is = ap (many_at one (count - (i + 1))) (w.1 eq) ∙ f.others; same = f.same ∙ ap (λ (p : Ordering). ordering_then p (slice_cmp cmp f.z.0 left)) tie; behind = f.behind }

pub decided : {A : Type 0} (cmp : A → A → Ordering) (one : Reader A) (count i n m : ℕ) (bytes file : List ℕ) (total : Option (List A × List ℕ)) (all left : List A) (b : A) (o : Ordering) → i < count → (o ≡ Equal → ⊥)
    → Compares (λ a. cmp a b) (one bytes) file (Some (o, n)) → Leads cmp total all (many_at one (count - i) bytes) (b ∷ left) → Compares (λ xs. slice_cmp cmp xs all) total file (Some (o, m))
decided {A} cmp one count i n m bytes file total all left b o lt ne h leads = λ x e.
    let f = first cmp one count i bytes x all (b ∷ left) lt (leads x e) in
    let w = h f.a f.one_is in
    (w.0 ∙ sym (f.same ∙ decides (cmp f.a.0 b) (slice_cmp cmp f.z.0 left) (λ t. ne (w.0 ∙ t))), λ t. absurd (ne t))

pub failed : {A : Type 0} (cmp : A → A → Ordering) (one : Reader A) (count i : ℕ) (bytes file : List ℕ) (total : Option (List A × List ℕ)) (all left : List A) (b : A) → i < count
    → Compares (λ a. cmp a b) (one bytes) file None → Leads cmp total all (many_at one (count - i) bytes) (b ∷ left) → Compares (λ xs. slice_cmp cmp xs all) total file None
failed {A} cmp one count i bytes file total all left b lt h leads = λ x e.
    let f = first cmp one count i bytes x all (b ∷ left) lt (leads x e) in h f.a f.one_is
