-- Rows whose keys are new one after the other are apart.
use Rattle.std.proofs.Common.{◌≡◌, ◌≢◌, ℕ, ◌+◌, ◌<◌, ◌≤◌, ◌⊎◌, inl, inr, Bool, true, false, cond, List, [], ◌∷◌, map, length, get_or, Vec, Global, bytes_eq, refl, sym, ap, ap₂, ◌∙◌, arith}
use Rattle.std.specs.Borrow.{Bor}
use Rattle.std.specs.BTreeSet.{BTreeSet, contains}
use Rattle.std.specs.Cmp.Lexicographic.{slice_cmp}
use Rattle.std.specs.Ordering.{is_eq, nat_cmp, ordering_then}
use Rattle.std.specs.declared.cmp.Ordering.{Ordering}
use Rattle.std.specs.declared.cmp.Ordering.TheVariants.{Equal}
use Rattle.std.proofs.lemmas.Bool.{and_parts, cases_order, false_from_ne_true, false≢true}
use Rattle.std.proofs.lemmas.Cmp.{nat_list_cmp_total, tied_itself}
use Rattle.csv_tables.proofs.TextLemmas.{bytes-same}
use Rattle.csv_tables.specs.Data.{PlainTable}
use Rattle.csv_tables.specs.Keys.{agree, cell, AreApart}
use Rattle.xarch_tables.specs.Rows.{key_of}

abbrev Key : Type 0
Key = Vec (Bor (List ℕ)) Global

-- the fields that a key lends
abbrev pub fields_of : Key → List (List ℕ)
fields_of key = map (λ field. field.now) key.items

abbrev pub key_cmp : Key → Key → Ordering
key_cmp a b = slice_cmp (λ x y. slice_cmp nat_cmp x.now y.now) a.items b.items

-- before the row at i: the set has the key of each, and no two of them have one key
pub record Seen (heading names : List (List ℕ)) (rows : List (List (List ℕ))) (i : ℕ) (seen : BTreeSet Key) : Type 0 where
  pub there : (k : ℕ) → k < i → (q : Key) → fields_of q ≡ key_of heading names (get_or rows k []) → contains key_cmp seen q ≡ true
  pub apart : (j k : ℕ) → j < k → k < i → key_of heading names (get_or rows j []) ≢ key_of heading names (get_or rows k [])

tied : (xs ys : List (Bor (List ℕ))) → map (λ x. x.now) xs ≡ map (λ x. x.now) ys → slice_cmp (λ x y. slice_cmp nat_cmp x.now y.now) xs ys ≡ Equal
tied [] [] e = refl
tied [] (y ∷ ys) e = absurd cc
tied (x ∷ xs) [] e = absurd cc
tied (x ∷ xs) (y ∷ ys) e =
    let head : x.now ≡ y.now = cc in
    let tail : map (λ z. z.now) xs ≡ map (λ z. z.now) ys = cc in
    let first : slice_cmp nat_cmp x.now y.now ≡ Equal = ap (slice_cmp nat_cmp x.now) (sym head) ∙ tied_itself nat_list_cmp_total x.now in
    ap (λ o. ordering_then o (slice_cmp (λ a b. slice_cmp nat_cmp a.now b.now) xs ys)) first ∙ tied xs ys tail

always : (b : Bool) → cond b true true ≡ true
always true = refl
always false = refl

module _ (heading names : List (List ℕ)) (rows : List (List (List ℕ))) where
  pub seen-none : (seen : BTreeSet Key) → Seen heading names rows 0 seen
  seen-none seen = record { there = λ k low. absurd (omega (arith, low)); apart = λ j k less low. absurd (omega (arith, low)) }

  -- the key of the row at i was not there, and is now
  pub seen-more : (i : ℕ) (old new : BTreeSet Key) (key : Key) → fields_of key ≡ key_of heading names (get_or rows i []) → contains key_cmp old key ≡ false
      → ((q : Key) → contains key_cmp new q ≡ cond (is_eq (key_cmp key q)) true (contains key_cmp old q)) → Seen heading names rows i old → Seen heading names rows (i + 1) new
  seen-more i old new key is fresh added h = record {
    there = λ k low q same. elim (cases_order k i) [
      | inl here ↦ (let alike : fields_of key ≡ fields_of q = is ∙ ap (λ n. key_of heading names (get_or rows n [])) (sym here) ∙ sym same in
          added q ∙ ap (λ o. cond (is_eq o) true (contains key_cmp old q)) (tied key.items q.items alike))
      | inr other ↦ elim other [
        | inl before ↦ added q ∙ ap (cond (is_eq (key_cmp key q)) true) (h.there k before q same) ∙ always (is_eq (key_cmp key q))
        | inr behind ↦ absurd (omega (arith, low, behind))
      ]
    ];
    apart = λ j k less low same. elim (cases_order k i) [
      | inl here ↦ (let alike : fields_of key ≡ key_of heading names (get_or rows j []) = is ∙ ap (λ n. key_of heading names (get_or rows n [])) (sym here) ∙ sym same in
          let low_j : j < i = omega (arith, less, here) in
          false≢true (sym fresh ∙ h.there j low_j key alike))
      | inr other ↦ elim other [
        | inl before ↦ h.apart j k less before same
        | inr behind ↦ absurd (omega (arith, low, behind))
      ]
    ];
  }

agree-same : (heading keys row other : List (List ℕ)) → agree heading keys row other ≡ true → key_of heading keys row ≡ key_of heading keys other
agree-same heading [] row other e = refl
agree-same heading (k ∷ keys) row other e =
    let parts = and_parts (bytes_eq (cell heading row k) (cell heading other k)) _ e in
    ap₂ (λ (f : List ℕ) fs. f ∷ fs) (bytes-same (cell heading row k) (cell heading other k) parts.0) (agree-same heading keys row other parts.1)

pub seen-all : (table : PlainTable) (names : List (List ℕ)) (i : ℕ) (seen : BTreeSet Key) → length table.rows ≤ i → Seen table.heading names table.rows i seen → AreApart table names
seen-all table names i seen end h = λ j k low_j low_k other. false_from_ne_true _ (λ e.
    let same = agree-same table.heading names (get_or table.rows j []) (get_or table.rows k []) e in
    elim (cases_order j k) [
      | inl equal ↦ other equal
      | inr apart ↦ elim apart [
        | inl less ↦ h.apart j k less (omega (arith, low_k, end)) same
        | inr more ↦ h.apart k j more (omega (arith, low_j, end)) (sym same)
      ]
    ])
