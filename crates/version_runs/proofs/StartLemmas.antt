-- Where the runs of an archive begin.
use Rattle.std.proofs.Common.{◌≡◌, ℕ, suc, ◌+◌, ◌<◌, ◌≤◌, ◌==◌, ◌&&◌, ◌||◌, Bool, true, false, List, [], ◌∷◌, ◌++◌, length, get_or, filter, Some, None, leb-true, eqb, eqb-true, eq-eqb, refl, sym, subst, ◌∙◌, arith, inl, inr}
use Rattle.std.proofs.lemmas.Bool.Decides.{nat_tests}
use Rattle.std.proofs.lemmas.List.Kept.{Contains-dedup_nat, Contains-from_dedup}
use Rattle.std.proofs.lemmas.List.Sorted.{IsPermutation-sym}
use Rattle.std.proofs.lemmas.Map.Keys.{IsStrictlyIncreasing-dedup}
use Rattle.std.specs.Prelude.{nat_le}
use Rattle.std.specs.List.{AllByRecursion, dedup, flat_map, range_with_len}
use Rattle.std.specs.List.Sorted.{IsPermutation, IsSorted}
use Rattle.std.specs.Ordering.{nat_cmp}
use Rattle.version_set.specs.Pairs.{IsFrom}
use Rattle.version_set.specs.Members.{AscendsFrom, has}
use Rattle.version_set.proofs.MembersLemmas.{Ascends-weaker, same_numbers}
use Rattle.version_set.proofs.SetLemmas.{has-filter}
use Rattle.jsonml_tree.proofs.Lists.{at_has, has_all, has_at, has_permuted}
use Rattle.keyed_tree.proofs.Kids.{both}
use Rattle.keyed_tree.specs.Lists.{Has}
use Rattle.archive_tree.specs.Data.{Stamp, PlainAlt, PlainNode, inner_node, leaf_node, PlainNodes, no_nodes, node, PlainArchive}
use Rattle.archive_tree.proofs.Numbers.{has-Has, Has-has, range_has, has_range}
use Rattle.archive_tree.proofs.Tells.{bools}
use Rattle.version_runs.specs.Runs.{AreStarts, alt_cuts, node_cuts, pair_cuts, row_cuts, stamp_cuts, starts_of, upto}
use Rattle.version_runs.specs.Spread.{AreNodesWithin, IsNodeWithin, IsStampWithin}
use Rattle.version_runs.proofs.Numbers.{AreRuns-range}
use Rattle.version_runs.proofs.SameRun.{has_left, has_right}

-- ---- what a filter leaves

kept_ascends : (low n : ℕ) (ns : List ℕ) (test : ℕ → Bool) → low ≤ n → AscendsFrom (n + 1) (filter test ns) → AscendsFrom low (filter test (n ∷ ns))
kept_ascends low n ns test le a = go (test n) refl
  where
    go : (b : Bool) → test n ≡ b → AscendsFrom low (filter test (n ∷ ns))
    go true e = rw e (le, a)
    go false e = rw e (Ascends-weaker low (n + 1) (filter test ns) (omega (arith, le)) a)

filter_ascends : (low : ℕ) (test : ℕ → Bool) (ns : List ℕ) → AscendsFrom low ns → AscendsFrom low (filter test ns)
filter_ascends low test [] a = tt
filter_ascends low test (n ∷ ns) a = kept_ascends low n ns test a.0 (filter_ascends (n + 1) test ns a.1)

filter_has : (test : ℕ → Bool) (ns : List ℕ) (x : ℕ) → Has x (filter test ns) → Has x ns × (test x ≡ true)
filter_has test ns x m = (let two = both (has ns x) (test x) (sym (has-filter test ns x) ∙ Has-has (filter test ns) x m) in (has-Has ns x two.0, two.1))

has_filter : (test : ℕ → Bool) (ns : List ℕ) (x : ℕ) → Has x ns → test x ≡ true → Has x (filter test ns)
has_filter test ns x m e = has-Has (filter test ns) x (let here = Has-has ns x m in has-filter test ns x ∙ (λ i. here i && e i))

-- ---- the definition

one_starts : (ks : PlainNodes) (i : ℕ) → i ≡ 1 → (i == 1 || has (row_cuts ks) i) ≡ true
one_starts ks i e = (let d = eq-eqb i 1 e in rw d refl)

cut_starts : (ks : PlainNodes) (i : ℕ) → Has i (row_cuts ks) → (i == 1 || has (row_cuts ks) i) ≡ true
cut_starts ks i m = (let d = Has-has (row_cuts ks) i m in elim (i == 1) as (λ b. (b || has (row_cuts ks) i) ≡ true) [ true ↦ refl | false ↦ d ])

pub cut_is_start : (a : PlainArchive) (x : ℕ) → Has x (row_cuts a.kids) → 1 ≤ x → x ≤ a.n → Has x (starts_of a)
cut_is_start a x m some most = has_filter (λ i. i == 1 || has (row_cuts a.kids) i) (range_with_len 1 a.n) x (has_range 1 a.n x some (omega (arith, most))) (cut_starts a.kids x m)

pub AreStarts-starts_of : (a : PlainArchive) → AreStarts (starts_of a) a.n
AreStarts-starts_of a =
    let test : ℕ → Bool = λ i. i == 1 || has (row_cuts a.kids) i in
    record {
      ascending = filter_ascends 1 test (range_with_len 1 a.n) (AreRuns-range a.n).ascending;
      first = λ some. has_filter test (range_with_len 1 a.n) 1 (has_range 1 a.n 1 (omega arith) (omega (arith, some))) (one_starts a.kids 1 refl);
      within = has_all (λ p. p ≤ a.n) (starts_of a) (λ p m. (let at = (range_has 1 a.n p (filter_has test (range_with_len 1 a.n) p m).0).1 in omega (arith, at)));
    }

-- ---- the numbers that are found

some_cut : (low : ℕ) (s : List (ℕ × ℕ)) (x : ℕ) → 1 ≤ low → IsFrom low s → Has x (flat_map pair_cuts s) → 1 ≤ x
some_cut low [] x some c m = absurd m
some_cut low (p ∷ s) x some c m =
    let first = c.0 in
    let order = c.1 in
    elim m [
      | inl e ↦ omega (arith, e, first, some)
      | inr i ↦ elim i [
        | inl e ↦ omega (arith, e)
        | inr j ↦ some_cut (p.1 + 2) s x (omega arith) c.2 j
      ]
    ]

split_has : (x : ℕ) (xs ys : List ℕ) (P : Type 0) → (Has x xs → P) → (Has x ys → P) → Has x (xs ++ ys) → P
split_has x [] ys P f g m = g m
split_has x (z ∷ xs) ys P f g m = elim m [ inl e ↦ f (inl e) | inr i ↦ split_has x xs ys P (λ j. f (inr j)) g i ]

stamp_some : (c : ℕ) (s : Stamp) (x : ℕ) → IsStampWithin c s → Has x (stamp_cuts s) → 1 ≤ x
stamp_some c None x w m = absurd m
stamp_some c (Some s) x w m = some_cut 1 s x (omega arith) w.0 m

alts_some : (c : ℕ) (xs : List PlainAlt) (x : ℕ) → AllByRecursion (λ a. IsStampWithin c a.stamp) xs → Has x (alt_cuts xs) → 1 ≤ x
alts_some c [] x w m = absurd m
alts_some c (a ∷ xs) x w m = split_has x (stamp_cuts a.stamp) (alt_cuts xs) (1 ≤ x) (stamp_some c a.stamp x w.0) (alts_some c xs x w.1) m

mutual
  node_some : (c : ℕ) (k : PlainNode) (x : ℕ) → IsNodeWithin c k → Has x (node_cuts k) → 1 ≤ x
  node_some c (inner_node l s ks) x w m = split_has x (stamp_cuts s) (row_cuts ks) (1 ≤ x) (stamp_some c s x w.0) (row_some c ks x w.1) m
  node_some c (leaf_node l s xs) x w m = split_has x (stamp_cuts s) (alt_cuts xs) (1 ≤ x) (stamp_some c s x w.0) (alts_some c xs x w.1) m

  row_some : (c : ℕ) (ks : PlainNodes) (x : ℕ) → AreNodesWithin c ks → Has x (row_cuts ks) → 1 ≤ x
  row_some c no_nodes x w m = absurd m
  row_some c (node k ks) x w m = split_has x (node_cuts k) (row_cuts ks) (1 ≤ x) (node_some c k x w.0) (row_some c ks x w.1) m

increasing_ascends : (low : ℕ) (xs : List ℕ) → ((x : ℕ) → Has x xs → low ≤ x) → ((k : ℕ) → k + 1 < length xs → get_or xs k 0 < get_or xs (k + 1) 0) → AscendsFrom low xs
increasing_ascends low [] f up = tt
increasing_ascends low (x ∷ xs) f up = (f x (inl refl), increasing_ascends (x + 1) xs (λ y m. above x xs up y m) (λ k lt. later x xs up k lt))
  where
    later : (x : ℕ) (xs : List ℕ) → ((k : ℕ) → k + 1 < length (x ∷ xs) → get_or (x ∷ xs) k 0 < get_or (x ∷ xs) (k + 1) 0) → (k : ℕ) → k + 1 < length xs → get_or xs k 0 < get_or xs (k + 1) 0
    later x xs up k lt = (let e : suc k + 1 ≡ suc (k + 1) = omega arith in subst (λ j. get_or xs k 0 < get_or (x ∷ xs) j 0) e (up (suc k) (omega (arith, lt))))

    above : (x : ℕ) (xs : List ℕ) → ((k : ℕ) → k + 1 < length (x ∷ xs) → get_or (x ∷ xs) k 0 < get_or (x ∷ xs) (k + 1) 0) → (y : ℕ) → Has y xs → x + 1 ≤ y
    above x [] up y m = absurd m
    above x (z ∷ xs) up y m =
        let next : x < z = (let e : 0 + 1 ≡ suc 0 = omega arith in subst (λ j. x < get_or (x ∷ z ∷ xs) j 0) e (up 0 (omega arith))) in
        elim m [
          | inl e ↦ omega (arith, e, next)
          | inr i ↦ (let rest = above z xs (later x (z ∷ xs) up) y i in omega (arith, rest, next))
        ]

-- sorted, and each once, they are the starts
pub starts_found : (c : ℕ) (a : PlainArchive) (cuts sorted : List ℕ) → AreNodesWithin c a.kids → cuts ≡ upto a.n (1 ∷ []) ++ upto a.n (row_cuts a.kids) → IsPermutation cuts sorted → IsSorted nat_cmp sorted
    → dedup eqb sorted ≡ starts_of a
starts_found c a cuts sorted w e moved up =
    same_numbers 1 1 (dedup eqb sorted) (starts_of a) (increasing_ascends 1 (dedup eqb sorted) (λ x m. (found x m).0) (IsStrictlyIncreasing-dedup sorted up)) (AreStarts-starts_of a).ascending
    (λ x. bools (has (dedup eqb sorted) x) (has (starts_of a) x) (λ t. there x (has-Has (dedup eqb sorted) x t)) (λ t. back x (has-Has (starts_of a) x t)))
  where
    below : (x : ℕ) → nat_le x a.n ≡ true → x ≤ a.n
    below x e = leb-true x a.n e

    under : (x : ℕ) → x ≤ a.n → nat_le x a.n ≡ true
    under x le = grind (arith, nat_tests)

    in_cuts : (x : ℕ) → Has x (dedup eqb sorted) → Has x (upto a.n (1 ∷ []) ++ upto a.n (row_cuts a.kids))
    in_cuts x m =
        let kept = Contains-from_dedup eqb sorted x (has_at (dedup eqb sorted) x m) in
        subst (Has x) e (has_permuted sorted cuts (IsPermutation-sym cuts sorted moved) x (at_has sorted kept.0 x kept.1 kept.2))

    found : (x : ℕ) → Has x (dedup eqb sorted) → (1 ≤ x) × Has x (starts_of a)
    found x m = split_has x (upto a.n (1 ∷ [])) (upto a.n (row_cuts a.kids)) ((1 ≤ x) × Has x (starts_of a))
        (λ i. (
        let two = filter_has (λ j. nat_le j a.n) (1 ∷ []) x i in
        let one : x ≡ 1 = elim two.0 [ inl d ↦ sym d | inr none ↦ absurd none ] in
        (omega (arith, one), subst (λ z. Has z (starts_of a)) (sym one) ((AreStarts-starts_of a).first (let most = below x two.1 in omega (arith, most, one))))))
        (λ i. (
        let two = filter_has (λ j. nat_le j a.n) (row_cuts a.kids) x i in
        let some = row_some c a.kids x w two.0 in
        (some, cut_is_start a x two.0 some (below x two.1))))
        (in_cuts x m)

    there : (x : ℕ) → Has x (dedup eqb sorted) → has (starts_of a) x ≡ true
    there x m = Has-has (starts_of a) x (found x m).1

    is_found : (x : ℕ) → x ≤ a.n → (x == 1 || has (row_cuts a.kids) x) ≡ true → Has x (upto a.n (1 ∷ []) ++ upto a.n (row_cuts a.kids))
    is_found x most t =
        elim (x == 1) as (λ b. (x == 1) ≡ b → (b || has (row_cuts a.kids) x) ≡ true → Has x (upto a.n (1 ∷ []) ++ upto a.n (row_cuts a.kids))) [
          | true ↦ λ d g. has_left x (upto a.n (1 ∷ [])) (upto a.n (row_cuts a.kids)) (has_filter (λ j. nat_le j a.n) (1 ∷ []) x (inl (sym (eqb-true x 1 d))) (under x most))
          | false ↦ λ d g. has_right x (upto a.n (1 ∷ [])) (upto a.n (row_cuts a.kids)) (has_filter (λ j. nat_le j a.n) (row_cuts a.kids) x (has-Has (row_cuts a.kids) x g) (under x most))
        ] refl t

    back : (x : ℕ) → Has x (starts_of a) → has (dedup eqb sorted) x ≡ true
    back x m =
        let two = filter_has (λ i. i == 1 || has (row_cuts a.kids) i) (range_with_len 1 a.n) x m in
        let most = (range_has 1 a.n x two.0).1 in
        let at : Has x cuts = subst (Has x) (sym e) (is_found x (omega (arith, most)) two.1) in
        let kept = Contains-dedup_nat sorted x (has_at sorted x (has_permuted cuts sorted moved x at)) in
        Has-has (dedup eqb sorted) x (at_has (dedup eqb sorted) kept.0 x kept.1 kept.2)
