-- What is read of an archive at two numbers between which no stored set begins or ends is the same.
use Rattle.std.proofs.Common.{◌≡◌, ℕ, ◌+◌, ◌<◌, ◌≤◌, ◌&&◌, ◌||◌, true, cond, List, [], ◌∷◌, ◌++◌, Some, None, leb, leb-true, refl, sym, ap, subst, ◌∙◌, arith, inl, inr}
use Rattle.std.proofs.lemmas.Bool.{cases_lt}
use Rattle.std.proofs.lemmas.Bool.Decides.{nat_tests}
use Rattle.std.specs.List.{flat_map}
use Rattle.version_set.specs.Members.{AscendsFrom, has}
use Rattle.version_set.proofs.MembersLemmas.{covers, has-members}
use Rattle.keyed_tree.specs.Data.{inner, leaf, kid}
use Rattle.keyed_tree.specs.Lists.{Has}
use Rattle.archive_tree.specs.Data.{Stamp, eff, PlainAlt, PlainNode, inner_node, leaf_node, PlainNodes, no_nodes, node, node_stamp}
use Rattle.archive_tree.specs.Read.{body_at, read, read_row, read_root}
use Rattle.version_runs.specs.Runs.{AreStarts, alt_cuts, node_cuts, pair_cuts, row_cuts, run_of, stamp_cuts, start_of}
use Rattle.version_runs.proofs.RunLemmas.{before_first, begins, from_first, rises, run_at, run_within, some_run}
use Rattle.version_runs.proofs.Sets.{same_test}

pub has_left : (x : ℕ) (xs ys : List ℕ) → Has x xs → Has x (xs ++ ys)
has_left x [] ys m = absurd m
has_left x (z ∷ xs) ys m = elim m [ inl e ↦ inl e | inr i ↦ inr (has_left x xs ys i) ]

pub has_right : (x : ℕ) (xs ys : List ℕ) → Has x ys → Has x (xs ++ ys)
has_right x [] ys m = m
has_right x (z ∷ xs) ys m = inr (has_right x xs ys m)

-- ---- starts not above a number

start_counts : (low : ℕ) (ps : List ℕ) (x y : ℕ) → AscendsFrom low ps → Has x ps → y < x → run_of ps y < run_of ps x
start_counts low [] x y h m lt = absurd m
start_counts low (p ∷ ps) x y h m lt =
    elim (cases_lt y p) [
      | inl less ↦ (
          let none = before_first p (p ∷ ps) y (omega arith, h.1) less in
          let some = from_first p ps x (first p ps h.1 m) in
          omega (arith, none, some))
      | inr le ↦ (
          let here = from_first p ps y le in
          let there = from_first p ps x (omega (arith, le, lt)) in
          let rest = elim m as (λ k. run_of ps y < run_of ps x) [ inl e ↦ absurd (omega (arith, e, le, lt)) | inr i ↦ start_counts (p + 1) ps x y h.1 i lt ] in
          omega (arith, here, there, rest))
    ]
  where
    above : (low : ℕ) (ps : List ℕ) → AscendsFrom low ps → Has x ps → low ≤ x
    above low [] h m = absurd m
    above low (p ∷ ps) h m = (let first = h.0 in elim m [ inl e ↦ omega (arith, e, first) | inr i ↦ (let rest = above (p + 1) ps h.1 i in omega (arith, rest, first)) ])

    first : (p : ℕ) (ps : List ℕ) → AscendsFrom (p + 1) ps → Has x (p ∷ ps) → p ≤ x
    first p ps h m = above p (p ∷ ps) (omega arith, h) m

-- a start, or a number past the last, is not above a number exactly where it is not above the first one of the run
pub cut_same : (ps : List ℕ) (n : ℕ) → AreStarts ps n → (i x : ℕ) → 1 ≤ i → i ≤ n → (1 ≤ x → x ≤ n → Has x ps) → leb x i ≡ leb x (start_of ps n (run_of ps i))
cut_same ps n h i x some most f =
    let run = some_run ps n h i some most in
    let low = begins ps n h i (run_of ps i) run (omega arith) in
    same_test x i x (start_of ps n (run_of ps i)) (λ le. reaches (start_of ps n (run_of ps i)) refl le) (λ le. omega (arith, le, low))
  where
    reaches : (p : ℕ) → start_of ps n (run_of ps i) ≡ p → x ≤ i → x ≤ p
    reaches p e le =
        elim (cases_lt p x) [
          | inl lt ↦ absurd (
              let there = f (omega (arith, lt)) (omega (arith, le, most)) in
              let more = start_counts 1 ps x p h.ascending there lt in
              let last = rises ps n h x i most le in
              let at = run_at ps n h (run_of ps i) (some_run ps n h i some most) (run_within ps i) in
              let same : run_of ps p ≡ run_of ps i = subst (λ q. run_of ps q ≡ run_of ps i) e at in
              omega (arith, more, last, same))
          | inr rest ↦ rest
        ]

-- ---- what is read

holds : (m n : ℕ) → m ≤ n → leb m n ≡ true
holds m n le = grind (arith, nat_tests)

down : (i p b : ℕ) → leb (b + 1) i ≡ leb (b + 1) p → i ≤ b → p ≤ b
down i p b e le =
    elim (cases_lt b p) [
      | inl lt ↦ absurd (let back = leb-true (b + 1) i (e ∙ holds (b + 1) p (omega (arith, lt))) in omega (arith, back, le))
      | inr rest ↦ rest
    ]

module _ (i p : ℕ) where
  set_same : (s : List (ℕ × ℕ)) → ((x : ℕ) → Has x (flat_map pair_cuts s) → leb x i ≡ leb x p) → covers s i ≡ covers s p
  set_same [] f = refl
  set_same (q ∷ s) f =
      let from : leb q.0 i ≡ leb q.0 p = f q.0 (inl refl) in
      let past : leb (q.1 + 1) i ≡ leb (q.1 + 1) p = f (q.1 + 1) (inr (inl refl)) in
      let to : leb i q.1 ≡ leb p q.1 = same_test i q.1 p q.1 (down i p q.1 past) (down p i q.1 (sym past)) in
      let rest = set_same s (λ x m. f x (inr (inr m))) in
      λ j. (from j && to j) || rest j

  stamp_same : (s : Stamp) (ns : List ℕ) → ((x : ℕ) → Has x (stamp_cuts s) → leb x i ≡ leb x p) → has ns i ≡ has ns p → has (eff s ns) i ≡ has (eff s ns) p
  stamp_same None ns f e = e
  stamp_same (Some s) ns f e = has-members s i ∙ set_same s f ∙ sym (has-members s p)

  body_same : (xs : List PlainAlt) (ns : List ℕ) → ((x : ℕ) → Has x (alt_cuts xs) → leb x i ≡ leb x p) → has ns i ≡ has ns p → body_at i ns xs ≡ body_at p ns xs
  body_same [] ns f e = refl
  body_same (x ∷ xs) ns f e =
      let first = stamp_same x.stamp ns (λ y m. f y (has_left y (stamp_cuts x.stamp) (alt_cuts xs) m)) e in
      let rest = body_same xs ns (λ y m. f y (has_right y (stamp_cuts x.stamp) (alt_cuts xs) m)) e in
      λ j. cond (first j) x.body (rest j)

  own_cuts : (k : PlainNode) → ((x : ℕ) → Has x (node_cuts k) → leb x i ≡ leb x p) → (x : ℕ) → Has x (stamp_cuts (node_stamp k)) → leb x i ≡ leb x p
  own_cuts (inner_node l s ks) f x m = f x (has_left x (stamp_cuts s) (row_cuts ks) m)
  own_cuts (leaf_node l s xs) f x m = f x (has_left x (stamp_cuts s) (alt_cuts xs) m)

  mutual
    node_same : (k : PlainNode) (ns : List ℕ) → ((x : ℕ) → Has x (node_cuts k) → leb x i ≡ leb x p) → has ns i ≡ has ns p → read i ns k ≡ read p ns k
    node_same (inner_node l s ks) ns f e =
        ap (inner l) (row_same ks (eff s ns) (λ x m. f x (has_right x (stamp_cuts s) (row_cuts ks) m)) (stamp_same s ns (λ x m. f x (has_left x (stamp_cuts s) (row_cuts ks) m)) e))
    node_same (leaf_node l s xs) ns f e =
        ap (leaf l) (body_same xs (eff s ns) (λ x m. f x (has_right x (stamp_cuts s) (alt_cuts xs) m)) (stamp_same s ns (λ x m. f x (has_left x (stamp_cuts s) (alt_cuts xs) m)) e))

    row_same : (ks : PlainNodes) (ns : List ℕ) → ((x : ℕ) → Has x (row_cuts ks) → leb x i ≡ leb x p) → has ns i ≡ has ns p → read_row i ns ks ≡ read_row p ns ks
    row_same no_nodes ns f e = refl
    row_same (node k ks) ns f e =
        let own : (x : ℕ) → Has x (node_cuts k) → leb x i ≡ leb x p = λ x m. f x (has_left x (node_cuts k) (row_cuts ks) m) in
        let here = stamp_same (node_stamp k) ns (own_cuts k own) e in
        let first = node_same k ns own e in
        let rest = row_same ks ns (λ x m. f x (has_right x (node_cuts k) (row_cuts ks) m)) e in
        λ j. cond (here j) (kid (first j) (rest j)) (rest j)

  pub root_same : (ks : PlainNodes) (ns : List ℕ) → ((x : ℕ) → Has x (row_cuts ks) → leb x i ≡ leb x p) → has ns i ≡ has ns p → read_root i ns ks ≡ read_root p ns ks
  root_same no_nodes ns f e = refl
  root_same (node k ks) ns f e =
      let own : (x : ℕ) → Has x (node_cuts k) → leb x i ≡ leb x p = λ x m. f x (has_left x (node_cuts k) (row_cuts ks) m) in
      let here = stamp_same (node_stamp k) ns (own_cuts k own) e in
      let first = node_same k ns own e in
      let rest = root_same ks ns (λ x m. f x (has_right x (node_cuts k) (row_cuts ks) m)) e in
      λ j. cond (here j) (Some (first j)) (rest j)
