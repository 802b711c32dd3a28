-- The versions of an archive, by their numbers.
use Rattle.std.proofs.Common.{◌≡◌, ◌↔◌, ◌+◌, ◌≤◌, ◌<◌, ℕ, zero, suc, true, false, cond, IsTrue, List, [], ◌∷◌, length, Some, None, IsSome, IfSome, slice_get, refl, sym, subst, arith, inl, inr, true≢false}
use Rattle.std.proofs.Math.Logic.{∥∥₁_elim}
use Rattle.std.proofs.Props.{props}
use Rattle.std.specs.Coded.{le_prop}
use Rattle.std.specs.List.{enumerate_from}
use Rattle.version_set.specs.Members.{has}
use Rattle.keyed_tree.specs.Data.{PlainLabel, PlainKeyed}
use Rattle.keyed_tree.specs.Lists.{Has}
use Rattle.keyed_tree.specs.Holds.{Holds}
use Rattle.keyed_tree.specs.WellFormed.{IsKeyedWellFormed}
use Rattle.keyed_tree.proofs.Kids.{both}
use Rattle.archive_tree.specs.Data.{eff, PlainNode, PlainNodes, no_nodes, node, node_label, node_stamp, nodes_list, PlainArchive}
use Rattle.archive_tree.specs.Stands.{nums, those, passed, rooted, numbered, version_of, ArchiveOf, Kept}
use Rattle.archive_tree.specs.History.{held, hist}
use Rattle.archive_tree.specs.Read.{read, read_root}
use Rattle.archive_tree.specs.Seek.{AreRowsSorted}
use Rattle.archive_tree.specs.WellFormed.{is_node_well_formed, are_nodes_well_formed, AreNodesWellFormed}
use Rattle.archive_tree.proofs.Numbers.{has-Has, Has-has, range_has}
use Rattle.archive_tree.proofs.Parts.{stands_nums}
use Rattle.archive_tree.proofs.Those.{has_those, those_has, nums_has, has_nums, one_tree, passed_true, passes, rooted_has, orderly_numbered}
use Rattle.archive_tree.proofs.Readings.{all_numbers, numbers, root_stands, version_read}
use Rattle.archive_tree.proofs.Histories.{held_Holds, archive_sorted}
use Rattle.archive_tree.proofs.NodeViews.{read_well}

item_has : (n : ℕ) (vs : List PlainKeyed) (j : ℕ) (t : PlainKeyed) → slice_get vs j ≡ Some t → Has (n + j, t) (enumerate_from n vs)
item_has n [] j t e = cc
item_has n (v ∷ vs) zero t e = (let here : v ≡ t = some_same v t e in let number : n ≡ n + 0 = omega arith in inl (λ i. (number i, here i)))
  where
    some_same : (a b : PlainKeyed) → Some a ≡ Some b → a ≡ b
    some_same a b d = cc
item_has n (v ∷ vs) (suc j) t e = (let number : n + suc j ≡ (n + 1) + j = omega arith in subst (λ z. Has (z, t) (enumerate_from n (v ∷ vs))) (sym number) (inr (item_has (n + 1) vs j t e)))

-- a version by its number
pub version_has : (vs : List PlainKeyed) (i : ℕ) (t : PlainKeyed) → version_of vs i ≡ Some t → Has (i, t) (numbered vs)
version_has vs zero t e = cc
version_has vs (suc i) t e = (let more : 1 + i ≡ suc i = omega arith in subst (λ n. Has (n, t) (numbered vs)) more (item_has 1 vs i t e))

root_none : (n : ℕ) (ns : List ℕ) (ks : PlainNodes) → ((k : PlainNode) → Has k (nodes_list ks) → ¬ (has (eff (node_stamp k) ns) n ≡ true)) → read_root n ns ks ≡ None
root_none n ns no_nodes h = refl
root_none n ns (node k ks) h =
    let rest = root_none n ns ks (λ j m. h j (inr m)) in
    elim (has (eff (node_stamp k) ns) n) as (λ b. has (eff (node_stamp k) ns) n ≡ b → cond b (Some (read n ns k)) (read_root n ns ks) ≡ None) [ true ↦ λ e. absurd (h k (inl refl) e) | false ↦ λ e. rest ] refl

module _ (vs : List PlainKeyed) (a : PlainArchive) (h : ArchiveOf vs a) where
  -- a kid of the root has no number but those of versions
  kid_within : (i : ℕ) (k : PlainNode) → Has k (nodes_list a.kids) → has (eff (node_stamp k) (all_numbers a)) i ≡ true → (1 ≤ i) × (i < 1 + a.n)
  kid_within i k m e =
      let ws = rooted (numbered vs) (node_label k) in
      let there : Has i (nums ws) = subst (λ z. Has i z) (stands_nums k ws (all_numbers a) (root_stands vs a h k m)) (has-Has (eff (node_stamp k) (all_numbers a)) i e) in
      let found = nums_has i ws there in
      let at = (rooted_has i found.tree (node_label k) (numbered vs) found.has).0 in
      range_has 1 a.n i (subst (λ z. Has i z) (numbers vs a h) (has_nums i found.tree (numbered vs) at))

  out_of_range : (i : ℕ) → ¬ ((1 ≤ i) × (i < 1 + a.n)) → read_root i (all_numbers a) a.kids ≡ None
  out_of_range i out = root_none i (all_numbers a) a.kids (λ k m e. out (kid_within i k m e))

  -- what is read at the root is the version of that number
  pub version_item : (i : ℕ) → read_root i (all_numbers a) a.kids ≡ version_of vs i
  version_item zero = out_of_range 0 (λ r. (let low = r.0 in omega arith))
  version_item (suc i) =
      elim (slice_get vs i) as (λ o. slice_get vs i ≡ o → read_root (suc i) (all_numbers a) a.kids ≡ o) [
        | None ↦ λ e. out_of_range (suc i) (λ r. past i r.1 e)
        | Some t ↦ λ e. version_read vs a h (suc i) t (version_has vs (suc i) t e)
      ] refl
    where
      past : (i : ℕ) → suc i < 1 + a.n → ¬ (slice_get vs i ≡ None)
      past i low e = (let count : length vs ≡ a.n = h.count in let inside : i < length vs = omega arith in some_there vs i inside e)
        where
          some_there : (vs : List PlainKeyed) (i : ℕ) → i < length vs → ¬ (slice_get vs i ≡ None)
          some_there [] i low e = omega arith
          some_there (v ∷ vs) zero low e = cc
          some_there (v ∷ vs) (suc i) low e = some_there vs i (omega arith) e

  version_is_some : (i : ℕ) → IsSome (version_of vs i) ↔ ((1 ≤ i) × (i ≤ a.n))
  version_is_some zero = (λ e. absurd (true≢false (sym e)), λ r. absurd (let low = r.0 in omega arith))
  version_is_some (suc i) =
      let count : length vs ≡ a.n = h.count in
      (λ e. (omega arith, (let low = there vs i e in omega arith)), λ r. (let high = r.1 in within vs i (omega arith)))
    where
      there : (vs : List PlainKeyed) (i : ℕ) → IsSome (slice_get vs i) → i < length vs
      there [] i e = absurd (true≢false (sym e))
      there (v ∷ vs) zero e = omega arith
      there (v ∷ vs) (suc i) e = (let low = there vs i e in omega arith)

      within : (vs : List PlainKeyed) (i : ℕ) → i < length vs → IsSome (slice_get vs i)
      within [] i low = absurd (omega arith)
      within (v ∷ vs) zero low = refl
      within (v ∷ vs) (suc i) low = within vs i (omega arith)

  pub read_is_some : (i : ℕ) → IsSome (read_root i (all_numbers a) a.kids) ↔ ((1 ≤ i) × (i ≤ a.n))
  read_is_some i = (let e = version_item i in rw e (version_is_some i))

  -- the numbers of a history are those whose versions hold the path
  pub hist_holds : (path : List PlainLabel) (i : ℕ) (k : PlainKeyed) → version_of vs i ≡ Some k → IsTrue (has (hist vs path) i) ↔ Holds path k
  hist_holds path i k e =
      let at = version_has vs i k e in
      let f = passed (held path) in (
        λ b. (let found = nums_has i (those f (numbered vs)) (has-Has (hist vs path) i b) in
            let from = those_has f i found.tree (numbered vs) found.has in
            let same : from.tree ≡ k = one_tree i from.tree k (numbered vs) (orderly_numbered vs h.ordered).ascending from.has at in
            (held_Holds path k).0 (subst (λ z. held path z ≡ true) same (passed_true (held path) from.tree found.tree from.gives))),
        λ p. Has-has (hist vs path) i (has_nums i k (those f (numbered vs)) (has_those f i k k (numbered vs) at (passes (held path) k ((held_Holds path k).1 p)))),
      )

-- ---- for an archive of some versions

pub kept_is_some : (a : PlainArchive) → ∥ Kept a ∥₁ → (i : ℕ) → IsSome (read_root i (all_numbers a) a.kids) ↔ ((1 ≤ i) × (i ≤ a.n))
kept_is_some a t i = ∥∥₁_elim t (hlevel (props, le_prop)) (λ k. read_is_some k.versions a k.is i)

pub kept_sorted : (a : PlainArchive) → ∥ Kept a ∥₁ → AreRowsSorted a.kids
kept_sorted a t = ∥∥₁_elim t (hlevel (props, le_prop)) (λ k. archive_sorted k.versions a k.is)

pub root_well : (n : ℕ) (ns : List ℕ) (ks : PlainNodes) → AreNodesWellFormed ks → IfSome (read_root n ns ks) IsKeyedWellFormed
root_well n ns no_nodes h = tt
root_well n ns (node k ks) h =
    let two = both (is_node_well_formed k) (are_nodes_well_formed ks) h in
    elim (has (eff (node_stamp k) ns) n) as (λ b. IfSome (cond b (Some (read n ns k)) (read_root n ns ks)) IsKeyedWellFormed) [ true ↦ read_well n ns k two.0 | false ↦ root_well n ns ks two.1 ]
