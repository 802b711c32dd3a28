-- The rows of two archives of one specification can stand in one.
use Rattle.std.proofs.Common.{◌≡◌, ℕ, List, ◌++◌, Some, None, IfSome, refl, subst, inl, inr}
use Rattle.keyed_tree.specs.Alike.{AllAlike}
use Rattle.keyed_tree.specs.Data.{PlainLabel, PlainKeyed}
use Rattle.keyed_tree.specs.Lists.{Has}
use Rattle.archive_tree.specs.Data.{PlainNode, inner_node, leaf_node, PlainNodes, no_nodes, node, node_label, nodes_list, PlainArchive}
use Rattle.archive_tree.specs.Stands.{nums, under, rooted, numbered, StandsFor, EachStands, ArchiveOf}
use Rattle.archive_tree.proofs.Parts.{each_has}
use Rattle.record_copy.specs.Raised.{raised_nodes}
use Rattle.archive_join.specs.Joined.{above}
use Rattle.archive_join.specs.Meets.{Meet, RowsMeet}
use Rattle.archive_join.specs.Walked.{RowsFit}
use Rattle.archive_join.proofs.Archives.{alike_roots}
use Rattle.archive_join.proofs.Later.{up, row_raised}
use Rattle.archive_join.proofs.Nodes.{AlikeLists, alike_under, two_kinds, kinds_two}
use Rattle.archive_join.proofs.BothSets.{later}
use Rattle.archive_join.proofs.Weave.{has_found, has_above}
use Rattle.archive_tree.specs.Seek.{node_with}

-- with each node that stands for trees that are alike with its own
abbrev Meets : PlainNode → Type 0
Meets k = (j : PlainNode) (ws zs : List (ℕ × PlainKeyed)) (ps qs : List ℕ) → AlikeLists ws zs → StandsFor k ws ps → StandsFor j zs qs → Meet k j

-- ---- rows, whose labels lead to the lists u in the first archive, and v in the second

module _ (u v : PlainLabel → List (ℕ × PlainKeyed)) (alike : (l : PlainLabel) → AlikeLists (u l) (v l)) (ps qs : List ℕ) where
  abbrev Theirs : List PlainNode → Type 0
  Theirs js = (j : PlainNode) → Has j js → StandsFor j (v (node_label j)) qs

  one_meets : (k : PlainNode) (js : List PlainNode) → Meets k → StandsFor k (u (node_label k)) ps → Theirs js → IfSome (node_with (node_label k) js) (λ j. Meet k j)
  one_meets k js meets h t =
      let l = node_label k in
      elim (node_with l js) as (λ o. node_with l js ≡ o → IfSome o (λ j. Meet k j)) [
        | None ↦ λ e. tt
        | Some j ↦ λ e. (let found = has_found l j js e in meets j (u l) (v l) ps qs (alike l) h (subst (λ z. StandsFor j (v z) qs) found.1 (t j found.0)))
      ] refl

  rows_meet : (ks : PlainNodes) (js : List PlainNode) → ((k : PlainNode) → Has k (nodes_list ks) → Meets k) → EachStands ks u ps → Theirs js → RowsMeet ks js
  rows_meet no_nodes js meets h t = tt
  rows_meet (node k ks) js meets h t = (one_meets k js (meets k (inl refl)) h.0 t, rows_meet ks (above (node_label k) js) (λ j i. meets j (inr i)) h.1 (λ j i. t j (has_above (node_label k) j js i)))

-- ---- nodes

mutual
  node_meets : (k : PlainNode) → Meets k
  node_meets (inner_node l s ks) (inner_node x t js) ws zs ps qs alike h g = (
    h.row.ascending,
    g.row.ascending,
    rows_meet (under ws) (under zs) (λ y. alike_under y ws zs alike) (nums ws) (nums zs) ks (nodes_list js) (nodes_meet ks) h.row.kids (λ j i. each_has js (under zs) (nums zs) j g.row.kids i),
  )
  node_meets (inner_node l s ks) (leaf_node x t ys) ws zs ps qs alike h g = two_kinds ws zs h.common.some g.common.some alike h.inners g.leaves
  node_meets (leaf_node l s xs) (inner_node x t js) ws zs ps qs alike h g = kinds_two ws zs h.common.some g.common.some alike h.leaves g.inners
  node_meets (leaf_node l s xs) (leaf_node x t ys) ws zs ps qs alike h g = g.different

  nodes_meet : (ks : PlainNodes) (k : PlainNode) → Has k (nodes_list ks) → Meets k
  nodes_meet no_nodes k i = absurd i
  nodes_meet (node j ks) k i = elim i [ inl e ↦ subst Meets e (node_meets j) | inr n ↦ nodes_meet ks k n ]

-- ---- archives

pub rows_fit : (vs us : List PlainKeyed) (a b : PlainArchive) → ArchiveOf vs a → ArchiveOf us b → AllAlike (vs ++ us) → RowsFit a.kids (raised_nodes a.n b.kids)
rows_fit vs us a b h g alike =
    let js = raised_nodes a.n b.kids in
    let ours = rooted (numbered vs) in
    let theirs : PlainLabel → List (ℕ × PlainKeyed) = λ l. up a.n (rooted (numbered us) l) in
    let left = h.row in
    let right = row_raised a.n b.kids (rooted (numbered us)) (nums (numbered us)) g.row in
    record {
      first = left.ascending;
      second = right.ascending;
      meet = rows_meet ours theirs (alike_roots vs us a b h g alike) (nums (numbered vs)) (later a.n (nums (numbered us))) a.kids (nodes_list js) (nodes_meet a.kids) left.kids
          (λ j i. each_has js theirs (later a.n (nums (numbered us))) j right.kids i);
    }
