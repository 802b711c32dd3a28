-- Every number that an archive stores is below that of the next version.
use Rattle.std.proofs.Common.{ℕ, ◌+◌, ◌≤◌, IsTrue, List, [], ◌∷◌, length, Some, None, refl, sym, subst, arith}
use Rattle.std.proofs.lemmas.Bool.{lt-ltb, and_from}
use Rattle.std.specs.List.{AllByRecursion}
use Rattle.version_set.specs.Pairs.{last_of}
use Rattle.keyed_tree.specs.Data.{PlainLabel, PlainKeyed}
use Rattle.archive_tree.specs.Data.{Stamp, PlainAlt, PlainNode, inner_node, leaf_node, PlainNodes, no_nodes, node, node_label, PlainArchive}
use Rattle.archive_tree.specs.Stands.{nums, nums_with, under, rooted, numbered, Stamped, AltStands, StandsFor, EachStands, ArchiveOf}
use Rattle.archive_tree.proofs.Those.{all_those, nums-enumerate}
use Rattle.nested_merge.specs.Below.{is_stamp_below, are_alts_below, is_node_below, are_nodes_below}
use Rattle.nested_merge.proofs.Stamps.{Below, last_below, range_below}

stamp_below : (n : ℕ) (s : Stamp) (ns ps : List ℕ) → 1 ≤ n → Below n ns → Stamped s ns ps → IsTrue (is_stamp_below n s)
stamp_below n None ns ps from low h = refl
stamp_below n (Some s) ns ps from low h =
    lt-ltb (last_of s) n (last_below n s from (h.canonical s refl) (subst (λ z. Below n z) (sym h.effective) low))

alts_below : (n : ℕ) (ws : List (ℕ × PlainKeyed)) (xs : List PlainAlt) → 1 ≤ n → Below n (nums ws) → AllByRecursion (λ a. AltStands a ws) xs → IsTrue (are_alts_below n xs)
alts_below n ws [] from low h = refl
alts_below n ws (x ∷ xs) from low h =
    let there : Below n (nums_with ws x.body) = all_those _ _ ws low in
    and_from _ _ (stamp_below n x.stamp (nums_with ws x.body) (nums ws) from there h.0.stamped) (alts_below n ws xs from low h.1)

mutual
  node_below : (n : ℕ) (a : PlainNode) (ws : List (ℕ × PlainKeyed)) (ps : List ℕ) → 1 ≤ n → Below n (nums ws) → StandsFor a ws ps → IsTrue (is_node_below n a)
  node_below n (inner_node l s ks) ws ps from low h =
      and_from _ _ (stamp_below n s (nums ws) ps from low h.common.stamped) (nodes_below n ks (under ws) (nums ws) from (λ x. all_those _ _ ws low) h.row.kids)
  node_below n (leaf_node l s xs) ws ps from low h =
      and_from _ _ (stamp_below n s (nums ws) ps from low h.common.stamped) (alts_below n ws xs from low h.alts)

  nodes_below : (n : ℕ) (ks : PlainNodes) (u : PlainLabel → List (ℕ × PlainKeyed)) (ns : List ℕ) → 1 ≤ n → ((l : PlainLabel) → Below n (nums (u l))) → EachStands ks u ns → IsTrue (are_nodes_below n ks)
  nodes_below n no_nodes u ns from low h = refl
  nodes_below n (node k ks) u ns from low h = and_from _ _ (node_below n k (u (node_label k)) ns from (low (node_label k)) h.0) (nodes_below n ks u ns from low h.1)

-- the numbers of an archive's versions are below the next one
pub numbers_below : (vs : List PlainKeyed) (a : PlainArchive) → ArchiveOf vs a → Below (a.n + 1) (nums (numbered vs))
numbers_below vs a h = subst (λ z. Below (a.n + 1) z) (sym (nums-enumerate 1 vs)) (range_below (a.n + 1) 1 (length vs) (let c = h.count in omega arith))

pub archive_below : (vs : List PlainKeyed) (a : PlainArchive) → ArchiveOf vs a → IsTrue (are_nodes_below (a.n + 1) a.kids)
archive_below vs a h = nodes_below (a.n + 1) a.kids (rooted (numbered vs)) (nums (numbered vs)) (omega arith) (λ l. all_those _ _ (numbered vs) (numbers_below vs a h)) h.row.kids
