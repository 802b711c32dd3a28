-- What is read of a spread archive at a number is what is read of the archive at the number's run.
use Rattle.std.proofs.Common.{◌≡◌, ℕ, ◌≤◌, cond, List, [], ◌∷◌, map, length, Some, None, refl, ap, ◌∙◌}
use Rattle.std.specs.List.{AllByRecursion}
use Rattle.version_set.specs.Members.{has}
use Rattle.keyed_tree.specs.Data.{inner, leaf, kid}
use Rattle.archive_tree.specs.Data.{Stamp, eff, PlainAlt, PlainNode, inner_node, leaf_node, PlainNodes, no_nodes, node, node_stamp}
use Rattle.archive_tree.specs.Read.{body_at, read, read_row, read_root}
use Rattle.version_runs.specs.Runs.{AreStarts, run_of}
use Rattle.version_runs.specs.Spread.{spread_alt, spread_node, spread_nodes, spread_stamp, AreNodesWithin, IsNodeWithin, IsStampWithin}
use Rattle.version_runs.proofs.Parts.{stamp_spread}
use Rattle.version_runs.proofs.Sets.{spread_has}

own_within : (c : ℕ) (k : PlainNode) → IsNodeWithin c k → IsStampWithin c (node_stamp k)
own_within c (inner_node l s ks) w = w.0
own_within c (leaf_node l s xs) w = w.0

module _ (ps : List ℕ) (n : ℕ) (h : AreStarts ps n) (i : ℕ) (most : i ≤ n) where
  stamp_read : (s : Stamp) (ns ms : List ℕ) → IsStampWithin (length ps) s → has ms i ≡ has ns (run_of ps i) → has (eff (spread_stamp ps n s) ms) i ≡ has (eff s ns) (run_of ps i)
  stamp_read None ns ms w e = e
  stamp_read (Some s) ns ms w e = spread_has ps n h s i most w.0

  body_read : (xs : List PlainAlt) (ns ms : List ℕ) → AllByRecursion (λ x. IsStampWithin (length ps) x.stamp) xs → has ms i ≡ has ns (run_of ps i) → body_at i ms (map (spread_alt ps n) xs) ≡ body_at (run_of ps i) ns xs
  body_read [] ns ms w e = refl
  body_read (x ∷ xs) ns ms w e = (let first = stamp_read x.stamp ns ms w.0 e in let rest = body_read xs ns ms w.1 e in λ j. cond (first j) x.body (rest j))

  kid_read : (k : PlainNode) (ns ms : List ℕ) → IsNodeWithin (length ps) k → has ms i ≡ has ns (run_of ps i) → has (eff (node_stamp (spread_node ps n k)) ms) i ≡ has (eff (node_stamp k) ns) (run_of ps i)
  kid_read k ns ms w e = ap (λ s. has (eff s ms) i) (stamp_spread ps n k) ∙ stamp_read (node_stamp k) ns ms (own_within (length ps) k w) e

  mutual
    node_read : (k : PlainNode) (ns ms : List ℕ) → IsNodeWithin (length ps) k → has ms i ≡ has ns (run_of ps i) → read i ms (spread_node ps n k) ≡ read (run_of ps i) ns k
    node_read (inner_node l s ks) ns ms w e = ap (inner l) (row_read ks (eff s ns) (eff (spread_stamp ps n s) ms) w.1 (stamp_read s ns ms w.0 e))
    node_read (leaf_node l s xs) ns ms w e = ap (leaf l) (body_read xs (eff s ns) (eff (spread_stamp ps n s) ms) w.1 (stamp_read s ns ms w.0 e))

    row_read : (ks : PlainNodes) (ns ms : List ℕ) → AreNodesWithin (length ps) ks → has ms i ≡ has ns (run_of ps i) → read_row i ms (spread_nodes ps n ks) ≡ read_row (run_of ps i) ns ks
    row_read no_nodes ns ms w e = refl
    row_read (node k ks) ns ms w e =
        let here = kid_read k ns ms w.0 e in
        let first = node_read k ns ms w.0 e in
        let rest = row_read ks ns ms w.1 e in
        λ j. cond (here j) (kid (first j) (rest j)) (rest j)

  pub root_read : (ks : PlainNodes) (ns ms : List ℕ) → AreNodesWithin (length ps) ks → has ms i ≡ has ns (run_of ps i) → read_root i ms (spread_nodes ps n ks) ≡ read_root (run_of ps i) ns ks
  root_read no_nodes ns ms w e = refl
  root_read (node k ks) ns ms w e =
      let here = kid_read k ns ms w.0 e in
      let first = node_read k ns ms w.0 e in
      let rest = root_read ks ns ms w.1 e in
      λ j. cond (here j) (Some (first j)) (rest j)
