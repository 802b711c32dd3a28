-- Runs of version numbers, between which alone an archive's versions may differ.
use Rattle.std.specs.Prelude.{ℕ, ◌+◌, ◌-◌, ◌≤◌, ◌==◌, ◌||◌, suc, List, [], ◌∷◌, ◌++◌, Some, None, filter, nat_le, slice_index_or, if◌then◌else◌}
use Rattle.std.specs.List.{AllByRecursion, flat_map, filter_map, range_with_len}
use Rattle.version_set.specs.Members.{AscendsFrom, has}
use Rattle.keyed_tree.specs.Data.{PlainKeyed}
use Rattle.keyed_tree.specs.Lists.{Has}
use Rattle.archive_tree.specs.Data.{Stamp, PlainAlt, PlainNode, inner_node, leaf_node, PlainNodes, no_nodes, node, PlainArchive}
use Rattle.archive_tree.specs.Stands.{version_of}

-- ---- where runs begin

-- where an interval begins, and where what is behind it does
abbrev pub pair_cuts : ℕ × ℕ → List ℕ
pair_cuts p = p.0 ∷ (p.1 + 1) ∷ []

abbrev pub stamp_cuts : Stamp → List ℕ
stamp_cuts None = []
stamp_cuts (Some s) = flat_map pair_cuts s

abbrev pub alt_cuts : List PlainAlt → List ℕ
alt_cuts xs = flat_map (λ x. stamp_cuts x.stamp) xs

abbrev mutual
  -- those of each set that is stored
  pub node_cuts : PlainNode → List ℕ
  node_cuts (inner_node l s ks) = stamp_cuts s ++ row_cuts ks
  node_cuts (leaf_node l s xs) = stamp_cuts s ++ alt_cuts xs

  pub row_cuts : PlainNodes → List ℕ
  row_cuts no_nodes = []
  row_cuts (node k ks) = node_cuts k ++ row_cuts ks

-- those that are not above the last one
abbrev pub upto : ℕ → List ℕ → List ℕ
upto last ns = filter (λ i. nat_le i last) ns

-- the numbers at which a run begins: 1, and each at which some stored set begins or ends
abbrev pub starts_of : PlainArchive → List ℕ
starts_of a = filter (λ i. i == 1 || has (row_cuts a.kids) i) (range_with_len 1 a.n)

-- ---- runs, which count from 1

-- these are where the runs of the numbers from 1 to n begin
pub record AreStarts (ps : List ℕ) (n : ℕ) : Type 0 where
  pub ascending : AscendsFrom 1 ps
  pub first : 1 ≤ n → Has 1 ps
  pub within : AllByRecursion (λ p. p ≤ n) ps

-- the run of a number: how many starts are not above it
abbrev pub run_of : List ℕ → ℕ → ℕ
run_of [] i = 0
run_of (p ∷ ps) i = if nat_le p i then suc (run_of ps i) else 0

-- the first number of a run, and the last
abbrev pub start_of : List ℕ → ℕ → ℕ → ℕ
start_of ps n c = slice_index_or ps (c - 1) (n + 1)

abbrev pub end_of : List ℕ → ℕ → ℕ → ℕ
end_of ps n c = slice_index_or ps c (n + 1) - 1

-- the first version of each run
abbrev pub versions_at : List ℕ → List PlainKeyed → List PlainKeyed
versions_at ps vs = filter_map (λ p. version_of vs p) ps
