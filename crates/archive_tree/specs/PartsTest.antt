-- The conditions on an archive's parts, as tests.
use Rattle.std.specs.Prelude.{ℕ, ◌+◌, ◌==◌, Bool, true, false, not, ◌&&◌, nat_le, max, List, [], ◌∷◌, Some, None, if◌then◌else◌}
use Rattle.std.specs.List.{list_any, list_all, range_with_len}
use Rattle.std.specs.Ordering.{is_eq, nat_cmp}
use Rattle.std.specs.Cmp.Lexicographic.{slice_cmp}
use Rattle.version_set.specs.Members.{members, has}
use Rattle.keyed_tree.specs.Data.{PlainKey}
use Rattle.keyed_tree.specs.Order.{key_cmp}
use Rattle.keyed_tree.specs.Proper.{is_tag}
use Rattle.archive_tree.specs.Data.{Stamp, eff, PlainAlt, PlainNode, inner_node, leaf_node, PlainNodes, no_nodes, node, node_label, PlainArchive}
use Rattle.archive_tree.specs.Stands.{first_num, bodies, labels}
use Rattle.archive_tree.specs.Parts.{alt_sets, node_sets}
use Rattle.archive_tree.specs.Seek.{rise}

abbrev pub is_from : ℕ → List (ℕ × ℕ) → Bool
is_from low [] = true
is_from low (p ∷ ps) = nat_le low p.0 && nat_le p.0 p.1 && is_from (p.1 + 2) ps

abbrev pub is_none : List ℕ → Bool
is_none [] = true
is_none (n ∷ ns) = false

abbrev pub is_same : List ℕ → List ℕ → Bool
is_same ns ms = is_eq (slice_cmp nat_cmp ns ms)

abbrev pub is_stamp_well : Stamp → List ℕ → Bool
is_stamp_well None ps = not (is_none ps)
is_stamp_well (Some s) ps = is_from 1 s && not (is_none (members s)) && not (is_same (members s) ps) && list_all (has ps) (members s)

-- how many of the sets have the number
abbrev pub sets_with : ℕ → List (List ℕ) → ℕ
sets_with n [] = 0
sets_with n (s ∷ ss) = (if has s n then 1 else 0) + sets_with n ss

-- each of the numbers is in one of the sets alone, and no set has another number
abbrev pub are_parts : List ℕ → List (List ℕ) → Bool
are_parts ns ss = list_all (λ n. sets_with n ss == 1) ns && list_all (λ s. list_all (has ns) s) ss

abbrev pub are_stamps_well : List ℕ → List PlainAlt → Bool
are_stamps_well ns [] = true
are_stamps_well ns (x ∷ xs) = is_stamp_well x.stamp ns && are_stamps_well ns xs

-- the first numbers ascend, and the first of them is at least low
abbrev pub do_firsts_rise : ℕ → List ℕ → List PlainAlt → Bool
do_firsts_rise low ns [] = true
do_firsts_rise low ns (x ∷ xs) = nat_le low (first_num ns x) && do_firsts_rise (first_num ns x + 1) ns xs

abbrev pub do_differ : List PlainKey → Bool
do_differ [] = true
do_differ (b ∷ bs) = not (list_any (λ d. is_eq (key_cmp b d)) bs) && do_differ bs

abbrev pub are_alts_well : List ℕ → List PlainAlt → Bool
are_alts_well ns xs = are_stamps_well ns xs && do_firsts_rise 0 ns xs && are_parts ns (alt_sets ns xs) && do_differ (bodies xs)

abbrev mutual
  pub is_node_well : PlainNode → List ℕ → Bool
  is_node_well (inner_node l s ks) ps = is_stamp_well s ps && rise (labels ks) && are_nodes_well ks (eff s ps)
  is_node_well (leaf_node l s xs) ps = is_stamp_well s ps && are_alts_well (eff s ps) xs

  pub are_nodes_well : PlainNodes → List ℕ → Bool
  are_nodes_well no_nodes ns = true
  are_nodes_well (node k ks) ns = is_node_well k ns && are_nodes_well ks ns

abbrev pub are_elements : PlainNodes → Bool
are_elements no_nodes = true
are_elements (node k ks) = is_tag (node_label k).name && are_elements ks

abbrev pub is_archive : PlainArchive → Bool
is_archive a =
    rise (labels a.kids) && are_elements a.kids && are_nodes_well a.kids (range_with_len 1 a.n)
    && are_parts (range_with_len 1 a.n) (node_sets (range_with_len 1 a.n) a.kids)

-- the last intervals follow one upon another from low on through the first ones, and end with them
abbrev pub do_tile : ℕ → List (ℕ × ℕ) → List (ℕ × ℕ) → Bool
do_tile low [] [] = true
do_tile low (g ∷ gs) [] = false
do_tile low [] (p ∷ ps) = false
do_tile low (g ∷ gs) (p ∷ ps) = p.0 == max low g.0 && nat_le p.1 g.1 && (if p.1 == g.1 then do_tile 0 gs ps else do_tile (p.1 + 1) (g ∷ gs) ps)
