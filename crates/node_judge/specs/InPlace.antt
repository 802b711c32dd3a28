-- A node in its place. That is: the rules, the path of the parent of its row, the parent's numbers, how many elements may
-- still nest there, and what the parent waits for.
use Rattle.std.specs.Prelude.{ℕ, ◌-◌, ◌≤◌, Bool, true, false, not, ◌&&◌, ◌||◌, nat_lt, List, [], ◌∷◌, length, is_some, is_none, if◌then◌else◌, IsTrue}
use Rattle.std.specs.List.{list_all, range_with_len}
use Rattle.jsonml_tree.specs.Data.{content_depth}
use Rattle.jsonml_tree.specs.declared.limits.TheConstants.{GREATEST_DEPTH}
use Rattle.key_spec.specs.Data.{PlainRule}
use Rattle.key_spec.specs.Rules.{is_frontier, below}
use Rattle.keyed_tree.specs.Data.{PlainKey, PlainLabel}
use Rattle.keyed_tree.specs.Plain.{name_bytes, content_of}
use Rattle.keyed_tree.specs.Proper.{is_tag, has_no_keys, is_scalar, is_content}
use Rattle.version_set.specs.Members.{upto_pairs}
use Rattle.archive_tree.specs.Data.{Stamp, eff, PlainAlt, PlainNode, inner_node, leaf_node, PlainNodes, no_nodes, node, node_label, PlainArchive}
use Rattle.archive_tree.specs.Parts.{node_sets}
use Rattle.archive_tree.specs.PartsTest.{is_stamp_well, are_alts_well, are_parts, is_node_well}
use Rattle.archive_tree.specs.Seek.{rise}
use Rattle.archive_tree.specs.Stands.{labels}
use Rattle.record_parts.specs.Bounds.{most}
use Rattle.record_format.specs.Files.{tail_bytes, longest}
use Rattle.archive_file.specs.Laid.{IsFront, RowAt}
use Rattle.archive_file.specs.NodeFits.{kid_fits, is_shallow}
use Rattle.node_judge.specs.Awaited.{Awaited, handed, is_met, body_meets, keeps, own, awaits}

-- ---- one node

-- the path is not that of the virtual root
abbrev pub is_below_root : List (List ℕ) → Bool
is_below_root [] = false
is_below_root (t ∷ ts) = true

-- the kind of an element's node is that of its path: a leaf at the frontier, and else an inner node
abbrev pub is_kind_right : Bool → Bool → Bool
is_kind_right is_leaf at_frontier = if is_leaf then at_frontier else not at_frontier

-- What opens a node is right in its place. Its set is one of its parent's, and inherited where the node is handed something.
-- An element has room, and as many key values as its rule has key paths. An attribute is a leaf without key values, and not
-- at the root.
abbrev pub is_opening_sound : List PlainRule → List (List ℕ) → List ℕ → ℕ → List Awaited → Bool → PlainLabel → Stamp → Bool
is_opening_sound rules path ns left ws is_leaf l s =
    is_stamp_well s ns && (is_none s || list_all (λ w. is_none (handed l w)) ws)
    && (if is_tag l.name
    then nat_lt 0 left && is_some (own rules path l) && is_kind_right is_leaf (is_frontier rules (below path (name_bytes l.name)))
    else is_leaf && has_no_keys l.keys && is_below_root path)

-- A body is right in its leaf: a content that is not too deep, or an attribute's scalar; and it has what its leaf waits for.
abbrev pub is_body_sound : ℕ → List Awaited → PlainLabel → PlainKey → Bool
is_body_sound left ws l b =
    (if is_tag l.name then is_content b && nat_lt (content_depth (content_of b)) left else is_scalar b) && list_all (body_meets b) ws

-- A node is right in its place, with all below it. At an inner node each thing that it waits for is met by a kid.
abbrev mutual
  pub is_sound_in : List PlainRule → List (List ℕ) → List ℕ → ℕ → List Awaited → PlainNode → Bool
  is_sound_in rules path ns left ws (leaf_node l s xs) =
      is_opening_sound rules path ns left ws true l s && are_alts_well (eff s ns) xs
      && list_all (λ (x : PlainAlt). is_body_sound left (awaits rules path ws l) l x.body) xs
  is_sound_in rules path ns left ws (inner_node l s ks) =
      is_opening_sound rules path ns left ws false l s && rise (labels ks) && list_all (is_met (labels ks)) (awaits rules path ws l)
      && are_sound_in rules (below path (name_bytes l.name)) (eff s ns) (left - 1) (awaits rules path ws l) ks

  pub are_sound_in : List PlainRule → List (List ℕ) → List ℕ → ℕ → List Awaited → PlainNodes → Bool
  are_sound_in rules path ns left ws no_nodes = true
  are_sound_in rules path ns left ws (node k ks) = is_sound_in rules path ns left ws k && are_sound_in rules path ns left ws ks

-- ---- what that comes to

-- The node is well under its parent's numbers, fits the rules under its path, and is not too deep; an attribute is not at the
-- root. Of what its parent waits for it keeps what it is handed.
abbrev pub is_placed : List PlainRule → List (List ℕ) → List ℕ → ℕ → List Awaited → PlainNode → Bool
is_placed rules path ns left ws k =
    is_node_well k ns && kid_fits rules path k && (if is_tag (node_label k).name then is_shallow left k else is_below_root path) && list_all (keeps k) ws

-- ---- an archive, and a file

-- the kids of the virtual root are right in their place, and their sets divide the numbers
abbrev pub is_sound_archive : List PlainRule → PlainArchive → Bool
is_sound_archive rules a =
    rise (labels a.kids) && are_sound_in rules [] (range_with_len 1 a.n) GREATEST_DEPTH [] a.kids
    && are_parts (range_with_len 1 a.n) (node_sets (range_with_len 1 a.n) a.kids)

-- The bytes are a header, the nodes of the archive with the END of the virtual root, and the length of that END's body; and
-- the nodes are right in their place.
pub record LiesSound (rules : List PlainRule) (a : PlainArchive) (bytes : List ℕ) : Type 0 where
  pub behind : List ℕ
  pub front : IsFront rules a.n behind bytes
  pub few : a.n ≤ most
  pub row : RowAt (upto_pairs a.n) a.kids (tail_bytes a) GREATEST_DEPTH behind
  pub short : length bytes ≤ longest
  pub sound : IsTrue (is_sound_archive rules a)
