-- What a version has among some nodes, and the calls that print it.
use Rattle.std.specs.Prelude.{ℕ, ◌+◌, ◌≤◌, List, [], ◌∷◌, length, map, Bool, true, false, not, ◌&&◌, ◌||◌, if◌then◌else◌}
use Rattle.std.specs.List.{flat_map}
use Rattle.version_set.specs.Members.{members, has}
use Rattle.jsonml_print.specs.Calls.{Call, attribute, calls_of}
use Rattle.keyed_tree.specs.Data.{PlainName, attr, tag, PlainKey, scalar, inside, PlainKeyed, inner, leaf, PlainKids, no_kids, kid, label_of}
use Rattle.keyed_tree.specs.Plain.{plain}
use Rattle.keyed_tree.specs.Proper.{is_tag, is_scalar, is_content}
use Rattle.archive_tree.specs.Data.{PlainAlt, PlainNode, inner_node, leaf_node, PlainNodes, no_nodes, node, nodes_from, node_stamp}
use Rattle.archive_tree.specs.Read.{read}
use Rattle.record_format.specs.Nodes.{set_in}
use Rattle.record_format.specs.Seen.{node_steps, sets_visits}
use Rattle.file_get.specs.Searched.{node_read, sets_read}

-- a set that is not empty
abbrev pub IsFilled : List (ℕ × ℕ) → Type 0
IsFilled s = 1 ≤ length s

-- the effective set of a node under a parent that has this set
abbrev pub set_of : List (ℕ × ℕ) → PlainNode → List (ℕ × ℕ)
set_of parent k = set_in (node_stamp k) parent

-- whether a node has i
abbrev pub has_at : ℕ → List (ℕ × ℕ) → PlainNode → Bool
has_at i parent k = has (members (set_of parent k)) i

-- the trees at i of those nodes that have it
abbrev pub kids_in : ℕ → List (ℕ × ℕ) → List PlainNode → List PlainKeyed
kids_in i parent [] = []
kids_in i parent (k ∷ ks) = if has_at i parent k then read i (members parent) k ∷ kids_in i parent ks else kids_in i parent ks

-- ---- calls

-- a leaf that is named by an attribute, as that attribute, and every other kid as an element
abbrev pub leaf_calls : PlainName → PlainKey → List Call → List Call
leaf_calls (attr s) (scalar v) cs = attribute (record { name = s; value = v }) ∷ []
leaf_calls (attr s) (inside c) cs = cs
leaf_calls (tag s) b cs = cs

abbrev pub kid_calls : PlainKeyed → List Call
kid_calls (inner l ks) = calls_of (plain (inner l ks))
kid_calls (leaf l b) = leaf_calls l.name b (calls_of (plain (leaf l b)))

abbrev pub kids_calls : List PlainKeyed → List Call
kids_calls ks = flat_map kid_calls ks

-- whether an element stands behind these kids, where one did before or not
abbrev pub item_behind : Bool → List PlainKeyed → Bool
item_behind has_item [] = has_item
item_behind has_item (k ∷ ks) = item_behind (has_item || is_tag (label_of k).name) ks

-- ---- which kids can be printed

-- an attribute inside an element, in front of all elements, with a scalar; an element where none stands beside the outermost
abbrev pub leaf_fits : Bool → Bool → PlainName → PlainKey → Bool
leaf_fits within has_item (attr s) b = within && not has_item && is_scalar b
leaf_fits within has_item (tag s) b = (within || not has_item) && is_content b

abbrev mutual
  pub kid_fits : Bool → Bool → PlainKeyed → Bool
  kid_fits within has_item (inner l ks) = (within || not has_item) && is_tag l.name && row_fits true false ks
  kid_fits within has_item (leaf l b) = leaf_fits within has_item l.name b

  pub row_fits : Bool → Bool → PlainKids → Bool
  row_fits within has_item no_kids = true
  row_fits within has_item (kid k ks) = kid_fits within has_item k && row_fits within (has_item || is_tag (label_of k).name) ks

abbrev pub kids_fit : Bool → Bool → List PlainKeyed → Bool
kids_fit within has_item [] = true
kids_fit within has_item (k ∷ ks) = kid_fits within has_item k && kids_fit within (has_item || is_tag (label_of k).name) ks

-- ---- which nodes have a body at i

-- one of the alternatives of a leaf that has this set has i
abbrev pub some_has : ℕ → List (ℕ × ℕ) → List PlainAlt → Bool
some_has i set [] = false
some_has i set (x ∷ xs) = has (members (set_in x.stamp set)) i || some_has i set xs

-- at each leaf that has i below a node that has it
abbrev mutual
  pub finds : ℕ → List (ℕ × ℕ) → PlainNode → Bool
  finds i parent (inner_node l s ks) = finds_each i (set_in s parent) ks
  finds i parent (leaf_node l s xs) = some_has i (set_in s parent) xs

  pub finds_each : ℕ → List (ℕ × ℕ) → PlainNodes → Bool
  finds_each i parent no_nodes = true
  finds_each i parent (node k ks) = (not (has (members (set_in (node_stamp k) parent)) i) || finds i parent k) && finds_each i parent ks

abbrev pub all_find : ℕ → List (ℕ × ℕ) → List PlainNode → Bool
all_find i parent ks = finds_each i parent (nodes_from ks)

-- ---- what a search for i takes

abbrev pub nodes_seen : ℕ → List (ℕ × ℕ) → List PlainNode → ℕ
nodes_seen i parent [] = 0
nodes_seen i parent (k ∷ ks) = (if has_at i parent k then 24 + node_read i parent k else 0) + nodes_seen i parent ks

abbrev pub nodes_steps : ℕ → List (ℕ × ℕ) → List PlainNode → ℕ
nodes_steps i parent [] = 0
nodes_steps i parent (k ∷ ks) = (if has_at i parent k then node_steps i parent k else 0) + nodes_steps i parent ks

abbrev pub sets_seen : ℕ → List (ℕ × ℕ) → List PlainNode → ℕ
sets_seen i parent ks = sets_read (map (set_of parent) ks) i

abbrev pub sets_steps : ℕ → List (ℕ × ℕ) → List PlainNode → ℕ
sets_steps i parent ks = sets_visits (map (set_of parent) ks) i
