-- What is kept of an open row, and what a row comes to whose kids are opened one after another.
use Rattle.std.specs.Prelude.{ℕ, ◌-◌, ◌==◌, Bool, true, false, ◌&&◌, nat_lt, List, [], length, filter, Option, Some, None, is_none, if◌then◌else◌}
use Rattle.std.specs.List.{list_all}
use Rattle.std.specs.Option.{unwrap_or}
use Rattle.std.specs.Ordering.{is_lt}
use Rattle.jsonml_tree.specs.Data.{content_depth}
use Rattle.keyed_tree.specs.Data.{PlainKey, PlainLabel}
use Rattle.keyed_tree.specs.Order.{label_cmp}
use Rattle.keyed_tree.specs.Plain.{name_bytes, content_of}
use Rattle.keyed_tree.specs.Proper.{is_tag, is_scalar, is_content}
use Rattle.key_spec.specs.Data.{PlainRule}
use Rattle.key_spec.specs.Rules.{below}
use Rattle.version_set.specs.Members.{members}
use Rattle.archive_tree.specs.Data.{Stamp, PlainAlt, PlainNode, inner_node, leaf_node, PlainNodes, no_nodes, node, node_label}
use Rattle.archive_tree.specs.PartsTest.{are_alts_well}
use Rattle.archive_tree.specs.Seek.{rise_from, rise}
use Rattle.archive_tree.specs.Stands.{labels}
use Rattle.node_judge.specs.Awaited.{Awaited, handed, is_met, body_meets, awaits}
use Rattle.node_judge.specs.InPlace.{is_opening_sound, are_sound_in}

-- ---- what is kept

-- Of an open row: the rules, the path and the set of its parent, how many elements may still nest there, what its parent waits
-- for and no kid has met yet, and the label of the last kid if one came.
pub record PlainFrame : Type 0 where
  pub rules : List PlainRule
  pub path : List (List ℕ)
  pub set : List (ℕ × ℕ)
  pub left : ℕ
  pub waits : List Awaited
  pub last : Option PlainLabel

-- Of an open leaf: whether it is an element's, its set, how many elements may still nest in its row, and what it waits for.
pub record PlainLeaf : Type 0 where
  pub element : Bool
  pub set : List (ℕ × ℕ)
  pub left : ℕ
  pub waits : List Awaited

-- the row of the virtual root, before its first kid
abbrev pub root_frame : List PlainRule → List (ℕ × ℕ) → ℕ → PlainFrame
root_frame rules set left = record { rules = rules; path = []; set = set; left = left; waits = []; last = None }

-- ---- a kid is opened

-- the label is above the last one, if there is one
abbrev pub is_above : Option PlainLabel → PlainLabel → Bool
is_above None l = true
is_above (Some m) l = is_lt (label_cmp m l)

-- a node may come next in the row
abbrev pub may_open : PlainFrame → Bool → PlainLabel → Stamp → Bool
may_open f is_leaf l s = is_above f.last l && is_opening_sound f.rules f.path (members f.set) f.left f.waits is_leaf l s

-- the row of an inner node, before its first kid
abbrev pub row_below : PlainFrame → PlainLabel → Stamp → PlainFrame
row_below f l s = record {
  rules = f.rules;
  path = below f.path (name_bytes l.name);
  set = unwrap_or s f.set;
  left = f.left - 1;
  waits = awaits f.rules f.path f.waits l;
  last = None;
}

abbrev pub leaf_of : PlainFrame → PlainLabel → Stamp → PlainLeaf
leaf_of f l s = record { element = is_tag l.name; set = unwrap_or s f.set; left = f.left; waits = awaits f.rules f.path f.waits l }

-- what is kept of the node that comes next, if it may
abbrev pub inner_opened : PlainFrame → PlainLabel → Stamp → Option PlainFrame
inner_opened f l s = if may_open f false l s then Some (row_below f l s) else None

abbrev pub leaf_opened : PlainFrame → PlainLabel → Stamp → Option PlainLeaf
leaf_opened f l s = if may_open f true l s then Some (leaf_of f l s) else None

-- behind a kid with this label, which met what it was handed
abbrev pub behind_kid : PlainFrame → PlainLabel → PlainFrame
behind_kid f l = record {
  rules = f.rules;
  path = f.path;
  set = f.set;
  left = f.left;
  waits = filter (λ w. is_none (handed l w)) f.waits;
  last = Some l;
}

-- nothing is waited for any more
abbrev pub is_met_all : PlainFrame → Bool
is_met_all f = length f.waits == 0

-- ---- a row whose kids are opened one after another

-- a body is right in the leaf: a content that is not too deep, or an attribute's scalar; and it has what the leaf waits for
abbrev pub is_body_of : PlainLeaf → PlainKey → Bool
is_body_of h b =
    (if h.element then is_content b && nat_lt (content_depth (content_of b)) h.left else is_scalar b) && list_all (body_meets b) h.waits

abbrev pub are_alts_of : PlainLeaf → List PlainAlt → Bool
are_alts_of h xs = are_alts_well (members h.set) xs && list_all (λ (x : PlainAlt). is_body_of h x.body) xs

-- A node may come next and is right inside. A row is right with the kids that are left: each is in turn, and nothing is
-- waited for at its end.
abbrev mutual
  pub is_next : PlainFrame → PlainNode → Bool
  is_next f (leaf_node l s xs) = may_open f true l s && are_alts_of (leaf_of f l s) xs
  is_next f (inner_node l s ks) = may_open f false l s && goes_on (row_below f l s) ks

  pub goes_on : PlainFrame → PlainNodes → Bool
  goes_on f no_nodes = is_met_all f
  goes_on f (node k ks) = is_next f k && goes_on (behind_kid f (node_label k)) ks

-- The same, said of the row as a whole: its labels ascend, each kid is right in its place, and what is waited for is met.
abbrev pub rise_behind : Option PlainLabel → List PlainLabel → Bool
rise_behind None ls = rise ls
rise_behind (Some l) ls = rise_from l ls

abbrev pub is_row_sound : PlainFrame → PlainNodes → Bool
is_row_sound f ks =
    rise_behind f.last (labels ks) && are_sound_in f.rules f.path (members f.set) f.left f.waits ks && list_all (is_met (labels ks)) f.waits
