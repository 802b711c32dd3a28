-- What holds at each node of an archive whose versions are keyed by a specification.
use Rattle.std.specs.Prelude.{ℕ, ◌-◌, Bool, true, false, not, ◌&&◌, nat_lt, List, [], ◌∷◌, Option, Some, None, if◌then◌else◌}
use Rattle.std.specs.Cmp.Lexicographic.{pointwise}
use Rattle.std.specs.List.{list_all}
use Rattle.std.specs.Option.{option_map, is_none}
use Rattle.std.specs.Ordering.{is_eq}
use Rattle.jsonml_tree.specs.Data.{PlainContent, content_depth}
use Rattle.jsonml_tree.specs.declared.limits.TheConstants.{GREATEST_DEPTH}
use Rattle.keyed_tree.specs.Data.{attr, tag, PlainKey, scalar, inside, PlainLabel}
use Rattle.keyed_tree.specs.Order.{key_cmp}
use Rattle.keyed_tree.specs.Plain.{name_bytes, content_of}
use Rattle.keyed_tree.specs.Proper.{is_tag, has_no_keys, is_scalar, is_content}
use Rattle.key_spec.specs.Data.{PlainPath, PlainRule}
use Rattle.key_spec.specs.Rules.{rule_of, is_frontier, below}
use Rattle.key_rules.specs.Reach.{attrs_in, scalar_named}
use Rattle.archive_tree.specs.Data.{PlainAlt, PlainNode, inner_node, leaf_node, PlainNodes, no_nodes, node, node_label, node_stamp, node_kids, nodes_list, PlainArchive}
use Rattle.archive_tree.specs.Seek.{node_with}

-- ---- where a key path ends

-- the label of an attribute
abbrev pub attr_label : List ℕ → PlainLabel
attr_label s = record { name = attr s; keys = [] }

-- the label of an element without key values
abbrev pub bare_label : List ℕ → PlainLabel
bare_label t = record { name = tag t; keys = [] }

-- the test of what is there, and false where nothing is
abbrev pub on_some : {X : Type 0} → (X → Bool) → Option X → Bool
on_some p None = false
on_some p (Some x) = p x

-- what a key path has at the element where its tags end: the content, or the scalar of the attribute that it names
abbrev pub end_value : Option (List ℕ) → PlainContent → Option PlainKey
end_value None c = Some (inside c)
end_value (Some name) c = option_map (λ s. scalar s) (scalar_named name (attrs_in c))

-- a key path whose tags end at a leaf with that body has the value
abbrev pub ends_in : Option (List ℕ) → PlainKey → PlainKey → Bool
ends_in at v (scalar s) = false
ends_in at v (inside c) = on_some (λ w. is_eq (key_cmp w v)) (end_value at c)

-- ---- where a key path leads, in every version that has the node

-- each body is the value
abbrev pub bodies_are : PlainKey → PlainNode → Bool
bodies_are v (inner_node l s ks) = false
bodies_are v (leaf_node l s xs) = list_all (λ (x : PlainAlt). is_eq (key_cmp x.body v)) xs

-- the node, where all versions of its parent have it
abbrev pub lasting : Option PlainNode → Option PlainNode
lasting None = None
lasting (Some j) = if is_none (node_stamp j) then Some j else None

-- a node is there that all versions of its parent have, and it passes the test
abbrev pub always : (PlainNode → Bool) → Option PlainNode → Bool
always p o = on_some p (lasting o)

-- a key path whose tags end at the node has the value
abbrev pub node_leads_here : Option (List ℕ) → PlainKey → PlainNode → Bool
node_leads_here at v (leaf_node l s xs) = list_all (λ (x : PlainAlt). ends_in at v x.body) xs
node_leads_here None v (inner_node l s ks) = false
node_leads_here (Some name) v (inner_node l s ks) = always (bodies_are v) (node_with (attr_label name) (nodes_list ks))

-- the tags lead down by kids without key values, and there the key path has the value
abbrev pub node_leads : List (List ℕ) → Option (List ℕ) → PlainKey → PlainNode → Bool
node_leads [] at v k = node_leads_here at v k
node_leads (t ∷ ts) at v k = always (node_leads ts at v) (node_with (bare_label t) (nodes_list (node_kids k)))

-- there is a rule, and its key paths lead to these key values, one to each
abbrev pub node_has_keys : Option PlainRule → List PlainKey → PlainNode → Bool
node_has_keys None keys k = false
node_has_keys (Some r) keys k = pointwise (λ (p : PlainPath) v. node_leads p.tags p.attr v k) r.paths keys

-- ---- nodes

-- a leaf as an attribute has it: without key values, and with scalars
abbrev pub is_attr_node : PlainNode → Bool
is_attr_node (inner_node l s ks) = false
is_attr_node (leaf_node l s xs) = has_no_keys l.keys && list_all (λ (x : PlainAlt). is_scalar x.body) xs

-- Under a context: the node is named by a tag, for which there is a rule, and has the key values to which its key paths
-- lead. At the frontier it is a leaf with contents. Above it is an inner node, and each kid is an attribute's leaf or such
-- a node in turn.
abbrev mutual
  pub node_fits : List PlainRule → List (List ℕ) → PlainNode → Bool
  node_fits rules context (leaf_node l s xs) =
      is_tag l.name && (node_has_keys (rule_of rules context (name_bytes l.name)) l.keys (leaf_node l s xs)
      && (is_frontier rules (below context (name_bytes l.name)) && list_all (λ (x : PlainAlt). is_content x.body) xs))
  node_fits rules context (inner_node l s ks) =
      is_tag l.name && (node_has_keys (rule_of rules context (name_bytes l.name)) l.keys (inner_node l s ks)
      && (not (is_frontier rules (below context (name_bytes l.name))) && nodes_fit rules (below context (name_bytes l.name)) ks))

  pub nodes_fit : List PlainRule → List (List ℕ) → PlainNodes → Bool
  nodes_fit rules path no_nodes = true
  nodes_fit rules path (node k ks) = (if is_tag (node_label k).name then node_fits rules path k else is_attr_node k) && nodes_fit rules path ks

-- What is left to say of a node with its path, where it has its key values.
abbrev pub inside_fits : List PlainRule → List (List ℕ) → PlainNode → Bool
inside_fits rules path (leaf_node l s xs) = is_frontier rules path && list_all (λ (x : PlainAlt). is_content x.body) xs
inside_fits rules path (inner_node l s ks) = not (is_frontier rules path) && nodes_fit rules path ks

-- A kid of an inner node with this path: an attribute's leaf, or an element's node.
abbrev pub kid_fits : List PlainRule → List (List ℕ) → PlainNode → Bool
kid_fits rules path k = if is_tag (node_label k).name then node_fits rules path k else is_attr_node k

-- ---- levels

-- Elements nest at most so deep: those that the node and the nodes below it stand for, and those in the contents of leaves.
-- An attribute is on no level.
abbrev mutual
  pub is_shallow : ℕ → PlainNode → Bool
  is_shallow d (leaf_node l s xs) = list_all (λ (x : PlainAlt). nat_lt (content_depth (content_of x.body)) d) xs
  is_shallow d (inner_node l s ks) = nat_lt 0 d && are_shallow (d - 1) ks

  pub are_shallow : ℕ → PlainNodes → Bool
  are_shallow d no_nodes = true
  are_shallow d (node k ks) = (if is_tag (node_label k).name then is_shallow d k else true) && are_shallow d ks

-- every version is keyed by the rules
abbrev pub is_archive_keyed : List PlainRule → PlainArchive → Bool
is_archive_keyed rules a = are_shallow GREATEST_DEPTH a.kids && nodes_fit rules [] a.kids
