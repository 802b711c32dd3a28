-- What holds at each node of a keyed tree that is keyed by a specification.
use Rattle.std.proofs.Common.{Bool, true, false, ◌&&◌, List, [], ◌∷◌, Option, Some, None, ℕ}
use Rattle.std.specs.Prelude.{not, if◌then◌else◌}
use Rattle.std.specs.Cmp.Lexicographic.{pointwise}
use Rattle.keyed_tree.specs.Data.{PlainKey, PlainKeyed, inner, leaf, PlainKids, no_kids, kid, label_of, kids_of}
use Rattle.keyed_tree.specs.Kids.{ascend, kid_at}
use Rattle.keyed_tree.specs.Plain.{name_bytes}
use Rattle.keyed_tree.specs.Proper.{is_tag, has_no_keys, is_scalar, is_content}
use Rattle.key_spec.specs.Data.{PlainPath, PlainRule}
use Rattle.key_spec.specs.Rules.{rule_of, is_frontier, below}
use Rattle.archive_tree.specs.Stands.{has_body}
use Rattle.archive_file.specs.NodeFits.{attr_label, bare_label, on_some, ends_in}

-- ---- where a key path leads

-- A key path whose tags end at the node has the value. Above the frontier it has that of the attribute that it names.
abbrev pub leads_here : Option (List ℕ) → PlainKey → PlainKeyed → Bool
leads_here at v (leaf l b) = ends_in at v b
leads_here None v (inner l ks) = false
leads_here (Some name) v (inner l ks) = on_some (has_body v) (kid_at (attr_label name) (kids_of (inner l ks)))

-- the tags lead down by kids without key values, and there the key path has the value
abbrev pub leads : List (List ℕ) → Option (List ℕ) → PlainKey → PlainKeyed → Bool
leads [] at v k = leads_here at v k
leads (t ∷ ts) at v k = on_some (leads ts at v) (kid_at (bare_label t) (kids_of k))

-- there is a rule, and its key paths lead to these key values, one to each
abbrev pub has_keys : Option PlainRule → List PlainKey → PlainKeyed → Bool
has_keys None keys k = false
has_keys (Some r) keys k = pointwise (λ (p : PlainPath) v. leads p.tags p.attr v k) r.paths keys

-- ---- nodes

-- a leaf as an attribute has it: without key values, and with a scalar
abbrev pub is_attr_leaf : PlainKeyed → Bool
is_attr_leaf (inner l ks) = false
is_attr_leaf (leaf l b) = has_no_keys l.keys && is_scalar b

-- Under a context: the node is named by a tag, for which there is a rule, and has the key values to which its key paths
-- lead. At the frontier it is a leaf with a content. Above it is an inner node, whose kids ascend, and each kid is an
-- attribute's leaf or such a node in turn.
abbrev mutual
  pub fits : List PlainRule → List (List ℕ) → PlainKeyed → Bool
  fits rules context (leaf l b) =
      is_tag l.name && (has_keys (rule_of rules context (name_bytes l.name)) l.keys (leaf l b) && (is_frontier rules (below context (name_bytes l.name)) && is_content b))
  fits rules context (inner l ks) =
      is_tag l.name && (has_keys (rule_of rules context (name_bytes l.name)) l.keys (inner l ks)
      && (not (is_frontier rules (below context (name_bytes l.name))) && (ascend ks && each_fits rules (below context (name_bytes l.name)) ks)))

  pub each_fits : List PlainRule → List (List ℕ) → PlainKids → Bool
  each_fits rules path no_kids = true
  each_fits rules path (kid k ks) = (if is_tag (label_of k).name then fits rules path k else is_attr_leaf k) && each_fits rules path ks
