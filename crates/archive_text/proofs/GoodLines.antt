-- The lines of an archive with notes can be read back, and its nodes have names.
use Rattle.std.proofs.Common.{◌≡◌, ℕ, ◌+◌, ◌<◌, ◌^◌, ◌&&◌, ◌==◌, not, cond, Bool, true, false, IsTrue, List, [], ◌∷◌, ◌++◌, length, map, Option, Some, None, Ok, inl, inr, refl, sym, ap, ◌∙◌, arith}
use Rattle.std.specs.List.{AllByRecursion, list_all}
use Rattle.std.specs.declared.cmp.Ordering.{Ordering}
use Rattle.std.specs.declared.cmp.Ordering.TheVariants.{Less, Equal, Greater}
use Rattle.std.proofs.lemmas.Map.Lookups.{exact_bytes}
use Rattle.jsonml_tree.specs.Laws.{both_equal}
use Rattle.std.specs.Ordering.{is_eq}
use Rattle.std.proofs.lemmas.Bool.{and_parts}
use Rattle.key_spec.specs.Data.{PlainRule}
use Rattle.key_spec.specs.Names.{is_name, is_named, is_named_path}
use Rattle.key_spec.specs.Rules.{place_cmp, path_cmp, name_cmp, rule_of, is_frontier, below}
use Rattle.key_spec.specs.Canonical.{canonical}
use Rattle.key_spec.specs.Closed.{closed}
use Rattle.key_spec.proofs.ClosedLaws.{closed_list}
use Rattle.key_spec.proofs.Members.{In, to-Contains}
use Rattle.keyed_tree.specs.Plain.{name_bytes}
use Rattle.keyed_tree.specs.Proper.{is_tag}
use Rattle.keyed_tree.specs.Data.{PlainName, attr, tag, PlainKey, scalar, inside}
use Rattle.keyed_tree.specs.WellFormed.{is_key_well_formed, are_keys_well_formed, is_label_well_formed}
use Rattle.archive_tree.specs.Data.{PlainAlt, PlainNode, inner_node, leaf_node, PlainNodes, no_nodes, node, node_label}
use Rattle.archive_tree.specs.WellFormed.{are_alts_well_formed, is_node_well_formed, are_nodes_well_formed}
use Rattle.record_parts.specs.Shapes.{IsShapedValue}
use Rattle.record_format.specs.Shapes.{IsShapedAlt, IsShapedNode, AreShapedNodes}
use Rattle.archive_file.specs.NodeFits.{node_has_keys, node_fits, nodes_fit, is_attr_node}
use Rattle.archive_file.proofs.WellLaws.{value-well}
use Rattle.jsonml_lines.specs.Lines.{PlainLine}
use Rattle.jsonml_lines.specs.RoundTrip.{IsCell, IsLine}
use Rattle.jsonml_tree.proofs.Lists.{all-append}
use Rattle.archive_text.specs.Export.{text_cell, number_cell, stamp_text, name_text, key_line, note_line, note_lines, alt_line, end_line, node_lines, nodes_lines}
use Rattle.archive_text.specs.Names.{IsNamed, HasNames, HaveNames}

-- ---- lines

text_good : (s : List ℕ) → IsCell (text_cell s)
text_good s = record { well_formed = refl; shallow = omega arith }

number_good : (n : ℕ) → n < 2 ^ 64 → IsCell (number_cell n)
number_good n h = record { well_formed = value-well (number_cell n) h; shallow = omega arith }

value_good : (k : PlainKey) → IsShapedValue k → IsTrue (is_key_well_formed k) → IsCell k
value_good (scalar s) h w = record { well_formed = w; shallow = omega arith }
value_good (inside c) h w = record { well_formed = w; shallow = h.1 }

values_good : (ks : List PlainKey) → AllByRecursion IsShapedValue ks → IsTrue (are_keys_well_formed ks) → AllByRecursion IsCell ks
values_good [] h w = tt
values_good (k ∷ ks) h w = let both = and_parts (is_key_well_formed k) (are_keys_well_formed ks) w in (value_good k h.0 both.0, values_good ks h.1 both.1)

alts_good : (xs : List PlainAlt) → AllByRecursion IsShapedAlt xs → IsTrue (are_alts_well_formed xs) → AllByRecursion IsLine (map alt_line xs)
alts_good [] h w = tt
alts_good (x ∷ xs) h w =
    let both = and_parts (is_key_well_formed x.body) (are_alts_well_formed xs) w in ((text_good (stamp_text x.stamp), (value_good x.body h.0.1 both.0, tt)), alts_good xs h.1 both.1)

pub end_good : AllByRecursion IsLine (end_line ∷ [])
end_good = (tt, tt)

mutual
  node_good : (k : PlainNode) → IsShapedNode k → IsTrue (is_node_well_formed k) → AllByRecursion IsLine (node_lines k)
  node_good (inner_node l s ks) h w =
      let both = and_parts (is_label_well_formed l) (are_nodes_well_formed ks) w in
      ((text_good (stamp_text s), (text_good (name_text l.name), values_good l.keys h.0.keys both.0)), all-append IsLine (nodes_lines ks) (end_line ∷ []) (nodes_good ks h.2 both.1) end_good)
  node_good (leaf_node l s xs) h w =
      let both = and_parts (is_label_well_formed l) (are_alts_well_formed xs) w in
      ((text_good (stamp_text s), (text_good (name_text l.name), values_good l.keys h.0.keys both.0)), all-append IsLine (map alt_line xs) (end_line ∷ []) (alts_good xs h.2 both.1) end_good)

  pub nodes_good : (ks : PlainNodes) → AreShapedNodes ks → IsTrue (are_nodes_well_formed ks) → AllByRecursion IsLine (nodes_lines ks)
  nodes_good no_nodes h w = tt
  nodes_good (node k ks) h w = let both = and_parts (is_node_well_formed k) (are_nodes_well_formed ks) w in all-append IsLine (node_lines k) (nodes_lines ks) (node_good k h.0 both.0) (nodes_good ks h.1 both.1)

pub keys_good : (ls : List (List ℕ)) → AllByRecursion IsLine (map key_line ls)
keys_good [] = tt
keys_good (l ∷ ls) = ((text_good l, tt), keys_good ls)

either_good : (b : Bool) (l : PlainLine) (ls : List PlainLine) → IsLine l → AllByRecursion IsLine ls → AllByRecursion IsLine (cond b ls (l ∷ ls))
either_good true l ls h k = k
either_good false l ls h k = (h, k)

pub notes_good : (i : ℕ) (notes : List (List ℕ)) → i + length notes < 2 ^ 64 → AllByRecursion IsLine (note_lines i notes)
notes_good i [] h = tt
notes_good i (note ∷ notes) h =
    either_good (length note == 0) (note_line i note) (note_lines (i + 1) notes) (number_good i (omega arith), (text_good note, tt)) (notes_good (i + 1) notes (omega arith))

pub count_good : (n : ℕ) → n < 2 ^ 64 → IsLine (record { word = []; cells = number_cell n ∷ [] })
count_good n h = (number_good n h, tt)

-- ---- names

is-equal : (o : Ordering) → is_eq o ≡ true → o ≡ Equal
is-equal Less e = absurd (cc)
is-equal Equal e = refl
is-equal Greater e = absurd (cc)

same_tag : (rules : List PlainRule) (path : List (List ℕ)) (t : List ℕ) (r : PlainRule) → ((s : PlainRule) → In s rules → is_named s ≡ true) → rule_of rules path t ≡ Some r → is_name t ≡ true
same_tag [] path t r named e = cc
same_tag (s ∷ rules) path t r named e =
    elim (is_eq (place_cmp s.context s.tag path t)) as (λ b. is_eq (place_cmp s.context s.tag path t) ≡ b → cond b (Some s) (rule_of rules path t) ≡ Some r → is_name t ≡ true) [
      | true ↦ λ d f. (
          let two = both_equal (path_cmp s.context path) (name_cmp s.tag t) (is-equal _ d) in
          let own = (and_parts (list_all is_name s.context) (is_name s.tag) (and_parts (list_all is_name s.context && is_name s.tag) (list_all is_named_path s.paths) (named s (inl refl))).0).1 in
          ap is_name (sym (exact_bytes s.tag t two.1)) ∙ own)
      | false ↦ λ d f. same_tag rules path t r (λ u h. named u (inr h)) f
    ] refl e

keyed_name : (rules : List PlainRule) (path : List (List ℕ)) (t : List ℕ) (keys : List PlainKey) (k : PlainNode) (o : Option PlainRule) → ((s : PlainRule) → In s rules → is_named s ≡ true) → rule_of rules path t ≡ o
    → IsTrue (node_has_keys o keys k) → is_name t ≡ true
keyed_name rules path t keys k None named e h = absurd (cc)
keyed_name rules path t keys k (Some r) named e h = same_tag rules path t r named e

tag_named : (n : PlainName) → (is_tag n ≡ true → is_name (name_bytes n) ≡ true) → IsNamed n
tag_named (attr s) f = tt
tag_named (tag s) f = f refl

attr_named : (n : PlainName) → is_tag n ≡ false → IsNamed n
attr_named (attr s) e = tt
attr_named (tag s) e = absurd (cc)

attr_names : (k : PlainNode) → is_tag (node_label k).name ≡ false → IsTrue (is_attr_node k) → HasNames k
attr_names (inner_node l s ks) e h = absurd (cc)
attr_names (leaf_node l s xs) e h = attr_named l.name e

module _ (rules : List PlainRule) (named : (s : PlainRule) → In s rules → is_named s ≡ true) where
  mutual
    node_names : (context : List (List ℕ)) (k : PlainNode) → IsTrue (node_fits rules context k) → HasNames k
    node_names context (leaf_node l s xs) h =
        let parts = and_parts (is_tag l.name) _ h in
        let keys = and_parts (node_has_keys (rule_of rules context (name_bytes l.name)) l.keys (leaf_node l s xs)) _ parts.1 in
        tag_named l.name (λ e. keyed_name rules context (name_bytes l.name) l.keys (leaf_node l s xs) _ named refl keys.0)
    node_names context (inner_node l s ks) h =
        let parts = and_parts (is_tag l.name) _ h in
        let keys = and_parts (node_has_keys (rule_of rules context (name_bytes l.name)) l.keys (inner_node l s ks)) _ parts.1 in
        let row = and_parts (not (is_frontier rules (below context (name_bytes l.name)))) (nodes_fit rules (below context (name_bytes l.name)) ks) keys.1 in
        (tag_named l.name (λ e. keyed_name rules context (name_bytes l.name) l.keys (inner_node l s ks) _ named refl keys.0), row_names (below context (name_bytes l.name)) ks row.1)

    pub row_names : (path : List (List ℕ)) (ks : PlainNodes) → IsTrue (nodes_fit rules path ks) → HaveNames ks
    row_names path no_nodes h = tt
    row_names path (node k ks) h =
        let parts = and_parts (cond (is_tag (node_label k).name) (node_fits rules path k) (is_attr_node k)) (nodes_fit rules path ks) h in
        let own : HasNames k = elim (is_tag (node_label k).name) as (λ b. is_tag (node_label k).name ≡ b → cond b (node_fits rules path k) (is_attr_node k) ≡ true → HasNames k) [
          | true ↦ λ e f. node_names path k f
          | false ↦ λ e f. attr_names k e f
        ] refl parts.0 in
        (own, row_names path ks parts.1)

pub rules_named : (rules : List PlainRule) → closed (canonical rules) ≡ Ok rules → (s : PlainRule) → In s rules → is_named s ≡ true
rules_named rules e s h = (closed_list (canonical rules) rules e).named s (to-Contains rules s h)
