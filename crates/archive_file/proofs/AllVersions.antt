-- A node fits exactly where each of its readings does.
use Rattle.std.proofs.Common.{◌≡◌, ◌≢◌, ℕ, suc, ◌-◌, Bool, true, false, cond, not, ◌&&◌, List, [], ◌∷◌, Option, Some, None, refl}
use Rattle.std.specs.Prelude.{nat_le, nat_lt}
use Rattle.std.specs.List.{list_all}
use Rattle.std.specs.Ordering.{is_eq, nat_cmp}
use Rattle.version_set.specs.Members.{has}
use Rattle.jsonml_tree.specs.Data.{PlainTree, PlainTrees, tree_depth, trees_depth, content_depth}
use Rattle.keyed_tree.specs.Data.{PlainName, attr, tag, PlainKey, PlainKeyed, PlainKids, kid, label_of}
use Rattle.keyed_tree.specs.Kids.{ascend}
use Rattle.keyed_tree.specs.Lists.{Ascends}
use Rattle.keyed_tree.specs.Order.{key_cmp}
use Rattle.keyed_tree.specs.Plain.{name_bytes, content_of, item_onto, items_among, plain}
use Rattle.keyed_tree.specs.Proper.{is_tag, has_no_keys, is_scalar, is_content}
use Rattle.keyed_tree.proofs.Kids.{all-ascend}
use Rattle.key_spec.specs.Data.{PlainPath, PlainRule}
use Rattle.key_spec.specs.Rules.{rule_of, is_frontier, below}
use Rattle.archive_tree.specs.Data.{eff, PlainAlt, PlainNode, inner_node, leaf_node, PlainNodes, no_nodes, node, node_label, node_stamp}
use Rattle.archive_tree.specs.Parts.{IsNodeWell, AreNodesWell}
use Rattle.archive_tree.specs.Read.{body_at, read, read_row}
use Rattle.archive_tree.specs.Stands.{has_body}
use Rattle.archive_tree.proofs.Readings.{read_ascends}
use Rattle.archive_file.proofs.Fits.{leads, has_keys, is_attr_leaf, fits, each_fits}
use Rattle.archive_file.specs.NodeFits.{attr_label, bare_label, ends_in, bodies_are, node_leads, node_has_keys, is_attr_node, node_fits, nodes_fit, is_shallow, are_shallow}
use Rattle.archive_file.proofs.Levels.{above-le, inside-le, both-le, zero-le}
use Rattle.archive_file.proofs.Tells.{Tells, tells-same, tells-and, tells-as, tells-choice, tells-besides, tells-part, tells-pairs, eff-ascends, stamp-of, well-has, alts-tell, always-tells}

-- ---- where a key path leads

bodies-tell : (v : PlainKey) (k : PlainNode) (ps : List ℕ) → IsNodeWell k ps → Tells (eff (node_stamp k) ps) (λ n. has_body v (read n ps k)) (bodies_are v k)
bodies-tell v (inner_node l s ks) ps h = tells-same (eff s ps) false h.stamp.some
bodies-tell v (leaf_node l s xs) ps h = alts-tell (λ b. is_eq (key_cmp b v)) xs (eff s ps) h.alts

pub leads-tell : (tags : List (List ℕ)) (at : Option (List ℕ)) (v : PlainKey) (k : PlainNode) (ps : List ℕ) → Ascends nat_cmp ps → IsNodeWell k ps → Tells (eff (node_stamp k) ps) (λ n. leads tags at v (read n ps k)) (node_leads tags at v k)
leads-tell [] at v (leaf_node l s xs) ps up h = alts-tell (ends_in at v) xs (eff s ps) h.alts
leads-tell [] None v (inner_node l s ks) ps up h = tells-same (eff s ps) false h.stamp.some
leads-tell [] (Some name) v (inner_node l s ks) ps up h =
    let ns = eff s ps in
    always-tells (attr_label name) ks ns h.ascending (has_body v) (bodies_are v) h.stamp.some (eff-ascends s ps up h.stamp) h.kids
    (λ c m. bodies-tell v c ns (well-has ks ns c h.kids m))
leads-tell (t ∷ tags) at v (leaf_node l s xs) ps up h = tells-same (eff s ps) false h.stamp.some
leads-tell (t ∷ tags) at v (inner_node l s ks) ps up h =
    let ns = eff s ps in
    let rise = eff-ascends s ps up h.stamp in
    always-tells (bare_label t) ks ns h.ascending (leads tags at v) (node_leads tags at v) h.stamp.some rise h.kids
    (λ c m. leads-tell tags at v c ns rise (well-has ks ns c h.kids m))

keys-tell : (o : Option PlainRule) (keys : List PlainKey) (k : PlainNode) (ps : List ℕ) → Ascends nat_cmp ps → IsNodeWell k ps → Tells (eff (node_stamp k) ps) (λ n. has_keys o keys (read n ps k)) (node_has_keys o keys k)
keys-tell None keys k ps up h = tells-same (eff (node_stamp k) ps) false (stamp-of k ps h).some
keys-tell (Some r) keys k ps up h =
    tells-pairs (eff (node_stamp k) ps) (λ n (p : PlainPath) v. leads p.tags p.attr v (read n ps k)) (λ (p : PlainPath) v. node_leads p.tags p.attr v k) (stamp-of k ps h).some
    (λ p v. leads-tell p.tags p.attr v k ps up h) r.paths keys

-- ---- nodes

-- a kid, which is an attribute's leaf or fits in turn
kid-tells : (rules : List PlainRule) (path : List (List ℕ)) (k : PlainNode) (ns : List ℕ) → IsNodeWell k ns → Tells (eff (node_stamp k) ns) (λ n. fits rules path (read n ns k)) (node_fits rules path k)
    → Tells (eff (node_stamp k) ns) (λ n. cond (is_tag (label_of (read n ns k)).name) (fits rules path (read n ns k)) (is_attr_leaf (read n ns k))) (cond (is_tag (node_label k).name) (node_fits rules path k) (is_attr_node k))
kid-tells rules path (inner_node l s ks) ns h told =
    let ms = eff s ns in
    tells-choice ms (is_tag l.name) (λ n. fits rules path (read n ns (inner_node l s ks))) (λ n. false) (node_fits rules path (inner_node l s ks)) false told (tells-same ms false h.stamp.some)
kid-tells rules path (leaf_node l s xs) ns h told =
    let ms = eff s ns in
    tells-choice ms (is_tag l.name) (λ n. fits rules path (read n ns (leaf_node l s xs))) (λ n. has_no_keys l.keys && is_scalar (body_at n ms xs)) (node_fits rules path (leaf_node l s xs)) (is_attr_node (leaf_node l s xs)) told
    (tells-and ms (λ n. has_no_keys l.keys) (λ n. is_scalar (body_at n ms xs)) (has_no_keys l.keys) (list_all (λ (x : PlainAlt). is_scalar x.body) xs) (tells-same ms (has_no_keys l.keys) h.stamp.some) (alts-tell is_scalar xs ms h.alts))

-- a test of a row that has the kid or does not
each-cond : (b : Bool) (rules : List PlainRule) (path : List (List ℕ)) (k : PlainKeyed) (ks : PlainKids)
    → each_fits rules path (cond b (kid k ks) ks) ≡ cond b (cond (is_tag (label_of k).name) (fits rules path k) (is_attr_leaf k) && each_fits rules path ks) (each_fits rules path ks)
each-cond true rules path k ks = refl
each-cond false rules path k ks = refl

mutual
  pub fits-tell : (rules : List PlainRule) (context : List (List ℕ)) (k : PlainNode) (ps : List ℕ) → Ascends nat_cmp ps → IsNodeWell k ps → Tells (eff (node_stamp k) ps) (λ n. fits rules context (read n ps k)) (node_fits rules context k)
  fits-tell rules context (leaf_node l s xs) ps up h =
      let ns = eff s ps in
      let path = below context (name_bytes l.name) in
      let rule = rule_of rules context (name_bytes l.name) in
      let k = leaf_node l s xs in
      let keys = keys-tell rule l.keys k ps up h in
      tells-and ns (λ n. is_tag l.name) _ (is_tag l.name) _ (tells-same ns (is_tag l.name) h.stamp.some)
      (tells-and ns (λ n. has_keys rule l.keys (read n ps k)) (λ n. is_frontier rules path && is_content (body_at n ns xs)) (node_has_keys rule l.keys k) _ keys
      (tells-and ns (λ n. is_frontier rules path) (λ n. is_content (body_at n ns xs)) (is_frontier rules path) (list_all (λ (x : PlainAlt). is_content x.body) xs) (tells-same ns (is_frontier rules path) h.stamp.some) (alts-tell is_content xs ns h.alts)))
  fits-tell rules context (inner_node l s ks) ps up h =
      let ns = eff s ps in
      let path = below context (name_bytes l.name) in
      let rule = rule_of rules context (name_bytes l.name) in
      let k = inner_node l s ks in
      let keys = keys-tell rule l.keys k ps up h in
      let rise = eff-ascends s ps up h.stamp in
      let kids = each-tell rules path ks ns rise h.kids h.stamp.some in
      let asc = tells-besides ns (λ n. ascend (read_row n ns ks)) (λ n. each_fits rules path (read_row n ns ks)) (nodes_fit rules path ks) (λ n m. all-ascend (read_row n ns ks) (read_ascends n ns ks h.ascending)) kids in
      tells-and ns (λ n. is_tag l.name) _ (is_tag l.name) _ (tells-same ns (is_tag l.name) h.stamp.some)
      (tells-and ns (λ n. has_keys rule l.keys (read n ps k)) (λ n. not (is_frontier rules path) && (ascend (read_row n ns ks) && each_fits rules path (read_row n ns ks))) (node_has_keys rule l.keys k) _ keys
      (tells-and ns (λ n. not (is_frontier rules path)) (λ n. ascend (read_row n ns ks) && each_fits rules path (read_row n ns ks)) (not (is_frontier rules path)) (nodes_fit rules path ks) (tells-same ns (not (is_frontier rules path)) h.stamp.some) asc))

  each-tell : (rules : List PlainRule) (path : List (List ℕ)) (ks : PlainNodes) (ns : List ℕ) → Ascends nat_cmp ns → AreNodesWell ks ns → ns ≢ [] → Tells ns (λ n. each_fits rules path (read_row n ns ks)) (nodes_fit rules path ks)
  each-tell rules path no_nodes ns up h some = tells-same ns true some
  each-tell rules path (node k ks) ns up h some =
      let ms = eff (node_stamp k) ns in
      let one = kid-tells rules path k ns h.0 (fits-tell rules path k ns up h.0) in
      let rest = each-tell rules path ks ns up h.1 some in
      let ok = λ (n : ℕ). cond (is_tag (label_of (read n ns k)).name) (fits rules path (read n ns k)) (is_attr_leaf (read n ns k)) in
      let row = λ (n : ℕ). each_fits rules path (read_row n ns ks) in
      tells-as ns (λ n. each_fits rules path (read_row n ns (node k ks))) (λ n. cond (has ms n) (ok n && row n) (row n)) (nodes_fit rules path (node k ks))
      (λ n m. each-cond (has ms n) rules path (read n ns k) (read_row n ns ks))
      (tells-part ns ms ok row (cond (is_tag (node_label k).name) (node_fits rules path k) (is_attr_node k)) (nodes_fit rules path ks) (stamp-of k ns h.0).within one rest)

-- ---- levels

-- the level of a kid, which counts where it is an element
onto-le : (n : PlainName) (p : PlainTree) (rest : PlainTrees) (d : ℕ) → nat_le (trees_depth (item_onto n p rest)) d ≡ (cond (is_tag n) (nat_le (tree_depth p) d) true && nat_le (trees_depth rest) d)
onto-le (attr s) p rest d = refl
onto-le (tag s) p rest d = both-le (tree_depth p) (trees_depth rest) d

row-le : (b : Bool) (k : PlainKeyed) (ks : PlainKids) (d : ℕ)
    → nat_le (trees_depth (items_among (cond b (kid k ks) ks))) d ≡ cond b (cond (is_tag (label_of k).name) (nat_le (tree_depth (plain k)) d) true && nat_le (trees_depth (items_among ks)) d) (nat_le (trees_depth (items_among ks)) d)
row-le true k ks d = onto-le (label_of k).name (plain k) (items_among ks) d
row-le false k ks d = refl

kid-level : (d : ℕ) (k : PlainNode) (ns : List ℕ) → IsNodeWell k ns → Tells (eff (node_stamp k) ns) (λ n. nat_le (tree_depth (plain (read n ns k))) d) (is_shallow d k)
    → Tells (eff (node_stamp k) ns) (λ n. cond (is_tag (label_of (read n ns k)).name) (nat_le (tree_depth (plain (read n ns k))) d) true) (cond (is_tag (node_label k).name) (is_shallow d k) true)
kid-level d (inner_node l s ks) ns h told = tells-choice (eff s ns) (is_tag l.name) (λ n. nat_le (tree_depth (plain (read n ns (inner_node l s ks)))) d) (λ n. true) (is_shallow d (inner_node l s ks)) true told (tells-same (eff s ns) true h.stamp.some)
kid-level d (leaf_node l s xs) ns h told = tells-choice (eff s ns) (is_tag l.name) (λ n. nat_le (tree_depth (plain (read n ns (leaf_node l s xs)))) d) (λ n. true) (is_shallow d (leaf_node l s xs)) true told (tells-same (eff s ns) true h.stamp.some)

mutual
  pub level-tells : (d : ℕ) (k : PlainNode) (ps : List ℕ) → IsNodeWell k ps → Tells (eff (node_stamp k) ps) (λ n. nat_le (tree_depth (plain (read n ps k))) d) (is_shallow d k)
  level-tells d (leaf_node l s xs) ps h =
      let ns = eff s ps in
      tells-as ns (λ n. nat_le (suc (content_depth (content_of (body_at n ns xs)))) d) (λ n. nat_lt (content_depth (content_of (body_at n ns xs))) d) (is_shallow d (leaf_node l s xs))
      (λ n m. above-le (content_depth (content_of (body_at n ns xs))) d) (alts-tell (λ b. nat_lt (content_depth (content_of b)) d) xs ns h.alts)
  level-tells d (inner_node l s ks) ps h =
      let ns = eff s ps in
      let row = λ (n : ℕ). trees_depth (items_among (read_row n ns ks)) in
      tells-as ns (λ n. nat_le (suc (row n)) d) (λ n. nat_lt 0 d && nat_le (row n) (d - 1)) (is_shallow d (inner_node l s ks)) (λ n m. inside-le (row n) d)
      (tells-and ns (λ n. nat_lt 0 d) (λ n. nat_le (row n) (d - 1)) (nat_lt 0 d) (are_shallow (d - 1) ks) (tells-same ns (nat_lt 0 d) h.stamp.some) (levels-tell (d - 1) ks ns h.kids h.stamp.some))

  levels-tell : (d : ℕ) (ks : PlainNodes) (ns : List ℕ) → AreNodesWell ks ns → ns ≢ [] → Tells ns (λ n. nat_le (trees_depth (items_among (read_row n ns ks))) d) (are_shallow d ks)
  levels-tell d no_nodes ns h some = tells-as ns (λ n. nat_le 0 d) (λ n. true) true (λ n m. zero-le d) (tells-same ns true some)
  levels-tell d (node k ks) ns h some =
      let ms = eff (node_stamp k) ns in
      let ok = λ (n : ℕ). cond (is_tag (label_of (read n ns k)).name) (nat_le (tree_depth (plain (read n ns k))) d) true in
      let row = λ (n : ℕ). nat_le (trees_depth (items_among (read_row n ns ks))) d in
      tells-as ns (λ n. nat_le (trees_depth (items_among (read_row n ns (node k ks)))) d) (λ n. cond (has ms n) (ok n && row n) (row n)) (are_shallow d (node k ks))
      (λ n m. row-le (has ms n) (read n ns k) (read_row n ns ks) d)
      (tells-part ns ms ok row (cond (is_tag (node_label k).name) (is_shallow d k) true) (are_shallow d ks) (stamp-of k ns h.0).within (kid-level d k ns h.0 (level-tells d k ns h.0)) (levels-tell d ks ns h.1 some))
