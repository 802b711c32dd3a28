-- The nodes of an archive meet the conditions on parts.
use Rattle.std.proofs.Common.{◌≡◌, ◌≢◌, ◌+◌, ℕ, true, List, [], ◌∷◌, map, Option, IsTrue, refl, ap, sym, subst, ◌∙◌, inl, inr, true≢false}
use Rattle.std.specs.List.{AllByRecursion, enumerate_from}
use Rattle.std.specs.Ordering.{nat_cmp}
use Rattle.std.specs.declared.cmp.Ordering.TheVariants.{Less}
use Rattle.keyed_tree.specs.Alike.{IsLeaf}
use Rattle.keyed_tree.specs.Data.{PlainKey, PlainLabel, PlainKeyed, inner, leaf, label_of, kids_of}
use Rattle.keyed_tree.specs.Kids.{kid_at}
use Rattle.keyed_tree.specs.Laws.{label_cmp_total, key_cmp-is_eq}
use Rattle.keyed_tree.specs.Lists.{Ascends, Has}
use Rattle.keyed_tree.specs.Order.{label_cmp}
use Rattle.keyed_tree.specs.Proper.{is_tag, IsElement}
use Rattle.jsonml_tree.proofs.Lists.{all_has, has_all, has_map, source, not_itself}
use Rattle.archive_tree.specs.Data.{Stamp, eff, PlainAlt, PlainNode, inner_node, leaf_node, PlainNodes, no_nodes, node, node_label, node_stamp, nodes_list, PlainArchive}
use Rattle.archive_tree.specs.Stands.{AllDiffer, nums, those, passed, has_body, nums_with, under, rooted, numbered, first_num, bodies, Stamped, AltStands, StandsFor, EachStands, ArchiveOf}
use Rattle.archive_tree.specs.Parts.{IsStampWell, Apart, AllApart, alt_sets, AreAltsWell, IsNodeWell, AreNodesWell, IsArchive}
use Rattle.archive_tree.proofs.Parts.{stands_some, stands_nums}
use Rattle.archive_tree.proofs.Those.{labelled, those_has, has_those, nums_has, has_nums, one_tree, passed_true, passes, has_rooted, rooted_has, Orderly, orderly_under, orderly_rooted, orderly_numbered}
use Rattle.archive_tree.proofs.Readings.{own_body, some_has, all_numbers, numbers, root_stands}

no_nums : (ws : List (ℕ × PlainKeyed)) → ws ≢ [] → nums ws ≢ []
no_nums [] h e = h refl
no_nums (w ∷ ws) h e = cc

stamp_well : (s : Stamp) (ns ps : List ℕ) → ns ≢ [] → ((n : ℕ) → Has n ns → Has n ps) → Stamped s ns ps → IsStampWell s ps
stamp_well s ns ps some within h = record {
  some = subst (λ z. z ≢ []) (sym h.effective) some;
  within = λ n m. within n (subst (Has n) h.effective m);
  differs = λ i. subst (λ z. z ≢ ps) (sym h.effective) (h.stored.0 i);
  canonical = h.canonical;
}

-- a number that is picked is one of the list
picked_within : (f : PlainKeyed → Option PlainKeyed) (ws : List (ℕ × PlainKeyed)) (n : ℕ) → Has n (nums (those f ws)) → Has n (nums ws)
picked_within f ws n m = (let found = nums_has n (those f ws) m in let from = those_has f n found.tree ws found.has in has_nums n from.tree ws from.has)

-- ---- leaves

-- the tree that has the body at the number
pub record BodyAt (b : PlainKey) (n : ℕ) (ws : List (ℕ × PlainKeyed)) : Type 0 where
  pub tree : PlainKeyed
  pub has : Has (n, tree) ws
  pub is : has_body b tree ≡ true

pub body_there : (b : PlainKey) (n : ℕ) (ws : List (ℕ × PlainKeyed)) → Has n (nums_with ws b) → BodyAt b n ws
body_there b n ws m =
    let f = passed (has_body b) in
    let found = nums_has n (those f ws) m in
    let from = those_has f n found.tree ws found.has in
    record { tree = from.tree; has = from.has; is = passed_true (has_body b) from.tree found.tree from.gives }

pub there_body : (b : PlainKey) (n : ℕ) (t : PlainKeyed) (ws : List (ℕ × PlainKeyed)) → Has (n, t) ws → has_body b t ≡ true → Has n (nums_with ws b)
there_body b n t ws m e = (let f = passed (has_body b) in has_nums n t (those f ws) (has_those f n t t ws m (passes (has_body b) t e)))

pub one_body : (b d : PlainKey) (t : PlainKeyed) → has_body b t ≡ true → has_body d t ≡ true → b ≡ d
one_body b d (inner l ks) h g = absurd (true≢false (sym h))
one_body b d (leaf l c) h g = sym ((key_cmp-is_eq c b).0 h) ∙ (key_cmp-is_eq c d).0 g

module _ (ws : List (ℕ × PlainKeyed)) (orderly : Orderly ws) where
  alt_apart : (x y : PlainAlt) → x.body ≢ y.body → AltStands x ws → AltStands y ws → Apart (eff x.stamp (nums ws)) (eff y.stamp (nums ws))
  alt_apart x y differ h g n m k =
      let mine = body_there x.body n ws (subst (Has n) h.stamped.effective m) in
      let theirs = body_there y.body n ws (subst (Has n) g.stamped.effective k) in
      let same : mine.tree ≡ theirs.tree = one_tree n mine.tree theirs.tree ws orderly.ascending mine.has theirs.has in
      differ (one_body x.body y.body theirs.tree (subst (λ z. has_body x.body z ≡ true) same mine.is) theirs.is)

  first_apart : (x : PlainAlt) (ys : List PlainAlt) → AltStands x ws → AllByRecursion (λ b. x.body ≢ b) (bodies ys) → AllByRecursion (λ a. AltStands a ws) ys → AllByRecursion (Apart (eff x.stamp (nums ws))) (alt_sets (nums ws) ys)
  first_apart x [] h d g = tt
  first_apart x (y ∷ ys) h d g = (alt_apart x y d.0 h g.0, first_apart x ys h d.1 g.1)

  alts_apart : (xs : List PlainAlt) → AllDiffer (bodies xs) → AllByRecursion (λ a. AltStands a ws) xs → AllApart (alt_sets (nums ws) xs)
  alts_apart [] d h = tt
  alts_apart (x ∷ xs) d h = (first_apart x xs h.0 d.0 h.1, alts_apart xs d.1 h.1)

  alts_stamped : (xs : List PlainAlt) → AllByRecursion (λ a. AltStands a ws) xs → AllByRecursion (λ a. IsStampWell a.stamp (nums ws)) xs
  alts_stamped [] h = tt
  alts_stamped (x ∷ xs) h = (stamp_well x.stamp (nums_with ws x.body) (nums ws) h.0.some (picked_within (passed (has_body x.body)) ws) h.0.stamped, alts_stamped xs h.1)

  alts_well : (xs : List PlainAlt) → AllByRecursion (λ w. IsLeaf w.1) ws → AllDiffer (bodies xs) → Ascends nat_cmp (map (first_num (nums ws)) xs) → AllByRecursion (λ a. AltStands a ws) xs
      → ((b : PlainKey) → nums_with ws b ≢ [] → Has b (bodies xs)) → AreAltsWell xs (nums ws)
  alts_well xs leaves d o h covered = record {
    stamps = alts_stamped xs h;
    parts = record {
      apart = alts_apart xs d h;
      inside = λ s m n i. (
          let from = source (λ (a : PlainAlt). eff a.stamp (nums ws)) s xs m in
          let a = all_has (λ a. AltStands a ws) xs from.item h from.has in
          picked_within (passed (has_body from.item.body)) ws n (subst (Has n) (sym from.is ∙ a.stamped.effective) i));
      whole = λ n m. (
          let at = nums_has n ws m in
          let own = own_body at.tree (all_has (λ w. IsLeaf w.1) ws (n, at.tree) leaves at.has) in
          let there = there_body own.body n at.tree ws at.has own.is in
          let from = source (λ (a : PlainAlt). a.body) own.body xs (covered own.body (some_has (nums_with ws own.body) n there)) in
          let a = all_has (λ a. AltStands a ws) xs from.item h from.has in
          (eff from.item.stamp (nums ws), (has_map (λ (a : PlainAlt). eff a.stamp (nums ws)) from.item xs from.has, subst (Has n) (sym a.stamped.effective) (subst (λ b. Has n (nums_with ws b)) (sym from.is) there))));
    };
    different = d;
    in_order = o;
  }

-- ---- nodes

mutual
  node_well : (k : PlainNode) (ws : List (ℕ × PlainKeyed)) (ps : List ℕ) → Orderly ws → ((n : ℕ) → Has n (nums ws) → Has n ps) → StandsFor k ws ps → IsNodeWell k ps
  node_well (inner_node l s ks) ws ps o within h =
      let set : eff s ps ≡ nums ws = h.common.stamped.effective in
      record {
        stamp = stamp_well s (nums ws) ps (no_nums ws h.common.some) within h.common.stamped;
        ascending = h.row.ascending;
        kids = subst (AreNodesWell ks) (sym set) (nodes_well ks (under ws) (nums ws) (λ m. orderly_under ws m o) (λ m n. picked_within (λ t. kid_at m (kids_of t)) ws n) h.row.kids);
      }
  node_well (leaf_node l s xs) ws ps o within h =
      let set : eff s ps ≡ nums ws = h.common.stamped.effective in
      record {
        stamp = stamp_well s (nums ws) ps (no_nums ws h.common.some) within h.common.stamped;
        alts = subst (AreAltsWell xs) (sym set) (alts_well ws o xs h.leaves h.different h.in_order h.alts h.covered);
      }

  nodes_well : (ks : PlainNodes) (u : PlainLabel → List (ℕ × PlainKeyed)) (ns : List ℕ) → ((l : PlainLabel) → Orderly (u l)) → ((l : PlainLabel) (n : ℕ) → Has n (nums (u l)) → Has n ns) → EachStands ks u ns → AreNodesWell ks ns
  nodes_well no_nodes u ns o within h = tt
  nodes_well (node k ks) u ns o within h = (node_well k (u (node_label k)) ns (o (node_label k)) (within (node_label k)) h.0, nodes_well ks u ns o within h.1)

-- ---- the virtual root

item_of : (m n : ℕ) (t : PlainKeyed) (vs : List PlainKeyed) → Has (n, t) (enumerate_from m vs) → Has t vs
item_of m n t [] h = absurd h
item_of m n t (v ∷ vs) h = elim h [ inl e ↦ inl (λ i. (e i).1) | inr k ↦ inr (item_of (m + 1) n t vs k) ]

first_of_list : {X : Type 0} (xs : List X) → xs ≢ [] → (x : X) × Has x xs
first_of_list [] h = absurd (h refl)
first_of_list (x ∷ xs) h = (x, inl refl)

module _ (vs : List PlainKeyed) (a : PlainArchive) (h : ArchiveOf vs a) where
  orderly : Orderly (numbered vs)
  orderly = orderly_numbered vs h.ordered

  root_apart : (k j : PlainNode) → Has k (nodes_list a.kids) → Has j (nodes_list a.kids) → node_label k ≢ node_label j → Apart (eff (node_stamp k) (all_numbers a)) (eff (node_stamp j) (all_numbers a))
  root_apart k j m i differ n p q =
      let mine = nums_has n (rooted (numbered vs) (node_label k)) (subst (Has n) (stands_nums k _ (all_numbers a) (root_stands vs a h k m)) p) in
      let theirs = nums_has n (rooted (numbered vs) (node_label j)) (subst (Has n) (stands_nums j _ (all_numbers a) (root_stands vs a h j i)) q) in
      let one = rooted_has n mine.tree (node_label k) (numbered vs) mine.has in
      let two = rooted_has n theirs.tree (node_label j) (numbered vs) theirs.has in
      let same : mine.tree ≡ theirs.tree = one_tree n mine.tree theirs.tree (numbered vs) orderly.ascending one.0 two.0 in
      differ (sym one.1 ∙ ap label_of same ∙ two.1)

  element_label : (l : PlainLabel) (t : PlainKeyed) → label_of t ≡ l → IsElement t → IsTrue (is_tag l.name)
  element_label l (inner m ks) e h = subst (λ (z : PlainLabel). IsTrue (is_tag z.name)) e h
  element_label l (leaf m b) e h = subst (λ (z : PlainLabel). IsTrue (is_tag z.name)) e h

  element_at : (n : ℕ) (t : PlainKeyed) → Has (n, t) (numbered vs) → IsElement t
  element_at n t m = all_has IsElement vs t h.elements (item_of 1 n t vs m)

  first_root : (k : PlainNode) (js : List PlainNode) → Has k (nodes_list a.kids) → ((j : PlainNode) → Has j js → Has j (nodes_list a.kids)) → AllByRecursion (λ l. label_cmp (node_label k) l ≡ Less) (map node_label js) → AllByRecursion (Apart (eff (node_stamp k) (all_numbers a))) (map (λ j. eff (node_stamp j) (all_numbers a)) js)
  first_root k [] m all up = tt
  first_root k (j ∷ js) m all up = (root_apart k j m (all j (inl refl)) (λ e. not_itself label_cmp_total (node_label k) (subst (λ l. label_cmp (node_label k) l ≡ Less) (sym e) up.0)), first_root k js m (λ i x. all i (inr x)) up.1)

  roots_apart : (js : List PlainNode) → ((j : PlainNode) → Has j js → Has j (nodes_list a.kids)) → Ascends label_cmp (map node_label js) → AllApart (map (λ j. eff (node_stamp j) (all_numbers a)) js)
  roots_apart [] all up = tt
  roots_apart (j ∷ js) all up = (first_root j js (all j (inl refl)) (λ i x. all i (inr x)) up.0, roots_apart js (λ i x. all i (inr x)) up.1)

  root_element : (k : PlainNode) → Has k (nodes_list a.kids) → IsTrue (is_tag (node_label k).name)
  root_element k m =
      let ws = rooted (numbered vs) (node_label k) in
      let some = first_of_list ws (stands_some k ws (all_numbers a) (root_stands vs a h k m)) in
      let at = rooted_has some.0.0 some.0.1 (node_label k) (numbered vs) some.1 in
      element_label (node_label k) some.0.1 at.1 (element_at some.0.0 some.0.1 at.0)

  root_inside : (k : PlainNode) → Has k (nodes_list a.kids) → (n : ℕ) → Has n (eff (node_stamp k) (all_numbers a)) → Has n (all_numbers a)
  root_inside k m n i =
      let ws = rooted (numbered vs) (node_label k) in
      subst (Has n) (numbers vs a h) (picked_within (passed (labelled (node_label k))) (numbered vs) n (subst (Has n) (stands_nums k ws (all_numbers a) (root_stands vs a h k m)) i))

  -- an archive's parts meet the conditions
  pub necessary : IsArchive a
  necessary = record {
    ascending = h.row.ascending;
    elements = has_all (λ k. IsTrue (is_tag (node_label k).name)) (nodes_list a.kids) root_element;
    kids = subst (AreNodesWell a.kids) (numbers vs a h) (nodes_well a.kids (rooted (numbered vs)) (nums (numbered vs)) (λ l. orderly_rooted (numbered vs) l orderly) (λ l n. picked_within (passed (labelled l)) (numbered vs) n) h.row.kids);
    parts = record {
      apart = roots_apart (nodes_list a.kids) (λ j m. m) h.row.ascending;
      inside = λ s m n i. (let from = source (λ k. eff (node_stamp k) (all_numbers a)) s (nodes_list a.kids) m in root_inside from.item from.has n (subst (Has n) (sym from.is) i));
      whole = λ n m. (
          let at = nums_has n (numbered vs) (subst (Has n) (sym (numbers vs a h)) m) in
          let pair = has_rooted n at.tree (numbered vs) at.has in
          let l = label_of at.tree in
          let from = source node_label l (nodes_list a.kids) (h.row.covered l (some_has (rooted (numbered vs) l) (n, at.tree) pair)) in
          let there : Has n (nums (rooted (numbered vs) (node_label from.item))) = subst (λ z. Has n (nums (rooted (numbered vs) z))) (sym from.is) (has_nums n at.tree (rooted (numbered vs) l) pair) in
          (eff (node_stamp from.item) (all_numbers a), (has_map (λ k. eff (node_stamp k) (all_numbers a)) from.item (nodes_list a.kids) from.has, subst (Has n) (sym (stands_nums from.item _ (all_numbers a) (root_stands vs a h from.item from.has))) there)));
    };
  }
