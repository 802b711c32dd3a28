-- The versions that are read out of parts that meet the conditions.
use Rattle.std.proofs.Common.{◌≡◌, ◌≢◌, ◌↔◌, ◌+◌, ℕ, zero, suc, true, false, cond, List, [], ◌∷◌, map, length, Option, Some, None, IsTrue, refl, ap, sym, subst, ◌∙◌, inl, inr}
use Rattle.std.specs.List.{AllByRecursion, enumerate_from, range_with_len}
use Rattle.std.specs.Option.{unwrap_or, option_and_then}
use Rattle.std.specs.Ordering.{nat_cmp}
use Rattle.version_set.specs.Members.{has}
use Rattle.keyed_tree.specs.Alike.{IsInner, Alike}
use Rattle.keyed_tree.specs.Data.{tag, PlainLabel, PlainKeyed, inner, leaf, label_of, no_kids, kid, kids_list}
use Rattle.keyed_tree.specs.Kids.{are_ordered, IsOrdered, kid_at}
use Rattle.keyed_tree.specs.Laws.{label_cmp_total}
use Rattle.keyed_tree.specs.Lists.{Ascends, Has}
use Rattle.keyed_tree.specs.Order.{label_cmp}
use Rattle.keyed_tree.specs.Paths.{node_at}
use Rattle.keyed_tree.specs.Proper.{is_tag, IsElement}
use Rattle.jsonml_tree.proofs.Lists.{all_has, has_map, source}
use Rattle.keyed_tree.proofs.Kids.{all-ascend, has_found}
use Rattle.archive_tree.specs.Data.{eff, PlainNode, inner_node, leaf_node, PlainNodes, no_nodes, node, node_label, node_stamp, nodes_list, PlainArchive}
use Rattle.archive_tree.specs.Stands.{nums, rooted, numbered, passed, labels, StandsFor, Kept}
use Rattle.archive_tree.specs.Parts.{IsNodeWell, AreNodesWell, IsArchive}
use Rattle.archive_tree.specs.Read.{read, read_row, read_root}
use Rattle.archive_tree.proofs.Numbers.{has-Has, Has-has, range-ascend}
use Rattle.archive_tree.proofs.Parts.{has_each}
use Rattle.archive_tree.proofs.Those.{labelled, those_ascend, rooted_has, has_rooted}
use Rattle.archive_tree.proofs.Readings.{read_label, read_ascends, origin, root_reads}
use Rattle.archive_tree.proofs.Sufficient.{one_item, readings, nums-readings, readings_has, has_readings, same_pairs, first_pair, one_part, nodes_stand}

-- ---- what is read is ordered

mutual
  read_ordered : (n : ℕ) (ps : List ℕ) (k : PlainNode) → IsNodeWell k ps → IsOrdered (read n ps k)
  read_ordered n ps (inner_node l s ks) h =
      let up = all-ascend (read_row n (eff s ps) ks) (read_ascends n (eff s ps) ks h.ascending) in
      rw up (row_ordered n (eff s ps) ks h.kids)
  read_ordered n ps (leaf_node l s xs) h = refl

  row_ordered : (n : ℕ) (ns : List ℕ) (ks : PlainNodes) → AreNodesWell ks ns → IsTrue (are_ordered (read_row n ns ks))
  row_ordered n ns no_nodes h = refl
  row_ordered n ns (node k ks) h =
      let first = read_ordered n ns k h.0 in
      let rest = row_ordered n ns ks h.1 in
      elim (has (eff (node_stamp k) ns) n) as (λ b. IsTrue (are_ordered (cond b (kid (read n ns k) (read_row n ns ks)) (read_row n ns ks)))) [ true ↦ rw first rest | false ↦ rest ]

-- ---- what is read at two numbers is alike

nodes_well_has : (ks : PlainNodes) (ns : List ℕ) (c : PlainNode) → AreNodesWell ks ns → Has c (nodes_list ks) → IsNodeWell c ns
nodes_well_has no_nodes ns c h m = absurd m
nodes_well_has (node k ks) ns c h m = elim m [ inl e ↦ subst (λ z. IsNodeWell z ns) e h.0 | inr i ↦ nodes_well_has ks ns c h.1 i ]

-- the node that a kid at a label is read from
record Kid (i : ℕ) (ns : List ℕ) (ks : PlainNodes) (l : PlainLabel) (t : PlainKeyed) : Type 0 where
  pub node : PlainNode
  pub among : Has node (nodes_list ks)
  pub label : node_label node ≡ l
  pub gives : read i ns node ≡ t

kid_from : (i : ℕ) (ns : List ℕ) (ks : PlainNodes) (l : PlainLabel) (t : PlainKeyed) → kid_at l (kids_list (read_row i ns ks)) ≡ Some t → Kid i ns ks l t
kid_from i ns ks l t e =
    let found = has_found l t (kids_list (read_row i ns ks)) e in
    let o = origin i ns ks t found.0 in
    record { node = o.node; among = o.among; label = sym (read_label i ns o.node) ∙ ap label_of o.gives ∙ found.1; gives = o.gives }

abbrev SameKinds : List PlainLabel → Type 0
SameKinds path = (k : PlainNode) (ps : List ℕ) → IsNodeWell k ps → (i j : ℕ) (x y : PlainKeyed) → node_at path (read i ps k) ≡ Some x → node_at path (read j ps k) ≡ Some y → IsInner x ↔ IsInner y

some_is : (a b : PlainKeyed) → Some a ≡ Some b → a ≡ b
some_is a b e = cc

kinds_here : SameKinds []
kinds_here (inner_node l s ks) ps h i j x y e d = (λ p. subst IsInner (some_is _ y d) tt, λ p. subst IsInner (some_is _ x e) tt)
kinds_here (leaf_node l s xs) ps h i j x y e d = (λ p. absurd (subst IsInner (sym (some_is _ x e)) p), λ p. absurd (subst IsInner (sym (some_is _ y d)) p))

-- both ways lead through one node
through : (l : PlainLabel) (ls : List PlainLabel) (ks : PlainNodes) (ns : List ℕ) → SameKinds ls → Ascends label_cmp (labels ks) → AreNodesWell ks ns → (i j : ℕ) (x y : PlainKeyed)
    → (o p : Option PlainKeyed) → kid_at l (kids_list (read_row i ns ks)) ≡ o → kid_at l (kids_list (read_row j ns ks)) ≡ p → option_and_then (node_at ls) o ≡ Some x → option_and_then (node_at ls) p ≡ Some y → IsInner x ↔ IsInner y
through l ls ks ns below up h i j x y None p e d f g = absurd (none_is x f)
  where
    none_is : (b : PlainKeyed) → ¬ (None ≡ Some b)
    none_is b q = cc
through l ls ks ns below up h i j x y (Some s) None e d f g = absurd (none_is y g)
  where
    none_is : (b : PlainKeyed) → ¬ (None ≡ Some b)
    none_is b q = cc
through l ls ks ns below up h i j x y (Some s) (Some t) e d f g =
    let one = kid_from i ns ks l s e in
    let two = kid_from j ns ks l t d in
    let same : two.node ≡ one.node = one_item node_label label_cmp_total (nodes_list ks) two.node one.node up two.among one.among (two.label ∙ sym one.label) in
    let mine : node_at ls (read i ns one.node) ≡ Some x = ap (node_at ls) one.gives ∙ f in
    let theirs : node_at ls (read j ns one.node) ≡ Some y = ap (λ z. node_at ls (read j ns z)) (sym same) ∙ ap (node_at ls) two.gives ∙ g in
    below one.node ns (nodes_well_has ks ns one.node h one.among) i j x y mine theirs

kinds_below : (l : PlainLabel) (ls : List PlainLabel) → SameKinds ls → SameKinds (l ∷ ls)
kinds_below l ls below (inner_node m s ks) ps h i j x y e d = through l ls ks (eff s ps) below h.ascending h.kids i j x y _ _ refl refl e d
kinds_below l ls below (leaf_node m s xs) ps h i j x y e d = absurd (none_is x e)
  where
    none_is : (b : PlainKeyed) → ¬ (None ≡ Some b)
    none_is b q = cc

same_kinds : (path : List PlainLabel) → SameKinds path
same_kinds [] = kinds_here
same_kinds (l ∷ ls) = kinds_below l ls (same_kinds ls)

-- ---- the versions

-- what stands where nothing is read
abbrev nothing : PlainKeyed
nothing = inner (record { name = tag []; keys = [] }) no_kids

numbered-readings : (f : ℕ → PlainKeyed) (m k : ℕ) → enumerate_from m (map f (range_with_len m k)) ≡ readings f (range_with_len m k)
numbered-readings f m zero = refl
numbered-readings f m (suc k) = ap (λ z. (m, f m) ∷ z) (numbered-readings f (m + 1) k)

length-range : (f : ℕ → PlainKeyed) (m k : ℕ) → length (map f (range_with_len m k)) ≡ k
length-range f m zero = refl
length-range f m (suc k) = (let e = length-range f (m + 1) k in rw e refl)

all_map : (P : PlainKeyed → Type 0) (f : ℕ → PlainKeyed) (ns : List ℕ) → ((n : ℕ) → Has n ns → P (f n)) → AllByRecursion P (map f ns)
all_map P f [] h = tt
all_map P f (n ∷ ns) h = (h n (inl refl), all_map P f ns (λ i m. h i (inr m)))

element_of : (t : PlainKeyed) → IsTrue (is_tag (label_of t).name) → IsElement t
element_of (inner l ks) h = h
element_of (leaf l b) h = h

module _ (a : PlainArchive) (h : IsArchive a) where
  abbrev all : List ℕ
  all = range_with_len 1 a.n

  abbrev pub version_at : ℕ → PlainKeyed
  version_at i = unwrap_or (read_root i (range_with_len 1 a.n) a.kids) nothing

  -- what a kid of the root with the number reads is the version
  at_root : (i : ℕ) (k : PlainNode) → Has k (nodes_list a.kids) → Has i (eff (node_stamp k) (range_with_len 1 a.n)) → version_at i ≡ read i (range_with_len 1 a.n) k
  at_root i k m n =
      let ns = range_with_len 1 a.n in
      let one = λ (j : PlainNode) (x : Has j (nodes_list a.kids)) (e : has (eff (node_stamp j) ns) i ≡ true). ap (read i ns) (one_part (λ z. eff (node_stamp z) ns) (nodes_list a.kids) j k i h.parts.apart x m (has-Has (eff (node_stamp j) ns) i e) n) in
      let found : read_root i ns a.kids ≡ Some (read i ns k) = root_reads i ns (read i ns k) a.kids one k m (Has-has (eff (node_stamp k) ns) i n) in
      ap (λ o. unwrap_or o nothing) found

  -- the kid of the root that has the number
  kid_of : (i : ℕ) → Has i (range_with_len 1 a.n) → (k : PlainNode) × (Has k (nodes_list a.kids) × Has i (eff (node_stamp k) (range_with_len 1 a.n)) × (version_at i ≡ read i (range_with_len 1 a.n) k))
  kid_of i m =
      let ns = range_with_len 1 a.n in
      let some = h.parts.whole i m in
      let from = source (λ k. eff (node_stamp k) ns) some.0 (nodes_list a.kids) some.1.0 in
      let n = subst (Has i) (sym from.is) some.1.1 in
      (from.item, (from.has, n, at_root i from.item from.has n))

  abbrev versions : List PlainKeyed
  versions = map version_at (range_with_len 1 a.n)

  versions_numbered : numbered (map version_at (range_with_len 1 a.n)) ≡ readings version_at (range_with_len 1 a.n)
  versions_numbered = numbered-readings version_at 1 a.n

  label_at : (i : ℕ) (k : PlainNode) → version_at i ≡ read i (range_with_len 1 a.n) k → label_of (version_at i) ≡ node_label k
  label_at i k e = ap label_of e ∙ read_label i (range_with_len 1 a.n) k

  rooted-readings : (c : PlainNode) → Has c (nodes_list a.kids) → Ascends nat_cmp (eff (node_stamp c) (range_with_len 1 a.n)) → ((n : ℕ) → Has n (eff (node_stamp c) (range_with_len 1 a.n)) → Has n (range_with_len 1 a.n))
      → rooted (readings version_at (range_with_len 1 a.n)) (node_label c) ≡ readings (λ i. read i (range_with_len 1 a.n) c) (eff (node_stamp c) (range_with_len 1 a.n))
  rooted-readings c k part inside =
      let ns = range_with_len 1 a.n in
      let ws = readings version_at ns in
      let set = eff (node_stamp c) ns in
      let g = λ (i : ℕ). read i ns c in
      same_pairs (rooted ws (node_label c)) (readings g set)
      (those_ascend (passed (labelled (node_label c))) ws (subst (Ascends nat_cmp) (sym (nums-readings version_at ns)) (range-ascend 1 a.n)))
      (subst (Ascends nat_cmp) (sym (nums-readings g set)) part)
      (λ w m. (
      let at = rooted_has w.0 w.1 (node_label c) ws m in
      let reading = readings_has version_at ns w.0 w.1 at.0 in
      let own = kid_of w.0 reading.0 in
      let same : own.0 ≡ c = one_item node_label label_cmp_total (nodes_list a.kids) own.0 c h.ascending own.1.0 k (sym (label_at w.0 own.0 own.1.2) ∙ ap label_of reading.1 ∙ at.1) in
      let here : Has w.0 set = subst (λ z. Has w.0 (eff (node_stamp z) ns)) same own.1.1 in
      let tree : read w.0 ns c ≡ w.1 = sym (at_root w.0 c k here) ∙ reading.1 in
      subst (λ z. Has (w.0, z) (readings g set)) tree (has_readings g set w.0 here)))
      (λ w m. (
      let reading = readings_has g set w.0 w.1 m in
      let tree : version_at w.0 ≡ w.1 = at_root w.0 c k reading.0 ∙ reading.1 in
      let there : Has (w.0, w.1) ws = subst (λ z. Has (w.0, z) ws) tree (has_readings version_at ns w.0 (inside w.0 reading.0)) in
      let label : label_of w.1 ≡ node_label c = ap label_of (sym reading.1) ∙ read_label w.0 ns c in
      subst (λ z. Has (w.0, w.1) (rooted ws z)) label (has_rooted w.0 w.1 ws there)))

  root_covered : (l : PlainLabel) → rooted (readings version_at (range_with_len 1 a.n)) l ≢ [] → Has l (labels a.kids)
  root_covered l s =
      let ns = range_with_len 1 a.n in
      let ws = readings version_at ns in
      let some = first_pair (rooted ws l) s in
      let at = rooted_has some.0.0 some.0.1 l ws some.1 in
      let reading = readings_has version_at ns some.0.0 some.0.1 at.0 in
      let own = kid_of some.0.0 reading.0 in
      subst (λ z. Has z (labels a.kids)) (sym (label_at some.0.0 own.0 own.1.2) ∙ ap label_of reading.1 ∙ at.1) (has_map node_label own.0 (nodes_list a.kids) own.1.0)

  alike_at : (i j : ℕ) → Has i (range_with_len 1 a.n) → Has j (range_with_len 1 a.n) → Alike (version_at i) (version_at j)
  alike_at i j m n [] x y e d = absurd e
  alike_at i j m n (l ∷ ls) x y e d =
      let ns = range_with_len 1 a.n in
      let mine = kid_of i m in
      let theirs = kid_of j n in
      let same : theirs.0 ≡ mine.0 = one_item node_label label_cmp_total (nodes_list a.kids) theirs.0 mine.0 h.ascending theirs.1.0 mine.1.0 (sym (label_at j theirs.0 theirs.1.2) ∙ d.0 ∙ sym e.0 ∙ label_at i mine.0 mine.1.2) in
      let one : node_at ls (read i ns mine.0) ≡ Some x = ap (node_at ls) (sym mine.1.2) ∙ e.1 in
      let two : node_at ls (read j ns mine.0) ≡ Some y = ap (λ z. node_at ls (read j ns z)) (sym same) ∙ ap (node_at ls) (sym theirs.1.2) ∙ d.1 in
      same_kinds ls mine.0 ns (nodes_well_has a.kids ns mine.0 h.kids mine.1.0) i j x y one two

  -- parts that meet the conditions are those of an archive
  pub sufficient : Kept a
  sufficient =
      let ns = range_with_len 1 a.n in
      let ws = readings version_at ns in
      let same : numbered (map version_at ns) ≡ ws = versions_numbered in
      record {
        versions = map version_at ns;
        is = record {
          count = length-range version_at 1 a.n;
          ordered = all_map IsOrdered version_at ns (λ i m. (let own = kid_of i m in subst IsOrdered (sym own.1.2) (read_ordered i ns own.0 (nodes_well_has a.kids ns own.0 h.kids own.1.0))));
          elements = all_map IsElement version_at ns (λ i m. (let own = kid_of i m in element_of (version_at i) (subst (λ (z : PlainLabel). IsTrue (is_tag z.name)) (sym (label_at i own.0 own.1.2)) (all_has (λ k. IsTrue (is_tag (node_label k).name)) (nodes_list a.kids) own.0 h.elements own.1.0))));
          alike = λ k j m n. (
              let one = source version_at k ns m in
              let two = source version_at j ns n in
              subst (λ z. Alike z j) one.is (subst (λ z. Alike (version_at one.item) z) two.is (alike_at one.item two.item one.has two.has)));
          row = record {
            ascending = h.ascending;
            kids = has_each a.kids (rooted (numbered (map version_at ns))) (nums (numbered (map version_at ns))) (λ c k. (
                let stands = nodes_stand a.kids ns (range-ascend 1 a.n) h.kids c k in
                let inner = subst (λ z. StandsFor c z ns) (sym (rooted-readings c k stands.0 stands.1)) stands.2 in
                let named = subst (λ z. StandsFor c (rooted z (node_label c)) ns) (sym same) inner in
                subst (λ z. StandsFor c (rooted (numbered (map version_at ns)) (node_label c)) z) (sym (ap nums same ∙ nums-readings version_at ns)) named));
            covered = λ l s. root_covered l (subst (λ z. rooted z l ≢ []) same s);
          };
        };
      }
