-- Parts that meet the conditions are those of an archive: of the versions that are read out of them.
use Rattle.std.proofs.Common.{◌≡◌, ◌≢◌, ℕ, true, false, cond, List, [], ◌∷◌, map, Some, None, refl, ap, sym, subst, ◌∙◌, inl, inr, true≢false}
use Rattle.std.specs.List.{AllByRecursion}
use Rattle.std.specs.Ordering.{nat_cmp}
use Rattle.std.specs.declared.cmp.Ordering.{Ordering}
use Rattle.std.specs.declared.cmp.Ordering.TheVariants.{Less}
use Rattle.std.specs.Cmp.{IsTotalOrder}
use Rattle.std.proofs.lemmas.Cmp.{nat_cmp_total}
use Rattle.version_set.specs.Members.{has}
use Rattle.keyed_tree.specs.Alike.{IsInner, IsLeaf}
use Rattle.keyed_tree.specs.Data.{PlainKey, PlainLabel, PlainKeyed, inner, leaf, label_of, kids_of, kids_list}
use Rattle.keyed_tree.specs.Kids.{kid_at}
use Rattle.keyed_tree.specs.Laws.{label_cmp_total, key_cmp-is_eq}
use Rattle.keyed_tree.specs.Lists.{Ascends, Has}
use Rattle.keyed_tree.specs.Order.{label_cmp}
use Rattle.jsonml_tree.proofs.Lists.{all_has, has_all, has_map, source, not_itself, same_items}
use Rattle.keyed_tree.proofs.Kids.{found_at, has_found}
use Rattle.archive_tree.specs.Data.{Stamp, eff, PlainAlt, PlainNode, inner_node, leaf_node, PlainNodes, no_nodes, node, node_label, node_stamp, nodes_list}
use Rattle.archive_tree.specs.Stands.{AllDiffer, nums, those, passed, has_body, nums_with, under, first_num, bodies, labels, Stamped, AltStands, StandsFor}
use Rattle.archive_tree.specs.Parts.{IsStampWell, Apart, AllApart, AreAltsWell, IsNodeWell, AreNodesWell}
use Rattle.archive_tree.specs.Read.{body_at, read, read_row}
use Rattle.archive_tree.proofs.Numbers.{has-Has, Has-has, members-ascend, same_numbers}
use Rattle.archive_tree.proofs.Parts.{has_each}
use Rattle.archive_tree.proofs.Those.{number_of, those_ascend, those_has, has_those}
use Rattle.archive_tree.proofs.Readings.{read_label, read_ascends, in_row, origin}
use Rattle.archive_tree.proofs.Necessary.{body_there, there_body}

-- ---- one item of an ascending list by its name

pub one_item : {X K : Type 0} (f : X → K) {R : K → K → Ordering} → IsTotalOrder R → (xs : List X) (x y : X) → Ascends R (map f xs) → Has x xs → Has y xs → f x ≡ f y → x ≡ y
one_item f o [] x y up m n e = absurd m
one_item f {R} o (z ∷ zs) x y up m n e = elim m [
  | inl p ↦ elim n [
    | inl q ↦ sym p ∙ q
    | inr j ↦ absurd (not_itself o (f y) (subst (λ k. R k (f y) ≡ Less) (ap f p ∙ e) (all_has (λ k. R (f z) k ≡ Less) (map f zs) (f y) up.0 (has_map f y zs j))))
  ]
  | inr i ↦ elim n [
    | inl q ↦ absurd (not_itself o (f x) (subst (λ k. R k (f x) ≡ Less) (ap f q ∙ sym e) (all_has (λ k. R (f z) k ≡ Less) (map f zs) (f x) up.0 (has_map f x zs i))))
    | inr j ↦ one_item f o zs x y up.1 i j e
  ]
]

-- ---- what a node reads at each of its numbers

abbrev pub readings : (ℕ → PlainKeyed) → List ℕ → List (ℕ × PlainKeyed)
readings f ns = map (λ i. (i, f i)) ns

pub nums-readings : (f : ℕ → PlainKeyed) (ns : List ℕ) → nums (readings f ns) ≡ ns
nums-readings f [] = refl
nums-readings f (n ∷ ns) = ap (λ z. n ∷ z) (nums-readings f ns)

pub readings_has : (f : ℕ → PlainKeyed) (ns : List ℕ) (n : ℕ) (t : PlainKeyed) → Has (n, t) (readings f ns) → Has n ns × (f n ≡ t)
readings_has f [] n t m = absurd m
readings_has f (i ∷ ns) n t m = elim m [
  | inl e ↦ (let same : i ≡ n = ap (λ (z : ℕ × PlainKeyed). z.0) e in let tree : f i ≡ t = ap (λ (z : ℕ × PlainKeyed). z.1) e in (inl same, ap f (sym same) ∙ tree))
  | inr k ↦ (let rest = readings_has f ns n t k in (inr rest.0, rest.1))
]

pub has_readings : (f : ℕ → PlainKeyed) (ns : List ℕ) (n : ℕ) → Has n ns → Has (n, f n) (readings f ns)
has_readings f ns n m = has_map (λ i. (i, f i)) n ns m

all_readings : (P : PlainKeyed → Type 0) (f : ℕ → PlainKeyed) (ns : List ℕ) → ((n : ℕ) → Has n ns → P (f n)) → AllByRecursion (λ w. P w.1) (readings f ns)
all_readings P f [] h = tt
all_readings P f (n ∷ ns) h = (h n (inl refl), all_readings P f ns (λ i m. h i (inr m)))

-- two lists of numbered trees with ascending numbers and the same items are one
pub same_pairs : (ws vs : List (ℕ × PlainKeyed)) → Ascends nat_cmp (nums ws) → Ascends nat_cmp (nums vs) → ((w : ℕ × PlainKeyed) → Has w ws → Has w vs) → ((w : ℕ × PlainKeyed) → Has w vs → Has w ws) → ws ≡ vs
same_pairs ws vs a b h g = same_items number_of nat_cmp_total ws vs a b h g

eff_ascends : (s : Stamp) (ps : List ℕ) → Ascends nat_cmp ps → IsStampWell s ps → Ascends nat_cmp (eff s ps)
eff_ascends None ps up h = up
eff_ascends (Some t) ps up h = members-ascend t (h.canonical t refl)

some_set : (s : Stamp) (ps ns : List ℕ) → IsStampWell s ps → eff s ps ≡ ns → Stamped s ns ps
some_set None ps ns h e = record { effective = e; stored = (λ i. absurd (true≢false (sym i)), λ d. absurd (d (sym e))); canonical = h.canonical }
some_set (Some t) ps ns h e = record { effective = e; stored = (λ i. subst (λ z. z ≢ ps) e (h.differs i), λ d. refl); canonical = h.canonical }

no_readings : (f : ℕ → PlainKeyed) (ns : List ℕ) → ns ≢ [] → readings f ns ≢ []
no_readings f [] h e = h refl
no_readings f (n ∷ ns) h e = cc

pub first_pair : (ws : List (ℕ × PlainKeyed)) → ws ≢ [] → (w : ℕ × PlainKeyed) × Has w ws
first_pair [] h = absurd (h refl)
first_pair (w ∷ ws) h = (w, inl refl)

first_number : (ns : List ℕ) → ns ≢ [] → (n : ℕ) × Has n ns
first_number [] h = absurd (h refl)
first_number (n ∷ ns) h = (n, inl refl)

stamp_of : (k : PlainNode) (ps : List ℕ) → IsNodeWell k ps → IsStampWell (node_stamp k) ps
stamp_of (inner_node l s ks) ps h = h.stamp
stamp_of (leaf_node l s xs) ps h = h.stamp

-- ---- kids of an inner node

module _ (l : PlainLabel) (ks : PlainNodes) (ns : List ℕ) (up : Ascends label_cmp (labels ks)) where
  -- a kid that is read comes from a node
  from_kid : (i : ℕ) (m : PlainLabel) (t : PlainKeyed) → kid_at m (kids_list (read_row i ns ks)) ≡ Some t → (c : PlainNode) → Has c (nodes_list ks) → node_label c ≡ m → Has i (eff (node_stamp c) ns) × (read i ns c ≡ t)
  from_kid i m t e c k label =
      let found = has_found m t (kids_list (read_row i ns ks)) e in
      let o = origin i ns ks t found.0 in
      let names : node_label o.node ≡ node_label c = sym (read_label i ns o.node) ∙ ap label_of o.gives ∙ found.1 ∙ sym label in
      let same : o.node ≡ c = one_item node_label label_cmp_total (nodes_list ks) o.node c up o.among k names in
      (subst (λ z. Has i (eff (node_stamp z) ns)) same (has-Has (eff (node_stamp o.node) ns) i o.is_in), subst (λ z. read i ns z ≡ t) same o.gives)

  to_kid : (i : ℕ) (c : PlainNode) → Has c (nodes_list ks) → Has i (eff (node_stamp c) ns) → kid_at (node_label c) (kids_list (read_row i ns ks)) ≡ Some (read i ns c)
  to_kid i c k m =
      let there = in_row i ns ks c k (Has-has (eff (node_stamp c) ns) i m) in
      let found = found_at (read i ns c) (kids_list (read_row i ns ks)) (read_ascends i ns ks up) there in
      subst (λ z. kid_at z (kids_list (read_row i ns ks)) ≡ Some (read i ns c)) (read_label i ns c) found

  abbrev trees : List (ℕ × PlainKeyed)
  trees = readings (λ i. inner l (read_row i ns ks)) ns

  under-readings : Ascends nat_cmp ns → (c : PlainNode) → Has c (nodes_list ks) → Ascends nat_cmp (eff (node_stamp c) ns) → ((n : ℕ) → Has n (eff (node_stamp c) ns) → Has n ns)
      → under trees (node_label c) ≡ readings (λ i. read i ns c) (eff (node_stamp c) ns)
  under-readings asc c k part inside =
      let f = λ (t : PlainKeyed). kid_at (node_label c) (kids_of t) in
      let set = eff (node_stamp c) ns in
      let g = λ (i : ℕ). read i ns c in
      same_pairs (those f trees) (readings g set)
      (those_ascend f trees (subst (Ascends nat_cmp) (sym (nums-readings (λ i. inner l (read_row i ns ks)) ns)) asc))
      (subst (Ascends nat_cmp) (sym (nums-readings g set)) part)
      (λ w m. (
      let from = those_has f w.0 w.1 trees m in
      let at = readings_has (λ i. inner l (read_row i ns ks)) ns w.0 from.tree from.has in
      let gives : kid_at (node_label c) (kids_list (read_row w.0 ns ks)) ≡ Some w.1 = ap f at.1 ∙ from.gives in
      let kid = from_kid w.0 (node_label c) w.1 gives c k refl in
      subst (λ z. Has (w.0, z) (readings g set)) kid.1 (has_readings g set w.0 kid.0)))
      (λ w m. (
      let at = readings_has g set w.0 w.1 m in
      let there = has_readings (λ i. inner l (read_row i ns ks)) ns w.0 (inside w.0 at.0) in
      has_those f w.0 (inner l (read_row w.0 ns ks)) w.1 trees there (to_kid w.0 c k at.0 ∙ ap (λ z. Some z) at.1)))

  kid_covered : (m : PlainLabel) → under trees m ≢ [] → Has m (labels ks)
  kid_covered m h =
      let f = λ (t : PlainKeyed). kid_at m (kids_of t) in
      let some = first_pair (those f trees) h in
      let from = those_has f some.0.0 some.0.1 trees some.1 in
      let at = readings_has (λ i. inner l (read_row i ns ks)) ns some.0.0 from.tree from.has in
      let gives : kid_at m (kids_list (read_row some.0.0 ns ks)) ≡ Some some.0.1 = ap f at.1 ∙ from.gives in
      let found = has_found m some.0.1 (kids_list (read_row some.0.0 ns ks)) gives in
      let o = origin some.0.0 ns ks some.0.1 found.0 in
      subst (λ z. Has z (labels ks)) (sym (read_label some.0.0 ns o.node) ∙ ap label_of o.gives ∙ found.1) (has_map node_label o.node (nodes_list ks) o.among)

-- ---- the alternatives of a leaf

-- two of pairwise disjoint sets that share a number are those of one item
pub one_part : {X : Type 0} (f : X → List ℕ) (xs : List X) (x y : X) (n : ℕ) → AllApart (map f xs) → Has x xs → Has y xs → Has n (f x) → Has n (f y) → x ≡ y
one_part f [] x y n a m k p q = absurd m
one_part f (z ∷ zs) x y n a m k p q = elim m [
  | inl d ↦ elim k [
    | inl e ↦ sym d ∙ e
    | inr j ↦ absurd (all_has (Apart (f z)) (map f zs) (f y) a.0 (has_map f y zs j) n (subst (λ w. Has n (f w)) (sym d) p) q)
  ]
  | inr i ↦ elim k [
    | inl e ↦ absurd (all_has (Apart (f z)) (map f zs) (f x) a.0 (has_map f x zs i) n (subst (λ w. Has n (f w)) (sym e) q) p)
    | inr j ↦ one_part f zs x y n a.1 i j p q
  ]
]

-- the body at a number is that of the alternative that has it
body_own : (ns : List ℕ) (n : ℕ) (x : PlainAlt) (xs : List PlainAlt) → ((y : PlainAlt) → Has y xs → has (eff y.stamp ns) n ≡ true → y ≡ x) → Has x xs → has (eff x.stamp ns) n ≡ true → body_at n ns xs ≡ x.body
body_own ns n x [] one m e = absurd m
body_own ns n x (y ∷ ys) one m e =
    elim (has (eff y.stamp ns) n) as (λ b. has (eff y.stamp ns) n ≡ b → cond b y.body (body_at n ns ys) ≡ x.body) [
      | true ↦ λ d. ap (λ (z : PlainAlt). z.body) (one y (inl refl) d)
      | false ↦ λ d. elim m [
        | inl g ↦ absurd (true≢false (sym e ∙ subst (λ (z : PlainAlt). has (eff z.stamp ns) n ≡ false) g d))
        | inr i ↦ body_own ns n x ys (λ z k. one z (inr k)) i e
      ]
    ] refl

-- one alternative for each body
one_alt : (xs : List PlainAlt) (x y : PlainAlt) → AllDiffer (bodies xs) → Has x xs → Has y xs → x.body ≡ y.body → x ≡ y
one_alt [] x y d m k e = absurd m
one_alt (z ∷ zs) x y d m k e = elim m [
  | inl p ↦ elim k [
    | inl q ↦ sym p ∙ q
    | inr j ↦ absurd (all_has (λ b. z.body ≢ b) (bodies zs) y.body d.0 (has_map (λ (a : PlainAlt). a.body) y zs j) (ap (λ (a : PlainAlt). a.body) p ∙ e))
  ]
  | inr i ↦ elim k [
    | inl q ↦ absurd (all_has (λ b. z.body ≢ b) (bodies zs) x.body d.0 (has_map (λ (a : PlainAlt). a.body) x zs i) (ap (λ (a : PlainAlt). a.body) q ∙ sym e))
    | inr j ↦ one_alt zs x y d.1 i j e
  ]
]

module _ (l : PlainLabel) (xs : List PlainAlt) (ns : List ℕ) (asc : Ascends nat_cmp ns) (h : AreAltsWell xs ns) where
  abbrev leaves : List (ℕ × PlainKeyed)
  leaves = readings (λ i. leaf l (body_at i ns xs)) ns

  own_at : (x : PlainAlt) (n : ℕ) → Has x xs → Has n (eff x.stamp ns) → body_at n ns xs ≡ x.body
  own_at x n m k = body_own ns n x xs (λ y i e. one_part (λ (a : PlainAlt). eff a.stamp ns) xs y x n h.parts.apart i m (has-Has (eff y.stamp ns) n e) k) m (Has-has (eff x.stamp ns) n k)

  alt_of : (n : ℕ) → Has n ns → (x : PlainAlt) × (Has x xs × Has n (eff x.stamp ns))
  alt_of n m = (let some = h.parts.whole n m in let from = source (λ (a : PlainAlt). eff a.stamp ns) some.0 xs some.1.0 in (from.item, (from.has, subst (Has n) (sym from.is) some.1.1)))

  alt_inside : (x : PlainAlt) (n : ℕ) → Has x xs → Has n (eff x.stamp ns) → Has n ns
  alt_inside x n m k = h.parts.inside (eff x.stamp ns) (has_map (λ (a : PlainAlt). eff a.stamp ns) x xs m) n k

  -- the numbers with a body are those of its alternative
  nums_with-leaves : (x : PlainAlt) → Has x xs → nums_with leaves x.body ≡ eff x.stamp ns
  nums_with-leaves x m =
      same_numbers (nums_with leaves x.body) (eff x.stamp ns)
      (those_ascend (passed (has_body x.body)) leaves (subst (Ascends nat_cmp) (sym (nums-readings (λ i. leaf l (body_at i ns xs)) ns)) asc))
      (eff_ascends x.stamp ns asc (all_has (λ a. IsStampWell a.stamp ns) xs x h.stamps m))
      (λ n k. (
      let at = body_there x.body n leaves k in
      let reading = readings_has (λ i. leaf l (body_at i ns xs)) ns n at.tree at.has in
      let mine = alt_of n reading.0 in
      let here : has_body x.body (leaf l (body_at n ns xs)) ≡ true = subst (λ z. has_body x.body z ≡ true) (sym reading.1) at.is in
      let body : mine.0.body ≡ x.body = sym (own_at mine.0 n mine.1.0 mine.1.1) ∙ (key_cmp-is_eq (body_at n ns xs) x.body).0 here in
      subst (λ (z : PlainAlt). Has n (eff z.stamp ns)) (one_alt xs mine.0 x h.different mine.1.0 m body) mine.1.1))
      (λ n k. (
      let body : body_at n ns xs ≡ x.body = own_at x n m k in
      let there = has_readings (λ i. leaf l (body_at i ns xs)) ns n (alt_inside x n m k) in
      there_body x.body n (leaf l (body_at n ns xs)) leaves there ((key_cmp-is_eq (body_at n ns xs) x.body).1 body)))

  alt_stands : (x : PlainAlt) → Has x xs → AltStands x leaves
  alt_stands x m =
      let well = all_has (λ a. IsStampWell a.stamp ns) xs x h.stamps m in
      let set = nums_with-leaves x m in
      record {
        some = subst (λ z. z ≢ []) (sym set) well.some;
        stamped = subst (λ z. Stamped x.stamp (nums_with leaves x.body) z) (sym (nums-readings (λ i. leaf l (body_at i ns xs)) ns)) (some_set x.stamp ns (nums_with leaves x.body) well (sym set));
      }

  body_covered : (b : PlainKey) → nums_with leaves b ≢ [] → Has b (bodies xs)
  body_covered b s =
      let some = first_number (nums_with leaves b) s in
      let at = body_there b some.0 leaves some.1 in
      let reading = readings_has (λ i. leaf l (body_at i ns xs)) ns some.0 at.tree at.has in
      let mine = alt_of some.0 reading.0 in
      let here : has_body b (leaf l (body_at some.0 ns xs)) ≡ true = subst (λ z. has_body b z ≡ true) (sym reading.1) at.is in
      let body : mine.0.body ≡ b = sym (own_at mine.0 some.0 mine.1.0 mine.1.1) ∙ (key_cmp-is_eq (body_at some.0 ns xs) b).0 here in
      subst (λ z. Has z (bodies xs)) body (has_map (λ (a : PlainAlt). a.body) mine.0 xs mine.1.0)

-- ---- nodes

mutual
  pub node_stands : (k : PlainNode) (ps : List ℕ) → Ascends nat_cmp ps → IsNodeWell k ps → StandsFor k (readings (λ i. read i ps k) (eff (node_stamp k) ps)) ps
  node_stands (inner_node l s ks) ps asc h =
      let ns = eff s ps in
      let f = λ (i : ℕ). inner l (read_row i ns ks) in
      let up = eff_ascends s ps asc h.stamp in
      record {
        common = record {
          some = no_readings f ns h.stamp.some;
          labelled = all_readings (λ t. label_of t ≡ l) f ns (λ n m. refl);
          stamped = some_set s ps (nums (readings f ns)) h.stamp (sym (nums-readings f ns));
        };
        inners = all_readings IsInner f ns (λ n m. tt);
        row = record {
          ascending = h.ascending;
          kids = has_each ks (under (readings f ns)) (nums (readings f ns)) (λ c k. (
              let stands = nodes_stand ks ns up h.kids c k in
              subst (λ z. StandsFor c (under (readings f ns) (node_label c)) z) (sym (nums-readings f ns)) (subst (λ z. StandsFor c z ns) (sym (under-readings l ks ns h.ascending up c k stands.0 stands.1)) stands.2)));
          covered = kid_covered l ks ns h.ascending;
        };
      }
  node_stands (leaf_node l s xs) ps asc h =
      let ns = eff s ps in
      let f = λ (i : ℕ). leaf l (body_at i ns xs) in
      let up = eff_ascends s ps asc h.stamp in
      record {
        common = record {
          some = no_readings f ns h.stamp.some;
          labelled = all_readings (λ t. label_of t ≡ l) f ns (λ n m. refl);
          stamped = some_set s ps (nums (readings f ns)) h.stamp (sym (nums-readings f ns));
        };
        leaves = all_readings IsLeaf f ns (λ n m. tt);
        different = h.alts.different;
        in_order = subst (λ z. Ascends nat_cmp (map (first_num z) xs)) (sym (nums-readings f ns)) h.alts.in_order;
        alts = has_all (λ a. AltStands a (readings f ns)) xs (alt_stands l xs ns up h.alts);
        covered = body_covered l xs ns up h.alts;
      }

  pub nodes_stand : (ks : PlainNodes) (ns : List ℕ) → Ascends nat_cmp ns → AreNodesWell ks ns → (c : PlainNode) → Has c (nodes_list ks)
      → Ascends nat_cmp (eff (node_stamp c) ns) × ((n : ℕ) → Has n (eff (node_stamp c) ns) → Has n ns) × StandsFor c (readings (λ i. read i ns c) (eff (node_stamp c) ns)) ns
  nodes_stand no_nodes ns asc h c m = absurd m
  nodes_stand (node k ks) ns asc h c m = elim m [
    | inl e ↦ subst (λ z. Ascends nat_cmp (eff (node_stamp z) ns) × ((n : ℕ) → Has n (eff (node_stamp z) ns) → Has n ns) × StandsFor z (readings (λ i. read i ns z) (eff (node_stamp z) ns)) ns) e
        (eff_ascends (node_stamp k) ns asc (stamp_of k ns h.0), (stamp_of k ns h.0).within, node_stands k ns asc h.0)
    | inr i ↦ nodes_stand ks ns asc h.1 c i
  ]
