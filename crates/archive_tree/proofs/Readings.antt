-- What is read at a number is the version of that number.
use Rattle.std.proofs.Common.{◌≡◌, ◌≢◌, ℕ, ◌+◌, true, false, cond, List, [], ◌∷◌, map, length, Option, Some, refl, ap, sym, subst, ◌∙◌, inl, inr, true≢false}
use Rattle.std.specs.List.{AllByRecursion, enumerate_from, range_with_len}
use Rattle.std.specs.declared.cmp.Ordering.TheVariants.{Less}
use Rattle.version_set.specs.Members.{has}
use Rattle.keyed_tree.specs.Alike.{IsInner, IsLeaf}
use Rattle.keyed_tree.specs.Data.{PlainKey, PlainLabel, PlainKeyed, inner, leaf, label_of, PlainKids, kid, kids_list, kids_of}
use Rattle.keyed_tree.specs.Kids.{IsOrdered, kid_at}
use Rattle.keyed_tree.specs.Laws.{label_cmp_total, key_cmp-is_eq}
use Rattle.keyed_tree.specs.Lists.{Ascends, Has}
use Rattle.keyed_tree.specs.Order.{label_cmp}
use Rattle.jsonml_tree.proofs.Lists.{all_has, has_map, source, same_items}
use Rattle.keyed_tree.proofs.Kids.{kids_list-injective, kids_ascend, found_at, has_found}
use Rattle.archive_tree.specs.Data.{eff, PlainAlt, PlainNode, inner_node, leaf_node, PlainNodes, no_nodes, node, node_label, node_stamp, nodes_list, PlainArchive}
use Rattle.archive_tree.specs.Stands.{nums, those, passed, has_body, nums_with, under, rooted, numbered, labels, bodies, RowStands, AltStands, StandsFor, EachStands, ArchiveOf}
use Rattle.archive_tree.specs.Read.{body_at, read, read_row, read_root}
use Rattle.archive_tree.proofs.Numbers.{has-Has, Has-has}
use Rattle.archive_tree.proofs.Parts.{each_has, stands_nums}
use Rattle.archive_tree.proofs.Those.{has_those, those_has, nums_has, has_nums, one_tree, passed_true, Orderly, orderly_under, orderly_rooted, orderly_numbered, nums-enumerate, has_rooted, rooted_has}

abbrev pub Reads : PlainNode → Type 0
Reads a = (ws : List (ℕ × PlainKeyed)) (ps : List ℕ) → Orderly ws → StandsFor a ws ps → (n : ℕ) (t : PlainKeyed) → Has (n, t) ws → read n ps a ≡ t

pub read_label : (n : ℕ) (ns : List ℕ) (k : PlainNode) → label_of (read n ns k) ≡ node_label k
read_label n ns (inner_node l s ks) = refl
read_label n ns (leaf_node l s xs) = refl

all_read : (P : PlainLabel → Type 0) (n : ℕ) (ns : List ℕ) (ks : PlainNodes) → AllByRecursion P (labels ks) → AllByRecursion P (map label_of (kids_list (read_row n ns ks)))
all_read P n ns no_nodes h = tt
all_read P n ns (node k ks) h =
    let rest = all_read P n ns ks h.1 in
    elim (has (eff (node_stamp k) ns) n) as (λ b. AllByRecursion P (map label_of (kids_list (cond b (kid (read n ns k) (read_row n ns ks)) (read_row n ns ks))))) [
      | true ↦ (subst P (sym (read_label n ns k)) h.0, rest)
      | false ↦ rest
    ]

pub read_ascends : (n : ℕ) (ns : List ℕ) (ks : PlainNodes) → Ascends label_cmp (labels ks) → Ascends label_cmp (map label_of (kids_list (read_row n ns ks)))
read_ascends n ns no_nodes h = tt
read_ascends n ns (node k ks) h =
    let rest = read_ascends n ns ks h.1 in
    let low = subst (λ l. AllByRecursion (λ x. label_cmp l x ≡ Less) (map label_of (kids_list (read_row n ns ks)))) (sym (read_label n ns k)) (all_read (λ x. label_cmp (node_label k) x ≡ Less) n ns ks h.0) in
    elim (has (eff (node_stamp k) ns) n) as (λ b. Ascends label_cmp (map label_of (kids_list (cond b (kid (read n ns k) (read_row n ns ks)) (read_row n ns ks))))) [ true ↦ (low, rest) | false ↦ rest ]

-- a node that has n is read into the row
pub in_row : (n : ℕ) (ns : List ℕ) (ks : PlainNodes) (k : PlainNode) → Has k (nodes_list ks) → has (eff (node_stamp k) ns) n ≡ true → Has (read n ns k) (kids_list (read_row n ns ks))
in_row n ns no_nodes k m e = absurd m
in_row n ns (node j ks) k m e = elim m [
  | inl g ↦ (let d = subst (λ z. has (eff (node_stamp z) ns) n ≡ true) (sym g) e in rw d (inl (ap (read n ns) g)))
  | inr x ↦ (let rest = in_row n ns ks k x e in elim (has (eff (node_stamp j) ns) n) as (λ b. Has (read n ns k) (kids_list (cond b (kid (read n ns j) (read_row n ns ks)) (read_row n ns ks)))) [ true ↦ inr rest | false ↦ rest ])
]

pub record Origin (n : ℕ) (ns : List ℕ) (ks : PlainNodes) (c : PlainKeyed) : Type 0 where
  pub node : PlainNode
  pub among : Has node (nodes_list ks)
  pub is_in : has (eff (node_stamp node) ns) n ≡ true
  pub gives : read n ns node ≡ c

origin_later : (n : ℕ) (ns : List ℕ) (j : PlainNode) (ks : PlainNodes) (c : PlainKeyed) → Origin n ns ks c → Origin n ns (node j ks) c
origin_later n ns j ks c o = record { node = o.node; among = inr o.among; is_in = o.is_in; gives = o.gives }

pub origin : (n : ℕ) (ns : List ℕ) (ks : PlainNodes) (c : PlainKeyed) → Has c (kids_list (read_row n ns ks)) → Origin n ns ks c
origin n ns no_nodes c m = absurd m
origin n ns (node j ks) c m =
    elim (has (eff (node_stamp j) ns) n) as (λ b. has (eff (node_stamp j) ns) n ≡ b → Has c (kids_list (cond b (kid (read n ns j) (read_row n ns ks)) (read_row n ns ks))) → Origin n ns (node j ks) c) [
      | true ↦ λ e h. elim h [ inl g ↦ record { node = j; among = inl refl; is_in = e; gives = g } | inr x ↦ origin_later n ns j ks c (origin n ns ks c x) ]
      | false ↦ λ e h. origin_later n ns j ks c (origin n ns ks c h)
    ] refl m

pub some_has : {X : Type 0} (xs : List X) (x : X) → Has x xs → xs ≢ []
some_has [] x m e = m
some_has (y ∷ ys) x m e = cc

-- the rows of an inner node
module _ (ks : PlainNodes) (ws : List (ℕ × PlainKeyed)) (orderly : Orderly ws) (h : RowStands ks (under ws) (EachStands ks (under ws) (nums ws)))
    (reads : (k : PlainNode) → Has k (nodes_list ks) → Reads k) (n : ℕ) (t : PlainKeyed) (m : Has (n, t) ws) (up : Ascends label_cmp (map label_of (kids_of t))) where
  stands : (k : PlainNode) → Has k (nodes_list ks) → StandsFor k (under ws (node_label k)) (nums ws)
  stands k i = each_has ks (under ws) (nums ws) k h.kids i

  read_is_kid : (c : PlainKeyed) → Has c (kids_list (read_row n (nums ws) ks)) → Has c (kids_of t)
  read_is_kid c i =
      let o = origin n (nums ws) ks c i in
      let l = node_label o.node in
      let there : Has n (nums (under ws l)) = subst (λ z. Has n z) (stands_nums o.node (under ws l) (nums ws) (stands o.node o.among)) (has-Has (eff (node_stamp o.node) (nums ws)) n o.is_in) in
      let found = source (λ (v : ℕ × PlainKeyed). v.0) n (under ws l) there in
      let pair : Has (n, found.item.1) (under ws l) = subst (λ z. Has (z, found.item.1) (under ws l)) found.is found.has in
      let same : read n (nums ws) o.node ≡ found.item.1 = reads o.node o.among (under ws l) (nums ws) (orderly_under ws l orderly) (stands o.node o.among) n found.item.1 pair in
      let from = those_has (λ k. kid_at l (kids_of k)) n found.item.1 ws pair in
      let tree : from.tree ≡ t = one_tree n from.tree t ws orderly.ascending from.has m in
      let kid : Has found.item.1 (kids_of t) = (has_found l found.item.1 (kids_of t) (ap (λ k. kid_at l (kids_of k)) (sym tree) ∙ from.gives)).0 in
      subst (λ z. Has z (kids_of t)) (sym same ∙ o.gives) kid

  kid_is_read : (c : PlainKeyed) → Has c (kids_of t) → Has c (kids_list (read_row n (nums ws) ks))
  kid_is_read c i =
      let l = label_of c in
      let pair : Has (n, c) (under ws l) = has_those (λ k. kid_at l (kids_of k)) n t c ws m (found_at c (kids_of t) up i) in
      let found = source node_label l (nodes_list ks) (h.covered l (some_has (under ws l) (n, c) pair)) in
      let k = found.item in
      let here : StandsFor k (under ws l) (nums ws) = subst (λ z. StandsFor k (under ws z) (nums ws)) found.is (stands k found.has) in
      let is_in : has (eff (node_stamp k) (nums ws)) n ≡ true = Has-has (eff (node_stamp k) (nums ws)) n (subst (λ z. Has n z) (sym (stands_nums k (under ws l) (nums ws) here)) (has_map (λ (v : ℕ × PlainKeyed). v.0) (n, c) (under ws l) pair)) in
      let same : read n (nums ws) k ≡ c = reads k found.has (under ws l) (nums ws) (orderly_under ws l orderly) here n c pair in
      subst (λ z. Has z (kids_list (read_row n (nums ws) ks))) same (in_row n (nums ws) ks k found.has is_in)

  pub row_read : kids_list (read_row n (nums ws) ks) ≡ kids_of t
  row_read = same_items label_of label_cmp_total (kids_list (read_row n (nums ws) ks)) (kids_of t) (read_ascends n (nums ws) ks h.ascending) up read_is_kid kid_is_read

inner_is : (l : PlainLabel) (row : PlainKids) (t : PlainKeyed) → label_of t ≡ l → IsInner t → kids_list row ≡ kids_of t → inner l row ≡ t
inner_is l row (inner m cs) e h g = (let same : row ≡ cs = kids_list-injective row cs g in λ i. inner (sym e i) (same i))
inner_is l row (leaf m b) e h g = absurd h

-- ---- leaves

leaf_is : (l : PlainLabel) (b : PlainKey) (t : PlainKeyed) → label_of t ≡ l → has_body b t ≡ true → leaf l b ≡ t
leaf_is l b (inner m cs) e h = absurd (true≢false (sym h))
leaf_is l b (leaf m c) e h = (let d : c ≡ b = (key_cmp-is_eq c b).0 h in λ i. leaf (sym e i) (sym d i))

pub record Own (t : PlainKeyed) : Type 0 where
  pub body : PlainKey
  pub is : has_body body t ≡ true

pub own_body : (t : PlainKeyed) → IsLeaf t → Own t
own_body (inner l ks) h = absurd h
own_body (leaf l b) h = record { body = b; is = (key_cmp-is_eq b b).1 refl }

-- the alternative that is found has the body of the version
alt_read : (n : ℕ) (ns : List ℕ) (t : PlainKeyed) (xs : List PlainAlt) → ((x : PlainAlt) → Has x xs → has (eff x.stamp ns) n ≡ true → has_body x.body t ≡ true)
    → (y : PlainAlt) → Has y xs → has (eff y.stamp ns) n ≡ true → has_body (body_at n ns xs) t ≡ true
alt_read n ns t [] own y m e = absurd m
alt_read n ns t (x ∷ xs) own y m e =
    elim (has (eff x.stamp ns) n) as (λ b. has (eff x.stamp ns) n ≡ b → has_body (cond b x.body (body_at n ns xs)) t ≡ true) [
      | true ↦ λ d. own x (inl refl) d
      | false ↦ λ d. elim m [
        | inl g ↦ absurd (true≢false (sym e ∙ subst (λ z. has (eff z.stamp ns) n ≡ false) g d))
        | inr k ↦ alt_read n ns t xs (λ z i. own z (inr i)) y k e
      ]
    ] refl

module _ (xs : List PlainAlt) (ws : List (ℕ × PlainKeyed)) (orderly : Orderly ws) (alts : AllByRecursion (λ a. AltStands a ws) xs) (n : ℕ) (t : PlainKeyed) (m : Has (n, t) ws) where
  alt_own : (x : PlainAlt) → Has x xs → has (eff x.stamp (nums ws)) n ≡ true → has_body x.body t ≡ true
  alt_own x i e =
      let a = all_has (λ a. AltStands a ws) xs x alts i in
      let f = passed (has_body x.body) in
      let there : Has n (nums (those f ws)) = subst (λ z. Has n z) a.stamped.effective (has-Has (eff x.stamp (nums ws)) n e) in
      let found = source (λ (v : ℕ × PlainKeyed). v.0) n (those f ws) there in
      let from = those_has f n found.item.1 ws (subst (λ z. Has (z, found.item.1) (those f ws)) found.is found.has) in
      let tree : from.tree ≡ t = one_tree n from.tree t ws orderly.ascending from.has m in
      subst (λ z. has_body x.body z ≡ true) tree (passed_true (has_body x.body) from.tree found.item.1 from.gives)

  alt_there : (o : Own t) → ((b : PlainKey) → nums_with ws b ≢ [] → Has b (bodies xs)) → has_body (body_at n (nums ws) xs) t ≡ true
  alt_there o covered =
      let f = passed (has_body o.body) in
      let mine : f t ≡ Some t = (let d = o.is in rw d) in
      let pair : Has (n, t) (those f ws) = has_those f n t t ws m mine in
      let there : Has n (nums_with ws o.body) = has_map (λ (v : ℕ × PlainKeyed). v.0) (n, t) (those f ws) pair in
      let found = source (λ (a : PlainAlt). a.body) o.body xs (covered o.body (some_has (nums_with ws o.body) n there)) in
      let a = all_has (λ a. AltStands a ws) xs found.item alts found.has in
      let is_in : has (eff found.item.stamp (nums ws)) n ≡ true = Has-has (eff found.item.stamp (nums ws)) n (subst (λ z. Has n z) (sym a.stamped.effective) (subst (λ b. Has n (nums_with ws b)) (sym found.is) there)) in
      alt_read n (nums ws) t xs alt_own found.item found.has is_in

mutual
  pub node_reads : (a : PlainNode) → Reads a
  node_reads (inner_node l s ks) ws ps o h n t m =
      let set : eff s ps ≡ nums ws = h.common.stamped.effective in
      let label = all_has (λ w. label_of w.1 ≡ l) ws (n, t) h.common.labelled m in
      let kind = all_has (λ w. IsInner w.1) ws (n, t) h.inners m in
      let row = row_read ks ws o h.row (nodes_read ks) n t m (kids_ascend t (all_has (λ w. IsOrdered w.1) ws (n, t) o.ordered m)) in
      ap (λ z. inner l (read_row n z ks)) set ∙ inner_is l (read_row n (nums ws) ks) t label kind row
  node_reads (leaf_node l s xs) ws ps o h n t m =
      let set : eff s ps ≡ nums ws = h.common.stamped.effective in
      let label = all_has (λ w. label_of w.1 ≡ l) ws (n, t) h.common.labelled m in
      let kind = all_has (λ w. IsLeaf w.1) ws (n, t) h.leaves m in
      ap (λ z. leaf l (body_at n z xs)) set ∙ leaf_is l (body_at n (nums ws) xs) t label (alt_there xs ws o h.alts n t m (own_body t kind) h.covered)

  pub nodes_read : (ks : PlainNodes) (k : PlainNode) → Has k (nodes_list ks) → Reads k
  nodes_read no_nodes k m = absurd m
  nodes_read (node j ks) k m = elim m [ inl e ↦ subst Reads e (node_reads j) | inr i ↦ nodes_read ks k i ]

-- ---- the virtual root

-- what is read at the root is the tree that each kid with the number reads
pub root_reads : (n : ℕ) (ns : List ℕ) (t : PlainKeyed) (ks : PlainNodes) → ((k : PlainNode) → Has k (nodes_list ks) → has (eff (node_stamp k) ns) n ≡ true → read n ns k ≡ t)
    → (k : PlainNode) → Has k (nodes_list ks) → has (eff (node_stamp k) ns) n ≡ true → read_root n ns ks ≡ Some t
root_reads n ns t no_nodes all k m e = absurd m
root_reads n ns t (node j ks) all k m e =
    elim (has (eff (node_stamp j) ns) n) as (λ b. has (eff (node_stamp j) ns) n ≡ b → cond b (Some (read n ns j)) (read_root n ns ks) ≡ Some t) [
      | true ↦ λ d. ap (λ z. Some z) (all j (inl refl) d)
      | false ↦ λ d. elim m [
        | inl g ↦ absurd (true≢false (sym e ∙ subst (λ z. has (eff (node_stamp z) ns) n ≡ false) g d))
        | inr i ↦ root_reads n ns t ks (λ z x. all z (inr x)) k i e
      ]
    ] refl

abbrev pub all_numbers : PlainArchive → List ℕ
all_numbers a = range_with_len 1 a.n

module _ (vs : List PlainKeyed) (a : PlainArchive) (h : ArchiveOf vs a) where
  pub numbers : nums (numbered vs) ≡ all_numbers a
  numbers = nums-enumerate 1 vs ∙ ap (range_with_len 1) h.count

  -- each kid of the root stands for the versions with its label
  pub root_stands : (k : PlainNode) → Has k (nodes_list a.kids) → StandsFor k (rooted (numbered vs) (node_label k)) (all_numbers a)
  root_stands k m = subst (λ z. StandsFor k (rooted (numbered vs) (node_label k)) z) numbers (each_has a.kids (rooted (numbered vs)) (nums (numbered vs)) k h.row.kids m)

  root_all : (n : ℕ) (t : PlainKeyed) → Has (n, t) (numbered vs) → (k : PlainNode) → Has k (nodes_list a.kids) → has (eff (node_stamp k) (all_numbers a)) n ≡ true → read n (all_numbers a) k ≡ t
  root_all n t m k i e =
      let ws = rooted (numbered vs) (node_label k) in
      let stands = root_stands k i in
      let there : Has n (nums ws) = subst (λ z. Has n z) (stands_nums k ws (all_numbers a) stands) (has-Has (eff (node_stamp k) (all_numbers a)) n e) in
      let found = nums_has n ws there in
      let same : found.tree ≡ t = one_tree n found.tree t (numbered vs) (orderly_numbered vs h.ordered).ascending (rooted_has n found.tree (node_label k) (numbered vs) found.has).0 m in
      node_reads k ws (all_numbers a) (orderly_rooted (numbered vs) (node_label k) (orderly_numbered vs h.ordered)) stands n found.tree found.has ∙ same

  -- the root reads each version at its number
  pub version_read : (n : ℕ) (t : PlainKeyed) → Has (n, t) (numbered vs) → read_root n (all_numbers a) a.kids ≡ Some t
  version_read n t m =
      let l = label_of t in
      let pair = has_rooted n t (numbered vs) m in
      let found = source node_label l (nodes_list a.kids) (h.row.covered l (some_has (rooted (numbered vs) l) (n, t) pair)) in
      let k = found.item in
      let stands = root_stands k found.has in
      let there : Has n (nums (rooted (numbered vs) (node_label k))) = subst (λ z. Has n (nums (rooted (numbered vs) z))) (sym found.is) (has_nums n t (rooted (numbered vs) l) pair) in
      let in_set : has (eff (node_stamp k) (all_numbers a)) n ≡ true = Has-has (eff (node_stamp k) (all_numbers a)) n (subst (λ z. Has n z) (sym (stands_nums k (rooted (numbered vs) (node_label k)) (all_numbers a) stands)) there) in
      root_reads n (all_numbers a) t a.kids (root_all n t m) k found.has in_set

-- ---- an archive stands for at most one list

same_reads : (f : ℕ → Option PlainKeyed) (n : ℕ) (vs us : List PlainKeyed) → length vs ≡ length us
    → ((i : ℕ) (t : PlainKeyed) → Has (i, t) (enumerate_from n vs) → f i ≡ Some t) → ((i : ℕ) (t : PlainKeyed) → Has (i, t) (enumerate_from n us) → f i ≡ Some t) → vs ≡ us
same_reads f n [] [] e h g = refl
same_reads f n [] (u ∷ us) e h g = cc
same_reads f n (v ∷ vs) [] e h g = cc
same_reads f n (v ∷ vs) (u ∷ us) e h g =
    let some : Some v ≡ Some u = sym (h n v (inl refl)) ∙ g n u (inl refl) in
    let first : v ≡ u = cc in
    let counts : length vs ≡ length us = cc in
    let rest : vs ≡ us = same_reads f (n + 1) vs us counts (λ i t m. h i t (inr m)) (λ i t m. g i t (inr m)) in
    cc

pub one_list : (vs us : List PlainKeyed) (a : PlainArchive) → ArchiveOf vs a → ArchiveOf us a → vs ≡ us
one_list vs us a h g = same_reads (λ n. read_root n (all_numbers a) a.kids) 1 vs us (h.count ∙ sym g.count) (version_read vs a h) (version_read us a g)
