-- An archive passes the test exactly where each of its versions is keyed by the rules.
use Rattle.std.proofs.Common.{◌≡◌, ◌↔◌, ℕ, ◌+◌, Bool, true, false, cond, IsTrue, List, [], ◌∷◌, refl, ap, sym, subst, ◌∙◌, inl, inr, true≢false}
use Rattle.std.specs.Prelude.{nat_le}
use Rattle.std.proofs.lemmas.Bool.{and_parts, and_from}
use Rattle.std.specs.List.{AllByRecursion, enumerate_from}
use Rattle.jsonml_tree.specs.Data.{tree_depth}
use Rattle.jsonml_tree.specs.declared.limits.TheConstants.{GREATEST_DEPTH}
use Rattle.keyed_tree.specs.Data.{PlainKeyed, label_of}
use Rattle.keyed_tree.specs.Lists.{Has}
use Rattle.keyed_tree.specs.Plain.{plain}
use Rattle.keyed_tree.specs.Proper.{is_tag}
use Rattle.jsonml_tree.proofs.Lists.{all_has, has_all, source}
use Rattle.key_spec.specs.Data.{PlainRule}
use Rattle.archive_tree.specs.Data.{eff, PlainNode, PlainNodes, no_nodes, node, node_label, node_stamp, nodes_list, PlainArchive}
use Rattle.archive_tree.specs.Parts.{IsArchive}
use Rattle.archive_tree.specs.Read.{read}
use Rattle.archive_tree.specs.Stands.{rooted, numbered, ArchiveOf}
use Rattle.archive_tree.specs.WellFormed.{is_node_well_formed, are_nodes_well_formed, AreNodesWellFormed, IsNodeWellFormed}
use Rattle.archive_tree.proofs.Necessary.{necessary}
use Rattle.archive_tree.proofs.NodeViews.{read_well}
use Rattle.archive_tree.proofs.Numbers.{range-ascend}
use Rattle.archive_tree.proofs.Parts.{stands_nums}
use Rattle.archive_tree.proofs.Readings.{all_numbers, root_stands, node_reads, some_has}
use Rattle.archive_tree.proofs.Those.{orderly_rooted, orderly_numbered, nums_has, has_nums, rooted_has, has_rooted}
use Rattle.keyed_tree.proofs.Kids.{both}
use Rattle.archive_file.proofs.Fits.{fits}
use Rattle.archive_file.specs.KeyedBy.{IsKeyedBy, AreKeyedBy}
use Rattle.archive_file.specs.NodeFits.{node_fits, nodes_fit, is_attr_node, is_shallow, are_shallow, is_archive_keyed}
use Rattle.archive_file.proofs.AllVersions.{fits-tell, level-tells}
use Rattle.archive_file.proofs.KeyedLaws.{keyed-fit, fit-keyed}
use Rattle.archive_file.proofs.Tells.{Tells, well-has}
use Rattle.archive_file.proofs.Ways.{PathsLead}

-- ---- the kids of the virtual root, all of them elements

record NodeIsFit (rules : List PlainRule) (k : PlainNode) : Type 0 where
  fit : node_fits rules [] k ≡ true
  shallow : is_shallow GREATEST_DEPTH k ≡ true

abbrev AreTags : PlainNodes → Type 0
AreTags ks = AllByRecursion (λ k. IsTrue (is_tag (node_label k).name)) (nodes_list ks)

chosen : (b x y : Bool) → b ≡ true → cond b x y ≡ x
chosen true x y e = refl
chosen false x y e = absurd (true≢false (sym e))

roots-fit : (rules : List PlainRule) (ks : PlainNodes) → AreTags ks → are_shallow GREATEST_DEPTH ks ≡ true → nodes_fit rules [] ks ≡ true → (k : PlainNode) → Has k (nodes_list ks) → NodeIsFit rules k
roots-fit rules no_nodes tags d f k m = absurd m
roots-fit rules (node j ks) tags d f k m =
    let deep = and_parts (cond (is_tag (node_label j).name) (is_shallow GREATEST_DEPTH j) true) (are_shallow GREATEST_DEPTH ks) d in
    let fit = and_parts (cond (is_tag (node_label j).name) (node_fits rules [] j) (is_attr_node j)) (nodes_fit rules [] ks) f in
    elim m [
      | inl e ↦ subst (NodeIsFit rules) e (record {
        fit = sym (chosen (is_tag (node_label j).name) (node_fits rules [] j) (is_attr_node j) tags.0) ∙ fit.0;
        shallow = sym (chosen (is_tag (node_label j).name) (is_shallow GREATEST_DEPTH j) true tags.0) ∙ deep.0;
      })
      | inr n ↦ roots-fit rules ks tags.1 deep.1 fit.1 k n
    ]

fit-roots : (rules : List PlainRule) (ks : PlainNodes) → AreTags ks → ((k : PlainNode) → Has k (nodes_list ks) → NodeIsFit rules k) → (are_shallow GREATEST_DEPTH ks ≡ true) × (nodes_fit rules [] ks ≡ true)
fit-roots rules no_nodes tags h = (refl, refl)
fit-roots rules (node j ks) tags h =
    let own = h j (inl refl) in
    let rest = fit-roots rules ks tags.1 (λ k m. h k (inr m)) in
    let is_element : is_tag (node_label j).name ≡ true = tags.0 in (
      and_from (cond (is_tag (node_label j).name) (is_shallow GREATEST_DEPTH j) true) (are_shallow GREATEST_DEPTH ks) (chosen (is_tag (node_label j).name) (is_shallow GREATEST_DEPTH j) true is_element ∙ own.shallow) rest.0,
      and_from (cond (is_tag (node_label j).name) (node_fits rules [] j) (is_attr_node j)) (nodes_fit rules [] ks) (chosen (is_tag (node_label j).name) (node_fits rules [] j) (is_attr_node j) is_element ∙ own.fit) rest.1,
    )

node-well-formed : (ks : PlainNodes) (k : PlainNode) → AreNodesWellFormed ks → Has k (nodes_list ks) → IsNodeWellFormed k
node-well-formed no_nodes k h m = absurd m
node-well-formed (node j ks) k h m =
    let two = both (is_node_well_formed j) (are_nodes_well_formed ks) h in
    elim m [ inl e ↦ subst IsNodeWellFormed e two.0 | inr n ↦ node-well-formed ks k two.1 n ]

-- ---- versions, each read of a kid of the root

-- a version's number
pub record Place (n : ℕ) (v : PlainKeyed) (vs : List PlainKeyed) : Type 0 where
  pub number : ℕ
  pub has : Has (number, v) (enumerate_from n vs)

place : (n : ℕ) (v : PlainKeyed) (vs : List PlainKeyed) → Has v vs → Place n v vs
place n v [] m = absurd m
place n v (u ∷ vs) m = elim m [
  | inl e ↦ record { number = n; has = inl (ap (λ z. (n, z)) e) }
  | inr k ↦ (let p = place (n + 1) v vs k in record { number = p.number; has = inr p.has })
]

item-of : (m n : ℕ) (t : PlainKeyed) (vs : List PlainKeyed) → Has (n, t) (enumerate_from m vs) → Has t vs
item-of m n t [] h = absurd h
item-of m n t (v ∷ vs) h = elim h [ inl e ↦ inl (ap (λ (z : ℕ × PlainKeyed). z.1) e) | inr k ↦ inr (item-of (m + 1) n t vs k) ]

-- the node and the number that a version is read of
pub record ReadOf (a : PlainArchive) (v : PlainKeyed) : Type 0 where
  pub root : PlainNode
  pub among : Has root (nodes_list a.kids)
  pub number : ℕ
  pub is_in : Has number (eff (node_stamp root) (all_numbers a))
  pub gives : read number (all_numbers a) root ≡ v

module _ (vs : List PlainKeyed) (a : PlainArchive) (h : ArchiveOf vs a) where
  pub read-of : (v : PlainKeyed) → Has v vs → ReadOf a v
  read-of v m =
      let p = place 1 v vs m in
      let l = label_of v in
      let pair = has_rooted p.number v (numbered vs) p.has in
      let found = source node_label l (nodes_list a.kids) (h.row.covered l (some_has (rooted (numbered vs) l) (p.number, v) pair)) in
      let k = found.item in
      let stands = root_stands vs a h k found.has in
      let mine : Has (p.number, v) (rooted (numbered vs) (node_label k)) = subst (λ z. Has (p.number, v) (rooted (numbered vs) z)) (sym found.is) pair in
      record {
        root = k;
        among = found.has;
        number = p.number;
        is_in = subst (Has p.number) (sym (stands_nums k (rooted (numbered vs) (node_label k)) (all_numbers a) stands)) (has_nums p.number v (rooted (numbered vs) (node_label k)) mine);
        gives = node_reads k (rooted (numbered vs) (node_label k)) (all_numbers a) (orderly_rooted (numbered vs) (node_label k) (orderly_numbered vs h.ordered)) stands p.number v mine;
      }

  -- what a kid of the root reads is a version
  of-read : (k : PlainNode) (n : ℕ) → Has k (nodes_list a.kids) → Has n (eff (node_stamp k) (all_numbers a)) → Has (read n (all_numbers a) k) vs
  of-read k n m i =
      let ws = rooted (numbered vs) (node_label k) in
      let stands = root_stands vs a h k m in
      let at = nums_has n ws (subst (Has n) (stands_nums k ws (all_numbers a) stands) i) in
      let same : read n (all_numbers a) k ≡ at.tree = node_reads k ws (all_numbers a) (orderly_rooted (numbered vs) (node_label k) (orderly_numbered vs h.ordered)) stands n at.tree at.has in
      let own = rooted_has n at.tree (node_label k) (numbered vs) at.has in
      subst (λ z. Has z vs) (sym same) (item-of 1 n at.tree vs own.0)

  well : IsArchive a
  well = necessary vs a h

  module _ (rules : List PlainRule) (lead : PathsLead rules) (formed : AreNodesWellFormed a.kids) where
    told : (k : PlainNode) → Has k (nodes_list a.kids) → Tells (eff (node_stamp k) (all_numbers a)) (λ n. fits rules [] (read n (all_numbers a) k)) (node_fits rules [] k)
    told k m = fits-tell rules [] k (all_numbers a) (range-ascend 1 a.n) (well-has a.kids (all_numbers a) k well.kids m)

    level : (k : PlainNode) → Has k (nodes_list a.kids) → Tells (eff (node_stamp k) (all_numbers a)) (λ n. nat_le (tree_depth (plain (read n (all_numbers a) k))) GREATEST_DEPTH) (is_shallow GREATEST_DEPTH k)
    level k m = level-tells GREATEST_DEPTH k (all_numbers a) (well-has a.kids (all_numbers a) k well.kids m)

    node-fit : AreKeyedBy rules vs → (k : PlainNode) → Has k (nodes_list a.kids) → NodeIsFit rules k
    node-fit keyed k m =
        let each = λ (n : ℕ) (i : Has n (eff (node_stamp k) (all_numbers a))). keyed-fit rules lead (read n (all_numbers a) k) (all_has (IsKeyedBy rules) vs (read n (all_numbers a) k) keyed (of-read k n m i)) in
        record { fit = (told k m).0 (λ n i. (each n i).fit); shallow = (level k m).0 (λ n i. (each n i).shallow) }

    version-keyed : ((k : PlainNode) → Has k (nodes_list a.kids) → NodeIsFit rules k) → (v : PlainKeyed) → Has v vs → IsKeyedBy rules v
    version-keyed fit v m =
        let r = read-of v m in
        let of_root = fit r.root r.among in
        let read_ = read r.number (all_numbers a) r.root in
        let keyed : IsKeyedBy rules read_ = fit-keyed rules lead read_ (read_well r.number (all_numbers a) r.root (node-well-formed a.kids r.root formed r.among))
        (record { fit = (told r.root r.among).1 of_root.fit r.number r.is_in; shallow = (level r.root r.among).1 of_root.shallow r.number r.is_in }) in
        subst (IsKeyedBy rules) r.gives keyed

    -- the test tells whether the versions are keyed
    pub archive-keyed : IsTrue (is_archive_keyed rules a) ↔ AreKeyedBy rules vs
    archive-keyed = (
      λ e. (let two = and_parts (are_shallow GREATEST_DEPTH a.kids) (nodes_fit rules [] a.kids) e in has_all (IsKeyedBy rules) vs (version-keyed (roots-fit rules a.kids well.elements two.0 two.1))),
      λ keyed. (let two = fit-roots rules a.kids well.elements (node-fit keyed) in and_from (are_shallow GREATEST_DEPTH a.kids) (nodes_fit rules [] a.kids) two.0 two.1),
    )
