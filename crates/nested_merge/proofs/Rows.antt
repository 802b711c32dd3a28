-- Rows as lists, and the steps of a walk along two rows.
use Rattle.std.proofs.Common.{◌≡◌, ℕ, List, [], ◌∷◌, ◌++◌, map, Option, None, IsTrue, refl, ap, sym, subst, ◌∙◌, rules, Vec, Global, ◌+◌, ◌<◌, length, drop, get_or, append_assoc}
use Rattle.std.proofs.lemmas.List.{map-append, drop_more}
use Rattle.std.specs.List.{AllByRecursion}
use Rattle.std.specs.Ordering.{is_lt}
use Rattle.std.specs.declared.cmp.Ordering.TheVariants.{Less, Equal, Greater}
use Rattle.version_set.specs.declared.set.VersionSet.{VersionSet}
use Rattle.keyed_tree.specs.Data.{PlainLabel, PlainKeyed, kids_from, label_of}
use Rattle.keyed_tree.specs.Kids.{ascend, ascend_from, is_ordered, are_ordered, kid_at}
use Rattle.keyed_tree.specs.Laws.{label_cmp_total}
use Rattle.keyed_tree.specs.Lists.{Ascends}
use Rattle.keyed_tree.specs.Order.{label_cmp}
use Rattle.keyed_tree.specs.View.{label_view}
use Rattle.keyed_tree.specs.declared.label.Label.{Label}
use Rattle.keyed_tree.proofs.Kids.{both, is_lt-Less}
use Rattle.keyed_tree.proofs.Views as keyed
use Rattle.keyed_tree.proofs.Kids as kids
use Rattle.archive_tree.specs.Data.{PlainNode, node, node_label, nodes_from, inner_node, leaf_node}
use Rattle.archive_tree.specs.View.{stamp_view, alt_view, node_view}
use Rattle.archive_tree.specs.declared.node.Alt.{Alt}
use Rattle.archive_tree.specs.declared.node.ANode.{ANode, Inner, Leaf, the_lemmas}
use Rattle.archive_tree.proofs.Parts.{nodes_from-nodes_list}
use Rattle.nested_merge.specs.Merged.{fresh, fresh_row, above}
use Rattle.nested_merge.specs.Plan.{PlainStep, old_step, steps_list, gone_step, planned, planned_row}

pub fresh_row-kids_from : (ks : List PlainKeyed) → fresh_row (kids_from ks) ≡ nodes_from (map (fresh None) ks)
fresh_row-kids_from [] = refl
fresh_row-kids_from (k ∷ ks) = ap (λ z. node (fresh None k) z) (fresh_row-kids_from ks)

pub node_view-Inner : (l : Label) (s : Option VersionSet) (ks : Vec ANode Global) → node_view (Inner l s ks) ≡ inner_node (label_view l) (stamp_view s) (nodes_from (map node_view ks.items))
node_view-Inner l s ks = search (rules, the_lemmas)

pub node_view-Leaf : (l : Label) (s : Option VersionSet) (xs : Vec Alt Global) → node_view (Leaf l s xs) ≡ leaf_node (label_view l) (stamp_view s) (map alt_view xs.items)
node_view-Leaf l s xs = search (rules, the_lemmas)

pub ruleset rows = (kids.kids_list-kids_from, nodes_from-nodes_list, fresh_row-kids_from, keyed.keyed_view-Inner, keyed.keyed_view-Leaf, node_view-Inner, node_view-Leaf)

-- ---- the steps

pub above_all : (m : PlainLabel) (c : PlainKeyed) (cs : List PlainKeyed) → label_cmp (label_of c) m ≡ Equal → IsTrue (ascend (kids_from (c ∷ cs))) → above m cs ≡ cs
above_all m c [] e h = refl
above_all m c (d ∷ ds) e h =
    let two = both (is_lt (label_cmp (label_of c) (label_of d))) (ascend_from (label_of d) (kids_from ds)) h in
    let low : label_cmp (label_of c) (label_of d) ≡ Less = is_lt-Less _ two.0 in
    let less : label_cmp m (label_of d) ≡ Less = sym (label_cmp_total.congr (label_of c) m (label_of d) e) ∙ low in
    let high : label_cmp (label_of d) m ≡ Greater = (let back = label_cmp_total.antisymm (label_of d) m in rw less at back) in
    rw high

none_above : (l : PlainLabel) (ks : List PlainKeyed) → AllByRecursion (λ x. label_cmp l x ≡ Less) (map label_of ks) → kid_at l ks ≡ None
none_above l [] h = refl
none_above l (k ∷ ks) h =
    let low = h.0 in
    let high : label_cmp (label_of k) l ≡ Greater = (let back = label_cmp_total.antisymm (label_of k) l in rw low at back) in
    rw high (none_above l ks h.1)

higher : (l m : PlainLabel) (xs : List PlainLabel) → label_cmp l m ≡ Less → AllByRecursion (λ x. label_cmp m x ≡ Less) xs → AllByRecursion (λ x. label_cmp l x ≡ Less) xs
higher l m [] e h = tt
higher l m (x ∷ xs) e h = (label_cmp_total.trans l m x e h.0, higher l m xs e h.1)

-- the label is below the first of ascending kids, so none has it
pub kid_at-Greater : (l : PlainLabel) (c : PlainKeyed) (cs : List PlainKeyed) → label_cmp (label_of c) l ≡ Greater → IsTrue (ascend (kids_from (c ∷ cs))) → kid_at l (c ∷ cs) ≡ None
kid_at-Greater l c cs e h =
    let low : label_cmp l (label_of c) ≡ Less = (let back = label_cmp_total.antisymm l (label_of c) in rw e at back) in
    let up : Ascends label_cmp (map label_of (c ∷ cs)) = subst (λ z. Ascends label_cmp (map label_of (c ∷ z))) (kids.kids_list-kids_from cs) (kids.ascend-all (kids_from (c ∷ cs)) h) in
    none_above l (c ∷ cs) (low, higher l (label_of c) (map label_of cs) low up.0)

module _ (n : ℕ) (q : List (ℕ × ℕ)) where
  abbrev pub woven : List PlainNode → List PlainKeyed → List PlainStep
  woven ks cs = steps_list (planned_row n q (nodes_from ks) cs)

  pub step_equal : (k : PlainNode) (ks : List PlainNode) (c : PlainKeyed) (cs : List PlainKeyed) → label_cmp (label_of c) (node_label k) ≡ Equal → IsTrue (ascend (kids_from (c ∷ cs))) → woven (k ∷ ks) (c ∷ cs) ≡ old_step (planned n q k c) ∷ woven ks cs
  step_equal k ks c cs e h = rw e (ap (λ z. old_step (planned n q k c) ∷ woven ks z) (above_all (node_label k) c cs e h))

  pub step_greater : (k : PlainNode) (ks : List PlainNode) (c : PlainKeyed) (cs : List PlainKeyed) → label_cmp (label_of c) (node_label k) ≡ Greater → IsTrue (ascend (kids_from (c ∷ cs))) → woven (k ∷ ks) (c ∷ cs) ≡ gone_step q k ∷ woven ks (c ∷ cs)
  step_greater k ks c cs e h =
      let none = kid_at-Greater (node_label k) c cs e h in
      rw none (rw e)

-- ---- one more turn of the walk

pub drop_at : {A : Type 0} (xs : List A) (i : ℕ) (x : A) → i < length xs → x ≡ get_or xs i x → (i < length xs) × (drop i xs ≡ x ∷ drop (i + 1) xs)
drop_at xs i x h e = (h, drop_more xs i x h ∙ ap (λ y. y ∷ drop (i + 1) xs) (sym e))

pub ascend_tail : (c : PlainKeyed) (cs : List PlainKeyed) → IsTrue (ascend (kids_from (c ∷ cs))) → IsTrue (ascend (kids_from cs))
ascend_tail c [] h = refl
ascend_tail c (d ∷ ds) h = (both (is_lt (label_cmp (label_of c) (label_of d))) (ascend_from (label_of d) (kids_from ds)) h).1

pub ordered_tail : (c : PlainKeyed) (cs : List PlainKeyed) → IsTrue (are_ordered (kids_from (c ∷ cs))) → IsTrue (are_ordered (kids_from cs))
ordered_tail c cs h = (both (is_ordered c) (are_ordered (kids_from cs)) h).1

pub pushed : {X Y : Type 0} (view : X → Y) (xs more : List X) (x : X) (y : Y) → more ≡ xs ++ x ∷ [] → view x ≡ y → map view more ≡ map view xs ++ y ∷ []
pushed view xs more x y e f = ap (map view) e ∙ map-append view xs (x ∷ []) ∙ ap (λ z. map view xs ++ z ∷ []) f

pub one_done : {Y : Type 0} (whole done more rest left : List Y) (y : Y) → whole ≡ done ++ rest → more ≡ done ++ y ∷ [] → rest ≡ y ∷ left → whole ≡ more ++ left
one_done whole done more rest left y e f g = e ∙ ap (λ z. done ++ z) g ∙ sym (append_assoc done (y ∷ []) left) ∙ ap (λ z. z ++ left) (sym f)
