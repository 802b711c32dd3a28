-- What every keyed tree of a document is: an element's tree, proper, in order, well formed, and no deeper than the document.
use Rattle.std.proofs.Common.{◌≡◌, ◌⊎◌, ℕ, suc, max, ◌≤◌, Bool, true, false, cond, ◌&&◌, IsTrue, true≢false, List, [], ◌∷◌, ◌++◌, map, Result, Ok, Err, Any, refl, sym, subst, inl, inr, arith}
use Rattle.std.specs.Bool.{MatchBool}
use Rattle.std.specs.List.{AllByRecursion}
use Rattle.jsonml_tree.specs.Data.{PlainAttr, PlainTree, text, element, PlainContent, content, PlainTrees, no_trees, tree, tree_depth, content_depth, trees_depth}
use Rattle.jsonml_tree.specs.Fits.{is_element}
use Rattle.jsonml_tree.specs.WellFormed.{is_in_range, is_ascending, are_in_range, is_content_well_formed, are_well_formed, IsWellFormed}
use Rattle.keyed_tree.specs.Data.{PlainName, attr, tag, inside, PlainLabel, PlainKeyed, inner, leaf, PlainKids, no_kids, kid, kids_from, kids_of, label_of}
use Rattle.keyed_tree.specs.Kids.{ascend, is_ordered, are_ordered, IsOrdered}
use Rattle.keyed_tree.specs.Proper.{is_tag, is_leaf_proper, is_proper, are_proper, IsProper, IsElement}
use Rattle.keyed_tree.specs.Plain.{item_onto, items_among, plain}
use Rattle.keyed_tree.specs.WellFormed.{is_key_well_formed, is_label_well_formed, is_keyed_well_formed, are_kids_well_formed, IsKeyedWellFormed}
use Rattle.keyed_tree.proofs.Kids.{both}
use Rattle.jsonml_tree.proofs.Lists.{all_has, has_all}
use Rattle.key_spec.specs.Data.{PlainRule}
use Rattle.key_spec.specs.Rules.{is_frontier, below}
use Rattle.key_rules.specs.Labels.{PlainLabelFault, label_in}
use Rattle.key_rules.proofs.Labelled.{label_in-good}
use Rattle.key_annotate.specs.KeyedOf.{attr_leaf, InnerKeyed, ContentKeyed, EachIsKid, IsOfItem, IsKeyedTreeOf}
use Rattle.key_annotate.specs.Annotated.{in_order, label_or_bare, annotated, annotated_items, keyed_tree}
use Rattle.key_annotate.proofs.InOrder.{order-has}
use Rattle.key_annotate.specs.DocumentTexts.{label-name}
use Rattle.key_annotate.proofs.KidsOf.{annotated-name}

both_true : (a b : Bool) → IsTrue a → IsTrue b → IsTrue (a && b)
both_true true b h g = g
both_true false b h g = h

-- ---- proper

leaf-proper : (l : PlainLabel) (c : PlainContent) (t : List ℕ) → l.name ≡ tag t → IsProper (leaf l (inside c))
leaf-proper l c t e = subst (λ n. IsTrue (is_leaf_proper n l.keys (inside c))) (sym e) refl

inner-proper : (l : PlainLabel) (ks : List PlainKeyed) (t : List ℕ) → l.name ≡ tag t → IsTrue (ascend (kids_from ks)) → IsTrue (are_proper (kids_from ks)) → IsProper (inner l (kids_from ks))
inner-proper l ks t e up p =
    let named : IsTrue (is_tag l.name) = subst (λ n. IsTrue (is_tag n)) (sym e) refl in
    both_true (is_tag l.name && ascend (kids_from ks)) (are_proper (kids_from ks)) (both_true (is_tag l.name) (ascend (kids_from ks)) named up) p

all-proper : (ks : List PlainKeyed) → AllByRecursion IsProper ks → IsTrue (are_proper (kids_from ks))
all-proper [] h = refl
all-proper (k ∷ ks) h = both_true (is_proper k) (are_proper (kids_from ks)) h.0 (all-proper ks h.1)

attr-proper : (xs : List PlainAttr) (z : PlainKeyed) → Any (λ a. z ≡ attr_leaf a) xs → IsProper z
attr-proper xs z h = subst IsProper (sym h.4) refl

each-proper : (P : PlainKeyed → Type 0) (xs : List PlainAttr) (ks : List PlainKeyed) → ((z : PlainKeyed) → P z → IsProper z) → AllByRecursion (λ c. Any (λ a. c ≡ attr_leaf a) xs ⊎ P c) ks → AllByRecursion IsProper ks
each-proper P xs [] f h = tt
each-proper P xs (k ∷ ks) f h = (elim h.0 [ inl a ↦ attr-proper xs k a | inr p ↦ f k p ], each-proper P xs ks f h.1)

by-cases : (b : Bool) (P Q G : Type 0) → (P → G) → (Q → G) → MatchBool b P Q → G
by-cases true P Q G f g h = f h
by-cases false P Q G f g h = g h

mutual
  content-proper : (rules : List PlainRule) (context : List (List ℕ)) (t : List ℕ) (c : PlainContent) (k : PlainKeyed) → (label_of k).name ≡ tag t → ContentKeyed rules (below context t) c k → IsProper k
  content-proper rules context t (content xs ts) k e h =
      let path = below context t in
      by-cases (is_frontier rules path) (k ≡ leaf (label_of k) (inside (content xs ts))) (InnerKeyed xs k (EachIsKid rules path ts k) (IsOfItem rules path ts)) (IsProper k)
      (λ is. subst IsProper (sym is) (leaf-proper (label_of k) (content xs ts) t e))
      (λ i. subst IsProper (sym i.node) (inner-proper (label_of k) (kids_of k) t e i.ascending (all-proper (kids_of k) (each-proper (IsOfItem rules path ts) xs (kids_of k) (item-proper rules path ts) i.only)))) h

  item-proper : (rules : List PlainRule) (path : List (List ℕ)) (ts : PlainTrees) (z : PlainKeyed) → IsOfItem rules path ts z → IsProper z
  item-proper rules path no_trees z h = absurd h
  item-proper rules path (tree (text x) ts) z h = elim h [ inl n ↦ absurd n | inr n ↦ item-proper rules path ts z n ]
  item-proper rules path (tree (element t c) ts) z h = elim h [
    | inl n ↦ content-proper rules path t c z (label-name rules path t c (label_of z) n.0) n.1
    | inr n ↦ item-proper rules path ts z n
  ]

pub keyed-proper : (rules : List PlainRule) (t : PlainTree) (k : PlainKeyed) → IsKeyedTreeOf rules t k → IsProper k
keyed-proper rules (text s) k h = absurd h
keyed-proper rules (element t c) k h = content-proper rules [] t c k (label-name rules [] t c (label_of k) h.0) h.1

-- ---- named by a tag, and in order

as-element : (k : PlainKeyed) → IsTrue (is_tag (label_of k).name) → IsElement k
as-element (inner l ks) h = h
as-element (leaf l b) h = h

pub keyed-element : (rules : List PlainRule) (t : PlainTree) (k : PlainKeyed) → IsKeyedTreeOf rules t k → IsElement k
keyed-element rules (text s) k h = absurd h
keyed-element rules (element t c) k h = as-element k (subst (λ n. IsTrue (is_tag n)) (sym (label-name rules [] t c (label_of k) h.0)) refl)

mutual
  pub proper-ordered : (k : PlainKeyed) → IsProper k → IsOrdered k
  proper-ordered (inner l ks) h =
      let two = both (is_tag l.name && ascend ks) (are_proper ks) h in
      both_true (ascend ks) (are_ordered ks) (both (is_tag l.name) (ascend ks) two.0).1 (proper-all ks two.1)
  proper-ordered (leaf l b) h = refl

  proper-all : (ks : PlainKids) → IsTrue (are_proper ks) → IsTrue (are_ordered ks)
  proper-all no_kids h = refl
  proper-all (kid k ks) h = let two = both (is_proper k) (are_proper ks) h in both_true (is_ordered k) (are_ordered ks) (proper-ordered k two.0) (proper-all ks two.1)

-- ---- well formed

bare-well : (t : List ℕ) (r : Result PlainLabel PlainLabelFault) → ((l : PlainLabel) → r ≡ Ok l → IsTrue (is_label_well_formed l)) → IsTrue (is_label_well_formed (label_or_bare t r))
bare-well t (Ok l) h = h l refl
bare-well t (Err e) h = refl

all-well : (ks : List PlainKeyed) → AllByRecursion IsKeyedWellFormed ks → IsTrue (are_kids_well_formed (kids_from ks))
all-well [] h = refl
all-well (k ∷ ks) h = both_true (is_keyed_well_formed k) (are_kids_well_formed (kids_from ks)) h.0 (all-well ks h.1)

order-all : (P : PlainKeyed → Type 0) (ks : List PlainKeyed) → AllByRecursion P ks → AllByRecursion P (in_order ks)
order-all P ks h = has_all P (in_order ks) (λ z m. all_has P ks z h (order-has z ks m))

append-all : {X : Type 0} (P : X → Type 0) (xs ys : List X) → AllByRecursion P xs → AllByRecursion P ys → AllByRecursion P (xs ++ ys)
append-all P [] ys h g = g
append-all P (x ∷ xs) ys h g = (h.0, append-all P xs ys h.1 g)

attrs-well : (xs : List PlainAttr) → IsTrue (are_in_range xs) → AllByRecursion IsKeyedWellFormed (map attr_leaf xs)
attrs-well [] h = tt
attrs-well (x ∷ xs) h = let two = both (is_in_range x.value) (are_in_range xs) h in (two.0, attrs-well xs two.1)

pick : (b : Bool) (x y : PlainKeyed) (P : PlainKeyed → Type 0) → P x → P y → P (cond b x y)
pick true x y P h g = h
pick false x y P h g = g

mutual
  annotated-well : (rules : List PlainRule) (context : List (List ℕ)) (t : List ℕ) (c : PlainContent) → IsTrue (is_content_well_formed c) → IsKeyedWellFormed (annotated rules context t c)
  annotated-well rules context t (content xs ts) w =
      let two = both (is_ascending xs && are_in_range xs) (are_well_formed ts) w in
      let range = (both (is_ascending xs) (are_in_range xs) two.0).1 in
      let path = below context t in
      let l = label_or_bare t (label_in rules context t (content xs ts)) in
      let all = map attr_leaf xs ++ annotated_items rules path ts in
      let label : IsTrue (is_label_well_formed l) = bare-well t (label_in rules context t (content xs ts)) (λ m e. label_in-good rules context t (content xs ts) m w e) in
      let kids = all-well (in_order all) (order-all IsKeyedWellFormed all (append-all IsKeyedWellFormed (map attr_leaf xs) (annotated_items rules path ts) (attrs-well xs range) (items-well rules path ts two.1))) in
      pick (is_frontier rules path) (leaf l (inside (content xs ts))) (inner l (kids_from (in_order all))) IsKeyedWellFormed
      (both_true (is_label_well_formed l) (is_key_well_formed (inside (content xs ts))) label w)
      (both_true (is_label_well_formed l) (are_kids_well_formed (kids_from (in_order all))) label kids)

  items-well : (rules : List PlainRule) (path : List (List ℕ)) (ts : PlainTrees) → IsTrue (are_well_formed ts) → AllByRecursion IsKeyedWellFormed (annotated_items rules path ts)
  items-well rules path no_trees w = tt
  items-well rules path (tree (text x) ts) w = items-well rules path ts w
  items-well rules path (tree (element t c) ts) w =
      let two = both (is_content_well_formed c) (are_well_formed ts) w in
      (annotated-well rules path t c two.0, items-well rules path ts two.1)

pub keyed_tree-well : (rules : List PlainRule) (t : PlainTree) → IsWellFormed t → IsKeyedWellFormed (keyed_tree rules t)
keyed_tree-well rules (text s) w = refl
keyed_tree-well rules (element t c) w = annotated-well rules [] t c w

-- ---- no deeper

-- how deep the item is that a kid spells: an attribute spells none
abbrev kid_depth : PlainKeyed → ℕ
kid_depth k = trees_depth (item_onto (label_of k).name (plain k) no_trees)

onto-depth : (n : PlainName) (p : PlainTree) (rest : PlainTrees) → trees_depth (item_onto n p rest) ≡ max (trees_depth (item_onto n p no_trees)) (trees_depth rest)
onto-depth (attr s) p rest = omega arith
onto-depth (tag s) p rest = omega arith

kids-depth : (n : ℕ) (ks : List PlainKeyed) → AllByRecursion (λ k. kid_depth k ≤ n) ks → trees_depth (items_among (kids_from ks)) ≤ n
kids-depth n [] h = omega arith
kids-depth n (k ∷ ks) h =
    let more = onto-depth (label_of k).name (plain k) (items_among (kids_from ks)) in
    let first : kid_depth k ≤ n = h.0 in
    let rest = kids-depth n ks h.1 in
    omega arith

named-depth : (n : PlainName) (t : List ℕ) (p : PlainTree) → n ≡ tag t → trees_depth (item_onto n p no_trees) ≡ tree_depth p
named-depth n t p e = subst (λ m. trees_depth (item_onto m p no_trees) ≡ tree_depth p) (sym e) (omega arith)

attrs-flat : (n : ℕ) (xs : List PlainAttr) → AllByRecursion (λ k. kid_depth k ≤ n) (map attr_leaf xs)
attrs-flat n [] = tt
attrs-flat n (x ∷ xs) = (omega arith, attrs-flat n xs)

deeper : (n m : ℕ) (ks : List PlainKeyed) → n ≤ m → AllByRecursion (λ k. kid_depth k ≤ n) ks → AllByRecursion (λ k. kid_depth k ≤ m) ks
deeper n m [] e h = tt
deeper n m (k ∷ ks) e h = (let first : kid_depth k ≤ n = h.0 in omega arith, deeper n m ks e h.1)

mutual
  annotated-depth : (rules : List PlainRule) (context : List (List ℕ)) (t : List ℕ) (c : PlainContent) → tree_depth (plain (annotated rules context t c)) ≤ suc (content_depth c)
  annotated-depth rules context t (content xs ts) =
      let path = below context t in
      let l = label_or_bare t (label_in rules context t (content xs ts)) in
      let items = annotated_items rules path ts in
      let all = map attr_leaf xs ++ items in
      let n = trees_depth ts in
      let kids = kids-depth n (in_order all) (order-all (λ k. kid_depth k ≤ n) all (append-all (λ k. kid_depth k ≤ n) (map attr_leaf xs) items (attrs-flat n xs) (items-depth rules path ts))) in
      pick (is_frontier rules path) (leaf l (inside (content xs ts))) (inner l (kids_from (in_order all))) (λ k. tree_depth (plain k) ≤ suc n) (omega arith) (omega arith)

  items-depth : (rules : List PlainRule) (path : List (List ℕ)) (ts : PlainTrees) → AllByRecursion (λ k. kid_depth k ≤ trees_depth ts) (annotated_items rules path ts)
  items-depth rules path no_trees = tt
  items-depth rules path (tree (text x) ts) = deeper (trees_depth ts) (trees_depth (tree (text x) ts)) (annotated_items rules path ts) (omega arith) (items-depth rules path ts)
  items-depth rules path (tree (element t c) ts) =
      let k = annotated rules path t c in
      let own = annotated-depth rules path t c in
      let same : kid_depth k ≡ tree_depth (plain k) = named-depth (label_of k).name t (plain k) (annotated-name rules path t c) in
      (omega arith, deeper (trees_depth ts) (trees_depth (tree (element t c) ts)) (annotated_items rules path ts) (omega arith) (items-depth rules path ts))

pub keyed_tree-depth : (rules : List PlainRule) (t : PlainTree) → IsTrue (is_element t) → tree_depth (plain (keyed_tree rules t)) ≤ tree_depth t
keyed_tree-depth rules (text s) h = absurd (true≢false (sym h))
keyed_tree-depth rules (element t c) h = annotated-depth rules [] t c
