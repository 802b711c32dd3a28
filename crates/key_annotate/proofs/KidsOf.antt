-- The kids that an inner element has: those of its attributes and those of its items, and when no two have one label.
use Rattle.std.proofs.Common.{◌≡◌, ◌≢◌, ℕ, zero, suc, Bool, true, false, cond, IsTrue, true≢false, List, [], ◌∷◌, ◌++◌, map, Option, Some, None, Result, Ok, Err, refl, ap, sym, subst, ◌∙◌, arith}
use Rattle.std.proofs.lemmas.Cmp.{nat_list_cmp_total, tied_itself}
use Rattle.std.specs.Result.{IsOk}
use Rattle.std.specs.List.{AllByRecursion, slice_get}
use Rattle.std.specs.Ordering.{is_lt, ordering_reverse, ordering_then}
use Rattle.std.specs.declared.cmp.Ordering.TheVariants.{Less, Greater}
use Rattle.std.specs.Cmp.Lexicographic.{slice_cmp}
use Rattle.std.proofs.lemmas.Bool.{cond-false}
use Rattle.jsonml_tree.specs.Data.{null, PlainAttr, text, element, PlainContent, content, PlainTrees, no_trees, tree, list_of}
use Rattle.jsonml_tree.specs.Order.{text_cmp}
use Rattle.jsonml_tree.specs.WellFormed.{ascends, is_ascending}
use Rattle.keyed_tree.specs.Data.{PlainName, attr, tag, PlainKey, PlainLabel, PlainKeyed, label_of}
use Rattle.keyed_tree.specs.Order.{key_cmp, label_cmp, name_cmp}
use Rattle.keyed_tree.specs.Proper.{is_tag}
use Rattle.keyed_tree.proofs.Kids.{both, is_lt-Less}
use Rattle.key_spec.specs.Data.{PlainRule}
use Rattle.key_spec.specs.Rules.{rule_of, is_frontier, below}
use Rattle.key_rules.specs.Labels.{PlainLabelFault, and_then, keys_from, label_by, label_in}
use Rattle.key_rules.specs.Satisfies.{ItemIsGood, ok_of, item_label}
use Rattle.key_rules.proofs.Repeats.{Differ}
use Rattle.key_annotate.specs.KeyedOf.{attr_leaf}
use Rattle.key_annotate.specs.Annotated.{put_kid, in_order, label_or_bare, annotated, annotated_items}
use Rattle.key_annotate.specs.DocumentTexts.{label_name, label-name}
use Rattle.key_annotate.proofs.InOrder.{Apart, all-order}

-- ---- names and labels

pub annotated-label : (rules : List PlainRule) (context : List (List ℕ)) (t : List ℕ) (c : PlainContent) → label_of (annotated rules context t c) ≡ label_or_bare t (label_in rules context t c)
annotated-label rules context t (content xs ts) = pick (is_frontier rules (below context t)) _ _ _ refl refl
  where
    pick : (b : Bool) (x y : PlainKeyed) (l : PlainLabel) → label_of x ≡ l → label_of y ≡ l → label_of (cond b x y) ≡ l
    pick true x y l e d = e
    pick false x y l e d = d

pub annotated-name : (rules : List PlainRule) (context : List (List ℕ)) (t : List ℕ) (c : PlainContent) → (label_of (annotated rules context t c)).name ≡ tag t
annotated-name rules context t c = ap (λ (l : PlainLabel). l.name) (annotated-label rules context t c) ∙ label_name (rule_of rules context t) t c

pub good-label : (t : List ℕ) (r : Result PlainLabel PlainLabelFault) → IsOk r → r ≡ Ok (label_or_bare t r)
good-label t (Ok l) h = refl
good-label t (Err e) h = absurd (true≢false (sym h))

-- each kid of an item is named by a tag
abbrev pub IsItemKid : PlainKeyed → Type 0
IsItemKid k = IsTrue (is_tag (label_of k).name)

pub items-tags : (rules : List PlainRule) (path : List (List ℕ)) (ts : PlainTrees) → AllByRecursion IsItemKid (annotated_items rules path ts)
items-tags rules path no_trees = tt
items-tags rules path (tree (text s) ts) = items-tags rules path ts
items-tags rules path (tree (element t c) ts) = (subst (λ n. IsTrue (is_tag n)) (sym (annotated-name rules path t c)) refl, items-tags rules path ts)

-- ---- the items' labels, at positions and among the kids

differ-tail : (o : Option PlainLabel) (ls : List (Option PlainLabel)) → Differ (o ∷ ls) → Differ ls
differ-tail o ls d = λ i j k l low a b. d (suc i) (suc j) k l (omega arith) a b

abbrev labels : List PlainRule → List (List ℕ) → PlainTrees → List (Option PlainLabel)
labels rules path ts = map (item_label rules path) (list_of ts)

abbrev Good : List PlainRule → List (List ℕ) → PlainTrees → Type 0
Good rules path ts = AllByRecursion (ItemIsGood rules path) (list_of ts)

-- the label of the kid is that of the item
own-label : (rules : List PlainRule) (path : List (List ℕ)) (t : List ℕ) (c : PlainContent) → IsOk (label_in rules path t c) → ok_of (label_in rules path t c) ≡ Some (label_of (annotated rules path t c))
own-label rules path t c h =
    ap ok_of (good-label t (label_in rules path t c) h) ∙ ap (λ l. Some l) (sym (annotated-label rules path t c))

abbrev At : List (Option PlainLabel) → PlainLabel → Type 0
At ls l = (n : ℕ) × (slice_get ls n ≡ Some (Some l))

at-later : (o : Option PlainLabel) (ls : List (Option PlainLabel)) (ks : List PlainKeyed) → AllByRecursion (λ k. At ls (label_of k)) ks → AllByRecursion (λ k. At (o ∷ ls) (label_of k)) ks
at-later o ls [] h = tt
at-later o ls (k ∷ ks) h = ((suc h.0.0, h.0.1), at-later o ls ks h.1)

kids-at : (rules : List PlainRule) (path : List (List ℕ)) (ts : PlainTrees) → Good rules path ts → AllByRecursion (λ k. At (labels rules path ts) (label_of k)) (annotated_items rules path ts)
kids-at rules path no_trees g = tt
kids-at rules path (tree (text s) ts) g = at-later None (labels rules path ts) (annotated_items rules path ts) (kids-at rules path ts g.1)
kids-at rules path (tree (element t c) ts) g =
    ((0, ap (λ o. Some o) (own-label rules path t c g.0)), at-later (ok_of (label_in rules path t c)) (labels rules path ts) (annotated_items rules path ts) (kids-at rules path ts g.1))

other-kids : (ls : List (Option PlainLabel)) (l : PlainLabel) (ks : List PlainKeyed) → Differ (Some l ∷ ls) → AllByRecursion (λ k. At ls (label_of k)) ks → AllByRecursion (λ k. l ≢ label_of k) ks
other-kids ls l [] d h = tt
other-kids ls l (k ∷ ks) d h = (d 0 (suc h.0.0) l (label_of k) (omega arith) refl h.0.1, other-kids ls l ks d h.1)

pub differ-apart : (rules : List PlainRule) (path : List (List ℕ)) (ts : PlainTrees) → Good rules path ts → Differ (labels rules path ts) → Apart (annotated_items rules path ts)
differ-apart rules path no_trees g d = tt
differ-apart rules path (tree (text s) ts) g d = differ-apart rules path ts g.1 (differ-tail None (labels rules path ts) d)
differ-apart rules path (tree (element t c) ts) g d =
    let own = own-label rules path t c g.0 in
    let first : Differ (Some (label_of (annotated rules path t c)) ∷ labels rules path ts) = subst (λ o. Differ (o ∷ labels rules path ts)) own d in (
      other-kids (labels rules path ts) (label_of (annotated rules path t c)) (annotated_items rules path ts) first (kids-at rules path ts g.1),
      differ-apart rules path ts g.1 (differ-tail (ok_of (label_in rules path t c)) (labels rules path ts) d),
    )

-- what holds of each kid's label holds of each item's
items-have : (rules : List PlainRule) (path : List (List ℕ)) (P : PlainLabel → Type 0) (ts : PlainTrees) → Good rules path ts → AllByRecursion (λ k. P (label_of k)) (annotated_items rules path ts)
    → (n : ℕ) (l : PlainLabel) → slice_get (labels rules path ts) n ≡ Some (Some l) → P l
items-have rules path P no_trees g h n l e = cc
items-have rules path P (tree (text s) ts) g h zero l e = cc
items-have rules path P (tree (text s) ts) g h (suc n) l e = items-have rules path P ts g.1 h n l e
items-have rules path P (tree (element t c) ts) g h zero l e =
    let own = own-label rules path t c g.0 in
    let same : label_of (annotated rules path t c) ≡ l = cc in
    subst P same h.0
items-have rules path P (tree (element t c) ts) g h (suc n) l e = items-have rules path P ts g.1 h.1 n l e

pub apart-differ : (rules : List PlainRule) (path : List (List ℕ)) (ts : PlainTrees) → Good rules path ts → Apart (annotated_items rules path ts) → Differ (labels rules path ts)
apart-differ rules path no_trees g a i j k l low at_i at_j = cc
apart-differ rules path (tree (text s) ts) g a zero j k l low at_i at_j = cc
apart-differ rules path (tree (text s) ts) g a (suc i) zero k l low at_i at_j = absurd (omega arith)
apart-differ rules path (tree (text s) ts) g a (suc i) (suc j) k l low at_i at_j = apart-differ rules path ts g.1 a i j k l (omega arith) at_i at_j
apart-differ rules path (tree (element t c) ts) g a zero zero k l low at_i at_j = absurd (omega arith)
apart-differ rules path (tree (element t c) ts) g a zero (suc j) k l low at_i at_j =
    let own = own-label rules path t c g.0 in
    let same : label_of (annotated rules path t c) ≡ k = cc in
    subst (λ m. m ≢ l) same (items-have rules path (λ m. label_of (annotated rules path t c) ≢ m) ts g.1 a.0 j l at_j)
apart-differ rules path (tree (element t c) ts) g a (suc i) zero k l low at_i at_j = absurd (omega arith)
apart-differ rules path (tree (element t c) ts) g a (suc i) (suc j) k l low at_i at_j = apart-differ rules path ts g.1 a.1 i j k l (omega arith) at_i at_j

-- ---- attributes before the items' kids

names-above : (last : List ℕ) (xs : List PlainAttr) → IsTrue (ascends last xs) → AllByRecursion (λ a. text_cmp last a.name ≡ Less) xs
names-above last [] h = tt
names-above last (a ∷ xs) h =
    let two = both (is_lt (text_cmp last a.name)) (ascends a.name xs) h in
    let next = is_lt-Less _ two.0 in
    (next, further last a.name xs next (names-above a.name xs two.1))
  where
    further : (r s : List ℕ) (xs : List PlainAttr) → text_cmp r s ≡ Less → AllByRecursion (λ a. text_cmp s a.name ≡ Less) xs → AllByRecursion (λ a. text_cmp r a.name ≡ Less) xs
    further r s [] e h = tt
    further r s (a ∷ xs) e h = (nat_list_cmp_total.trans r s a.name e h.0, further r s xs e h.1)

abbrev attr_name : PlainName → List ℕ
attr_name (attr s) = s
attr_name (tag s) = s

other_attr : (r s : List ℕ) → text_cmp r s ≡ Less → label_of (attr_leaf (record { name = r; value = null })) ≢ label_of (attr_leaf (record { name = s; value = null }))
other_attr r s less e =
    let names : r ≡ s = ap (λ (l : PlainLabel). attr_name l.name) e in
    let tied = tied_itself nat_list_cmp_total r in
    let same : text_cmp r s ≡ text_cmp r r = ap (text_cmp r) (sym names) in
    cc

attr_not_tag : (a : PlainAttr) (k : PlainKeyed) → IsItemKid k → label_of (attr_leaf a) ≢ label_of k
attr_not_tag a k h e = let names : attr a.name ≡ (label_of k).name = ap (λ (l : PlainLabel). l.name) e in true≢false (sym (subst (λ n. IsTrue (is_tag n)) (sym names) h))

others-first : (a : PlainAttr) (xs : List PlainAttr) (ks : List PlainKeyed) → AllByRecursion (λ b. text_cmp a.name b.name ≡ Less) xs → AllByRecursion IsItemKid ks
    → AllByRecursion (λ j. label_of (attr_leaf a) ≢ label_of j) (map attr_leaf xs ++ ks)
others-first a [] [] h g = tt
others-first a [] (k ∷ ks) h g = (attr_not_tag a k g.0, others-first a [] ks tt g.1)
others-first a (b ∷ xs) ks h g = (other_attr a.name b.name h.0, others-first a xs ks h.1 g)

attrs-from : (last : List ℕ) (xs : List PlainAttr) (ks : List PlainKeyed) → IsTrue (ascends last xs) → AllByRecursion IsItemKid ks → Apart ks → Apart (map attr_leaf xs ++ ks)
attrs-from last [] ks h g a = a
attrs-from last (x ∷ xs) ks h g a =
    let two = both (is_lt (text_cmp last x.name)) (ascends x.name xs) h in
    (others-first x xs ks (names-above x.name xs two.1) g, attrs-from x.name xs ks two.1 g a)

pub attrs-apart : (xs : List PlainAttr) (ks : List PlainKeyed) → IsTrue (is_ascending xs) → AllByRecursion IsItemKid ks → Apart ks → Apart (map attr_leaf xs ++ ks)
attrs-apart [] ks h g a = a
attrs-apart (x ∷ xs) ks h g a = (others-first x xs ks (names-above x.name xs h) g, attrs-from x.name xs ks h g a)

-- a tag is not below an attribute
tag_above : (a : PlainAttr) (l : PlainLabel) → IsTrue (is_tag l.name) → is_lt (label_cmp l (label_of (attr_leaf a))) ≡ false
tag_above a l h = by-name l.name l.keys h
  where
    by-name : (n : PlainName) (keys : List PlainKey) → IsTrue (is_tag n) → is_lt (ordering_then (name_cmp n (attr a.name)) (slice_cmp key_cmp keys [])) ≡ false
    by-name (attr s) keys h = absurd (true≢false (sym h))
    by-name (tag s) keys h = refl

-- nor is an attribute below one with a lower name
attr_above : (a b : PlainAttr) → text_cmp a.name b.name ≡ Less → is_lt (label_cmp (label_of (attr_leaf b)) (label_of (attr_leaf a))) ≡ false
attr_above a b less = let more : text_cmp b.name a.name ≡ Greater = nat_list_cmp_total.antisymm b.name a.name ∙ ap ordering_reverse less in rw more refl

-- an attribute before those above it and the elements
attr-put : (a : PlainAttr) (xs : List PlainAttr) (ks : List PlainKeyed) → AllByRecursion (λ b. text_cmp a.name b.name ≡ Less) xs → AllByRecursion IsItemKid ks
    → put_kid (attr_leaf a) (map attr_leaf xs ++ ks) ≡ attr_leaf a ∷ (map attr_leaf xs ++ ks)
attr-put a [] [] h g = refl
attr-put a [] (k ∷ ks) h g = cond-false _ _ _ (tag_above a (label_of k) g.0)
attr-put a (b ∷ xs) ks h g = cond-false _ _ _ (attr_above a b h.0)

-- attributes in their order, and behind them the elements in theirs
attrs-order : (last : List ℕ) (xs : List PlainAttr) (ks : List PlainKeyed) → IsTrue (ascends last xs) → AllByRecursion IsItemKid ks → in_order (map attr_leaf xs ++ ks) ≡ map attr_leaf xs ++ in_order ks
attrs-order last [] ks h g = refl
attrs-order last (x ∷ xs) ks h g =
    let two = both (is_lt (text_cmp last x.name)) (ascends x.name xs) h in
    ap (put_kid (attr_leaf x)) (attrs-order x.name xs ks two.1 g) ∙ attr-put x xs (in_order ks) (names-above x.name xs two.1) (all-order IsItemKid ks g)

pub attrs-first : (xs : List PlainAttr) (ks : List PlainKeyed) → IsTrue (is_ascending xs) → AllByRecursion IsItemKid ks → in_order (map attr_leaf xs ++ ks) ≡ map attr_leaf xs ++ in_order ks
attrs-first [] ks h g = refl
attrs-first (x ∷ xs) ks h g = ap (put_kid (attr_leaf x)) (attrs-order x.name xs ks h g) ∙ attr-put x xs (in_order ks) (names-above x.name xs h) (all-order IsItemKid ks g)
