-- Where the keys are satisfied exactly one tree stands for the document.
use Rattle.std.proofs.Common.{◌≡◌, ◌⊎◌, ℕ, zero, suc, ◌<◌, Bool, true, false, cond, ◌&&◌, IsTrue, true≢false, List, [], ◌∷◌, ◌++◌, map, length, get_or, Result, Ok, Any, refl, ap, sym, subst, ◌∙◌, inl, inr, arith}
use Rattle.std.specs.Result.{IsOk}
use Rattle.std.specs.Bool.{OnFalse, MatchBool}
use Rattle.std.specs.List.{AllByRecursion, Contains}
use Rattle.jsonml_tree.specs.Data.{PlainAttr, PlainTree, text, element, PlainContent, content, PlainTrees, no_trees, tree, list_of}
use Rattle.jsonml_tree.specs.Fits.{is_element}
use Rattle.jsonml_tree.specs.WellFormed.{is_ascending, are_in_range, is_content_well_formed, are_well_formed, IsWellFormed}
use Rattle.keyed_tree.specs.Data.{inside, PlainLabel, PlainKeyed, inner, leaf, kids_from, kids_list, kids_of, label_of}
use Rattle.keyed_tree.specs.Kids.{ascend}
use Rattle.keyed_tree.specs.Lists.{Has}
use Rattle.keyed_tree.specs.Laws.{label_cmp_total}
use Rattle.keyed_tree.proofs.Kids.{both, kids_list-kids_from}
use Rattle.jsonml_tree.proofs.Lists.{all_has, has_all, any_has, has_any, same_items}
use Rattle.key_spec.specs.Data.{PlainRule}
use Rattle.key_spec.specs.Rules.{is_frontier, below}
use Rattle.key_rules.specs.Labels.{PlainLabelFault, label_in}
use Rattle.key_rules.specs.Satisfies.{ItemIsGood, ItemsSatisfy, ContentSatisfies, EachSatisfies, Satisfies}
use Rattle.key_annotate.specs.KeyedOf.{attr_leaf, InnerKeyed, ContentKeyed, EachIsKid, IsOfItem, IsKeyedTreeOf}
use Rattle.key_annotate.specs.Annotated.{in_order, label_or_bare, annotated, annotated_items, keyed_tree}
use Rattle.key_annotate.proofs.InOrder.{has-order, order-has, rise-order, ascend-rise, rise-ascend}
use Rattle.key_annotate.proofs.Sorted.{at_has, has_at}
use Rattle.key_annotate.proofs.KidsOf.{good-label, annotated-label}
use Rattle.key_annotate.proofs.Built.{kids-apart}

abbrev Good : List PlainRule → List (List ℕ) → PlainTrees → Type 0
Good rules path ts = AllByRecursion (ItemIsGood rules path) (list_of ts)

-- ---- lists

has-left : (z : PlainKeyed) (xs ys : List PlainKeyed) → Has z xs → Has z (xs ++ ys)
has-left z [] ys m = absurd m
has-left z (x ∷ xs) ys m = elim m [ inl e ↦ inl e | inr n ↦ inr (has-left z xs ys n) ]

has-right : (z : PlainKeyed) (xs ys : List PlainKeyed) → Has z ys → Has z (xs ++ ys)
has-right z [] ys m = m
has-right z (x ∷ xs) ys m = inr (has-right z xs ys m)

has-either : (z : PlainKeyed) (xs ys : List PlainKeyed) → Has z (xs ++ ys) → Has z xs ⊎ Has z ys
has-either z [] ys m = inr m
has-either z (x ∷ xs) ys m = elim m [ inl e ↦ inl (inl e) | inr n ↦ elim (has-either z xs ys n) [ inl a ↦ inl (inr a) | inr b ↦ inr b ] ]

any-attr : (z : PlainKeyed) (xs : List PlainAttr) → Has z (map attr_leaf xs) → Any (λ a. z ≡ attr_leaf a) xs
any-attr z [] m = absurd m
any-attr z (x ∷ xs) m = elim m [
  | inl e ↦ (0, x, omega arith, refl, sym e)
  | inr n ↦ (let h = any-attr z xs n in let low : h.0 < length xs = h.2 in (suc h.0, h.1, omega arith, h.3, h.4))
]

attr-any : (z : PlainKeyed) (xs : List PlainAttr) → Any (λ a. z ≡ attr_leaf a) xs → Has z (map attr_leaf xs)
attr-any z xs h = go xs h.0 h.1 h.2 h.3 h.4
  where
    go : (xs : List PlainAttr) (k : ℕ) (a : PlainAttr) → k < length xs → get_or xs k a ≡ a → z ≡ attr_leaf a → Has z (map attr_leaf xs)
    go [] k a low at e = absurd (omega arith)
    go (y ∷ ys) zero a low at e = inl (ap attr_leaf at ∙ sym e)
    go (y ∷ ys) (suc k) a low at e = inr (go ys k a (omega arith) at e)

attrs-contained : (ks : List PlainKeyed) (xs : List PlainAttr) → ((a : PlainAttr) → Has a xs → Has (attr_leaf a) ks) → AllByRecursion (λ a. Contains ks (attr_leaf a)) xs
attrs-contained ks [] h = tt
attrs-contained ks (x ∷ xs) h = (has_at ks (attr_leaf x) (h x (inl refl)), attrs-contained ks xs (λ a m. h a (inr m)))

attr-mapped : (a : PlainAttr) (xs : List PlainAttr) → Has a xs → Has (attr_leaf a) (map attr_leaf xs)
attr-mapped a [] m = absurd m
attr-mapped a (x ∷ xs) m = elim m [ inl e ↦ inl (ap attr_leaf e) | inr n ↦ inr (attr-mapped a xs n) ]

contained-attrs : (ks : List PlainKeyed) (xs : List PlainAttr) (z : PlainKeyed) → AllByRecursion (λ a. Contains ks (attr_leaf a)) xs → Has z (map attr_leaf xs) → Has z ks
contained-attrs ks [] z h m = absurd m
contained-attrs ks (x ∷ xs) z h m = elim m [
  | inl e ↦ subst (λ w. Has w ks) e (at_has ks h.0.0 (attr_leaf x) h.0.1 h.0.2)
  | inr n ↦ contained-attrs ks xs z h.1 n
]

-- ---- the keyed tree stands for the document

abbrev order : List PlainRule → List (List ℕ) → List PlainAttr → PlainTrees → List PlainKeyed
order rules path xs ts = in_order (map attr_leaf xs ++ annotated_items rules path ts)

-- a leaf or an inner node, by what is known of each
by-frontier : (b : Bool) (x y : PlainKeyed) (P Q : PlainKeyed → Type 0) → P x → OnFalse b (Q y) → MatchBool b (P (cond b x y)) (Q (cond b x y))
by-frontier true x y P Q p q = p
by-frontier false x y P Q p q = q

OnFalse-map : (b : Bool) (P Q : Type 0) → (P → Q) → OnFalse b P → OnFalse b Q
OnFalse-map true P Q f h = tt
OnFalse-map false P Q f h = f h

label-is : (rules : List PlainRule) (context : List (List ℕ)) (t : List ℕ) (c : PlainContent) → IsOk (label_in rules context t c) → label_in rules context t c ≡ Ok (label_of (annotated rules context t c))
label-is rules context t c h = good-label t (label_in rules context t c) h ∙ ap (λ l. Ok l) (sym (annotated-label rules context t c))

inner-keyed : (rules : List PlainRule) (path : List (List ℕ)) (l : PlainLabel) (xs : List PlainAttr) (ts : PlainTrees) → IsTrue (ascend (kids_from (order rules path xs ts)))
    → EachIsKid rules path ts (inner l (kids_from (order rules path xs ts))) → AllByRecursion (IsOfItem rules path ts) (annotated_items rules path ts)
    → InnerKeyed xs (inner l (kids_from (order rules path xs ts))) (EachIsKid rules path ts (inner l (kids_from (order rules path xs ts)))) (IsOfItem rules path ts)
inner-keyed rules path l xs ts up each of =
    let js = order rules path xs ts in
    let list : kids_list (kids_from js) ≡ js = kids_list-kids_from js in
    let items = annotated_items rules path ts in
    record {
      node = ap (λ ks. inner l (kids_from ks)) (sym list);
      ascending = subst (λ ks. IsTrue (ascend (kids_from ks))) (sym list) up;
      attrs = attrs-contained (kids_list (kids_from js)) xs (λ a m. subst (λ ks. Has (attr_leaf a) ks) (sym list) (has-order (attr_leaf a) (map attr_leaf xs ++ items) (has-left (attr_leaf a) (map attr_leaf xs) items (attr-mapped a xs m))));
      items = each;
      only = subst (λ ks. AllByRecursion (λ c. Any (λ a. c ≡ attr_leaf a) xs ⊎ IsOfItem rules path ts c) ks) (sym list)
          (has_all (λ c. Any (λ a. c ≡ attr_leaf a) xs ⊎ IsOfItem rules path ts c) js (λ z m. elim (has-either z (map attr_leaf xs) items (order-has z (map attr_leaf xs ++ items) m)) [
            | inl n ↦ inl (any-attr z xs n)
            | inr n ↦ inr (all_has (IsOfItem rules path ts) items z of n)
          ]));
    }

of-later : (rules : List PlainRule) (path : List (List ℕ)) (x : PlainTree) (ts : PlainTrees) (ks : List PlainKeyed) → AllByRecursion (IsOfItem rules path ts) ks → AllByRecursion (IsOfItem rules path (tree x ts)) ks
of-later rules path x ts [] h = tt
of-later rules path x ts (k ∷ ks) h = (inr h.0, of-later rules path x ts ks h.1)

mutual
  content-keyed : (rules : List PlainRule) (context : List (List ℕ)) (t : List ℕ) (c : PlainContent) → IsTrue (is_content_well_formed c) → IsOk (label_in rules context t c)
      → ContentSatisfies rules (below context t) c → ContentKeyed rules (below context t) c (annotated rules context t c)
  content-keyed rules context t (content xs ts) w h s =
      let two = both (is_ascending xs && are_in_range xs) (are_well_formed ts) w in
      let rise = (both (is_ascending xs) (are_in_range xs) two.0).0 in
      let path = below context t in
      let l = label_or_bare t (label_in rules context t (content xs ts)) in
      let k = inner l (kids_from (order rules path xs ts)) in
      by-frontier (is_frontier rules path) (leaf l (inside (content xs ts))) k
      (λ x. x ≡ leaf (label_of x) (inside (content xs ts)))
      (λ x. InnerKeyed xs x (EachIsKid rules path ts x) (IsOfItem rules path ts))
      refl
      (OnFalse-map (is_frontier rules path) (ItemsSatisfy rules path (list_of ts) (EachSatisfies rules path ts)) (InnerKeyed xs k (EachIsKid rules path ts k) (IsOfItem rules path ts)) (λ i. (
      let all = map attr_leaf xs ++ annotated_items rules path ts in
      let up = rise-ascend (in_order all) (rise-order all (kids-apart rules path xs ts rise i.good i.apart)) in
      inner-keyed rules path l xs ts up
      (items-kids rules path ts k two.1 i.good i.inside (λ z m. subst (λ ks. Has z ks) (sym (kids_list-kids_from (in_order all))) (has-order z all (has-right z (map attr_leaf xs) (annotated_items rules path ts) m))))
      (items-of rules path ts two.1 i.good i.inside))) s)

  items-kids : (rules : List PlainRule) (path : List (List ℕ)) (ts : PlainTrees) (k : PlainKeyed) → IsTrue (are_well_formed ts) → Good rules path ts → EachSatisfies rules path ts
      → ((z : PlainKeyed) → Has z (annotated_items rules path ts) → Has z (kids_of k)) → EachIsKid rules path ts k
  items-kids rules path no_trees k w g s has = tt
  items-kids rules path (tree (text x) ts) k w g s has = (tt, items-kids rules path ts k w g.1 s.1 has)
  items-kids rules path (tree (element t c) ts) k w g s has =
      let two = both (is_content_well_formed c) (are_well_formed ts) w in (
        has_any (λ x. (label_in rules path t c ≡ Ok (label_of x)) × ContentKeyed rules (below path t) c x) (kids_of k) (annotated rules path t c) (has (annotated rules path t c) (inl refl))
            (label-is rules path t c g.0, content-keyed rules path t c two.0 g.0 s.0),
        items-kids rules path ts k two.1 g.1 s.1 (λ z m. has z (inr m)),
      )

  items-of : (rules : List PlainRule) (path : List (List ℕ)) (ts : PlainTrees) → IsTrue (are_well_formed ts) → Good rules path ts → EachSatisfies rules path ts
      → AllByRecursion (IsOfItem rules path ts) (annotated_items rules path ts)
  items-of rules path no_trees w g s = tt
  items-of rules path (tree (text x) ts) w g s = of-later rules path (text x) ts (annotated_items rules path ts) (items-of rules path ts w g.1 s.1)
  items-of rules path (tree (element t c) ts) w g s =
      let two = both (is_content_well_formed c) (are_well_formed ts) w in (
        inl (label-is rules path t c g.0, content-keyed rules path t c two.0 g.0 s.0),
        of-later rules path (element t c) ts (annotated_items rules path ts) (items-of rules path ts two.1 g.1 s.1),
      )

-- ---- and no other does

ok_same : (r : Result PlainLabel PlainLabelFault) (t : List ℕ) (l : PlainLabel) → r ≡ Ok l → label_or_bare t r ≡ l
ok_same r t l e = ap (label_or_bare t) e

leaf-one : (b : Bool) (k : PlainKeyed) (m l : PlainLabel) (c : PlainContent) (js : List PlainKeyed) (Q : Type 0) → m ≡ l → MatchBool b (k ≡ leaf l (inside c)) Q → (Q → k ≡ inner l (kids_from js))
    → k ≡ cond b (leaf m (inside c)) (inner m (kids_from js))
leaf-one true k m l c js Q e h f = h ∙ ap (λ x. leaf x (inside c)) (sym e)
leaf-one false k m l c js Q e h f = f h ∙ ap (λ x. inner x (kids_from js)) (sym e)

-- with what holds at an inner element beside
with-inner : (b : Bool) (P Q R : Type 0) → MatchBool b P Q → OnFalse b R → MatchBool b P (Q × R)
with-inner true P Q R h r = h
with-inner false P Q R h r = (h, r)

mutual
  pub keyed-one : (rules : List PlainRule) (context : List (List ℕ)) (t : List ℕ) (c : PlainContent) (k : PlainKeyed) → IsTrue (is_content_well_formed c)
      → ContentSatisfies rules (below context t) c → (label_in rules context t c ≡ Ok (label_of k)) × ContentKeyed rules (below context t) c k → k ≡ annotated rules context t c
  keyed-one rules context t (content xs ts) k w s h =
      let two = both (is_ascending xs && are_in_range xs) (are_well_formed ts) w in
      let rise = (both (is_ascending xs) (are_in_range xs) two.0).0 in
      let path = below context t in
      let r = label_in rules context t (content xs ts) in
      let all = map attr_leaf xs ++ annotated_items rules path ts in
      leaf-one (is_frontier rules path) k (label_or_bare t r) (label_of k) (content xs ts) (in_order all) (InnerKeyed xs k (EachIsKid rules path ts k) (IsOfItem rules path ts) × ItemsSatisfy rules path (list_of ts) (EachSatisfies rules path ts))
      (ok_same r t (label_of k) h.0)
      (with-inner (is_frontier rules path) (k ≡ leaf (label_of k) (inside (content xs ts))) (InnerKeyed xs k (EachIsKid rules path ts k) (IsOfItem rules path ts)) (ItemsSatisfy rules path (list_of ts) (EachSatisfies rules path ts)) h.1 s)
      (λ both'. (
      let i = both'.0 in
      let sat = both'.1 in
      let apart = kids-apart rules path xs ts rise sat.good sat.apart in
      let same : kids_of k ≡ in_order all = same_items label_of label_cmp_total (kids_of k) (in_order all) (ascend-rise (kids_of k) i.ascending) (rise-order all apart)
      (λ z m. has-order z all (elim (all_has (λ c. Any (λ a. c ≡ attr_leaf a) xs ⊎ IsOfItem rules path ts c) (kids_of k) z i.only m) [
        | inl n ↦ has-left z (map attr_leaf xs) (annotated_items rules path ts) (attr-any z xs n)
        | inr n ↦ has-right z (map attr_leaf xs) (annotated_items rules path ts) (of-item rules path ts z two.1 sat.inside n)
      ]))
      (λ z m. elim (has-either z (map attr_leaf xs) (annotated_items rules path ts) (order-has z all m)) [
        | inl n ↦ contained-attrs (kids_of k) xs z i.attrs n
        | inr n ↦ all_has (λ x. Has x (kids_of k)) (annotated_items rules path ts) z (kids-items rules path ts k two.1 sat.inside i.items) n
      ]) in
      i.node ∙ ap (λ ks. inner (label_of k) (kids_from ks)) same))

  -- a tree that stands for an item is that item's
  of-item : (rules : List PlainRule) (path : List (List ℕ)) (ts : PlainTrees) (z : PlainKeyed) → IsTrue (are_well_formed ts) → EachSatisfies rules path ts → IsOfItem rules path ts z → Has z (annotated_items rules path ts)
  of-item rules path no_trees z w s h = absurd h
  of-item rules path (tree (text x) ts) z w s h = elim h [ inl n ↦ absurd n | inr n ↦ of-item rules path ts z w s.1 n ]
  of-item rules path (tree (element t c) ts) z w s h =
      let two = both (is_content_well_formed c) (are_well_formed ts) w in
      elim h [ inl n ↦ inl (sym (keyed-one rules path t c z two.0 s.0 n)) | inr n ↦ inr (of-item rules path ts z two.1 s.1 n) ]

  -- each item's tree is a kid
  kids-items : (rules : List PlainRule) (path : List (List ℕ)) (ts : PlainTrees) (k : PlainKeyed) → IsTrue (are_well_formed ts) → EachSatisfies rules path ts → EachIsKid rules path ts k
      → AllByRecursion (λ x. Has x (kids_of k)) (annotated_items rules path ts)
  kids-items rules path no_trees k w s h = tt
  kids-items rules path (tree (text x) ts) k w s h = kids-items rules path ts k w s.1 h.1
  kids-items rules path (tree (element t c) ts) k w s h =
      let two = both (is_content_well_formed c) (are_well_formed ts) w in
      let some = any_has (λ x. (label_in rules path t c ≡ Ok (label_of x)) × ContentKeyed rules (below path t) c x) (kids_of k) h.0 in
      let same = keyed-one rules path t c some.0 two.0 s.0 some.1.1 in
      (subst (λ x. Has x (kids_of k)) same some.1.0, kids-items rules path ts k two.1 s.1 h.1)

-- ---- the law

pub keyed_tree-keyed : (rules : List PlainRule) (t : PlainTree) → IsWellFormed t → Satisfies rules t → is_element t ≡ true → IsKeyedTreeOf rules t (keyed_tree rules t)
keyed_tree-keyed rules (text s) w h e = absurd (true≢false (sym e))
keyed_tree-keyed rules (element t c) w h e = (label-is rules [] t c h.good.0, content-keyed rules [] t c w h.good.0 h.inside)

pub keyed_tree-one : (rules : List PlainRule) (t : PlainTree) (k : PlainKeyed) → IsWellFormed t → Satisfies rules t → IsKeyedTreeOf rules t k → k ≡ keyed_tree rules t
keyed_tree-one rules (text s) k w h g = absurd g
keyed_tree-one rules (element t c) k w h g = keyed-one rules [] t c k w h.inside g
