-- What the builder gives is a tree exactly where the keys are satisfied, and that tree is the keyed tree.
use Rattle.std.proofs.Common.{◌≡◌, ◌≢◌, ℕ, zero, suc, ◌<◌, Bool, true, false, cond, ◌&&◌, IsTrue, true≢false, List, [], ◌∷◌, ◌++◌, map, Option, Some, None, Result, Ok, Err, refl, ap, sym, subst, ◌∙◌, arith}
use Rattle.std.specs.Result.{IsOk}
use Rattle.std.specs.Bool.{OnFalse}
use Rattle.std.specs.List.{AllByRecursion, slice_get}
use Rattle.std.specs.Option.{option_map}
use Rattle.jsonml_tree.specs.Data.{PlainAttr, PlainTree, text, element, PlainContent, content, PlainTrees, no_trees, tree, list_of}
use Rattle.jsonml_tree.specs.Fits.{is_element}
use Rattle.jsonml_tree.specs.WellFormed.{is_ascending, are_in_range, is_content_well_formed, are_well_formed, IsWellFormed}
use Rattle.keyed_tree.specs.Data.{inside, PlainLabel, PlainKeyed, inner, leaf, kids_from}
use Rattle.keyed_tree.specs.Kids.{ascend}
use Rattle.keyed_tree.proofs.Kids.{both}
use Rattle.key_spec.specs.Data.{PlainRule}
use Rattle.key_spec.specs.Rules.{is_frontier, below}
use Rattle.key_rules.specs.Labels.{PlainLabelFault, label_in}
use Rattle.key_rules.specs.Satisfies.{is_space_only, ItemIsGood, ok_of, item_label, AreApart, ItemsSatisfy, ContentSatisfies, EachSatisfies, Satisfies}
use Rattle.key_rules.proofs.Law.{apart-differ}
use Rattle.key_annotate.specs.KeyedOf.{attr_leaf}
use Rattle.key_annotate.specs.Annotated.{in_order, label_or_bare, annotated, annotated_items, keyed_tree}
use Rattle.key_annotate.specs.Ordered.{all_kids, node_of, put_first, built, built_items, built_tree}
use Rattle.key_annotate.proofs.InOrder.{Apart, rise-order, order-apart, ascend-rise, rise-ascend}
use Rattle.key_annotate.proofs.KidsOf as of_items
use Rattle.key_annotate.proofs.KidsOf.{IsItemKid, items-tags, differ-apart, attrs-apart, attrs-first}

abbrev Good : List PlainRule → List (List ℕ) → PlainTrees → Type 0
Good rules path ts = AllByRecursion (ItemIsGood rules path) (list_of ts)

-- ---- where the keys are satisfied

node-some : (b : Bool) (r : Result PlainLabel PlainLabelFault) (t : List ℕ) (c : PlainContent) (kids : Option (List PlainKeyed)) (ks : List PlainKeyed) → IsOk r → OnFalse b (kids ≡ Some ks)
    → node_of b (ok_of r) c kids ≡ Some (cond b (leaf (label_or_bare t r) (inside c)) (inner (label_or_bare t r) (kids_from ks)))
node-some true (Ok l) t c kids ks h e = refl
node-some true (Err f) t c kids ks h e = absurd (true≢false (sym h))
node-some false (Ok l) t c kids ks h e = rw e refl
node-some false (Err f) t c kids ks h e = absurd (true≢false (sym h))

OnFalse-map : (b : Bool) (P Q : Type 0) → (P → Q) → OnFalse b P → OnFalse b Q
OnFalse-map true P Q f h = tt
OnFalse-map false P Q f h = f h

kids-some : (xs : List PlainAttr) (items : Option (List PlainKeyed)) (ks : List PlainKeyed) → items ≡ Some ks → IsTrue (is_ascending xs) → AllByRecursion IsItemKid ks → Apart ks
    → all_kids xs items ≡ Some (in_order (map attr_leaf xs ++ ks))
kids-some xs items ks e h g a =
    let up : ascend (kids_from (in_order ks)) ≡ true = rise-ascend (in_order ks) (rise-order ks a) in
    let some : all_kids xs items ≡ Some (map attr_leaf xs ++ in_order ks) = rw e (rw up refl) in
    some ∙ ap (λ js. Some js) (sym (attrs-first xs ks h g))

items-apart : (rules : List PlainRule) (path : List (List ℕ)) (ts : PlainTrees) → Good rules path ts → AreApart rules path (list_of ts) → Apart (annotated_items rules path ts)
items-apart rules path ts good apart = differ-apart rules path ts good ((apart-differ rules path (list_of ts)).0 apart)

pub kids-apart : (rules : List PlainRule) (path : List (List ℕ)) (xs : List PlainAttr) (ts : PlainTrees) → IsTrue (is_ascending xs) → Good rules path ts → AreApart rules path (list_of ts)
    → Apart (map attr_leaf xs ++ annotated_items rules path ts)
kids-apart rules path xs ts up good apart =
    attrs-apart xs (annotated_items rules path ts) up (items-tags rules path ts) (items-apart rules path ts good apart)

put-some : (a : Option PlainKeyed) (as' : Option (List PlainKeyed)) (k : PlainKeyed) (ks : List PlainKeyed) → a ≡ Some k → as' ≡ Some ks → put_first a as' ≡ Some (k ∷ ks)
put-some a as' k ks e d = rw (e, d) refl

blank-some : (b : Bool) (o : Option (List PlainKeyed)) → IsTrue b → cond b o None ≡ o
blank-some true o h = refl
blank-some false o h = absurd (true≢false (sym h))

mutual
  pub built-some : (rules : List PlainRule) (context : List (List ℕ)) (t : List ℕ) (c : PlainContent) → IsTrue (is_content_well_formed c)
      → IsOk (label_in rules context t c) → ContentSatisfies rules (below context t) c → built rules context t c ≡ Some (annotated rules context t c)
  built-some rules context t (content xs ts) w h s =
      let two = both (is_ascending xs && are_in_range xs) (are_well_formed ts) w in
      let up = (both (is_ascending xs) (are_in_range xs) two.0).0 in
      let path = below context t in
      node-some (is_frontier rules path) (label_in rules context t (content xs ts)) t (content xs ts) (all_kids xs (built_items rules path ts)) (in_order (map attr_leaf xs ++ annotated_items rules path ts)) h
      (OnFalse-map (is_frontier rules path) (ItemsSatisfy rules path (list_of ts) (EachSatisfies rules path ts)) (all_kids xs (built_items rules path ts) ≡ Some (in_order (map attr_leaf xs ++ annotated_items rules path ts)))
      (λ i. kids-some xs (built_items rules path ts) (annotated_items rules path ts) (items-some rules path ts two.1 i.good i.inside) up (items-tags rules path ts) (items-apart rules path ts i.good i.apart)) s)

  items-some : (rules : List PlainRule) (path : List (List ℕ)) (ts : PlainTrees) → IsTrue (are_well_formed ts)
      → Good rules path ts → EachSatisfies rules path ts → built_items rules path ts ≡ Some (annotated_items rules path ts)
  items-some rules path no_trees w g s = refl
  items-some rules path (tree (text x) ts) w g s = blank-some (is_space_only x) (built_items rules path ts) g.0 ∙ items-some rules path ts w g.1 s.1
  items-some rules path (tree (element t c) ts) w g s =
      let two = both (is_content_well_formed c) (are_well_formed ts) w in
      put-some (built rules path t c) (built_items rules path ts) (annotated rules path t c) (annotated_items rules path ts)
      (built-some rules path t c two.0 g.0 s.0) (items-some rules path ts two.1 g.1 s.1)

-- ---- and only there

node-back : (b : Bool) (r : Result PlainLabel PlainLabelFault) (c : PlainContent) (kids : Option (List PlainKeyed)) (k : PlainKeyed) → node_of b (ok_of r) c kids ≡ Some k
    → IsOk r × OnFalse b ((ks : List PlainKeyed) × (kids ≡ Some ks))
node-back true (Ok l) c kids k e = (refl, tt)
node-back true (Err f) c kids k e = cc
node-back false (Ok l) c None k e = cc
node-back false (Ok l) c (Some ks) k e = (refl, (ks, refl))
node-back false (Err f) c kids k e = cc

-- the items' kids, of which no two have one label
record Parts (items : Option (List PlainKeyed)) : Type 0 where
  pub kids : List PlainKeyed
  pub is : items ≡ Some kids
  pub apart : Apart kids

kids-back : (xs : List PlainAttr) (items : Option (List PlainKeyed)) (js : List PlainKeyed) → all_kids xs items ≡ Some js → Parts items
kids-back xs None js e = cc
kids-back xs (Some ks) js e =
    elim (ascend (kids_from (in_order ks))) as (λ b. ascend (kids_from (in_order ks)) ≡ b → option_map (λ is. map attr_leaf xs ++ is) (cond b (Some (in_order ks)) None) ≡ Some js → Parts (Some ks)) [
      | true ↦ λ d f. record { kids = ks; is = refl; apart = order-apart ks (ascend-rise (in_order ks) d) }
      | false ↦ λ d f. cc
    ] refl e

record Put (a : Option PlainKeyed) (as' : Option (List PlainKeyed)) : Type 0 where
  pub first : PlainKeyed
  pub rest : List PlainKeyed
  pub first-is : a ≡ Some first
  pub rest-is : as' ≡ Some rest

put-back : (a : Option PlainKeyed) (as' : Option (List PlainKeyed)) (ks : List PlainKeyed) → put_first a as' ≡ Some ks → Put a as'
put-back None as' ks e = cc
put-back (Some k) None ks e = cc
put-back (Some k) (Some js) ks e = record { first = k; rest = js; first-is = refl; rest-is = refl }

blank-back : (b : Bool) (o : Option (List PlainKeyed)) (ks : List PlainKeyed) → cond b o None ≡ Some ks → IsTrue b × (o ≡ Some ks)
blank-back true o ks e = (refl, e)
blank-back false o ks e = cc

some_same : (ks js : List PlainKeyed) → Some ks ≡ Some js → ks ≡ js
some_same ks js e = cc

mutual
  pub some-built : (rules : List PlainRule) (context : List (List ℕ)) (t : List ℕ) (c : PlainContent) (k : PlainKeyed) → IsTrue (is_content_well_formed c)
      → built rules context t c ≡ Some k → IsOk (label_in rules context t c) × ContentSatisfies rules (below context t) c
  some-built rules context t (content xs ts) k w e =
      let two = both (is_ascending xs && are_in_range xs) (are_well_formed ts) w in
      let path = below context t in
      let node = node-back (is_frontier rules path) (label_in rules context t (content xs ts)) (content xs ts) (all_kids xs (built_items rules path ts)) k e in (
        node.0,
        OnFalse-map (is_frontier rules path) ((ks : List PlainKeyed) × (all_kids xs (built_items rules path ts) ≡ Some ks)) (ItemsSatisfy rules path (list_of ts) (EachSatisfies rules path ts)) (λ i. (
            let parts = kids-back xs (built_items rules path ts) i.0 i.1 in
            let each = some-items rules path ts parts.kids two.1 parts.is in
            let same : parts.kids ≡ annotated_items rules path ts = some_same parts.kids (annotated_items rules path ts) (sym parts.is ∙ items-some rules path ts two.1 each.0 each.1) in
            let apart : Apart (annotated_items rules path ts) = subst Apart same parts.apart in
            record {
              good = each.0;
              apart = (apart-differ rules path (list_of ts)).1 (of_items.apart-differ rules path ts each.0 apart);
              inside = each.1;
            })) node.1,
      )

  some-items : (rules : List PlainRule) (path : List (List ℕ)) (ts : PlainTrees) (ks : List PlainKeyed) → IsTrue (are_well_formed ts)
      → built_items rules path ts ≡ Some ks → Good rules path ts × EachSatisfies rules path ts
  some-items rules path no_trees ks w e = (tt, tt)
  some-items rules path (tree (text x) ts) ks w e =
      let two = blank-back (is_space_only x) (built_items rules path ts) ks e in
      let rest = some-items rules path ts ks w two.1 in
      ((two.0, rest.0), (tt, rest.1))
  some-items rules path (tree (element t c) ts) ks w e =
      let two = both (is_content_well_formed c) (are_well_formed ts) w in
      let put = put-back (built rules path t c) (built_items rules path ts) ks e in
      let first = some-built rules path t c put.first two.0 put.first-is in
      let rest = some-items rules path ts put.rest two.1 put.rest-is in
      ((first.0, rest.0), (first.1, rest.1))

-- ---- the same of a document

-- the one item of the virtual root
alone : (rules : List PlainRule) (t : PlainTree) → AreApart rules [] (t ∷ [])
alone rules t = (apart-differ rules [] (t ∷ [])).1 (λ i j k l low at_i at_j. one (item_label rules [] t) i j k l low at_i at_j)
  where
    one : (o : Option PlainLabel) (i j : ℕ) (k l : PlainLabel) → i < j → slice_get (o ∷ []) i ≡ Some (Some k) → slice_get (o ∷ []) j ≡ Some (Some l) → k ≢ l
    one o i zero k l low at_i at_j = absurd (omega arith)
    one o i (suc j) k l low at_i at_j = cc

satisfies-root : (rules : List PlainRule) (t : List ℕ) (c : PlainContent) → IsOk (label_in rules [] t c) × ContentSatisfies rules (below [] t) c → Satisfies rules (element t c)
satisfies-root rules t c h = record { good = (h.0, tt); apart = alone rules (element t c); inside = h.1 }

pub built-tree : (rules : List PlainRule) (t : List ℕ) (c : PlainContent) → IsWellFormed (element t c) → Satisfies rules (element t c) → built rules [] t c ≡ Some (annotated rules [] t c)
built-tree rules t c w s = built-some rules [] t c w s.good.0 s.inside

pub tree-built : (rules : List PlainRule) (t : List ℕ) (c : PlainContent) (k : PlainKeyed) → IsWellFormed (element t c) → built rules [] t c ≡ Some k → Satisfies rules (element t c)
tree-built rules t c k w e = satisfies-root rules t c (some-built rules [] t c k w e)

-- the same of a tree
pub built_tree-None : (rules : List PlainRule) (t : PlainTree) → IsWellFormed t → Satisfies rules t → IsTrue (is_element t) → built_tree rules [] t ≢ None
built_tree-None rules (text s) w h e = absurd (true≢false (sym e))
built_tree-None rules (element t c) w h e = λ none. let some = built-tree rules t c w h in cc

pub built_tree-Some : (rules : List PlainRule) (t : PlainTree) (k : PlainKeyed) → IsWellFormed t → Some k ≡ built_tree rules [] t → Satisfies rules t × (k ≡ keyed_tree rules t)
built_tree-Some rules (text s) k w e = cc
built_tree-Some rules (element t c) k w e =
    let s = tree-built rules t c k w (sym e) in
    let some = built-tree rules t c w s in
    let same : k ≡ annotated rules [] t c = cc in
    (s, same)
