-- A keyed tree that stands for a document fits, and one that fits stands for the element that it spells.
use Rattle.std.proofs.Common.{◌≡◌, ◌≢◌, ◌↔◌, ◌⊎◌, ℕ, ◌+◌, Bool, true, false, cond, not, ◌&&◌, IsTrue, true≢false, List, [], ◌∷◌, map, Option, Some, None, Result, Ok, Err, Any, Contains, refl, ap, sym, subst, ◌∙◌, inl, inr}
use Rattle.std.proofs.lemmas.Bool.{and_parts, and_from}
use Rattle.std.specs.Bool.{OnFalse, MatchBool}
use Rattle.std.specs.Result.{IsOk}
use Rattle.std.specs.Cmp.Lexicographic.{pointwise}
use Rattle.std.specs.List.{AllByRecursion}
use Rattle.std.specs.declared.cmp.Ordering.TheVariants.{Less}
use Rattle.jsonml_tree.specs.Data.{PlainAttr, text, element, PlainContent, content, PlainTrees, no_trees, tree, list_of}
use Rattle.keyed_tree.specs.Data.{PlainName, attr, tag, PlainKey, scalar, inside, PlainLabel, PlainKeyed, inner, leaf, PlainKids, no_kids, kid, kids_from, kids_list, kids_of, label_of}
use Rattle.keyed_tree.specs.Kids.{ascend}
use Rattle.keyed_tree.specs.Laws.{label_cmp_total}
use Rattle.keyed_tree.specs.Lists.{Ascends, Has}
use Rattle.keyed_tree.specs.Order.{label_cmp}
use Rattle.keyed_tree.specs.Plain.{name_bytes, attr_before, attr_onto, attrs_among, item_onto, items_among, plain}
use Rattle.keyed_tree.specs.Proper.{is_tag, has_no_keys, is_scalar}
use Rattle.keyed_tree.proofs.Kids.{kids_from-kids_list, ascend-all}
use Rattle.jsonml_tree.proofs.Lists.{any_has, has_all, has_any, not_itself}
use Rattle.key_spec.specs.Data.{PlainPath, PlainRule}
use Rattle.key_spec.specs.Rules.{rule_of, is_frontier, below}
use Rattle.key_rules.specs.Labels.{PlainLabelFault, and_then, one_of, keys_from, label_by, label_in}
use Rattle.key_rules.specs.Reach.{reach}
use Rattle.key_rules.specs.Satisfies.{ItemIsGood, ItemsSatisfy, ContentSatisfies, EachSatisfies}
use Rattle.key_rules.proofs.Law as law
use Rattle.key_annotate.specs.Annotated.{label_or_bare, annotated, annotated_items}
use Rattle.key_annotate.specs.Inside.{inside_of}
use Rattle.key_annotate.specs.KeyedOf.{attr_leaf, InnerKeyed, ContentKeyed, EachIsKid, IsOfItem}
use Rattle.key_annotate.proofs.InOrder.{Apart}
use Rattle.key_annotate.proofs.Insides.{plain-is}
use Rattle.key_annotate.specs.DocumentTexts.{label-name}
use Rattle.key_annotate.proofs.KidsOf.{annotated-label, apart-differ}
use Rattle.key_annotate.proofs.Sorted.{has_at}
use Rattle.archive_file.proofs.Fits.{leads, has_keys, is_attr_leaf, fits, each_fits}
use Rattle.archive_file.proofs.Ways.{IsWay, PathsLead, inner-of, leaf-of, items-of, reach-leads}

-- ---- the key values of a label

one-of : (n : ℕ) (r : List PlainKey) (v : PlainKey) → (one_of n r ≡ Ok v) ↔ (r ≡ v ∷ [])
one-of n [] v = (λ e. cc, λ e. cc)
one-of n (k ∷ []) v = (λ e. cc, λ e. cc)
one-of n (k ∷ j ∷ ks) v = (λ e. cc, λ e. cc)

joined : (x : Result PlainKey PlainLabelFault) (y : Result (List PlainKey) PlainLabelFault) (v : PlainKey) (keys : List PlainKey)
    → (and_then x (λ k. and_then y (λ ks. Ok (k ∷ ks))) ≡ Ok (v ∷ keys)) ↔ ((x ≡ Ok v) × (y ≡ Ok keys))
joined (Ok k) (Ok ks) v keys = (λ e. (cc, cc), λ h. (let a = h.0 in let b = h.1 in cc))
joined (Ok k) (Err e) v keys = (λ d. cc, λ h. (let b = h.1 in cc))
joined (Err e) y v keys = (λ d. cc, λ h. (let a = h.0 in cc))

not-none : (x : Result PlainKey PlainLabelFault) (y : Result (List PlainKey) PlainLabelFault) → and_then x (λ k. and_then y (λ ks. Ok (k ∷ ks))) ≡ Ok [] → ⊥
not-none (Ok k) (Ok ks) e = cc
not-none (Ok k) (Err d) e = cc
not-none (Err d) y e = cc

keys-lead : (rules : List PlainRule) (path : List (List ℕ)) (c : PlainContent) (k : PlainKeyed) → ContentSatisfies rules path c → ContentKeyed rules path c k
    → (n : ℕ) (ps : List PlainPath) (keys : List PlainKey) → AllByRecursion (λ (p : PlainPath). IsWay rules path p.tags p.attr) ps
    → (keys_from n ps c ≡ Ok keys) ↔ (pointwise (λ (p : PlainPath) v. leads p.tags p.attr v k) ps keys ≡ true)
keys-lead rules path c k s h n [] [] w = (λ e. refl, λ e. refl)
keys-lead rules path c k s h n [] (v ∷ keys) w = (λ e. cc, λ e. cc)
keys-lead rules path c k s h n (p ∷ ps) [] w = (λ e. absurd (not-none (one_of n (reach c p)) (keys_from (n + 1) ps c) e), λ e. cc)
keys-lead rules path c k s h n (p ∷ ps) (v ∷ keys) w =
    let first = reach-leads rules p.tags p.attr v path c k w.0 s h in
    let one = one-of n (reach c p) v in
    let rest = keys-lead rules path c k s h (n + 1) ps keys w.1 in
    let both = joined (one_of n (reach c p)) (keys_from (n + 1) ps c) v keys in
    let pairs = pointwise (λ (q : PlainPath) u. leads q.tags q.attr u k) ps keys in (
      λ e. (let two = both.0 e in and_from (leads p.tags p.attr v k) pairs (first.0 (one.0 two.0)) (rest.0 two.1)),
      λ e. (let two = and_parts (leads p.tags p.attr v k) pairs e in both.1 (one.1 (first.1 two.0), rest.1 two.1)),
    )

abbrev labelled : List ℕ → List PlainKey → Result PlainLabel PlainLabelFault
labelled t ks = Ok (record { name = tag t; keys = ks })

abbrev keys_or : List PlainKey → Result PlainLabel PlainLabelFault → List PlainKey
keys_or ks (Ok l) = l.keys
keys_or ks (Err e) = ks

abbrev list_or : List PlainKey → Result (List PlainKey) PlainLabelFault → List PlainKey
list_or ks (Ok js) = js
list_or ks (Err e) = ks

named : (t : List ℕ) (y : Result (List PlainKey) PlainLabelFault) (keys : List PlainKey)
    → (and_then y (λ ks. labelled t ks) ≡ labelled t keys) ↔ (y ≡ Ok keys)
named t (Ok ks) keys = (
  λ e. ap (λ r. Ok (keys_or ks r)) e,
  λ e. ap (λ z. labelled t z) (ap (list_or ks) e),
)
named t (Err d) keys = (λ e. cc, λ e. cc)

label-leads : (rules : List PlainRule) (path : List (List ℕ)) (t : List ℕ) (c : PlainContent) (k : PlainKeyed) → ContentSatisfies rules path c → ContentKeyed rules path c k
    → (o : Option PlainRule) (keys : List PlainKey) → ((r : PlainRule) → o ≡ Some r → AllByRecursion (λ (p : PlainPath). IsWay rules path p.tags p.attr) r.paths)
    → (label_by o t c ≡ labelled t keys) ↔ (has_keys o keys k ≡ true)
label-leads rules path t c k s h None keys w = (λ e. cc, λ e. cc)
label-leads rules path t c k s h (Some r) keys w =
    let own = named t (keys_from 1 r.paths c) keys in
    let leads_ = keys-lead rules path c k s h 1 r.paths keys (w r refl) in
    (λ e. leads_.0 (own.0 e), λ e. own.1 (leads_.1 e))

-- ---- what the parts of a node give

as-label : (l : PlainLabel) (t : List ℕ) → l.name ≡ tag t → Ok l ≡ labelled t l.keys
as-label l t e = λ i. Ok (record { name = e i; keys = l.keys })

leaf-fits : (rules : List PlainRule) (context : List (List ℕ)) (l : PlainLabel) (c : PlainContent) (t : List ℕ) → l.name ≡ tag t → is_frontier rules (below context t) ≡ true
    → has_keys (rule_of rules context t) l.keys (leaf l (inside c)) ≡ true → fits rules context (leaf l (inside c)) ≡ true
leaf-fits rules context l c t e f g =
    let n = ap name_bytes e in
    let at_end = is_frontier rules (below context (name_bytes l.name)) in
    let keys = has_keys (rule_of rules context (name_bytes l.name)) l.keys (leaf l (inside c)) in
    and_from (is_tag l.name) (keys && (at_end && true)) (ap is_tag e)
    (and_from keys (at_end && true) (ap (λ z. has_keys (rule_of rules context z) l.keys (leaf l (inside c))) n ∙ g) (and_from at_end true (ap (λ z. is_frontier rules (below context z)) n ∙ f) refl))

inner-fits : (rules : List PlainRule) (context : List (List ℕ)) (l : PlainLabel) (ks : PlainKids) (t : List ℕ) → l.name ≡ tag t → is_frontier rules (below context t) ≡ false
    → has_keys (rule_of rules context t) l.keys (inner l ks) ≡ true → ascend ks ≡ true → each_fits rules (below context t) ks ≡ true → fits rules context (inner l ks) ≡ true
inner-fits rules context l ks t e f g up each =
    let n = ap name_bytes e in
    let above = not (is_frontier rules (below context (name_bytes l.name))) in
    let keys = has_keys (rule_of rules context (name_bytes l.name)) l.keys (inner l ks) in
    let kids = each_fits rules (below context (name_bytes l.name)) ks in
    and_from (is_tag l.name) (keys && (above && (ascend ks && kids))) (ap is_tag e)
    (and_from keys (above && (ascend ks && kids)) (ap (λ z. has_keys (rule_of rules context z) l.keys (inner l ks)) n ∙ g)
    (and_from above (ascend ks && kids) (ap not (ap (λ z. is_frontier rules (below context z)) n ∙ f))
    (and_from (ascend ks) kids up (ap (λ z. each_fits rules (below context z) ks) n ∙ each))))

attr-fits : (rules : List PlainRule) (path : List (List ℕ)) (z : PlainKeyed) (xs : List PlainAttr) → Any (λ a. z ≡ attr_leaf a) xs → cond (is_tag (label_of z).name) (fits rules path z) (is_attr_leaf z) ≡ true
attr-fits rules path z xs h = subst (λ y. cond (is_tag (label_of y).name) (fits rules path y) (is_attr_leaf y) ≡ true) (sym h.4) refl

tag-fits : (rules : List PlainRule) (path : List (List ℕ)) (z : PlainKeyed) → is_tag (label_of z).name ≡ true → fits rules path z ≡ true → cond (is_tag (label_of z).name) (fits rules path z) (is_attr_leaf z) ≡ true
tag-fits rules path z e f = ap (λ b. cond b (fits rules path z) (is_attr_leaf z)) e ∙ f

kids-fit : (rules : List PlainRule) (path : List (List ℕ)) (xs : List PlainAttr) (P : PlainKeyed → Type 0) (ks : List PlainKeyed) → ((z : PlainKeyed) → P z → (is_tag (label_of z).name ≡ true) × (fits rules path z ≡ true))
    → AllByRecursion (λ c. Any (λ a. c ≡ attr_leaf a) xs ⊎ P c) ks → each_fits rules path (kids_from ks) ≡ true
kids-fit rules path xs P [] f h = refl
kids-fit rules path xs P (k ∷ ks) f h =
    and_from (cond (is_tag (label_of k).name) (fits rules path k) (is_attr_leaf k)) (each_fits rules path (kids_from ks))
    (elim h.0 [ inl a ↦ attr-fits rules path k xs a | inr p ↦ (let two = f k p in tag-fits rules path k two.0 two.1) ])
    (kids-fit rules path xs P ks f h.1)

-- ---- what stands for a document fits

module _ (rules : List PlainRule) (lead : PathsLead rules) where
  mutual
    pub content-fits : (context : List (List ℕ)) (t : List ℕ) (c : PlainContent) (k : PlainKeyed) → label_in rules context t c ≡ Ok (label_of k) → ContentKeyed rules (below context t) c k → ContentSatisfies rules (below context t) c
        → fits rules context k ≡ true
    content-fits context t (content xs ts) k e h s =
        let path = below context t in
        let l = label_of k in
        let name : l.name ≡ tag t = label-name rules context t (content xs ts) l e in
        let keys = (label-leads rules path t (content xs ts) k s h (rule_of rules context t) l.keys (lead context t)).0 (e ∙ as-label l t name) in
        elim (is_frontier rules path) as (λ b. is_frontier rules path ≡ b → fits rules context k ≡ true) [
          | true ↦ λ f. (
              let is = leaf-of rules path (content xs ts) k f h in
              subst (λ z. fits rules context z ≡ true) (sym is) (leaf-fits rules context l (content xs ts) t name f (subst (λ z. has_keys (rule_of rules context t) l.keys z ≡ true) is keys)))
          | false ↦ λ f. (
              let i = inner-of rules path xs ts k f h in
              let sat = items-of rules path xs ts f s in
              subst (λ z. fits rules context z ≡ true) (sym i.node)
              (inner-fits rules context l (kids_from (kids_of k)) t name f (subst (λ z. has_keys (rule_of rules context t) l.keys z ≡ true) i.node keys) i.ascending
              (kids-fit rules path xs (IsOfItem rules path ts) (kids_of k) (item-fits path ts sat.inside) i.only)))
        ] refl

    item-fits : (path : List (List ℕ)) (ts : PlainTrees) → EachSatisfies rules path ts → (z : PlainKeyed) → IsOfItem rules path ts z → (is_tag (label_of z).name ≡ true) × (fits rules path z ≡ true)
    item-fits path no_trees s z h = absurd h
    item-fits path (tree (text x) ts) s z h = elim h [ inl a ↦ absurd a | inr b ↦ item-fits path ts s.1 z b ]
    item-fits path (tree (element t c) ts) s z h = elim h [
      | inl a ↦ (ap is_tag (label-name rules path t c (label_of z) a.0), content-fits path t c z a.0 a.1 s.0)
      | inr b ↦ item-fits path ts s.1 z b
    ]

-- ---- what fits stands for the element that it spells

abbrev pub tag_of : PlainKeyed → List ℕ
tag_of k = name_bytes (label_of k).name

-- the node stands for that element under a context
pub record StandsAt (rules : List PlainRule) (context : List (List ℕ)) (k : PlainKeyed) : Type 0 where
  pub name : (label_of k).name ≡ tag (tag_of k)
  pub label : label_in rules context (tag_of k) (inside_of k) ≡ Ok (label_of k)
  pub keyed : ContentKeyed rules (below context (tag_of k)) (inside_of k) k
  pub satisfies : ContentSatisfies rules (below context (tag_of k)) (inside_of k)

-- a kid is an attribute's leaf, or stands for an element
abbrev IsKidOf : List PlainRule → List (List ℕ) → PlainKeyed → Type 0
IsKidOf rules path k = ((a : PlainAttr) × (k ≡ attr_leaf a)) ⊎ StandsAt rules path k

-- what a row of kids spells: for each attribute's leaf an attribute, for each other kid its element
pub record Item (rules : List PlainRule) (path : List (List ℕ)) : Type 0 where
  pub node : PlainKeyed
  pub stands : StandsAt rules path node

abbrev Entry : List PlainRule → List (List ℕ) → Type 0
Entry rules path = PlainAttr ⊎ Item rules path

abbrev node_of : {rules : List PlainRule} {path : List (List ℕ)} → Entry rules path → PlainKeyed
node_of (inl a) = attr_leaf a
node_of (inr i) = i.node

abbrev attrs : {rules : List PlainRule} {path : List (List ℕ)} → List (Entry rules path) → List PlainAttr
attrs [] = []
attrs (inl a ∷ es) = a ∷ attrs es
attrs (inr i ∷ es) = attrs es

abbrev items : {rules : List PlainRule} {path : List (List ℕ)} → List (Entry rules path) → PlainTrees
items [] = no_trees
items (inl a ∷ es) = items es
items (inr i ∷ es) = tree (element (tag_of i.node) (inside_of i.node)) (items es)

abbrev nodes : {rules : List PlainRule} {path : List (List ℕ)} → List (Entry rules path) → List PlainKeyed
nodes [] = []
nodes (e ∷ es) = node_of e ∷ nodes es

record Entries (rules : List PlainRule) (path : List (List ℕ)) (ks : PlainKids) : Type 0 where
  list : List (Entry rules path)
  are : kids_list ks ≡ nodes list
  spell_attrs : attrs_among ks ≡ attrs list
  spell_items : items_among ks ≡ items list

no-attr-onto : (k : PlainKeyed) (t : List ℕ) (rest : List PlainAttr) → (label_of k).name ≡ tag t → attr_onto k rest ≡ rest
no-attr-onto (inner l ks) t rest e = refl
no-attr-onto (leaf l b) t rest e = ap (λ n. attr_before n b rest) e

entries : (rules : List PlainRule) (path : List (List ℕ)) (ks : PlainKids) → AllByRecursion (IsKidOf rules path) (kids_list ks) → Entries rules path ks
entries rules path no_kids h = record { list = []; are = refl; spell_attrs = refl; spell_items = refl }
entries rules path (kid k ks) h =
    let rest = entries rules path ks h.1 in
    elim h.0 [
      | inl a ↦ record {
        list = inl a.0 ∷ rest.list;
        are = (let e = a.1 in let f = rest.are in cc);
        spell_attrs = ap (λ z. attr_onto z (attrs_among ks)) a.1 ∙ ap (λ z. a.0 ∷ z) rest.spell_attrs;
        spell_items = ap (λ (z : PlainKeyed). item_onto (label_of z).name (plain z) (items_among ks)) a.1 ∙ rest.spell_items;
      }
      | inr s ↦ record {
        list = inr (record { node = k; stands = s }) ∷ rest.list;
        are = ap (λ z. k ∷ z) rest.are;
        spell_attrs = no-attr-onto k (tag_of k) (attrs_among ks) s.name ∙ rest.spell_attrs;
        spell_items = ap (λ n. item_onto n (plain k) (items_among ks)) s.name ∙ ap (λ p. tree p (items_among ks)) (plain-is k) ∙ ap (tree (element (tag_of k) (inside_of k))) rest.spell_items;
      }
    ]

module _ (rules : List PlainRule) (path : List (List ℕ)) where
  all-attrs : (k : PlainKeyed) (es : List (Entry rules path)) → ((z : PlainKeyed) → Has z (nodes es) → Has z (kids_of k)) → AllByRecursion (λ a. Contains (kids_of k) (attr_leaf a)) (attrs es)
  all-attrs k [] h = tt
  all-attrs k (inl a ∷ es) h = (has_at (kids_of k) (attr_leaf a) (h (attr_leaf a) (inl refl)), all-attrs k es (λ z m. h z (inr m)))
  all-attrs k (inr i ∷ es) h = all-attrs k es (λ z m. h z (inr m))

  all-items : (k : PlainKeyed) (es : List (Entry rules path)) → ((z : PlainKeyed) → Has z (nodes es) → Has z (kids_of k)) → EachIsKid rules path (items es) k
  all-items k [] h = tt
  all-items k (inl a ∷ es) h = all-items k es (λ z m. h z (inr m))
  all-items k (inr i ∷ es) h = (
    has_any (λ x. (label_in rules path (tag_of i.node) (inside_of i.node) ≡ Ok (label_of x)) × ContentKeyed rules (below path (tag_of i.node)) (inside_of i.node) x) (kids_of k) i.node (h i.node (inl refl)) (i.stands.label, i.stands.keyed),
    all-items k es (λ z m. h z (inr m)),
  )

  abbrev IsOne : List PlainAttr → PlainTrees → PlainKeyed → Type 0
  IsOne xs ts z = Has z (map attr_leaf xs) ⊎ IsOfItem rules path ts z

  each-one : (z : PlainKeyed) (es : List (Entry rules path)) → Has z (nodes es) → IsOne (attrs es) (items es) z
  each-one z [] m = absurd m
  each-one z (inl a ∷ es) m = elim m [ inl e ↦ inl (inl e) | inr n ↦ elim (each-one z es n) [ inl b ↦ inl (inr b) | inr c ↦ inr c ] ]
  each-one z (inr i ∷ es) m = elim m [
    | inl e ↦ inr (inl (subst (λ y. (label_in rules path (tag_of i.node) (inside_of i.node) ≡ Ok (label_of y)) × ContentKeyed rules (below path (tag_of i.node)) (inside_of i.node) y) e (i.stands.label, i.stands.keyed)))
    | inr n ↦ elim (each-one z es n) [ inl b ↦ inl b | inr c ↦ inr (inr c) ]
  ]

  ok-is : (t : List ℕ) (c : PlainContent) (l : PlainLabel) → label_in rules path t c ≡ Ok l → IsOk (label_in rules path t c)
  ok-is t c l e = subst (λ r. IsOk r) (sym e) refl

  all-good : (es : List (Entry rules path)) → AllByRecursion (ItemIsGood rules path) (list_of (items es))
  all-good [] = tt
  all-good (inl a ∷ es) = all-good es
  all-good (inr i ∷ es) = (ok-is (tag_of i.node) (inside_of i.node) (label_of i.node) i.stands.label, all-good es)

  all-inside : (es : List (Entry rules path)) → EachSatisfies rules path (items es)
  all-inside [] = tt
  all-inside (inl a ∷ es) = all-inside es
  all-inside (inr i ∷ es) = (i.stands.satisfies, all-inside es)

  own-label : (i : Item rules path) → label_of (annotated rules path (tag_of i.node) (inside_of i.node)) ≡ label_of i.node
  own-label i = annotated-label rules path (tag_of i.node) (inside_of i.node) ∙ ap (label_or_bare (tag_of i.node)) i.stands.label

  all-labels : (P : PlainLabel → Type 0) (es : List (Entry rules path)) → AllByRecursion P (map label_of (nodes es)) → AllByRecursion (λ j. P (label_of j)) (annotated_items rules path (items es))
  all-labels P [] h = tt
  all-labels P (inl a ∷ es) h = all-labels P es h.1
  all-labels P (inr i ∷ es) h = (subst P (sym (own-label i)) h.0, all-labels P es h.1)

  below-differ : (l : PlainLabel) (ls : List PlainLabel) → AllByRecursion (λ m. label_cmp l m ≡ Less) ls → AllByRecursion (λ m. l ≢ m) ls
  below-differ l [] h = tt
  below-differ l (m ∷ ls) h = (λ e. not_itself label_cmp_total l (subst (λ z. label_cmp l z ≡ Less) (sym e) h.0), below-differ l ls h.1)

  all-apart : (es : List (Entry rules path)) → Ascends label_cmp (map label_of (nodes es)) → Apart (annotated_items rules path (items es))
  all-apart [] h = tt
  all-apart (inl a ∷ es) h = all-apart es h.1
  all-apart (inr i ∷ es) h = (
    subst (λ l. AllByRecursion (λ j. l ≢ label_of j) (annotated_items rules path (items es))) (sym (own-label i)) (all-labels (λ m. label_of i.node ≢ m) es (below-differ (label_of i.node) (map label_of (nodes es)) h.0)),
    all-apart es h.1,
  )

any-attr : (z : PlainKeyed) (xs : List PlainAttr) → Has z (map attr_leaf xs) → Any (λ a. z ≡ attr_leaf a) xs
any-attr z [] m = absurd m
any-attr z (x ∷ xs) m = elim m [
  | inl e ↦ has_any (λ a. z ≡ attr_leaf a) (x ∷ xs) x (inl refl) (sym e)
  | inr n ↦ (let some = any_has (λ a. z ≡ attr_leaf a) xs (any-attr z xs n) in has_any (λ a. z ≡ attr_leaf a) (x ∷ xs) some.0 (inr some.1.0) some.1.1)
]

on-true : (b : Bool) (P Q : Type 0) → b ≡ true → P → MatchBool b P Q
on-true true P Q e h = h
on-true false P Q e h = absurd (true≢false (sym e))

on-false : (b : Bool) (P Q : Type 0) → b ≡ false → Q → MatchBool b P Q
on-false true P Q e h = absurd (true≢false e)
on-false false P Q e h = h

nothing-false : (b : Bool) (P : Type 0) → b ≡ true → OnFalse b P
nothing-false true P e = tt
nothing-false false P e = absurd (true≢false (sym e))

as-false : (b : Bool) (P : Type 0) → P → OnFalse b P
as-false true P h = tt
as-false false P h = h

not-false : (b : Bool) → not b ≡ true → b ≡ false
not-false true e = absurd (true≢false (sym e))
not-false false e = refl

tag-is : (n : PlainName) → is_tag n ≡ true → n ≡ tag (name_bytes n)
tag-is (attr s) e = absurd (true≢false (sym e))
tag-is (tag s) e = refl

attr-is : (l : PlainLabel) (b : PlainKey) → is_tag l.name ≡ false → is_attr_leaf (leaf l b) ≡ true → (a : PlainAttr) × (leaf l b ≡ attr_leaf a)
attr-is l b e f = go l.name l.keys b e f
  where
    go : (n : PlainName) (keys : List PlainKey) (b : PlainKey) → is_tag n ≡ false → (has_no_keys keys && is_scalar b) ≡ true → (a : PlainAttr) × (leaf (record { name = n; keys = keys }) b ≡ attr_leaf a)
    go (attr s) [] (scalar v) e f = (record { name = s; value = v }, refl)
    go (attr s) [] (inside c) e f = absurd (true≢false (sym f))
    go (attr s) (x ∷ xs) b e f = absurd (true≢false (sym f))
    go (tag s) keys b e f = absurd (true≢false e)

kid-is : (rules : List PlainRule) (path : List (List ℕ)) (k : PlainKeyed) → cond (is_tag (label_of k).name) (fits rules path k) (is_attr_leaf k) ≡ true → (fits rules path k ≡ true → StandsAt rules path k) → IsKidOf rules path k
kid-is rules path (inner l ks) e f =
    elim (is_tag l.name) as (λ b. cond b (fits rules path (inner l ks)) false ≡ true → IsKidOf rules path (inner l ks)) [ true ↦ λ g. inr (f g) | false ↦ λ g. absurd (true≢false (sym g)) ] e
kid-is rules path (leaf l b) e f =
    elim (is_tag l.name) as (λ q. is_tag l.name ≡ q → cond q (fits rules path (leaf l b)) (is_attr_leaf (leaf l b)) ≡ true → IsKidOf rules path (leaf l b)) [ true ↦ λ d g. inr (f g) | false ↦ λ d g. inl (attr-is l b d g) ] refl e

module _ (rules : List PlainRule) (lead : PathsLead rules) where
  -- the label that a node has, where it stands for its element
  with-label : (context : List (List ℕ)) (k : PlainKeyed) → is_tag (label_of k).name ≡ true → has_keys (rule_of rules context (tag_of k)) (label_of k).keys k ≡ true
      → ContentKeyed rules (below context (tag_of k)) (inside_of k) k → ContentSatisfies rules (below context (tag_of k)) (inside_of k) → StandsAt rules context k
  with-label context k e g h s =
      let l = label_of k in
      let t = tag_of k in
      let name : l.name ≡ tag t = tag-is l.name e in
      let label = (label-leads rules (below context t) t (inside_of k) k s h (rule_of rules context t) l.keys (lead context t)).1 g in
      record { name = name; label = label ∙ sym (as-label l t name); keyed = h; satisfies = s }

  leaf-stands : (context : List (List ℕ)) (l : PlainLabel) (b : PlainKey) → fits rules context (leaf l b) ≡ true → StandsAt rules context (leaf l b)
  leaf-stands context l (scalar v) e =
      let path = below context (name_bytes l.name) in
      let keys = has_keys (rule_of rules context (name_bytes l.name)) l.keys (leaf l (scalar v)) in
      let one = and_parts (is_tag l.name) (keys && (is_frontier rules path && false)) e in
      let two = and_parts keys (is_frontier rules path && false) one.1 in
      absurd (true≢false (sym (and_parts (is_frontier rules path) false two.1).1))
  leaf-stands context l (inside (content xs ts)) e =
      let path = below context (name_bytes l.name) in
      let keys = has_keys (rule_of rules context (name_bytes l.name)) l.keys (leaf l (inside (content xs ts))) in
      let one = and_parts (is_tag l.name) (keys && (is_frontier rules path && true)) e in
      let two = and_parts keys (is_frontier rules path && true) one.1 in
      let three = and_parts (is_frontier rules path) true two.1 in
      with-label context (leaf l (inside (content xs ts))) one.0 two.0 (on-true (is_frontier rules path) _ _ three.0 refl) (nothing-false (is_frontier rules path) _ three.0)

  inner-stands : (context : List (List ℕ)) (l : PlainLabel) (ks : PlainKids) → is_tag l.name ≡ true → is_frontier rules (below context (name_bytes l.name)) ≡ false
      → has_keys (rule_of rules context (name_bytes l.name)) l.keys (inner l ks) ≡ true → ascend ks ≡ true → AllByRecursion (IsKidOf rules (below context (name_bytes l.name))) (kids_list ks) → StandsAt rules context (inner l ks)
  inner-stands context l ks e f g up kids =
      let path = below context (name_bytes l.name) in
      let k = inner l ks in
      let es = entries rules path ks kids in
      let among = λ (z : PlainKeyed) (m : Has z (nodes es.list)). subst (Has z) (sym es.are) m in
      let order = subst (λ zs. Ascends label_cmp (map label_of zs)) es.are (ascend-all ks up) in
      let keyed_ : InnerKeyed (attrs es.list) k (EachIsKid rules path (items es.list) k) (IsOfItem rules path (items es.list)) = record {
        node = ap (inner l) (sym (kids_from-kids_list ks));
        ascending = subst (λ z. IsTrue (ascend z)) (sym (kids_from-kids_list ks)) up;
        attrs = all-attrs rules path k es.list among;
        items = all-items rules path k es.list among;
        only = has_all (λ c. Any (λ a. c ≡ attr_leaf a) (attrs es.list) ⊎ IsOfItem rules path (items es.list) c) (kids_list ks)
            (λ z m. elim (each-one rules path z es.list (subst (Has z) es.are m)) [ inl a ↦ inl (any-attr z (attrs es.list) a) | inr i ↦ inr i ]);
      } in
      let good = all-good rules path es.list in
      let satisfied : ItemsSatisfy rules path (list_of (items es.list)) (EachSatisfies rules path (items es.list)) = record {
        good = good;
        apart = (law.apart-differ rules path (list_of (items es.list))).1 (apart-differ rules path (items es.list) good (all-apart rules path es.list order));
        inside = all-inside rules path es.list;
      } in
      let back = λ (P : List PlainAttr → PlainTrees → Type 0) (p : P (attrs es.list) (items es.list)). subst (λ ts. P (attrs_among ks) ts) (sym es.spell_items) (subst (λ xs. P xs (items es.list)) (sym es.spell_attrs) p) in
      with-label context k e g
      (back (λ xs ts. ContentKeyed rules path (content xs ts) k) (on-false (is_frontier rules path) (k ≡ leaf (label_of k) (inside (content (attrs es.list) (items es.list)))) (InnerKeyed (attrs es.list) k (EachIsKid rules path (items es.list) k) (IsOfItem rules path (items es.list))) f keyed_))
      (back (λ xs ts. ContentSatisfies rules path (content xs ts)) (as-false (is_frontier rules path) (ItemsSatisfy rules path (list_of (items es.list)) (EachSatisfies rules path (items es.list))) satisfied))

  mutual
    pub stands-at : (context : List (List ℕ)) (k : PlainKeyed) → fits rules context k ≡ true → StandsAt rules context k
    stands-at context (leaf l b) e = leaf-stands context l b e
    stands-at context (inner l ks) e =
        let path = below context (name_bytes l.name) in
        let keys = has_keys (rule_of rules context (name_bytes l.name)) l.keys (inner l ks) in
        let one = and_parts (is_tag l.name) (keys && (not (is_frontier rules path) && (ascend ks && each_fits rules path ks))) e in
        let two = and_parts keys (not (is_frontier rules path) && (ascend ks && each_fits rules path ks)) one.1 in
        let three = and_parts (not (is_frontier rules path)) (ascend ks && each_fits rules path ks) two.1 in
        let four = and_parts (ascend ks) (each_fits rules path ks) three.1 in
        inner-stands context l ks one.0 (not-false (is_frontier rules path) three.0) two.0 four.0 (kids-stand path ks four.1)

    kids-stand : (path : List (List ℕ)) (ks : PlainKids) → each_fits rules path ks ≡ true → AllByRecursion (IsKidOf rules path) (kids_list ks)
    kids-stand path no_kids e = tt
    kids-stand path (kid k ks) e =
        let two = and_parts (cond (is_tag (label_of k).name) (fits rules path k) (is_attr_leaf k)) (each_fits rules path ks) e in
        (kid-is rules path k two.0 (λ f. stands-at path k f), kids-stand path ks two.1)
