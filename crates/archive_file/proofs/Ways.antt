-- A key path leads to a value among the nodes of a keyed tree exactly where it reaches that value alone in the document.
use Rattle.std.proofs.Common.{◌≡◌, ◌≢◌, ◌↔◌, ◌⊎◌, ℕ, Bool, true, false, cond, not, ◌||◌, true≢false, List, [], ◌∷◌, map, Option, Some, None, Ok, Any, Contains, refl, ap, sym, subst, ◌∙◌, inl, inr, append-nil}
use Rattle.std.specs.Prelude.{⊤}
use Rattle.std.proofs.lemmas.Bool.{or_left, or_right}
use Rattle.std.proofs.lemmas.Slice.Eq.{bytes_eq-Decides}
use Rattle.std.specs.Bool.{OnFalse, MatchBool}
use Rattle.std.specs.List.{AllByRecursion, find, flat_map, cons_option, list_any}
use Rattle.std.specs.Option.{option_map}
use Rattle.std.specs.Ordering.{ordering_then, is_eq}
use Rattle.std.specs.Str.{bytes_eq}
use Rattle.std.specs.declared.cmp.Ordering.{Ordering}
use Rattle.std.specs.declared.cmp.Ordering.TheVariants.{Less, Equal, Greater}
use Rattle.jsonml_tree.specs.Data.{PlainScalar, PlainAttr, text, element, PlainContent, content, PlainTrees, no_trees, tree, list_of}
use Rattle.keyed_tree.specs.Data.{attr, tag, PlainKey, scalar, inside, PlainLabel, PlainKeyed, inner, leaf, kids_from, kids_list, kids_of, label_of}
use Rattle.keyed_tree.specs.Kids.{kid_at}
use Rattle.keyed_tree.specs.Laws.{key_cmp-is_eq}
use Rattle.keyed_tree.specs.Lists.{Ascends, Has}
use Rattle.keyed_tree.specs.Order.{key_cmp, label_cmp}
use Rattle.keyed_tree.proofs.Kids.{kids_list-kids_from, ascend-all, found_at, has_found}
use Rattle.jsonml_tree.proofs.Lists.{all_has, any_has}
use Rattle.key_spec.specs.Data.{PlainPath, PlainRule}
use Rattle.key_spec.specs.Rules.{place_cmp, path_cmp, name_cmp, rule_of, is_frontier, below}
use Rattle.key_rules.specs.Labels.{and_then, keys_from, label_by, label_in}
use Rattle.key_rules.specs.Reach.{attrs_in, children, found, scalar_named, values_at}
use Rattle.key_rules.specs.Satisfies.{ItemsSatisfy, ContentSatisfies, EachSatisfies}
use Rattle.key_rules.proofs.Law as law
use Rattle.key_annotate.specs.Annotated.{label_or_bare, annotated, annotated_items}
use Rattle.key_annotate.specs.KeyedOf.{attr_leaf, InnerKeyed, ContentKeyed, EachIsKid, IsOfItem}
use Rattle.key_annotate.proofs.InOrder.{Apart}
use Rattle.key_annotate.specs.DocumentTexts.{label-name}
use Rattle.key_annotate.proofs.KidsOf.{annotated-label, differ-apart}
use Rattle.key_annotate.proofs.Sorted.{at_has}
use Rattle.archive_tree.specs.Stands.{has_body}
use Rattle.archive_file.specs.NodeFits.{attr_label, bare_label, on_some, ends_in}
use Rattle.archive_file.proofs.Fits.{leads_here, leads}

-- ---- the ways of key paths

-- there is a rule for the tag, without key paths
abbrev pub IsBare : List PlainRule → List (List ℕ) → List ℕ → Type 0
IsBare rules path t = (r : PlainRule) × (rule_of rules path t ≡ Some r) × (r.paths ≡ [])

-- from an element on each tag has such a rule, and without an attribute the tags end at the frontier
abbrev pub IsWay : List PlainRule → List (List ℕ) → List (List ℕ) → Option (List ℕ) → Type 0
IsWay rules path [] None = is_frontier rules path ≡ true
IsWay rules path [] (Some name) = ⊤
IsWay rules path (t ∷ ts) at = IsBare rules path t × IsWay rules (below path t) ts at

-- the key paths of each rule are ways from its target
abbrev pub PathsLead : List PlainRule → Type 0
PathsLead rules = (path : List (List ℕ)) (t : List ℕ) (r : PlainRule) → rule_of rules path t ≡ Some r → AllByRecursion (λ (p : PlainPath). IsWay rules (below path t) p.tags p.attr) r.paths

eq-first : (a b : Ordering) → is_eq (ordering_then a b) ≡ true → is_eq a ≡ true
eq-first Less b e = e
eq-first Equal b e = refl
eq-first Greater b e = e

any-rule : (path : List (List ℕ)) (t : List ℕ) (rules : List PlainRule) (r : PlainRule) → rule_of rules path t ≡ Some r → list_any (λ (s : PlainRule). is_eq (path_cmp s.context path)) rules ≡ true
any-rule path t [] r e = cc
any-rule path t (s ∷ rules) r e =
    elim (is_eq (place_cmp s.context s.tag path t)) as (λ b. is_eq (place_cmp s.context s.tag path t) ≡ b → cond b (Some s) (rule_of rules path t) ≡ Some r → (is_eq (path_cmp s.context path) || list_any (λ (s : PlainRule). is_eq (path_cmp s.context path)) rules) ≡ true) [
      | true ↦ λ d f. or_left (is_eq (path_cmp s.context path)) _ (eq-first (path_cmp s.context path) (name_cmp s.tag t) d)
      | false ↦ λ d f. or_right (is_eq (path_cmp s.context path)) _ (any-rule path t rules r f)
    ] refl e

-- the path of a rule's context is above the frontier
pub rule-open : (rules : List PlainRule) (path : List (List ℕ)) (t : List ℕ) (r : PlainRule) → rule_of rules path t ≡ Some r → is_frontier rules path ≡ false
rule-open rules path t r e = ap not (any-rule path t rules r e)

-- an element with such a rule has the label without key values
pub bare-label : (rules : List PlainRule) (path : List (List ℕ)) (t : List ℕ) (c : PlainContent) → IsBare rules path t → label_in rules path t c ≡ Ok (bare_label t)
bare-label rules path t c h = ap (λ o. label_by o t c) h.1 ∙ ap (λ ps. and_then (keys_from 1 ps c) (λ ks. Ok (record { name = tag t; keys = ks }))) h.2

-- ---- the children of a tag

tag_same : (s t : List ℕ) → tag s ≡ tag t → s ≡ t
tag_same s t e = cc

-- a kid of that tag is of a child
of-child : (rules : List PlainRule) (path : List (List ℕ)) (t : List ℕ) (ts : PlainTrees) (z : PlainKeyed) → IsOfItem rules path ts z → (label_of z).name ≡ tag t → children t ts ≢ []
of-child rules path t no_trees z h n = absurd h
of-child rules path t (tree (text s) ts) z h n = elim h [ inl a ↦ absurd a | inr b ↦ of-child rules path t ts z b n ]
of-child rules path t (tree (element u c) ts) z h n = λ e.
    elim h [
      | inl a ↦ (
          let same : u ≡ t = tag_same u t (sym (label-name rules path u c (label_of z) a.0) ∙ n) in
          let yes = (bytes_eq-Decides u t).1 same in
          let taken : cond (bytes_eq u t) (c ∷ children t ts) (children t ts) ≡ c ∷ children t ts = (rw yes refl) in cc)
      | inr b ↦ (
          let rest = of-child rules path t ts z b n in
          elim (bytes_eq u t) as (λ q. cond q (c ∷ children t ts) (children t ts) ≡ [] → ⊥) [ true ↦ λ f. cc | false ↦ λ f. rest f ] e)
    ]

-- the one child of the tag, and its kid
pub record Child (rules : List PlainRule) (path : List (List ℕ)) (t : List ℕ) (ts : PlainTrees) (k : PlainKeyed) : Type 0 where
  pub body : PlainContent
  pub alone : children t ts ≡ body ∷ []
  pub kid : PlainKeyed
  pub has : Has kid (kids_of k)
  pub label : label_in rules path t body ≡ Ok (label_of kid)
  pub keyed : ContentKeyed rules (below path t) body kid
  pub satisfies : ContentSatisfies rules (below path t) body

-- no kid has the label of the tag alone, so no child has the tag
no-child : (rules : List PlainRule) (path : List (List ℕ)) (t : List ℕ) (ts : PlainTrees) → IsBare rules path t → AllByRecursion (λ j. bare_label t ≢ label_of j) (annotated_items rules path ts) → children t ts ≡ []
no-child rules path t no_trees b h = refl
no-child rules path t (tree (text s) ts) b h = no-child rules path t ts b h
no-child rules path t (tree (element u c) ts) b h =
    let rest = no-child rules path t ts b h.1 in
    elim (bytes_eq u t) as (λ q. bytes_eq u t ≡ q → cond q (c ∷ children t ts) (children t ts) ≡ []) [
      | true ↦ λ e. (
          let same : u ≡ t = (bytes_eq-Decides u t).0 e in
          let bare : IsBare rules path u = subst (IsBare rules path) (sym same) b in
          let label : label_of (annotated rules path u c) ≡ bare_label u = annotated-label rules path u c ∙ ap (label_or_bare u) (bare-label rules path u c bare) in
          absurd (h.0 (ap bare_label (sym same) ∙ sym label)))
      | false ↦ λ e. rest
    ] refl

one-child : (rules : List PlainRule) (path : List (List ℕ)) (t : List ℕ) (ts : PlainTrees) (k : PlainKeyed) → IsBare rules path t → Apart (annotated_items rules path ts) → EachIsKid rules path ts k → EachSatisfies rules path ts
    → (children t ts ≡ []) ⊎ Child rules path t ts k
one-child rules path t no_trees k b a h s = inl refl
one-child rules path t (tree (text x) ts) k b a h s = elim (one-child rules path t ts k b a h.1 s.1) [
  | inl e ↦ inl e
  | inr d ↦ inr (record { body = d.body; alone = d.alone; kid = d.kid; has = d.has; label = d.label; keyed = d.keyed; satisfies = d.satisfies })
]
one-child rules path t (tree (element u c) ts) k b a h s =
    elim (bytes_eq u t) as (λ q. bytes_eq u t ≡ q → (cond q (c ∷ children t ts) (children t ts) ≡ []) ⊎ Child rules path t (tree (element u c) ts) k) [
      | true ↦ λ e. (
          let same : u ≡ t = (bytes_eq-Decides u t).0 e in
          let bare : IsBare rules path u = subst (IsBare rules path) (sym same) b in
          let label : label_of (annotated rules path u c) ≡ bare_label t = annotated-label rules path u c ∙ ap (label_or_bare u) (bare-label rules path u c bare) ∙ ap bare_label same in
          let none = no-child rules path t ts b (subst (λ l. AllByRecursion (λ j. l ≢ label_of j) (annotated_items rules path ts)) label a.0) in
          let some = any_has (λ x. (label_in rules path u c ≡ Ok (label_of x)) × ContentKeyed rules (below path u) c x) (kids_of k) h.0 in
          let alone : cond (bytes_eq u t) (c ∷ children t ts) (children t ts) ≡ c ∷ [] = (rw (e, none) refl) in
          inr (record {
            body = c;
            alone = alone;
            kid = some.0;
            has = some.1.0;
            label = subst (λ v. label_in rules path v c ≡ Ok (label_of some.0)) same some.1.1.0;
            keyed = subst (λ v. ContentKeyed rules (below path v) c some.0) same some.1.1.1;
            satisfies = subst (λ v. ContentSatisfies rules (below path v) c) same s.0;
          }))
      | false ↦ λ e. (
          let skip : cond (bytes_eq u t) (c ∷ children t ts) (children t ts) ≡ children t ts = (rw e refl) in
          elim (one-child rules path t ts k b a.1 h.1 s.1) [
            | inl f ↦ inl f
            | inr d ↦ inr (record { body = d.body; alone = skip ∙ d.alone; kid = d.kid; has = d.has; label = d.label; keyed = d.keyed; satisfies = d.satisfies })
          ])
    ] refl

-- ---- attributes of an inner element

name_same : (s t : List ℕ) → attr s ≡ attr t → s ≡ t
name_same s t e = cc

-- the attribute of a name, if there is one
pub record Named (name : List ℕ) (v : PlainScalar) (xs : List PlainAttr) : Type 0 where
  pub own : PlainAttr
  pub has : Has own xs
  pub name_is : own.name ≡ name
  pub value_is : own.value ≡ v

named : (name : List ℕ) (v : PlainScalar) (xs : List PlainAttr) → scalar_named name xs ≡ Some v → Named name v xs
named name v [] e = cc
named name v (a ∷ xs) e =
    elim (bytes_eq a.name name) as (λ q. bytes_eq a.name name ≡ q → option_map (λ (x : PlainAttr). x.value) (cond q (Some a) (find (λ x. bytes_eq x.name name) xs)) ≡ Some v → Named name v (a ∷ xs)) [
      | true ↦ λ d f. (let value : a.value ≡ v = cc in record { own = a; has = inl refl; name_is = (bytes_eq-Decides a.name name).0 d; value_is = value })
      | false ↦ λ d f. (let n = named name v xs f in record { own = n.own; has = inr n.has; name_is = n.name_is; value_is = n.value_is })
    ] refl e

unnamed : (name : List ℕ) (xs : List PlainAttr) → scalar_named name xs ≡ None → (a : PlainAttr) → Has a xs → a.name ≢ name
unnamed name [] e a m n = m
unnamed name (x ∷ xs) e a m n =
    elim (bytes_eq x.name name) as (λ q. bytes_eq x.name name ≡ q → option_map (λ (x : PlainAttr). x.value) (cond q (Some x) (find (λ x. bytes_eq x.name name) xs)) ≡ None → ⊥) [
      | true ↦ λ d f. cc
      | false ↦ λ d f. elim m [
        | inl s ↦ true≢false (sym ((bytes_eq-Decides x.name name).1 (ap (λ (y : PlainAttr). y.name) s ∙ n)) ∙ d)
        | inr r ↦ unnamed name xs f a r n
      ]
    ] refl e

attr_not_tag : (s t : List ℕ) → attr s ≡ tag t → ⊥
attr_not_tag s t e = cc

-- a kid of an item is no attribute
of-attr : (rules : List PlainRule) (path : List (List ℕ)) (ts : PlainTrees) (z : PlainKeyed) (name : List ℕ) → IsOfItem rules path ts z → (label_of z).name ≡ attr name → ⊥
of-attr rules path no_trees z name h n = h
of-attr rules path (tree (text s) ts) z name h n = elim h [ inl a ↦ a | inr b ↦ of-attr rules path ts z name b n ]
of-attr rules path (tree (element u c) ts) z name h n = elim h [ inl a ↦ attr_not_tag name u (sym n ∙ label-name rules path u c (label_of z) a.0) | inr b ↦ of-attr rules path ts z name b n ]

-- ---- what stands at the end of the tags

same_key : (w v : PlainKey) → (w ∷ [] ≡ v ∷ []) ↔ (is_eq (key_cmp w v) ≡ true)
same_key w v = (λ e. (let same : w ≡ v = cc in (key_cmp-is_eq w v).1 same), λ e. ap (λ z. z ∷ []) ((key_cmp-is_eq w v).0 e))

one_value : (v : PlainKey) (o : Option PlainKey) → (cons_option o [] ≡ v ∷ []) ↔ (on_some (λ w. is_eq (key_cmp w v)) o ≡ true)
one_value v None = (λ e. cc, λ e. cc)
one_value v (Some w) = same_key w v

-- in a content: as at the frontier
end-in : (at : Option (List ℕ)) (v : PlainKey) (c : PlainContent) → (values_at at (c ∷ []) ≡ v ∷ []) ↔ (ends_in at v (inside c) ≡ true)
end-in None v c = same_key (inside c) v
end-in (Some name) v c = one_value v (option_map (λ s. scalar s) (scalar_named name (attrs_in c)))

module _ (rules : List PlainRule) (path : List (List ℕ)) (xs : List PlainAttr) (ts : PlainTrees) (k : PlainKeyed) (h : InnerKeyed xs k (EachIsKid rules path ts k) (IsOfItem rules path ts)) where
  up : Ascends label_cmp (map label_of (kids_of k))
  up = subst (λ ks. Ascends label_cmp (map label_of ks)) (kids_list-kids_from (kids_of k)) (ascend-all (kids_from (kids_of k)) h.ascending)

  attr-kid : (name : List ℕ) (v : PlainScalar) → scalar_named name xs ≡ Some v → kid_at (attr_label name) (kids_of k) ≡ Some (attr_leaf (record { name = name; value = v }))
  attr-kid name v e =
      let n = named name v xs e in
      let there = all_has (λ a. Contains (kids_of k) (attr_leaf a)) xs n.own h.attrs n.has in
      let has : Has (attr_leaf n.own) (kids_of k) = at_has (kids_of k) there.0 (attr_leaf n.own) there.1 there.2 in
      let found = found_at (attr_leaf n.own) (kids_of k) up has in
      let names = n.name_is in
      let values = n.value_is in
      subst (λ z. kid_at (attr_label z) (kids_of k) ≡ Some (attr_leaf (record { name = z; value = v }))) names
      (subst (λ z. kid_at (attr_label n.own.name) (kids_of k) ≡ Some (attr_leaf (record { name = n.own.name; value = z }))) values found)

  no-attr : (name : List ℕ) → scalar_named name xs ≡ None → kid_at (attr_label name) (kids_of k) ≡ None
  no-attr name e = elim (kid_at (attr_label name) (kids_of k)) as (λ o. kid_at (attr_label name) (kids_of k) ≡ o → o ≡ None) [
    | None ↦ λ f. refl
    | Some z ↦ λ f. (
        let found = has_found (attr_label name) z (kids_of k) f in
        let is_named : (label_of z).name ≡ attr name = ap (λ (l : PlainLabel). l.name) found.1 in
        absurd (elim (all_has (λ c. Any (λ a. c ≡ attr_leaf a) xs ⊎ IsOfItem rules path ts c) (kids_of k) z h.only found.0) [
          | inl a ↦ (
              let some = any_has (λ a. z ≡ attr_leaf a) xs a in
              let same : some.0.name ≡ name = name_same some.0.name name (sym (ap (λ (y : PlainKeyed). (label_of y).name) some.1.1) ∙ is_named) in
              unnamed name xs e some.0 some.1.0 same)
          | inr i ↦ of-attr rules path ts z name i is_named
        ]))
  ] refl

  end-inner : (at : Option (List ℕ)) (v : PlainKey) → IsWay rules path [] at → is_frontier rules path ≡ false → (values_at at (content xs ts ∷ []) ≡ v ∷ []) ↔ (leads_here at v (inner (label_of k) (kids_from (kids_of k))) ≡ true)
  end-inner None v way e = absurd (true≢false (sym way ∙ e))
  end-inner (Some name) v way e =
      elim (scalar_named name xs) as (λ o. scalar_named name xs ≡ o → (cons_option (option_map (λ s. scalar s) o) [] ≡ v ∷ []) ↔ (on_some (has_body v) (kid_at (attr_label name) (kids_list (kids_from (kids_of k)))) ≡ true)) [
        | None ↦ λ d. subst (λ o. ([] ≡ v ∷ []) ↔ (on_some (has_body v) o ≡ true)) (sym (ap (kid_at (attr_label name)) (kids_list-kids_from (kids_of k)) ∙ no-attr name d)) (λ f. cc, λ f. cc)
        | Some s ↦ λ d. subst (λ o. (scalar s ∷ [] ≡ v ∷ []) ↔ (on_some (has_body v) o ≡ true)) (sym (ap (kid_at (attr_label name)) (kids_list-kids_from (kids_of k)) ∙ attr-kid name s d)) (same_key (scalar s) v)
      ] refl

  -- a kid that stands for the one child
  child-kid : (t : List ℕ) → IsBare rules path t → (d : Child rules path t ts k) → kid_at (bare_label t) (kids_of k) ≡ Some d.kid
  child-kid t b d =
      let label : label_of d.kid ≡ bare_label t = ap (label_or_bare t) (sym d.label ∙ bare-label rules path t d.body b) in
      subst (λ l. kid_at l (kids_of k) ≡ Some d.kid) label (found_at d.kid (kids_of k) up d.has)

  no-kid : (t : List ℕ) → children t ts ≡ [] → kid_at (bare_label t) (kids_of k) ≡ None
  no-kid t e = elim (kid_at (bare_label t) (kids_of k)) as (λ o. kid_at (bare_label t) (kids_of k) ≡ o → o ≡ None) [
    | None ↦ λ f. refl
    | Some z ↦ λ f. (
        let found = has_found (bare_label t) z (kids_of k) f in
        let is_named : (label_of z).name ≡ tag t = ap (λ (l : PlainLabel). l.name) found.1 in
        absurd (elim (all_has (λ c. Any (λ a. c ≡ attr_leaf a) xs ⊎ IsOfItem rules path ts c) (kids_of k) z h.only found.0) [
          | inl a ↦ (
              let some = any_has (λ a. z ≡ attr_leaf a) xs a in
              let other : attr some.0.name ≡ tag t = sym (ap (λ (y : PlainKeyed). (label_of y).name) some.1.1) ∙ is_named in
              attr_not_tag some.0.name t other)
          | inr i ↦ of-child rules path t ts z i is_named e
        ]))
  ] refl

-- ---- the law

at-frontier : (b : Bool) (P Q G : Type 0) → b ≡ true → MatchBool b P Q → P
at-frontier true P Q G e h = h
at-frontier false P Q G e h = absurd (true≢false (sym e))

above-frontier : (b : Bool) (P Q : Type 0) → b ≡ false → MatchBool b P Q → Q
above-frontier true P Q e h = absurd (true≢false e)
above-frontier false P Q e h = h

satisfies-above : (b : Bool) (P : Type 0) → b ≡ false → OnFalse b P → P
satisfies-above true P e h = absurd (true≢false e)
satisfies-above false P e h = h

pub inner-of : (rules : List PlainRule) (path : List (List ℕ)) (xs : List PlainAttr) (ts : PlainTrees) (k : PlainKeyed) → is_frontier rules path ≡ false → ContentKeyed rules path (content xs ts) k
    → InnerKeyed xs k (EachIsKid rules path ts k) (IsOfItem rules path ts)
inner-of rules path xs ts k e h = above-frontier (is_frontier rules path) _ _ e h

pub leaf-of : (rules : List PlainRule) (path : List (List ℕ)) (c : PlainContent) (k : PlainKeyed) → is_frontier rules path ≡ true → ContentKeyed rules path c k → k ≡ leaf (label_of k) (inside c)
leaf-of rules path (content xs ts) k e h = at-frontier (is_frontier rules path) _ _ ⊤ e h

pub items-of : (rules : List PlainRule) (path : List (List ℕ)) (xs : List PlainAttr) (ts : PlainTrees) → is_frontier rules path ≡ false → ContentSatisfies rules path (content xs ts) → ItemsSatisfy rules path (list_of ts) (EachSatisfies rules path ts)
items-of rules path xs ts e h = satisfies-above (is_frontier rules path) _ e h

no_values : (at : Option (List ℕ)) → values_at at [] ≡ []
no_values None = refl
no_values (Some name) = refl

pub reach-leads : (rules : List PlainRule) (tags : List (List ℕ)) (at : Option (List ℕ)) (v : PlainKey) (path : List (List ℕ)) (c : PlainContent) (k : PlainKeyed) → IsWay rules path tags at → ContentSatisfies rules path c → ContentKeyed rules path c k
    → (values_at at (found tags c) ≡ v ∷ []) ↔ (leads tags at v k ≡ true)
reach-leads rules [] at v path (content xs ts) k way s h =
    elim (is_frontier rules path) as (λ b. is_frontier rules path ≡ b → (values_at at (content xs ts ∷ []) ≡ v ∷ []) ↔ (leads_here at v k ≡ true)) [
      | true ↦ λ e. subst (λ z. (values_at at (content xs ts ∷ []) ≡ v ∷ []) ↔ (leads_here at v z ≡ true)) (sym (leaf-of rules path (content xs ts) k e h)) (end-in at v (content xs ts))
      | false ↦ λ e. (let i = inner-of rules path xs ts k e h in subst (λ z. (values_at at (content xs ts ∷ []) ≡ v ∷ []) ↔ (leads_here at v z ≡ true)) (sym i.node) (end-inner rules path xs ts k i at v way e))
    ] refl
reach-leads rules (t ∷ tags) at v path (content xs ts) k way s h =
    let open_ = rule-open rules path t way.0.0 way.0.1 in
    let i = inner-of rules path xs ts k open_ h in
    let sat = items-of rules path xs ts open_ s in
    let apart = differ-apart rules path ts sat.good ((law.apart-differ rules path (list_of ts)).0 sat.apart) in
    elim (one-child rules path t ts k way.0 apart i.items sat.inside) [
      | inl e ↦ (
          let none = no-kid rules path xs ts k i t e in
          let left : values_at at (flat_map (found tags) (children t ts)) ≡ [] = ap (λ cs. values_at at (flat_map (found tags) cs)) e ∙ no_values at in
          (λ f. absurd (no_cons v (sym left ∙ f)), λ f. absurd (true≢false (sym f ∙ ap (on_some (leads tags at v)) none))))
      | inr d ↦ (
          let there = child-kid rules path xs ts k i t way.0 d in
          let left : values_at at (flat_map (found tags) (children t ts)) ≡ values_at at (found tags d.body) = ap (λ cs. values_at at (flat_map (found tags) cs)) d.alone ∙ ap (values_at at) (append-nil (found tags d.body)) in
          let right : on_some (leads tags at v) (kid_at (bare_label t) (kids_of k)) ≡ leads tags at v d.kid = ap (on_some (leads tags at v)) there in
          let deeper = reach-leads rules tags at v (below path t) d.body d.kid way.1 d.satisfies d.keyed in
          (λ f. right ∙ deeper.0 (sym left ∙ f), λ f. left ∙ deeper.1 (sym right ∙ f)))
    ]
  where
    no_cons : (v : PlainKey) → [] ≡ v ∷ [] → ⊥
    no_cons v e = cc
