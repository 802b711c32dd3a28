-- Keyed trees of one specification are alike: whether a path ends in an inner node follows from its labels and the rules.
use Rattle.std.proofs.Common.{◌≡◌, ◌↔◌, ◌⊎◌, ℕ, Bool, true, false, not, IsTrue, true≢false, List, [], ◌∷◌, Some, None, Any, refl, ap, sym, subst, ◌∙◌, inl, inr}
use Rattle.std.specs.Bool.{MatchBool}
use Rattle.std.specs.Option.{option_and_then}
use Rattle.jsonml_tree.specs.Data.{PlainAttr, PlainTree, text, element, PlainContent, content, PlainTrees, no_trees, tree}
use Rattle.keyed_tree.specs.Alike.{IsInner, Alike}
use Rattle.keyed_tree.specs.Data.{PlainName, attr, tag, inside, PlainLabel, PlainKeyed, inner, leaf, kids_from, kids_of, label_of}
use Rattle.keyed_tree.specs.Kids.{kid_at}
use Rattle.keyed_tree.specs.Lists.{Has}
use Rattle.keyed_tree.specs.Paths.{node_at}
use Rattle.keyed_tree.proofs.Kids.{has_found, kids_list-kids_from}
use Rattle.jsonml_tree.proofs.Lists.{all_has}
use Rattle.key_spec.specs.Data.{PlainRule}
use Rattle.key_spec.specs.Rules.{is_frontier, below}
use Rattle.key_annotate.specs.KeyedOf.{attr_leaf, InnerKeyed, ContentKeyed, EachIsKid, IsOfItem, IsKeyedTreeOf}
use Rattle.key_annotate.specs.DocumentTexts.{label-name}

-- whether a node of this name is inner, or the one that a path leads to from it: all are elements, and the last is not at the frontier
abbrev ends_inner : List PlainRule → List (List ℕ) → PlainName → List PlainLabel → Bool
ends_inner rules context (attr s) p = false
ends_inner rules context (tag t) [] = not (is_frontier rules (below context t))
ends_inner rules context (tag t) (l ∷ p) = ends_inner rules (below context t) l.name p

abbrev Ends : List PlainRule → List (List ℕ) → PlainKeyed → Type 0
Ends rules context k = (p : List PlainLabel) (x : PlainKeyed) → node_at p k ≡ Some x → IsInner x ↔ IsTrue (ends_inner rules context (label_of k).name p)

same-some : (a b : PlainKeyed) → Some a ≡ Some b → a ≡ b
same-some a b e = cc

none-some : (x : PlainKeyed) → ¬ (None ≡ Some x)
none-some x e = cc

attr-ends : (rules : List PlainRule) (context : List (List ℕ)) (a : PlainAttr) → Ends rules context (attr_leaf a)
attr-ends rules context a [] x e = (λ i. absurd (subst IsInner (sym (same-some (attr_leaf a) x e)) i), λ h. absurd (true≢false (sym h)))
attr-ends rules context a (l ∷ p) x e = absurd (none-some x e)

leaf-ends : (rules : List PlainRule) (context : List (List ℕ)) (t : List ℕ) (c : PlainContent) (l : PlainLabel) → l.name ≡ tag t → is_frontier rules (below context t) ≡ true → Ends rules context (leaf l (inside c))
leaf-ends rules context t c l n f [] x e = (
  λ i. absurd (subst IsInner (sym (same-some (leaf l (inside c)) x e)) i),
  λ h. absurd (true≢false (sym (subst (λ m. IsTrue (ends_inner rules context m [])) n h) ∙ ap not f)),
)
leaf-ends rules context t c l n f (m ∷ p) x e = absurd (none-some x e)

record Step (l : PlainLabel) (p : List PlainLabel) (ks : List PlainKeyed) (x : PlainKeyed) : Type 0 where
  kid : PlainKeyed
  has : Has kid ks
  labelled : label_of kid ≡ l
  rest : node_at p kid ≡ Some x

a-step : (l : PlainLabel) (p : List PlainLabel) (ks : List PlainKeyed) (x : PlainKeyed) → option_and_then (node_at p) (kid_at l ks) ≡ Some x → Step l p ks x
a-step l p ks x e =
    elim (kid_at l ks) as (λ o. kid_at l ks ≡ o → option_and_then (node_at p) o ≡ Some x → Step l p ks x) [
      | None ↦ λ d g. absurd (none-some x g)
      | Some k ↦ λ d g. (let found = has_found l k ks d in record { kid = k; has = found.0; labelled = found.1; rest = g })
    ] refl e

inner-ends : (rules : List PlainRule) (context : List (List ℕ)) (t : List ℕ) (l : PlainLabel) (ks : List PlainKeyed) → l.name ≡ tag t → is_frontier rules (below context t) ≡ false
    → ((c : PlainKeyed) → Has c ks → Ends rules (below context t) c) → Ends rules context (inner l (kids_from ks))
inner-ends rules context t l ks n f each [] x e = (
  λ i. subst (λ m. IsTrue (ends_inner rules context m [])) (sym n) (ap not f),
  λ h. subst IsInner (same-some (inner l (kids_from ks)) x e) tt,
)
inner-ends rules context t l ks n f each (m ∷ p) x e =
    let step = a-step m p ks x (subst (λ z. option_and_then (node_at p) (kid_at m z) ≡ Some x) (kids_list-kids_from ks) e) in
    let below_here = each step.kid step.has p x step.rest in
    subst (λ z. IsInner x ↔ IsTrue (ends_inner rules context z (m ∷ p))) (sym n) (subst (λ (z : PlainLabel). IsInner x ↔ IsTrue (ends_inner rules (below context t) z.name p)) step.labelled below_here)

by-frontier : (b : Bool) (P Q G : Type 0) → (b ≡ true → P → G) → (b ≡ false → Q → G) → MatchBool b P Q → G
by-frontier true P Q G f g h = f refl h
by-frontier false P Q G f g h = g refl h

mutual
  content-ends : (rules : List PlainRule) (context : List (List ℕ)) (t : List ℕ) (c : PlainContent) (k : PlainKeyed) → (label_of k).name ≡ tag t → ContentKeyed rules (below context t) c k → Ends rules context k
  content-ends rules context t (content xs ts) k n h =
      let path = below context t in
      by-frontier (is_frontier rules path) (k ≡ leaf (label_of k) (inside (content xs ts))) (InnerKeyed xs k (EachIsKid rules path ts k) (IsOfItem rules path ts)) (Ends rules context k)
      (λ f is. subst (Ends rules context) (sym is) (leaf-ends rules context t (content xs ts) (label_of k) n f))
      (λ f i. subst (Ends rules context) (sym i.node) (inner-ends rules context t (label_of k) (kids_of k) n f (λ c m. elim (all_has (λ c. Any (λ a. c ≡ attr_leaf a) xs ⊎ IsOfItem rules path ts c) (kids_of k) c i.only m) [
        | inl a ↦ subst (Ends rules path) (sym a.4) (attr-ends rules path _)
        | inr o ↦ item-ends rules path ts c o
      ]))) h

  item-ends : (rules : List PlainRule) (path : List (List ℕ)) (ts : PlainTrees) (z : PlainKeyed) → IsOfItem rules path ts z → Ends rules path z
  item-ends rules path no_trees z h = absurd h
  item-ends rules path (tree (text x) ts) z h = elim h [ inl n ↦ absurd n | inr n ↦ item-ends rules path ts z n ]
  item-ends rules path (tree (element t c) ts) z h = elim h [
    | inl n ↦ content-ends rules path t c z (label-name rules path t c (label_of z) n.0) n.1
    | inr n ↦ item-ends rules path ts z n
  ]

keyed-ends : (rules : List PlainRule) (t : PlainTree) (k : PlainKeyed) → IsKeyedTreeOf rules t k → Ends rules [] k
keyed-ends rules (text s) k h = absurd h
keyed-ends rules (element t c) k h = content-ends rules [] t c k (label-name rules [] t c (label_of k) h.0) h.1

-- trees that stand for two documents
pub keyed-alike : (rules : List PlainRule) (t u : PlainTree) (k j : PlainKeyed) → IsKeyedTreeOf rules t k → IsKeyedTreeOf rules u j → Alike k j
keyed-alike rules t u k j h g [] x y a b = absurd a
keyed-alike rules t u k j h g (l ∷ p) x y a b =
    let one = subst (λ (z : PlainLabel). IsInner x ↔ IsTrue (ends_inner rules [] z.name p)) a.0 (keyed-ends rules t k h p x a.1) in
    let two = subst (λ (z : PlainLabel). IsInner y ↔ IsTrue (ends_inner rules [] z.name p)) b.0 (keyed-ends rules u j g p y b.1) in
    (λ i. two.1 (one.0 i), λ i. one.1 (two.0 i))
