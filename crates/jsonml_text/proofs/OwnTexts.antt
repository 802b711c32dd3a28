-- The texts of every tree in memory are UTF-8.
use Rattle.std.proofs.Common.{◌≡◌, ◌⊎◌, inl, inr, ℕ, zero, suc, ◌<◌, List, [], ◌∷◌, map, String, Global, string_bytes, arith, sym, ap, ◌∙◌, subst, refl}
use Rattle.std.proofs.lemmas.Str.{IsUtf8-string_bytes}
use Rattle.jsonml_tree.specs.Data.{element, content, trees_of, tree_depth, trees_depth}
use Rattle.jsonml_tree.specs.View.{scalar_view, attr_view, tree_view, content_view}
use Rattle.jsonml_tree.specs.declared.scalar.Attr.{Attr}
use Rattle.jsonml_tree.specs.declared.scalar.Scalar.{Scalar}
use Rattle.jsonml_tree.specs.declared.scalar.Scalar.TheVariants as scalar
use Rattle.jsonml_tree.specs.declared.tree.Content.{Content}
use Rattle.jsonml_tree.specs.declared.tree.Tree.{Tree, Tree-F, Text, Elem, out-Tree, roll-Tree, roll-out-Tree}
use Rattle.jsonml_tree.specs.declared.tree.Tree.TheVariants.{rolls-Text, rolls-Elem}
use Rattle.jsonml_tree.proofs.Trees.{tree_view-Text, tree_view-Elem, content_view-is}
use Rattle.jsonml_text.specs.Texts.{IsScalarText, AreAttrTexts, AreTexts, AreContentTexts, AreItemTexts}

pub scalar_text : (x : Scalar) → IsScalarText (scalar_view x)
scalar_text scalar.Null = tt
scalar_text (scalar.Bool b) = tt
scalar_text (scalar.Whole n) = tt
scalar_text (scalar.Text s) = IsUtf8-string_bytes s

pub attr_texts : (xs : List Attr) → AreAttrTexts (map attr_view xs)
attr_texts [] = tt
attr_texts (x ∷ xs) = (IsUtf8-string_bytes x.name, scalar_text x.value, attr_texts xs)

-- ---- a tree is a text or an element

abbrev IsText : Tree → Type 0
IsText t = (s : String Global) × (t ≡ Text s)

abbrev IsElem : Tree → Type 0
IsElem t = (tag : String Global) × ((c : Content) × (t ≡ Elem tag c))

shape_of : (t : Tree) (o : Tree-F Tree Content) → out-Tree t ≡ o → IsText t ⊎ IsElem t
shape_of t (Tree-F.Text s) e = inl (s, sym (roll-out-Tree t) ∙ ap roll-Tree e ∙ rolls-Text s)
shape_of t (Tree-F.Elem tag c) e = inr (tag, (c, sym (roll-out-Tree t) ∙ ap roll-Tree e ∙ rolls-Elem tag c))

-- ---- by how deep elements nest

all_texts : (n : ℕ) → ((t : Tree) → tree_depth (tree_view t) < n → AreTexts (tree_view t)) → (ts : List Tree) → trees_depth (trees_of (map tree_view ts)) < n → AreItemTexts (trees_of (map tree_view ts))
all_texts n f [] below = tt
all_texts n f (t ∷ ts) below = (f t (omega arith), all_texts n f ts (omega arith))

from_text : (t : Tree) → IsText t → AreTexts (tree_view t)
from_text t p = subst AreTexts (sym (ap tree_view p.1 ∙ tree_view-Text p.0)) (IsUtf8-string_bytes p.0)

from_elem : (n : ℕ) → ((t : Tree) → tree_depth (tree_view t) < n → AreTexts (tree_view t)) → (t : Tree) → (tag : String Global) (c : Content) → t ≡ Elem tag c → tree_depth (tree_view t) < suc n → AreTexts (tree_view t)
from_elem n f t tag c e below =
    let ts = c.items.items in
    let seen : tree_view t ≡ element (string_bytes tag) (content (map attr_view c.attrs.items) (trees_of (map tree_view ts))) = ap tree_view e ∙ tree_view-Elem tag c ∙ ap (element (string_bytes tag)) (content_view-is c) in
    let deep : trees_depth (trees_of (map tree_view ts)) < n = omega (arith, ap tree_depth seen, below) in
    subst AreTexts (sym seen) (IsUtf8-string_bytes tag, (attr_texts c.attrs.items, all_texts n f ts deep))

texts_below : (n : ℕ) (t : Tree) → tree_depth (tree_view t) < n → AreTexts (tree_view t)
texts_below zero t below = absurd (omega (arith, below))
texts_below (suc n) t below =
    elim (shape_of t (out-Tree t) refl) as (λ _. AreTexts (tree_view t)) [ inl p ↦ from_text t p | inr p ↦ from_elem n (texts_below n) t p.0 p.1.0 p.1.1 below ]

pub tree_texts : (t : Tree) → AreTexts (tree_view t)
tree_texts t = texts_below (suc (tree_depth (tree_view t))) t (omega arith)

item_texts : (ts : List Tree) → AreItemTexts (trees_of (map tree_view ts))
item_texts [] = tt
item_texts (t ∷ ts) = (tree_texts t, item_texts ts)

pub content_texts : (c : Content) → AreContentTexts (content_view c)
content_texts c = subst AreContentTexts (sym (content_view-is c)) (attr_texts c.attrs.items, item_texts c.items.items)
