-- One item on in a row: what it adds to the kids so far.
use Rattle.std.proofs.Common.{◌≡◌, ◌≢◌, ℕ, true, false, List, [], ◌∷◌, ◌++◌, Option, Some, None, Global, append_assoc, refl, ap, sym, ◌∙◌}
use Rattle.std.specs.Option.{option_map}
use Rattle.std.specs.declared.borrow.CowStr.{CowStr}
use Rattle.jsonml_tree.specs.Data.{PlainTree, text, element, PlainContent, PlainTrees, tree}
use Rattle.jsonml_tree.specs.LentView.{lent_tree_view}
use Rattle.jsonml_tree.specs.declared.lent.LentRow.{LentRow}
use Rattle.jsonml_tree.specs.declared.lent.LentTree.{LentTree, LentTree-F, Text, out-LentTree, roll-LentTree, roll-out-LentTree}
use Rattle.jsonml_tree.specs.declared.lent.LentTree.TheVariants.{rolls-Text, rolls-Leaf, rolls-Elem}
use Rattle.jsonml_tree.proofs.LentTrees.{lent_tree_view-Leaf, lent_tree_view-Elem}
use Rattle.keyed_tree.specs.Data.{PlainKeyed}
use Rattle.key_spec.specs.Data.{PlainRule}
use Rattle.key_rules.specs.Satisfies.{is_space_only}
use Rattle.key_annotate.specs.Ordered.{put_first, built_items, built_tree}

-- these kids, and then those of the items
abbrev pub after : List PlainKeyed → Option (List PlainKeyed) → Option (List PlainKeyed)
after ks items = option_map (λ js. ks ++ js) items

after-one : (ks : List PlainKeyed) (k : PlainKeyed) (o : Option (List PlainKeyed)) → after ks (put_first (Some k) o) ≡ after (ks ++ k ∷ []) o
after-one ks k None = refl
after-one ks k (Some js) = ap (λ x. Some x) (sym (append_assoc ks (k ∷ []) js))

pub added-text : (rules : List PlainRule) (path : List (List ℕ)) (s : List ℕ) (rest : PlainTrees) (ks : List PlainKeyed) → is_space_only s ≡ true → after ks (built_items rules path (tree (text s) rest)) ≡ after ks (built_items rules path rest)
added-text rules path s rest ks e = rw e refl

pub added-other : (rules : List PlainRule) (path : List (List ℕ)) (s : List ℕ) (rest : PlainTrees) (ks : List PlainKeyed) → is_space_only s ≡ false → after ks (built_items rules path (tree (text s) rest)) ≡ None
added-other rules path s rest ks e = rw e refl

pub added-kid : (rules : List PlainRule) (path : List (List ℕ)) (t : List ℕ) (c : PlainContent) (rest : PlainTrees) (ks : List PlainKeyed) (k : PlainKeyed) → built_tree rules path (element t c) ≡ Some k
    → after ks (built_items rules path (tree (element t c) rest)) ≡ after (ks ++ k ∷ []) (built_items rules path rest)
added-kid rules path t c rest ks k e = ap (λ o. after ks (put_first o (built_items rules path rest))) e ∙ after-one ks k (built_items rules path rest)

-- the same of a tree for which there is a kid
pub added-tree : (rules : List PlainRule) (path : List (List ℕ)) (x : PlainTree) (rest : PlainTrees) (ks : List PlainKeyed) (k : PlainKeyed) → built_tree rules path x ≡ Some k
    → after ks (built_items rules path (tree x rest)) ≡ after (ks ++ k ∷ []) (built_items rules path rest)
added-tree rules path (text s) rest ks k e = cc
added-tree rules path (element t c) rest ks k e = added-kid rules path t c rest ks k e

-- an item that is no text is an element
abbrev IsElementItem : LentTree → Type 0
IsElementItem x = (t : List ℕ) × ((c : PlainContent) × (lent_tree_view x ≡ element t c))

element-item : (x : LentTree) (o : LentTree-F LentTree LentRow) → out-LentTree x ≡ o → ((s : CowStr Global) → x ≢ Text s) → IsElementItem x
element-item x (LentTree-F.Text s) e other = absurd (other s (sym (roll-out-LentTree x) ∙ ap roll-LentTree e ∙ rolls-Text s))
element-item x (LentTree-F.Leaf t s) e other = (_, (_, ap lent_tree_view (sym (roll-out-LentTree x) ∙ ap roll-LentTree e ∙ rolls-Leaf t s) ∙ lent_tree_view-Leaf t s))
element-item x (LentTree-F.Elem t row) e other = (_, (_, ap lent_tree_view (sym (roll-out-LentTree x) ∙ ap roll-LentTree e ∙ rolls-Elem t row) ∙ lent_tree_view-Elem t row))

-- one for which there is no kid
pub added-none : (rules : List PlainRule) (path : List (List ℕ)) (x : LentTree) (rest : PlainTrees) (ks : List PlainKeyed) → ((s : CowStr Global) → x ≢ Text s) → built_tree rules path (lent_tree_view x) ≡ None
    → after ks (built_items rules path (tree (lent_tree_view x) rest)) ≡ None
added-none rules path x rest ks other none =
    let e = element-item x (out-LentTree x) refl other in
    let shape : lent_tree_view x ≡ element e.0 e.1.0 = e.1.1 in
    let gone : built_tree rules path (element e.0 e.1.0) ≡ None = ap (built_tree rules path) (sym shape) ∙ none in
    ap (λ y. after ks (built_items rules path (tree y rest))) shape ∙ ap (λ o. after ks (put_first o (built_items rules path rest))) gone
