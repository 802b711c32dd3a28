-- Trees stay well formed, and their positions fit.
use Rattle.std.proofs.Common.{◌≡◌, ℕ, suc, ◌+◌, ◌<◌, ◌≤◌, List, [], ◌∷◌, ◌++◌, length, map, drop, get_or, drop-cons, IsTrue, String, Global, string_bytes, refl, sym, ap, ◌∙◌, subst, arith, length-append}
use Rattle.std.proofs.lemmas.Bool.{and_parts, and_from, le-leb, leb-true}
use Rattle.jsonml_tree.specs.Data.{PlainTree, PlainAttr, element, content, trees_of, list_of, tree_depth, content_depth, trees_depth}
use Rattle.std.proofs.lemmas.List.{length-map}
use Rattle.jsonml_tree.specs.View.{attr_view, tree_view, items_view}
use Rattle.jsonml_tree.specs.declared.tree.Tree.{Tree, Elem}
use Rattle.jsonml_tree.specs.declared.tree.Content.{Content}
use Rattle.jsonml_tree.specs.WellFormed.{is_well_formed, are_well_formed}
use Rattle.jsonml_tree.proofs.Trees.{list_of-trees_of, tree_view-Elem, content_view-is}
use Rattle.jsonml_tree.specs.Fits.{ItemsFit, items_fit, all_items_fit}
use Rattle.jsonml_text.specs.Kept.{IsKept, IsContentKept, AreKept, AreAttrsKept}

pub well_formed_push : (ts : List PlainTree) (t : PlainTree) → IsTrue (are_well_formed (trees_of ts)) → IsTrue (is_well_formed t) → IsTrue (are_well_formed (trees_of (ts ++ t ∷ [])))
well_formed_push [] t p q = and_from _ _ q refl
well_formed_push (u ∷ ts) t p q = let both = and_parts (is_well_formed u) _ p in and_from _ _ both.0 (well_formed_push ts t both.1 q)

pub fit_push : (ts : List PlainTree) (t : PlainTree) → IsTrue (all_items_fit (trees_of ts)) → IsTrue (items_fit t) → IsTrue (all_items_fit (trees_of (ts ++ t ∷ [])))
fit_push [] t p q = and_from _ _ q refl
fit_push (u ∷ ts) t p q = let both = and_parts (items_fit u) _ p in and_from _ _ both.0 (fit_push ts t both.1 q)

pub AreKept-push : (ts : List PlainTree) (t : PlainTree) (n : ℕ) → AreKept ts → IsKept t → n ≡ length ts → n + 1 ≤ 4294967295 → AreKept (ts ++ t ∷ [])
AreKept-push ts t n p q long room =
    record {
      well_formed = well_formed_push ts t p.well_formed q.well_formed;
      fit = fit_push ts t p.fit q.fits;
      few = omega (arith, length-append ts (t ∷ []));
    }

pub IsContentKept-parts : (xs : List PlainAttr) (ts : List PlainTree) → AreAttrsKept xs → AreKept ts → IsContentKept (content xs (trees_of ts))
IsContentKept-parts xs ts p q =
    record {
      well_formed = and_from _ _ (and_from _ _ p.ascending p.in_range) q.well_formed;
      fits = and_from _ _ (le-leb _ _ (omega (arith, ap length (list_of-trees_of ts), q.few))) q.fit;
    }

-- what is known of the items of an element whose positions fit
pub items_fit-parts : (t : Tree) (tag : String Global) (c : Content) (items : List Tree) → t ≡ Elem tag c → items ≡ c.items.items → ItemsFit (tree_view t) → (length items ≤ 4294967295) × IsTrue (all_items_fit (items_view items))
items_fit-parts t tag c items is same fit =
    let seen : tree_view t ≡ element (string_bytes tag) (content (map attr_view c.attrs.items) (trees_of (map tree_view c.items.items))) = ap tree_view is ∙ tree_view-Elem tag c ∙ ap (element (string_bytes tag)) (content_view-is c) in
    let both = and_parts _ (all_items_fit (items_view c.items.items)) (subst ItemsFit seen fit) in
    let few : length (list_of (items_view c.items.items)) ≤ 4294967295 = leb-true _ _ both.0 in
    let long : length (list_of (items_view c.items.items)) ≡ length items = ap length (list_of-trees_of (map tree_view c.items.items)) ∙ length-map c.items.items tree_view ∙ ap length (sym same) in
    (omega (arith, long, few), subst (λ (l : List Tree). IsTrue (all_items_fit (items_view l))) (sym same) both.1)

-- the items of an element nest less deep than it
pub tree_depth-parts : (t : Tree) (tag : String Global) (c : Content) (items : List Tree) → t ≡ Elem tag c → items ≡ c.items.items → tree_depth (tree_view t) ≡ suc (trees_depth (items_view items))
tree_depth-parts t tag c items is same =
    ap (λ u. tree_depth (tree_view u)) is ∙ ap tree_depth (tree_view-Elem tag c) ∙ ap (λ d. suc (content_depth d)) (content_view-is c) ∙ ap (λ l. suc (trees_depth (items_view l))) (sym same)

-- an item among those that are left
pub item_left : (items : List Tree) (i : ℕ) (t : Tree) → i < length items → t ≡ get_or items i t → IsTrue (all_items_fit (items_view (drop i items))) → (tree_depth (tree_view t) ≤ trees_depth (items_view (drop i items))) × ItemsFit (tree_view t)
item_left items i t within is fit =
    let whole : drop i items ≡ t ∷ drop (suc i) items = drop-cons items i t within ∙ ap (λ u. u ∷ drop (suc i) items) (sym is) in
    let both = and_parts _ _ (subst (λ (l : List Tree). IsTrue (all_items_fit (items_view l))) whole fit) in
    (omega (arith, ap (λ l. trees_depth (items_view l)) whole), both.0)
