-- What is left of a row of trees, one item on and at the end.
use Rattle.std.proofs.Common.{◌≡◌, ℕ, ◌+◌, ◌<◌, ◌≤◌, List, [], ◌∷◌, map, drop, get_or, length, sym, ap, ◌∙◌, String, Global, string_bytes, ◌&&◌, nat_le, IsTrue, arith}
use borrow.Author.Tests.{leb-true}
use Rattle.std.proofs.lemmas.List.{drop_more, drop_all, length-map, get_or-map}
use Rattle.jsonml_tree.specs.Data.{PlainTree, no_trees, tree, trees_of, list_of}
use Rattle.jsonml_tree.specs.Fits.{content_items_fit, all_items_fit}
use Rattle.jsonml_tree.specs.LentView.{lent_tree_view, lent_row_view, lent_items_view}
use Rattle.jsonml_tree.specs.declared.lent.LentRow.{LentRow}
use Rattle.jsonml_tree.specs.declared.lent.LentTree.{LentTree}
use Rattle.keyed_tree.proofs.Kids.{both}
use Rattle.jsonml_tree.proofs.LentTrees.{lent_row_view-is}
use Rattle.jsonml_tree.proofs.Trees.{list_of-trees_of}

pub map-more : {X Y : Type 0} (f : X → Y) (xs : List X) (i : ℕ) (x : X) → i < length xs → x ≡ get_or xs i x → map f (drop i xs) ≡ f x ∷ map f (drop (i + 1) xs)
map-more f xs i x h e = ap (map f) (drop_more xs i x h) ∙ ap (λ y. f y ∷ map f (drop (i + 1) xs)) (sym e)

pub map-end : {X Y : Type 0} (f : X → Y) (xs : List X) (i : ℕ) → length xs ≤ i → map f (drop i xs) ≡ []
map-end f xs i h = ap (map f) (drop_all i xs h)

-- the same of trees that are seen through some view, and of trees that are lent
pub row-more : {X : Type 0} (view : X → PlainTree) (items : List X) (i : ℕ) (x : X) → i < length items → x ≡ get_or items i x → trees_of (map view (drop i items)) ≡ tree (view x) (trees_of (map view (drop (i + 1) items)))
row-more view items i x h e = ap trees_of (map-more view items i x h e)

pub row-end : {X : Type 0} (view : X → PlainTree) (items : List X) (i : ℕ) → length items ≤ i → trees_of (map view (drop i items)) ≡ no_trees
row-end view items i h = ap trees_of (map-end view items i h)

pub items_view-more : (items : List LentTree) (i : ℕ) (x : LentTree) → i < length items → x ≡ get_or items i x → lent_items_view (drop i items) ≡ tree (lent_tree_view x) (lent_items_view (drop (i + 1) items))
items_view-more = row-more lent_tree_view

pub items_view-end : (items : List LentTree) (i : ℕ) → length items ≤ i → lent_items_view (drop i items) ≡ no_trees
items_view-end = row-end lent_tree_view

pub list_of-items : (items : List LentTree) → list_of (lent_items_view items) ≡ map lent_tree_view items
list_of-items items = list_of-trees_of (map lent_tree_view items)

-- a name read out of a list of names
pub tag-at : (tags : List (String Global)) (level : ℕ) (s : String Global) → level < length tags → s ≡ get_or tags level s → get_or (map string_bytes tags) level [] ≡ string_bytes s
tag-at tags level s h e = get_or-map string_bytes tags level s [] h ∙ ap string_bytes (sym e)

-- the positions of the items fit, in a row and in its items
items-fit : (row : LentRow) → IsTrue (content_items_fit (lent_row_view row)) → (length row.items.items ≤ 4294967295) × IsTrue (all_items_fit (lent_items_view row.items.items))
items-fit row h =
    let items = row.items.items in
    let g : IsTrue (nat_le (length (list_of (lent_items_view items))) 4294967295 && all_items_fit (lent_items_view items)) = rw lent_row_view-is at h in
    let two = both (nat_le (length (list_of (lent_items_view items))) 4294967295) (all_items_fit (lent_items_view items)) g in
    let few : length (list_of (lent_items_view items)) ≤ 4294967295 = leb-true _ _ two.0 in
    let same : length (list_of (lent_items_view items)) ≡ length items = ap length (list_of-items items) ∙ length-map items lent_tree_view in
    (omega arith, two.1)

pub items-few : (row : LentRow) → IsTrue (content_items_fit (lent_row_view row)) → length row.items.items ≤ 4294967295
items-few row h = (items-fit row h).0

pub all-items-fit : (row : LentRow) → IsTrue (content_items_fit (lent_row_view row)) → IsTrue (all_items_fit (lent_items_view row.items.items))
all-items-fit row h = (items-fit row h).1

pub ruleset fits = (items-few, all-items-fit)
