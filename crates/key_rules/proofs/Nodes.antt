-- Nodes found one after the other, of which only none, one and several are told apart.
use Rattle.std.proofs.Common.{◌≡◌, ℕ, ◌+◌, ◌<◌, ◌≤◌, true, false, cond, List, [], ◌∷◌, ◌++◌, map, drop, get_or, length, Option, Some, None, refl, ap, ◌∙◌}
use Rattle.std.proofs.lemmas.List.{map-append, append-nil, drop_more, drop_all}
use Rattle.std.proofs.lemmas.Grind.{flat_map-append}
use Rattle.std.proofs.lemmas.List.Elements.{filter_map-append}
use Rattle.std.specs.Option.{option_map}
use Rattle.std.specs.List.{flat_map}
use Rattle.std.specs.Str.{bytes_eq}
use Rattle.jsonml_tree.specs.Data.{PlainTree, text, element, PlainContent, PlainTrees, no_trees, tree}
use Rattle.keyed_tree.specs.Data.{PlainKey, scalar, inside}
use Rattle.jsonml_tree.specs.LentView.{only_text, lent_row_view, lent_items_view}
use Rattle.jsonml_tree.specs.declared.lent.LentRow.{LentRow}
use Rattle.jsonml_tree.proofs.LentTrees.{lent_row_view-is}
use Rattle.key_spec.specs.Data.{PlainPath}
use Rattle.key_rules.specs.Reach.{attrs_in, items_in, children, found, scalar_named, values_at, reach}
use Rattle.key_rules.specs.Few.{Few, no_key, one_key, several_keys, few, join, values_from, values_among}

pub few-append : (xs ys : List PlainKey) → few (xs ++ ys) ≡ join (few xs) (few ys)
few-append [] ys = refl
few-append (x ∷ []) [] = refl
few-append (x ∷ []) (y ∷ []) = refl
few-append (x ∷ []) (y ∷ z ∷ zs) = refl
few-append (x ∷ w ∷ ws) ys = refl

pub join-none : (f : Few) → join f no_key ≡ f
join-none no_key = refl
join-none (one_key k) = refl
join-none several_keys = refl

pub join_assoc : (f g h : Few) → join (join f g) h ≡ join f (join g h)
join_assoc no_key g h = refl
join_assoc (one_key k) no_key h = refl
join_assoc (one_key k) (one_key j) no_key = refl
join_assoc (one_key k) (one_key j) (one_key i) = refl
join_assoc (one_key k) (one_key j) several_keys = refl
join_assoc (one_key k) several_keys h = refl
join_assoc several_keys g h = refl

values_at-append : (name : Option (List ℕ)) (cs ds : List PlainContent) → values_at name (cs ++ ds) ≡ values_at name cs ++ values_at name ds
values_at-append None cs ds = map-append inside cs ds
values_at-append (Some name) cs ds = filter_map-append (λ c. option_map scalar (scalar_named name (attrs_in c))) cs ds

-- the first item's, and then the others'
children-split : (t : List ℕ) (x : PlainTree) (xs : PlainTrees) → children t (tree x xs) ≡ children t (tree x no_trees) ++ children t xs
children-split t (text s) xs = refl
children-split t (element u c) xs = elim (bytes_eq u t) as (λ b. cond b (c ∷ children t xs) (children t xs) ≡ cond b (c ∷ []) [] ++ children t xs) [ true ↦ refl | false ↦ refl ]

pub among-split : (p : PlainPath) (level : ℕ) (x : PlainTree) (xs : PlainTrees)
    → few (values_among p level (tree x xs)) ≡ join (few (values_among p level (tree x no_trees))) (few (values_among p level xs))
unfolding values_among
among-split p level x xs =
    let t = get_or p.tags level [] in
    let below = found (drop (level + 1) p.tags) in
    let split = ap (λ cs. values_at p.attr (flat_map below cs)) (children-split t x xs) in
    let parts = flat_map-append below (children t (tree x no_trees)) (children t xs) in
    let values = values_at-append p.attr (flat_map below (children t (tree x no_trees))) (flat_map below (children t xs)) in
    ap few (split ∙ ap (values_at p.attr) parts ∙ values) ∙ few-append (values_among p level (tree x no_trees)) (values_among p level xs)

nothing : (name : Option (List ℕ)) → few (values_at name []) ≡ no_key
nothing None = refl
nothing (Some n) = refl

-- an item of the tag gives what is found at it
pub among-child : (p : PlainPath) (level : ℕ) (u : List ℕ) (c : PlainContent) → bytes_eq u (get_or p.tags level []) ≡ true
    → values_among p level (tree (element u c) no_trees) ≡ values_from p (level + 1) c
unfolding values_among values_from
among-child p level u c e = rw e (ap (values_at p.attr) (append-nil (found (drop (level + 1) p.tags) c)))

-- an item of another tag gives nothing
pub among-other : (p : PlainPath) (level : ℕ) (u : List ℕ) (c : PlainContent) → bytes_eq u (get_or p.tags level []) ≡ false
    → few (values_among p level (tree (element u c) no_trees)) ≡ no_key
unfolding values_among
among-other p level u c e = rw e (nothing p.attr)

pub among-text : (p : PlainPath) (level : ℕ) (s : List ℕ) → few (values_among p level (tree (text s) no_trees)) ≡ no_key
unfolding values_among
among-text p level s = nothing p.attr

pub among-nil : (p : PlainPath) (level : ℕ) → few (values_among p level no_trees) ≡ no_key
unfolding values_among
among-nil p level = nothing p.attr

items_in-row : (row : LentRow) → items_in (lent_row_view row) ≡ lent_items_view row.items.items
items_in-row row = ap items_in (lent_row_view-is row)

-- with tags to go, by the items; and without
from-inside : (p : PlainPath) (level : ℕ) (c : PlainContent) → level < length p.tags → values_from p level c ≡ values_among p level (items_in c)
unfolding values_from values_among
from-inside p level c h =
    let more : drop level p.tags ≡ get_or p.tags level [] ∷ drop (level + 1) p.tags = drop_more p.tags level [] h in
    rw more refl

pub from-row : (p : PlainPath) (level : ℕ) (row : LentRow) → level < length p.tags → values_from p level (lent_row_view row) ≡ values_among p level (lent_items_view row.items.items)
from-row p level row h = from-inside p level (lent_row_view row) h ∙ ap (values_among p level) (items_in-row row)

pub from-text : (p : PlainPath) (level : ℕ) (s : List ℕ) → level < length p.tags → few (values_from p level (only_text s)) ≡ no_key
from-text p level s h = ap few (from-inside p level (only_text s) h) ∙ among-text p level s

pub from-end : (p : PlainPath) (level : ℕ) (c : PlainContent) → length p.tags ≤ level → values_from p level c ≡ values_at p.attr (c ∷ [])
unfolding values_from
from-end p level c h = let none : drop level p.tags ≡ [] = drop_all level p.tags h in rw none refl

pub from-start : (p : PlainPath) (c : PlainContent) → values_from p 0 c ≡ reach c p
unfolding values_from
from-start p c = refl

pub ruleset nodes = (join-none, join_assoc, among-split, among-child, among-other, among-text, among-nil, from-row, from-text, from-end, from-start)
