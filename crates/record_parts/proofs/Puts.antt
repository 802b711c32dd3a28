-- Steps of loops that append each value of a list, and of calls that append.
use Rattle.std.proofs.Common.{◌≡◌, ℕ, suc, ◌+◌, ◌<◌, List, ◌∷◌, ◌++◌, length, map, drop, get_or, Result, Ok, Err, OnOk, OnErr, sym, ap, subst, ◌∙◌, append_assoc, drop-cons, arith}
use Rattle.std.specs.List.{flat_map, AllByRecursion}
use Rattle.jsonml_tree.specs.Data.{PlainTree, trees_of}
use Rattle.jsonml_tree.specs.View.{tree_view, items_view}
use Rattle.jsonml_tree.specs.declared.tree.Tree.{Tree}
use Rattle.xa_fields.specs.Laws.{Grows}
use Rattle.xa_fields.proofs.Combinators.{grows_on, grows_to, grows_same}
use Rattle.record_parts.specs.Shapes.{FitsItem, FitItems}
use Rattle.record_parts.specs.Spelling.{item_bytes, items_bytes}

-- the value that is next, in front of those behind it
pub next_first : {X A : Type 0} (view : X → A) (xs : List X) (i : ℕ) (x : X) → i < length xs → x ≡ get_or xs i x → map view (drop i xs) ≡ view x ∷ map view (drop (i + 1) xs)
next_first {X} view xs i x lt is =
    let next : suc i ≡ i + 1 = omega arith in
    ap (map view) (drop-cons xs i x lt ∙ ap (λ (k : ℕ). get_or xs i x ∷ drop k xs) next) ∙ ap (λ (y : X). view y ∷ map view (drop (i + 1) xs)) (sym is)

pub next_is : {X A : Type 0} (P : A → Type 0) (view : X → A) (xs : List X) (i : ℕ) (x : X) → i < length xs → x ≡ get_or xs i x → AllByRecursion P (map view (drop i xs)) → P (view x) × AllByRecursion P (map view (drop (i + 1) xs))
next_is {X} {A} P view xs i x lt is h = subst (λ (ys : List A). AllByRecursion P ys) (next_first view xs i x lt is) h

pub next_put : {X A : Type 0} (spell : A → List ℕ) (view : X → A) (xs : List X) (i : ℕ) (x : X) (total old new : List ℕ) → i < length xs → x ≡ get_or xs i x → new ≡ old ++ spell (view x)
    → old ++ flat_map spell (map view (drop i xs)) ≡ total → new ++ flat_map spell (map view (drop (i + 1) xs)) ≡ total
next_put {X} {A} spell view xs i x total old new lt is e h =
    let rest = map view (drop (i + 1) xs) in
    ap (λ (z : List ℕ). z ++ flat_map spell rest) e ∙ append_assoc old (spell (view x)) (flat_map spell rest) ∙ ap (λ (ys : List A). old ++ flat_map spell ys) (sym (next_first view xs i x lt is)) ∙ h

-- ---- items

pub item_fits : (xs : List Tree) (i : ℕ) (x : Tree) → i < length xs → x ≡ get_or xs i x → FitItems (items_view (drop i xs)) → FitsItem (tree_view x) × FitItems (items_view (drop (i + 1) xs))
item_fits xs i x lt is h = subst (λ (ys : List PlainTree). FitItems (trees_of ys)) (next_first tree_view xs i x lt is) h

pub item_put : (xs : List Tree) (i : ℕ) (x : Tree) (total old new : List ℕ) → i < length xs → x ≡ get_or xs i x → new ≡ old ++ item_bytes (tree_view x)
    → old ++ items_bytes (items_view (drop i xs)) ≡ total → new ++ items_bytes (items_view (drop (i + 1) xs)) ≡ total
item_put xs i x total old new lt is e h =
    let rest = items_bytes (items_view (drop (i + 1) xs)) in
    ap (λ (z : List ℕ). z ++ rest) e ∙ append_assoc old (item_bytes (tree_view x)) rest ∙ ap (λ (ys : List PlainTree). old ++ items_bytes (trees_of ys)) (sym (next_first tree_view xs i x lt is)) ∙ h

-- ---- a last call that appends or is refused

pub grows_with : {T E : Type 0} (r : Result T E) (old mid new more : List ℕ) → Grows old mid → OnOk r (new ≡ mid ++ more) → OnErr r (new ≡ mid) → Grows old new
grows_with (Ok t) old mid new more g ok err = grows_on old mid new g (grows_to mid new more ok)
grows_with (Err e) old mid new more g ok err = grows_on old mid new g (grows_same mid new err)
