-- The items of an element, one after the other.
use Rattle.std.proofs.Common.{◌≡◌, ℕ, suc, ◌+◌, ◌<◌, List, [], ◌∷◌, ◌++◌, length, map, drop, get_or, drop-cons, add-one, Result, Ok, Err, refl, sym, ap, ◌∙◌, subst, length-append}
use Rattle.std.specs.Result.{IsErrAnd}
use Rattle.std.proofs.lemmas.List.{map-append}
use Rattle.serde_json.specs.Data.{Data, Items, item}
use Rattle.serde_json.specs.View.{view as data_of, items_view}
use Rattle.serde_json.specs.declared.value.Value.{Value}
use Rattle.jsonml_tree.specs.Data.{PlainTree, PlainTrees, no_trees, tree, trees_of}
use Rattle.jsonml_tree.specs.View.{tree_view}
use Rattle.jsonml_tree.specs.declared.tree.Tree.{Tree}
use Rattle.jsonml_text.specs.Spelled.{ShapeFault, and_then, mapped, item_at, items_at}
use Rattle.jsonml_text.specs.Stops.{Reads}
use Rattle.jsonml_text.specs.declared.stop.Stop.{Stop}
use Rattle.jsonml_text.specs.declared.stop.Stop.TheVariants.{Shape, Memory}

-- ---- a stop handed on

-- a part's fault is the whole's
pub Reads-handed : {A B T U : Type 0} (v : T → A) (w : U → B) (part : Result A ShapeFault) (whole : Result B ShapeFault) (before begun after : List ℕ) (stop : Stop) (r : Result U Stop)
    → ((fault : ShapeFault) → part ≡ Err fault → whole ≡ Err fault) → Reads v part begun after (Err stop) → IsErrAnd r (λ s. s ≡ stop) → Reads w whole before after r
Reads-handed v w part whole before begun after stop (Ok u) along p e = absurd e
Reads-handed {A} {B} {T} {U} v w part whole before begun after stop (Err s) along p e =
    let there : (s : Stop) → Reads v part begun after (Err s) → Reads w whole before after (Err s) = λ s. elim s as (λ s. Reads v part begun after (Err s) → Reads w whole before after (Err s)) [ Shape why ↦ λ q. along _ q | Memory ↦ λ q. tt ] in
    subst (λ (s : Stop). Reads w whole before after (Err s)) (sym e) (there stop p)

-- ---- these trees and those of the rest

-- these trees, and then the others
abbrev pub onto : List PlainTree → Result PlainTrees ShapeFault → Result PlainTrees ShapeFault
onto [] rest = rest
onto (t ∷ ts) rest = mapped (tree t) (onto ts rest)

pub onto-append : (ts : List PlainTree) (t : PlainTree) (r : Result PlainTrees ShapeFault) → onto (ts ++ t ∷ []) r ≡ onto ts (mapped (tree t) r)
onto-append [] t r = refl
onto-append (u ∷ ts) t r = ap (mapped (tree u)) (onto-append ts t r)

pub onto-Err : (ts : List PlainTree) (fault : ShapeFault) → onto ts (Err fault) ≡ Err fault
onto-Err [] fault = refl
onto-Err (t ∷ ts) fault = ap (mapped (tree t)) (onto-Err ts fault)

pub onto-Ok : (ts : List PlainTree) → onto ts (Ok no_trees) ≡ Ok (trees_of ts)
onto-Ok [] = refl
onto-Ok (t ∷ ts) = ap (mapped (tree t)) (onto-Ok ts)

-- the first fault
pub items_fault : (place : List ℕ) (ts : List PlainTree) (n : ℕ) (d : Data) (ds : Items) (fault : ShapeFault) → item_at (place ++ n ∷ []) d ≡ Err fault → onto ts (items_at place n (item d ds)) ≡ Err fault
items_fault place ts n d ds fault e = ap (λ r. onto ts (and_then r (λ t. mapped (tree t) (items_at place (n + 1) ds)))) e ∙ onto-Err ts fault

-- one more tree
pub items_more : (place : List ℕ) (ts : List PlainTree) (n : ℕ) (d : Data) (ds : Items) (t : PlainTree) → item_at (place ++ n ∷ []) d ≡ Ok t
    → onto (ts ++ t ∷ []) (items_at place (n + 1) ds) ≡ onto ts (items_at place n (item d ds))
items_more place ts n d ds t e = onto-append ts t _ ∙ ap (onto ts) (sym (ap (λ r. and_then r (λ t. mapped (tree t) (items_at place (n + 1) ds))) e))

-- what is left of the values
pub values_left : (vs : List Value) (i : ℕ) (v : Value) → i < length vs → v ≡ get_or vs i v → drop i vs ≡ v ∷ drop (i + 1) vs
values_left vs i v within is = drop-cons vs i v within ∙ ap (λ u. u ∷ drop (suc i) vs) (sym is) ∙ ap (λ n. v ∷ drop n vs) (sym (add-one i))

-- the same, of the values that are left
pub items_stop : (place : List ℕ) (us : List Tree) (count : ℕ) (rest next : List Value) (v : Value) (fault : ShapeFault) → rest ≡ v ∷ next → count ≡ length us → item_at (place ++ (count + 1) ∷ []) (data_of v) ≡ Err fault
    → onto (map tree_view us) (items_at place (length us + 1) (items_view rest)) ≡ Err fault
items_stop place us count rest next v fault is long e =
    ap (λ l. onto (map tree_view us) (items_at place (length us + 1) (items_view l))) is
    ∙ items_fault place (map tree_view us) (length us + 1) (data_of v) (items_view next) fault (ap (λ k. item_at (place ++ (k + 1) ∷ []) (data_of v)) (sym long) ∙ e)

pub items_step : (place : List ℕ) (us vs : List Tree) (u : Tree) (count : ℕ) (rest next : List Value) (v : Value) → rest ≡ v ∷ next → vs ≡ us ++ u ∷ [] → count ≡ length us
    → item_at (place ++ (count + 1) ∷ []) (data_of v) ≡ Ok (tree_view u)
    → onto (map tree_view vs) (items_at place (length vs + 1) (items_view next)) ≡ onto (map tree_view us) (items_at place (length us + 1) (items_view rest))
items_step place us vs u count rest next v is pushed long e =
    let longer : length vs ≡ length us + 1 = ap length pushed ∙ length-append us (u ∷ []) in
    let seen : map tree_view vs ≡ map tree_view us ++ tree_view u ∷ [] = ap (map tree_view) pushed ∙ map-append tree_view us (u ∷ []) in
    ap (λ l. onto l (items_at place (length vs + 1) (items_view next))) seen
    ∙ ap (λ k. onto (map tree_view us ++ tree_view u ∷ []) (items_at place (k + 1) (items_view next))) longer
    ∙ items_more place (map tree_view us) (length us + 1) (data_of v) (items_view next) (tree_view u) (ap (λ k. item_at (place ++ (k + 1) ∷ []) (data_of v)) (sym long) ∙ e)
    ∙ ap (λ l. onto (map tree_view us) (items_at place (length us + 1) (items_view l))) (sym is)

pub items_done : (place : List ℕ) (us : List Tree) (rest : List Value) → rest ≡ [] → onto (map tree_view us) (items_at place (length us + 1) (items_view rest)) ≡ Ok (trees_of (map tree_view us))
items_done place us rest none = ap (λ l. onto (map tree_view us) (items_at place (length us + 1) (items_view l))) none ∙ onto-Ok (map tree_view us)
