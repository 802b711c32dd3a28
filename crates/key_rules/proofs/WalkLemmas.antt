-- The walk over the items of an element, one after the other.
use Rattle.std.proofs.Common.{◌≡◌, ℕ, ◌+◌, Bool, true, false, true≢false, List, drop, Option, Some, None, is_some, IfSome, refl, subst, sym, ap, ap₂, ◌∙◌}
use Rattle.std.specs.Option.{option_map, option_or}
use Rattle.jsonml_tree.specs.Data.{PlainContent, PlainTree, content, element, text, tree}
use Rattle.jsonml_tree.specs.LentView.{lent_tree_view, lent_items_view}
use Rattle.jsonml_tree.specs.declared.lent.LentTree.{LentTree}
use Rattle.key_spec.specs.Data.{PlainRule}
use Rattle.key_spec.specs.ContextView.{context_path, context_rules}
use Rattle.key_spec.specs.Rules.{below, is_frontier}
use Rattle.key_spec.specs.declared.context.Context.{Context}
use Rattle.key_rules.specs.Faults.{PlainKeyFault, content_fault, item_place, tree_fault, row_fault}
use Rattle.key_rules.specs.Spots.{IsBelow, IsContextIn, inside_fault}
use Rattle.key_rules.specs.View.{fault_view}
use Rattle.key_rules.specs.declared.fault.KeyFault.{KeyFault}

-- what was found in an item, or not
pub none-found : (found : Option KeyFault) (some : Bool) (o : Option PlainKeyFault) → some ≡ is_some found → some ≡ false → option_map fault_view found ≡ o → o ≡ None
none-found None some o is test e = sym e
none-found (Some f) some o is test e = absurd (true≢false (sym is ∙ test))

pub one-found : (found : Option KeyFault) (some : Bool) (o rest : Option PlainKeyFault) → some ≡ is_some found → some ≡ true → option_map fault_view found ≡ o
    → option_map fault_view found ≡ option_or o rest
one-found None some o rest is test e = absurd (true≢false (sym test ∙ is))
one-found (Some f) some o rest is test e = ap (λ o. option_or o rest) e

-- the item first, and then those behind it
pub row-of-item : (rules : List PlainRule) (path : List (List ℕ)) (start here : List ℕ) (items : List LentTree) (i : ℕ) (x : LentTree) → lent_items_view (drop i items) ≡ tree (lent_tree_view x) (lent_items_view (drop (i + 1) items)) → here ≡ start
    → row_fault rules path (item_place start) (i + 1) (lent_items_view (drop i items))
    ≡ option_or (tree_fault rules path (item_place here (i + 1)) (lent_tree_view x)) (row_fault rules path (item_place start) (i + 1 + 1) (lent_items_view (drop (i + 1) items)))
row-of-item rules path start here items i x more same =
    let rest = row_fault rules path (item_place start) (i + 1 + 1) (lent_items_view (drop (i + 1) items)) in
    ap (row_fault rules path (item_place start) (i + 1)) more ∙ ap (λ q. option_or (tree_fault rules path (item_place q (i + 1)) (lent_tree_view x)) rest) (sym same)

-- an element's fault is the one inside it, where its own place among the rules is known
pub inside-is : (c d : Context) (x : PlainTree) (place : List ℕ) → IsContextIn c d x → inside_fault (context_rules d) (context_path d) place x ≡ tree_fault (context_rules c) (context_path c) place x
inside-is c d (text s) place h = absurd h
inside-is c d (element t inside) place h = ap₂ (λ r p. content_fault r p place inside) h.0 h.1

-- an item that is an element of this tag, where its place among the rules is known
pub in-element : (c : Context) (x : PlainTree) (t : List ℕ) (inside : PlainContent) (found : Option Context) → x ≡ element t inside → IfSome found (λ d. IsBelow c t d) → IfSome found (λ d. IsContextIn c d x)
in-element c x t inside found e h = subst (λ (y : PlainTree). IfSome found (λ d. IsContextIn c d y)) (sym e) h

-- without a rule there is none
pub no-rule : (c : Context) (t : List ℕ) (inside : PlainContent) (place : List ℕ) → is_frontier (context_rules c) (below (context_path c) t) ≡ true → tree_fault (context_rules c) (context_path c) place (element t inside) ≡ None
no-rule c t (content xs ts) place e = rw e refl
