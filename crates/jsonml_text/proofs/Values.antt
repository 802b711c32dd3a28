-- Values beside what they spell.
use Rattle.std.proofs.Common.{◌≡◌, ℕ, List, String, Vec, Global, string_bytes, refl, sym, ap, ◌∙◌, rules}
use Rattle.serde_json.specs.Data.{Data, null, boolean, number, string, array, object}
use Rattle.serde_json.specs.View.{view as data_of, items_view, number_view, members_view}
use Rattle.serde_json.specs.declared.value.Value as value
use Rattle.serde_json.specs.declared.value.Value.{Value, out-Value, roll-Value, roll-out-Value, the_lemmas}
use Rattle.serde_json.specs.declared.value.Value.TheOpen.{Value-F}
use Rattle.serde_json.specs.declared.value.Value.TheVariants.{rolls-Null, rolls-Bool, rolls-Number, rolls-String, rolls-Array, rolls-Object}
use Rattle.jsonml_tree.specs.Data.{PlainTree}
use Rattle.jsonml_text.specs.Spelled.{fault_at, item_at}

pub view-String : (s : String Global) → data_of (value.String s) ≡ string (string_bytes s)
view-String s = search (rules, the_lemmas)

pub view-Array : (v : Vec Value Global) → data_of (value.Array v) ≡ array (items_view v.items)
view-Array v = search (rules, the_lemmas)

rolled : (v w : Value) (o : Value-F Value) → out-Value v ≡ o → roll-Value o ≡ w → v ≡ w
rolled v w o e r = sym (roll-out-Value v) ∙ ap roll-Value e ∙ r

other : (place : List ℕ) (v w : Value) (d : Data) → v ≡ w → data_of w ≡ d → item_at place d ≡ fault_at {A = PlainTree} place 3 → item_at place (data_of v) ≡ fault_at {A = PlainTree} place 3
other place v w d e seen f = ap (λ x. item_at place (data_of x)) e ∙ ap (item_at place) seen ∙ f

other_at : (place : List ℕ) (v : Value) (o : Value-F Value) → out-Value v ≡ o → ((s : String Global) → v ≡ value.String s → ⊥) → ((a : Vec Value Global) → v ≡ value.Array a → ⊥) → item_at place (data_of v) ≡ fault_at {A = PlainTree} place 3
other_at place v Value-F.Null e s a = other place v value.Null null (rolled v _ _ e rolls-Null) (search (rules, the_lemmas)) refl
other_at place v (Value-F.Bool b) e s a = other place v (value.Bool b) (boolean b) (rolled v _ _ e (rolls-Bool b)) (search (rules, the_lemmas)) refl
other_at place v (Value-F.Number n) e s a = other place v (value.Number n) (number (number_view n)) (rolled v _ _ e (rolls-Number n)) (search (rules, the_lemmas)) refl
other_at place v (Value-F.String t) e s a = absurd (s t (rolled v _ _ e (rolls-String t)))
other_at place v (Value-F.Array t) e s a = absurd (a t (rolled v _ _ e (rolls-Array t)))
other_at place v (Value-F.Object m) e s a = other place v (value.Object m) (object (members_view m.entries)) (rolled v _ _ e (rolls-Object m)) (search (rules, the_lemmas)) refl

-- a value that is neither a string nor an array spells no item
pub no_item : (place : List ℕ) (v : Value) → ((s : String Global) → v ≡ value.String s → ⊥) → ((a : Vec Value Global) → v ≡ value.Array a → ⊥) → item_at place (data_of v) ≡ fault_at {A = PlainTree} place 3
no_item place v s a = other_at place v (out-Value v) refl s a
