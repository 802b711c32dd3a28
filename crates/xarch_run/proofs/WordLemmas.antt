-- What the words of a line are read from.
use Rattle.std.proofs.Common.{◌≡◌, ℕ, List, [], ◌∷◌, ◌++◌, Bool, true, false, cond, Option, Some, None, option_map, String, Global, refl, sym, ap, ◌∙◌, append_assoc, append-nil}
use Rattle.std.specs.Prelude.{option_and_then, string_bytes}
use Rattle.std.proofs.lemmas.List.{map-append}
use Rattle.std.specs.Str.{IsUtf8, is_utf8}
use Rattle.std.proofs.lemmas.Str.{IsUtf8-from_is_utf8, is_utf8-from_IsUtf8}
use Rattle.serde_json.specs.Data.{Data}
use Rattle.serde_json.specs.Read.{read}
use Rattle.serde_json.specs.Find.{as_str}
use Rattle.serde_json.specs.View.{view as data_of, items_view}
use Rattle.serde_json.specs.declared.value.Value.{Value}
use Rattle.xarch_words.specs.View.{words_view}
use Rattle.xarch_run.specs.Words.{json_of, texts_of}

pub json_of-Some : (bytes : List ℕ) (d : Data) → IsUtf8 bytes → read bytes ≡ Some d → json_of bytes ≡ Some d
unfolding json_of
json_of-Some bytes d text is = ap (λ b. cond b (read bytes) None) (is_utf8-from_IsUtf8 bytes text) ∙ is

none_at : (bytes : List ℕ) (b : Bool) → is_utf8 bytes ≡ b → (IsUtf8 bytes → read bytes ≡ None) → cond b (read bytes) None ≡ None
none_at bytes true e h = h (IsUtf8-from_is_utf8 bytes e)
none_at bytes false e h = refl

pub json_of-None : (bytes : List ℕ) → (IsUtf8 bytes → read bytes ≡ None) → json_of bytes ≡ None
unfolding json_of
json_of-None bytes h = none_at bytes _ refl h

-- ---- texts one after another

-- the texts, and those behind them
abbrev pub onto : List (List ℕ) → Option (List (List ℕ)) → Option (List (List ℕ))
onto xs o = option_map (λ ws. xs ++ ws) o

pub onto-nil : (o : Option (List (List ℕ))) → onto [] o ≡ o
onto-nil None = refl
onto-nil (Some ws) = refl

onto-push : (xs : List (List ℕ)) (t : List ℕ) (o : Option (List (List ℕ))) → onto (xs ++ t ∷ []) o ≡ onto xs (option_map (λ ws. t ∷ ws) o)
onto-push xs t None = refl
onto-push xs t (Some ws) = ap Some (append_assoc xs (t ∷ []) ws)

-- one more text was moved
pub texts-step : (xs ys : List (String Global)) (t : String Global) (rest next : List Value) (value : Value) → rest ≡ value ∷ next → ys ≡ xs ++ t ∷ [] → Some (string_bytes t) ≡ as_str (data_of value)
    → onto (words_view ys) (texts_of (items_view next)) ≡ onto (words_view xs) (texts_of (items_view rest))
texts-step xs ys t rest next value left grown is =
    let after = texts_of (items_view next) in
    ap (λ (l : List (String Global)). onto (words_view l) after) grown ∙ ap (λ l. onto l after) (map-append string_bytes xs (t ∷ [])) ∙ onto-push (words_view xs) (string_bytes t) after
    ∙ ap (λ (o : Option (List ℕ)). onto (words_view xs) (option_and_then (λ text. option_map (λ texts. text ∷ texts) after) o)) is
    ∙ ap (λ (l : List Value). onto (words_view xs) (texts_of (items_view l))) (sym left)

-- a value is no string
pub texts-stop : (xs : List (List ℕ)) (rest next : List Value) (value : Value) → rest ≡ value ∷ next → None ≡ as_str (data_of value) → onto xs (texts_of (items_view rest)) ≡ None
texts-stop xs rest next value left is =
    ap (λ (l : List Value). onto xs (texts_of (items_view l))) left
    ∙ ap (λ (o : Option (List ℕ)). onto xs (option_and_then (λ text. option_map (λ texts. text ∷ texts) (texts_of (items_view next))) o)) (sym is)

-- no value is left
pub texts-done : (xs : List (List ℕ)) (rest : List Value) → rest ≡ [] → onto xs (texts_of (items_view rest)) ≡ Some xs
texts-done xs rest none = ap (λ (l : List Value). onto xs (texts_of (items_view l))) none ∙ ap Some (append-nil xs)

pub ruleset words = (json_of-Some, json_of-None)
