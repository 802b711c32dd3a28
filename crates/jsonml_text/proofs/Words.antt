-- Scalars in a text, behind the names of attributes.
use Rattle.std.proofs.Common.{◌≡◌, ℕ, ◌+◌, ◌-◌, ◌≤◌, true, false, IsTrue, List, ◌∷◌, ◌++◌, length, take, drop, Some, refl, sym, ap, ap₂, ◌∙◌, subst, arith}
use Rattle.std.proofs.lemmas.List.{take-append-drop, drop-drop}
use Rattle.json.specs.Token as token
use Rattle.json.specs.Json as json
use Rattle.json.specs.Word.{ends_word}
use Rattle.json.specs.Lex.{fresh, after_value, between, lex, punctuate}
use Rattle.json.specs.Lex as lexeme
use Rattle.json.proofs.Grammar.{value_is}
use Rattle.json.proofs.Printed.Numbers.{lex-number}
use Rattle.serde_json.specs.Data as value
use Rattle.serde_json.specs.Find.{of_integer}
use Rattle.serde_json.specs.Written.{outline, number_text}
use Rattle.jsonml_tree.specs.Data.{PlainAttr, PlainScalar, null, boolean, whole, string}
use Rattle.jsonml_tree.specs.WellFormed.{is_in_range}
use Rattle.jsonml_print.specs.Printed.{scalar_text}
use Rattle.jsonml_text.specs.Texts.{IsScalarText}
use Rattle.jsonml_text.specs.Straight.{lexemes, tokens_from, HasString, HasKey, HasScalar, is_word}
use Rattle.jsonml_text.specs.Objects.{ReadsMember}
use Rattle.jsonml_text.proofs.Lexing.{lexed-null, lexed-true, lexed-false, tokens-number, tokens-boolean, tokens-null}
use Rattle.jsonml_text.proofs.ReadBack.{scalar_data, scalar_read, whole_read, whole_text}
use Rattle.jsonml_text.proofs.RoundTrips.{scalar_back}

pub HasScalar-string : (d : List ℕ) (at : ℕ) (s : List ℕ) (next : ℕ) → HasString d at s next → HasScalar d at (string s) next
HasScalar-string d at s next h =
    record {
      parsed = json.string s;
      value = value.string s;
      of = refl;
      spells = λ place. refl;
      reads = λ depth. ap (json.value depth) (h.reads fresh refl) ∙ value_is depth (token.string s ∷ tokens_from after_value d next);
      utf8 = h.utf8;
      later = omega (arith, h.later);
      within = h.within;
    }

-- the value of a word that ends before the rest of the text
reads_word : (d : List ℕ) (at : ℕ) (rest : List ℕ) (x : PlainScalar) (depth : ℕ) → drop at d ≡ scalar_text x ++ rest → IsTrue (is_word x) → IsTrue (is_in_range x) → ends_word rest ≡ true
    → json.value depth (tokens_from fresh d at) ≡ Some (outline (scalar_data x), punctuate after_value (lex between rest))
reads_word d at rest null depth is word fits ended =
    let ts = punctuate after_value (lex between rest) in
    ap (json.value depth) (ap (punctuate fresh) (lexed-null d at rest ended is) ∙ tokens-null (lex between rest)) ∙ value_is depth (token.null ∷ ts)
reads_word d at rest (boolean true) depth is word fits ended =
    let ts = punctuate after_value (lex between rest) in
    ap (json.value depth) (ap (punctuate fresh) (lexed-true d at rest ended is) ∙ tokens-boolean true (lex between rest)) ∙ value_is depth (token.boolean true ∷ ts)
reads_word d at rest (boolean false) depth is word fits ended =
    let ts = punctuate after_value (lex between rest) in
    ap (json.value depth) (ap (punctuate fresh) (lexed-false d at rest ended is) ∙ tokens-boolean false (lex between rest)) ∙ value_is depth (token.boolean false ∷ ts)
reads_word d at rest (whole n) depth is word fits ended =
    let s = number_text (of_integer n) in
    let ts = punctuate after_value (lex between rest) in
    let lexed : lexemes d at ≡ lexeme.token (token.number s) ∷ lex between rest = ap (lex between) (is ∙ ap (λ l. l ++ rest) (whole_text n)) ∙ lex-number s rest (whole_read n fits).1 ended in
    ap (json.value depth) (ap (punctuate fresh) lexed ∙ tokens-number s (lex between rest)) ∙ value_is depth (token.number s ∷ ts)
reads_word d at rest (string s) depth is word fits ended = absurd (cc)

word_text : (x : PlainScalar) → IsTrue (is_word x) → IsScalarText x
word_text null word = tt
word_text (boolean b) word = tt
word_text (whole n) word = tt
word_text (string s) word = absurd (cc)

pub HasScalar-word : (d : List ℕ) (at end next : ℕ) (x : PlainScalar) → at ≤ end → take (end - at) (drop at d) ≡ scalar_text x → IsTrue (is_word x) → IsTrue (is_in_range x) → IsTrue (ends_word (drop end d)) → lexemes d next ≡ lexemes d end → end ≤ next
    → next ≤ length d → HasScalar d at x next
HasScalar-word d at end next x le is word fits ended same later within =
    let behind : at + (end - at) ≡ end = omega arith in
    let whole : drop at d ≡ scalar_text x ++ drop end d =
    sym (take-append-drop (end - at) (drop at d)) ∙ ap₂ (λ a b. a ++ b) is (drop-drop (end - at) at d ∙ ap (λ n. drop n d) behind) in
    record {
      parsed = outline (scalar_data x);
      value = scalar_data x;
      of = scalar_read x fits;
      spells = λ place. scalar_back place x;
      reads = λ depth. reads_word d at (drop end d) x depth whole word fits ended ∙ ap (λ ls. Some (outline (scalar_data x), punctuate after_value ls)) (sym same);
      utf8 = word_text x word;
      later = omega arith;
      within = within;
    }

-- a name and its value are an attribute
pub ReadsMember-parts : (d : List ℕ) (at : ℕ) (k : List ℕ) (begun : ℕ) (x : PlainScalar) (next : ℕ) (a : PlainAttr) → a ≡ record { name = k; value = x } → HasKey d at k begun → HasScalar d begun x next → IsTrue (is_in_range x) → ReadsMember d at a next
ReadsMember-parts d at k begun x next a is key scalar fits =
    subst (λ (y : PlainAttr). ReadsMember d at y next) (sym is) (record { member = record { begun = begun; key = key; scalar = scalar }; in_range = fits })
