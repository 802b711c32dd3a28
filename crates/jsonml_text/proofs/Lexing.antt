-- One lexeme after another, and the tokens that they give.
use Rattle.std.proofs.Common.{◌≡◌, ℕ, ◌+◌, ◌<◌, ◌⊎◌, inl, inr, Bool, true, false, cond, ◌==◌, List, ◌∷◌, ◌++◌, length, take, drop, get_or, refl, sym, ap, ap₂, ◌∙◌, subst, arith}
use Rattle.std.proofs.lemmas.List.{drop_more, take-append-drop, drop-drop}
use Rattle.std.proofs.lemmas.Bool.{eqb-true, or_cases}
use Rattle.json.specs.Token.{begin_object, end_object, begin_array, end_array, key, string, number, boolean, null, bad}
use Rattle.json.specs.Word.{is_operator, is_space, ends_word, word}
use Rattle.json.specs.Lex.{Lexeme, token, comma, colon, operator, space, class, operator_lexeme, string_token, between, lex_byte, lex}
use Rattle.json.specs.Lex.{Place, fresh, after_value, after_comma, after_key, begins_colon, may_begin, may_close, punctuate}
use Rattle.json.specs.Print.{escape}
use Rattle.json.proofs.Printed.Strings.{content-escape, lex-escape}
use Rattle.json.proofs.Printed.Numbers.{in_word-ended}
use Rattle.jsonml_text.specs.Straight.{lexemes, HasLexeme}

or_last : (P : ℕ → Type 0) (x c : ℕ) (b : Bool) → P c → (b ≡ true → P x) → (b ≡ true) ⊎ ((x == c) ≡ true) → P x
or_last P x c b p f (inl e) = f e
or_last P x c b p f (inr e) = subst P (sym (eqb-true x c e)) p

-- ---- blanks

space_class : (x : ℕ) → is_space x ≡ true → class x ≡ space
space_class x h =
    let P : ℕ → Type 0 = λ n. class n ≡ space in
    or_last P x 13 _ refl (λ a. or_last P x 10 _ refl (λ b. or_last P x 9 _ refl (λ d. subst P (sym (eqb-true x 32 d)) refl) (or_cases _ _ b)) (or_cases _ _ a)) (or_cases _ _ h)

pub blank_passed : (d : List ℕ) (i : ℕ) → i < length d → is_space (get_or d i 0) ≡ true → lexemes d i ≡ lexemes d (i + 1)
unfolding lex
blank_passed d i h blank =
    let x = get_or d i 0 in
    let rest = drop (i + 1) d in
    ap (lex between) (drop_more d i 0 h) ∙ ap (λ c. lex_byte between c x rest (λ m. lex m rest)) (space_class x blank)

-- ---- signs

sign_class : (x : ℕ) → is_operator x ≡ true → class x ≡ operator
sign_class x h =
    let P : ℕ → Type 0 = λ n. class n ≡ operator in
    or_last P x 44 _ refl (λ a. or_last P x 58 _ refl (λ b. or_last P x 93 _ refl (λ c. or_last P x 91 _ refl (λ e. or_last P x 125 _ refl (λ f. subst P (sym (eqb-true x 123 f)) refl)
    (or_cases _ _ e)) (or_cases _ _ c)) (or_cases _ _ b)) (or_cases _ _ a)) (or_cases _ _ h)

pub HasLexeme-sign : (d : List ℕ) (i x : ℕ) → i < length d → get_or d i 0 ≡ x → is_operator x ≡ true → HasLexeme d i (operator_lexeme x) (i + 1)
unfolding lex
HasLexeme-sign d i x h is sign =
    let rest = drop (i + 1) d in
    record {
      lexed = ap (lex between) (drop_more d i 0 h ∙ ap (λ n. n ∷ rest) is) ∙ ap (λ c. lex_byte between c x rest (λ m. lex m rest)) (sign_class x sign);
      later = omega arith;
      within = omega arith;
    }

-- ---- strings

-- bytes that need no escape stand for themselves
pub HasLexeme-plain : (d : List ℕ) (i n : ℕ) → i + 1 + n < length d → get_or d i 0 ≡ 34 → escape (take n (drop (i + 1) d)) ≡ take n (drop (i + 1) d) → get_or d (i + 1 + n) 0 ≡ 34
    → HasLexeme d i (token (string (take n (drop (i + 1) d)))) (i + 1 + n + 1)
unfolding lex
HasLexeme-plain d i n within opens plain closes =
    let s = take n (drop (i + 1) d) in
    let rest = drop (i + 1 + n + 1) d in
    let body : drop (i + 1) d ≡ escape s ++ 34 ∷ rest =
    sym (take-append-drop n (drop (i + 1) d)) ∙ ap₂ (λ a b. a ++ b) (sym plain) (drop-drop n (i + 1) d ∙ drop_more d (i + 1 + n) 0 (omega arith) ∙ ap (λ x. x ∷ rest) closes) in
    record {
      lexed = ap (lex between) (drop_more d i 0 (omega arith) ∙ ap₂ (λ x l. x ∷ l) opens body) ∙ ap₂ (λ o l. token (string_token o) ∷ l) (content-escape s rest) (lex-escape s rest);
      later = omega arith;
      within = omega arith;
    }

-- ---- words

-- the three literals
module _ (d : List ℕ) (i : ℕ) (r : List ℕ) (ended : ends_word r ≡ true) where
  pub lexed-true : drop i d ≡ 116 ∷ 114 ∷ 117 ∷ 101 ∷ r → lexemes d i ≡ token (boolean true) ∷ lex between r
  unfolding lex word
  lexed-true is = ap (lex between) is ∙ ap₂ (λ b l. token (cond b (boolean true) bad) ∷ l) ended (in_word-ended r ended)

  pub lexed-false : drop i d ≡ 102 ∷ 97 ∷ 108 ∷ 115 ∷ 101 ∷ r → lexemes d i ≡ token (boolean false) ∷ lex between r
  unfolding lex word
  lexed-false is = ap (lex between) is ∙ ap₂ (λ b l. token (cond b (boolean false) bad) ∷ l) ended (in_word-ended r ended)

  pub lexed-null : drop i d ≡ 110 ∷ 117 ∷ 108 ∷ 108 ∷ r → lexemes d i ≡ token null ∷ lex between r
  unfolding lex word
  lexed-null is = ap (lex between) is ∙ ap₂ (λ b l. token (cond b null bad) ∷ l) ended (in_word-ended r ended)

-- ---- tokens

-- a string that no colon follows
pub tokens-string : (p : Place) (s : List ℕ) (ls : List Lexeme) → may_begin p ≡ true → begins_colon ls ≡ false → punctuate p (token (string s) ∷ ls) ≡ string s ∷ punctuate after_value ls
unfolding punctuate
tokens-string fresh s ls may e = rw e
tokens-string after_value s ls may e = absurd (cc)
tokens-string after_comma s ls may e = rw e
tokens-string after_key s ls may e = absurd (cc)

pub tokens-key : (p : Place) (s : List ℕ) (ls : List Lexeme) → may_begin p ≡ true → punctuate p (token (string s) ∷ colon ∷ ls) ≡ key s ∷ punctuate fresh ls
unfolding punctuate
tokens-key fresh s ls may = refl
tokens-key after_value s ls may = absurd (cc)
tokens-key after_comma s ls may = refl
tokens-key after_key s ls may = absurd (cc)

pub tokens-begin_array : (p : Place) (ls : List Lexeme) → may_begin p ≡ true → punctuate p (token begin_array ∷ ls) ≡ begin_array ∷ punctuate fresh ls
unfolding punctuate
tokens-begin_array fresh ls may = refl
tokens-begin_array after_value ls may = absurd (cc)
tokens-begin_array after_comma ls may = refl
tokens-begin_array after_key ls may = absurd (cc)

pub tokens-begin_object : (p : Place) (ls : List Lexeme) → may_begin p ≡ true → punctuate p (token begin_object ∷ ls) ≡ begin_object ∷ punctuate fresh ls
unfolding punctuate
tokens-begin_object fresh ls may = refl
tokens-begin_object after_value ls may = absurd (cc)
tokens-begin_object after_comma ls may = refl
tokens-begin_object after_key ls may = absurd (cc)

pub tokens-comma : (ls : List Lexeme) → punctuate after_value (comma ∷ ls) ≡ punctuate after_comma ls
unfolding punctuate
tokens-comma ls = refl

pub tokens-end_array : (ls : List Lexeme) → punctuate after_value (token end_array ∷ ls) ≡ end_array ∷ punctuate after_value ls
unfolding punctuate
tokens-end_array ls = refl

-- an object may end at once
pub tokens-end_object : (p : Place) (ls : List Lexeme) → may_close p ≡ true → punctuate p (token end_object ∷ ls) ≡ end_object ∷ punctuate after_value ls
unfolding punctuate
tokens-end_object fresh ls may = refl
tokens-end_object after_value ls may = refl
tokens-end_object after_comma ls may = absurd (cc)
tokens-end_object after_key ls may = absurd (cc)

pub tokens-number : (s : List ℕ) (ls : List Lexeme) → punctuate fresh (token (number s) ∷ ls) ≡ number s ∷ punctuate after_value ls
unfolding punctuate
tokens-number s ls = refl

pub tokens-boolean : (b : Bool) (ls : List Lexeme) → punctuate fresh (token (boolean b) ∷ ls) ≡ boolean b ∷ punctuate after_value ls
unfolding punctuate
tokens-boolean b ls = refl

pub tokens-null : (ls : List Lexeme) → punctuate fresh (token null ∷ ls) ≡ null ∷ punctuate after_value ls
unfolding punctuate
tokens-null ls = refl
