-- The content of a string, read from a text that goes on behind it.
use Rattle.std.proofs.Common.{◌≡◌, ℕ, suc, ◌+◌, ◌-◌, ◌<◌, ◌≤◌, Bool, true, false, cond, ◌==◌, List, [], ◌∷◌, ◌++◌, length, take, drop, get_or, Option, Some, None, option_and_then, nat_lt, refl, sym, ap, ap₂, ◌∙◌, arith}
use Rattle.std.proofs.lemmas.List.{drop_more, drop-drop, take-append-drop}
use Rattle.std.proofs.lemmas.Bool.{ne_eqb}
use Rattle.std.specs.Char.{encode_utf8}
use Rattle.json.specs.Token.{Token, string}
use Rattle.json.specs.Text.{code_unit, short_escape, is_high_surrogate, is_low_surrogate, surrogate_pair, Within, plain, after_backslash, after_u, after_high, prepend, content}
use Rattle.json.specs.Word.{is_operator, is_space}
use Rattle.json.specs.Lex.{Lexeme, token, operator, space, other, string_token, Mode, between, in_string, in_escape, lex_byte, lex, Place, fresh, place_token, punctuate, tokens}
use Rattle.jsonml_text.specs.Straight.{HasLexeme}

-- what is read stays the same
abbrev Kept : {A : Type 0} → Option A → Option A → Type 0
Kept {A} o p = (a : A) → o ≡ Some a → p ≡ Some a

kept_none : {A : Type 0} (p : Option A) → Kept None p
kept_none p a e = absurd (cc)

kept_cond : {A : Type 0} (b : Bool) (o p q r : Option A) → Kept o p → Kept q r → Kept (cond b o q) (cond b p r)
kept_cond true o p q r h k = h
kept_cond false o p q r h k = k

kept_prepend : (bytes : List ℕ) (o p : Option (List ℕ)) → Kept o p → Kept (prepend bytes o) (prepend bytes p)
kept_prepend bytes None p h a e = absurd (cc)
kept_prepend bytes (Some s) p h a e = ap (prepend bytes) (h s refl) ∙ e

kept_then : {A B : Type 0} (f g : A → Option B) (o : Option A) → ((a : A) → Kept (f a) (g a)) → Kept (option_and_then f o) (option_and_then g o)
kept_then f g None h b e = absurd (cc)
kept_then f g (Some a) h b e = h a b e

more : (w : Within) (xs ys : List ℕ) → Kept (content w xs) (content w (xs ++ ys))
unfolding content
more plain [] ys = kept_none _
more plain (x ∷ xs) ys =
    kept_cond (x == 34) (Some []) (Some []) _ _ (λ a e. e) (kept_cond (x == 92) _ _ _ _ (more after_backslash xs ys)
    (kept_cond (nat_lt x 32) None None _ _ (λ a e. e) (kept_prepend (x ∷ []) _ _ (more plain xs ys))))
more after_backslash [] ys = kept_none _
more after_backslash (x ∷ xs) ys =
    kept_cond (x == 117) _ _ _ _ (more after_u xs ys)
    (kept_then (λ c. prepend (c ∷ []) (content plain xs)) (λ c. prepend (c ∷ []) (content plain (xs ++ ys))) (short_escape x) (λ c. kept_prepend (c ∷ []) _ _ (more plain xs ys)))
more after_u [] ys = kept_none _
more after_u (a ∷ []) ys = kept_none _
more after_u (a ∷ b ∷ []) ys = kept_none _
more after_u (a ∷ b ∷ c ∷ []) ys = kept_none _
more after_u (a ∷ b ∷ c ∷ d ∷ xs) ys =
    kept_then (λ u. cond (is_high_surrogate u) (content (after_high u) xs) (cond (is_low_surrogate u) None (prepend (encode_utf8 u) (content plain xs))))
    (λ u. cond (is_high_surrogate u) (content (after_high u) (xs ++ ys)) (cond (is_low_surrogate u) None (prepend (encode_utf8 u) (content plain (xs ++ ys))))) (code_unit a b c d)
    (λ u. kept_cond (is_high_surrogate u) _ _ _ _ (more (after_high u) xs ys) (kept_cond (is_low_surrogate u) None None _ _ (λ s e. e) (kept_prepend (encode_utf8 u) _ _ (more plain xs ys))))
more (after_high h) [] ys = kept_none _
more (after_high h) (s ∷ []) ys = kept_none _
more (after_high h) (s ∷ u ∷ []) ys = kept_none _
more (after_high h) (s ∷ u ∷ a ∷ []) ys = kept_none _
more (after_high h) (s ∷ u ∷ a ∷ b ∷ []) ys = kept_none _
more (after_high h) (s ∷ u ∷ a ∷ b ∷ c ∷ []) ys = kept_none _
more (after_high h) (s ∷ u ∷ a ∷ b ∷ c ∷ d ∷ xs) ys =
    kept_cond _ _ _ None None
    (kept_then (λ l. cond (is_low_surrogate l) (prepend (encode_utf8 (surrogate_pair h l)) (content plain xs)) None)
    (λ l. cond (is_low_surrogate l) (prepend (encode_utf8 (surrogate_pair h l)) (content plain (xs ++ ys))) None) (code_unit a b c d)
    (λ l. kept_cond (is_low_surrogate l) _ _ None None (kept_prepend (encode_utf8 (surrogate_pair h l)) _ _ (more plain xs ys)) (λ s e. e)))
    (λ s e. e)

-- a text that is one string has that content
first_string : (o : Option (List ℕ)) (b : Bool) (k : Place → List Token) (s : List ℕ) (rest : List Token) → place_token fresh (string_token o) b k ≡ string s ∷ rest → o ≡ Some s
first_string None b k s rest e = absurd (cc)
first_string (Some t) true k s rest e = absurd (cc)
first_string (Some t) false k s rest e = let same : t ≡ s = cc in ap Some same

string_alone : (xs s : List ℕ) (rest : List Token) → tokens (34 ∷ xs) ≡ string s ∷ rest → content plain xs ≡ Some s
unfolding lex punctuate
string_alone xs s rest e = first_string (content plain xs) _ _ s rest e

-- ---- the lexer passes over a string

stays_inside : (o s : Bool) (x : ℕ) (r : List ℕ) (k : Mode → List Lexeme) → lex_byte in_string (cond o operator (cond s space other)) x r k ≡ k in_string
stays_inside true s x r k = refl
stays_inside false true x r k = refl
stays_inside false false x r k = refl

pub byte_passed : (d : List ℕ) (i : ℕ) → i < length d → (get_or d i 0 ≡ 34 → ⊥) → (get_or d i 0 ≡ 92 → ⊥) → lex in_string (drop i d) ≡ lex in_string (drop (i + 1) d)
unfolding lex
byte_passed d i h q b =
    let x = get_or d i 0 in
    let rest = drop (i + 1) d in
    ap (lex in_string) (drop_more d i 0 h) ∙ rw (ne_eqb x 34 q, ne_eqb x 92 b) (stays_inside (is_operator x) (is_space x) x rest (λ m. lex m rest))

after_escape : (xs : List ℕ) → lex in_escape xs ≡ lex in_string (drop 1 xs)
unfolding lex
after_escape [] = refl
after_escape (x ∷ xs) = refl

pub escape_passed : (d : List ℕ) (i : ℕ) → i < length d → get_or d i 0 ≡ 92 → lex in_string (drop i d) ≡ lex in_string (drop (i + 2) d)
unfolding lex
escape_passed d i h e =
    let two : i + 1 + 1 ≡ i + 2 = omega arith in
    ap (lex in_string) (drop_more d i 0 h ∙ ap (λ x. x ∷ drop (i + 1) d) e) ∙ after_escape (drop (i + 1) d)
    ∙ ap (lex in_string) (drop-drop 1 (i + 1) d ∙ ap (λ n. drop n d) two)

pub quote_passed : (d : List ℕ) (i : ℕ) → i < length d → get_or d i 0 ≡ 34 → lex in_string (drop i d) ≡ lex between (drop (i + 1) d)
unfolding lex
quote_passed d i h e = ap (lex in_string) (drop_more d i 0 h ∙ ap (λ x. x ∷ drop (i + 1) d) e)

-- a string that is read from a part of a text stands in the text
pub HasLexeme-string : (d : List ℕ) (at end : ℕ) (s : List ℕ) (rest : List Token) → at < length d → get_or d at 0 ≡ 34 → at + 1 < end → end ≤ length d → lex in_string (drop (at + 1) d) ≡ lex between (drop end d)
    → tokens (take (end - at) (drop at d)) ≡ string s ∷ rest → HasLexeme d at (token (string s)) end
unfolding lex
HasLexeme-string d at end s rest h quote long within passed read =
    let n = end - (at + 1) in
    let size : end - at ≡ suc n = omega arith in
    let tail = drop (at + 1) d in
    let whole : drop at d ≡ 34 ∷ tail = drop_more d at 0 h ∙ ap (λ x. x ∷ tail) quote in
    let part : take (end - at) (drop at d) ≡ 34 ∷ take n tail = ap₂ take size whole in
    let inside : content plain (take n tail) ≡ Some s = string_alone (take n tail) s rest (ap tokens (sym part) ∙ read) in
    let found : content plain tail ≡ Some s = ap (content plain) (sym (take-append-drop n tail)) ∙ more plain (take n tail) (drop n tail) s inside in
    record {
      lexed = ap (lex between) whole ∙ ap₂ (λ o l. token (string_token o) ∷ l) found passed;
      later = omega arith;
      within = within;
    }
