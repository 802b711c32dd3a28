-- How a line falls into tokens.
use Rattle.std.proofs.Common.{◌≡◌, ℕ, ◌+◌, ◌<◌, ◌≤◌, Bool, true, false, not, ◌&&◌, List, [], ◌∷◌, length, refl, ap, sym, ◌∙◌, subst, arith, eqb, take, drop, get_or, Option, Some, None, MatchOption, Bor, IsUtf8, IsCharBoundary, option_map, ne_eqb, eq-eqb, one-add, add-one, ⊎_elim, zero, suc}
use Rattle.std.proofs.lemmas.Bool.{cond-false, cond-true, and_parts, not-true, cases_lt, and_from, not_from_false}
use Rattle.std.proofs.lemmas.Bool.Decides.{nat_tests}
use Rattle.std.proofs.lemmas.List.Sums.{prefix_len_passes, prefix_len_stops, prefix_len-le-length}
use Rattle.std.proofs.lemmas.Str.{IsCharBoundary-start, IsCharBoundary-end, IsCharBoundary-before_ascii, IsCharBoundary-after_ascii}
use Rattle.std.specs.List.{prefix_len}
use Rattle.key_spec.specs.Lines.{is_blank}
use Rattle.key_spec.specs.Form.{Token, sign, word, tokens, word_with, behind, first_word, is_sign, is_word_byte, begins_word}

-- the two cases of a test
pub by_test : {P : Type 0} (t : Bool) → (t ≡ true → P) → (t ≡ false → P) → P
by_test true f g = f refl
by_test false f g = g refl

-- ---- blanks

blank_is_ascii : (b : ℕ) → is_blank b ≡ true → b < 128
blank_is_ascii b e = grind (arith, nat_tests)

other_is_ascii : (b : ℕ) → is_word_byte b ≡ false → b < 128
other_is_ascii b e = grind (arith, nat_tests)

pub sign_is_ascii : (b : ℕ) → is_sign b ≡ true → b < 128
sign_is_ascii b e = grind (arith, nat_tests)

sign_is_no_blank : (b : ℕ) → is_sign b ≡ true → is_blank b ≡ false
sign_is_no_blank b e = grind (arith, nat_tests)

-- a text may be cut behind its first blanks
pub boundary_behind_blanks : (bs : List ℕ) (n : ℕ) → IsUtf8 bs → n ≡ prefix_len is_blank bs → IsCharBoundary bs n
boundary_behind_blanks bs zero utf8 e = IsCharBoundary-start bs utf8
boundary_behind_blanks bs (suc k) utf8 e =
    let within = prefix_len-le-length is_blank bs in
    let passes : is_blank (get_or bs k 0) ≡ true = prefix_len_passes is_blank bs k 0 (omega arith) in
    let cut : IsCharBoundary bs (k + 1) = IsCharBoundary-after_ascii bs k utf8 (omega arith) (blank_is_ascii _ passes) in
    subst (λ m. IsCharBoundary bs m) (add-one k) cut

-- and behind the word at its front
pub boundary_behind_word : (bs : List ℕ) (n : ℕ) → IsUtf8 bs → n ≡ prefix_len is_word_byte bs → IsCharBoundary bs n
boundary_behind_word bs n utf8 e =
    let within = prefix_len-le-length is_word_byte bs in
    ⊎_elim
    (λ (l : n < length bs). IsCharBoundary-before_ascii bs n l (other_is_ascii _ (subst (λ m. is_word_byte (get_or bs m 0) ≡ false) (sym e) (prefix_len_stops is_word_byte bs 0 (omega arith)))))
    (λ (l : length bs ≤ n). let same : length bs ≡ n = omega arith in subst (λ m. IsCharBoundary bs m) same (IsCharBoundary-end bs))
    (cases_lt n (length bs))

prefix-yes : (p : ℕ → Bool) (b : ℕ) (bs : List ℕ) → p b ≡ true → prefix_len p (b ∷ bs) ≡ suc (prefix_len p bs)
prefix-yes p b bs e = cond-true (p b) _ _ e ∙ one-add (prefix_len p bs)

prefix-no : (p : ℕ → Bool) (b : ℕ) (bs : List ℕ) → p b ≡ false → prefix_len p (b ∷ bs) ≡ 0
prefix-no p b bs e = cond-false (p b) _ _ e

-- a space or tab makes no token
pub tokens-blank : (b : ℕ) (bs : List ℕ) → is_blank b ≡ true → tokens (b ∷ bs) ≡ tokens bs
tokens-blank b bs e = cond-true (is_blank b) _ _ e

-- so it does not matter whether the blanks at the front are there
pub tokens-trimmed : (bs : List ℕ) → tokens (drop (prefix_len is_blank bs) bs) ≡ tokens bs
tokens-trimmed [] = refl
tokens-trimmed (b ∷ bs) =
    by_test (is_blank b)
    (λ e. ap (λ n. tokens (drop n (b ∷ bs))) (prefix-yes is_blank b bs e) ∙ tokens-trimmed bs ∙ sym (tokens-blank b bs e))
    (λ e. ap (λ n. tokens (drop n (b ∷ bs))) (prefix-no is_blank b bs e))

abbrev pub begins_blank : List ℕ → Bool
begins_blank [] = false
begins_blank (b ∷ bs) = is_blank b

pub trimmed-begins : (bs : List ℕ) → begins_blank (drop (prefix_len is_blank bs) bs) ≡ false
trimmed-begins [] = refl
trimmed-begins (b ∷ bs) =
    by_test (is_blank b)
    (λ e. ap (λ n. begins_blank (drop n (b ∷ bs))) (prefix-yes is_blank b bs e) ∙ trimmed-begins bs)
    (λ e. ap (λ n. begins_blank (drop n (b ∷ bs))) (prefix-no is_blank b bs e) ∙ e)

-- ---- signs

-- a word is never a sign
pub word_with-word : (b : ℕ) (f : Bool) (ts : List Token) → (bytes : List ℕ) × (more : List Token) × (word_with b f ts ≡ word bytes ∷ more)
word_with-word b true (word bytes ∷ ts) = (b ∷ bytes, ts, refl)
word_with-word b true (sign c ∷ ts) = (b ∷ [], sign c ∷ ts, refl)
word_with-word b true [] = (b ∷ [], [], refl)
word_with-word b false ts = (b ∷ [], ts, refl)

-- a sign is a token of its own
pub tokens-sign : (b : ℕ) (bs : List ℕ) → is_sign b ≡ true → tokens (b ∷ bs) ≡ sign b ∷ tokens bs
tokens-sign b bs e = cond-false (is_blank b) _ _ (sign_is_no_blank b e) ∙ cond-true (is_sign b) _ _ e

pub tokens-inside : (b : ℕ) (bs : List ℕ) → is_word_byte b ≡ true → tokens (b ∷ bs) ≡ word_with b (begins_word bs) (tokens bs)
tokens-inside b bs e =
    let parts = and_parts (not (is_blank b)) (not (is_sign b)) e in
    cond-false (is_blank b) _ _ (not-true _ parts.0) ∙ cond-false (is_sign b) _ _ (not-true _ parts.1)

behind-sign : (c : ℕ) (bs : List ℕ) → is_sign c ≡ true → behind c (tokens (c ∷ bs)) ≡ Some (tokens bs)
behind-sign c bs e = ap (behind c) (tokens-sign c bs e) ∙ cond-true (eqb c c) _ _ (eq-eqb c c refl)

behind-word : (c b : ℕ) (bs : List ℕ) → is_word_byte b ≡ true → behind c (tokens (b ∷ bs)) ≡ None
behind-word c b bs e = let w = word_with-word b (begins_word bs) (tokens bs) in ap (behind c) (tokens-inside b bs e ∙ w.2)

behind-other : (c b : ℕ) (bs : List ℕ) → is_sign b ≡ true → (b ≡ c → ⊥) → behind c (tokens (b ∷ bs)) ≡ None
behind-other c b bs e apart = ap (behind c) (tokens-sign b bs e) ∙ cond-false (eqb b c) _ _ (ne_eqb b c apart)

-- a line that begins with neither a blank nor this sign
behind-none : (c : ℕ) (bs : List ℕ) → begins_blank bs ≡ false → ((rest : List ℕ) → bs ≡ c ∷ rest → ⊥) → behind c (tokens bs) ≡ None
behind-none c [] h apart = refl
behind-none c (b ∷ bs) h apart =
    by_test (is_sign b)
    (λ e. behind-other c b bs e (λ same. apart bs (ap (λ x. x ∷ bs) same)))
    (λ e. behind-word c b bs (and_from _ _ (not_from_false _ h) (not_from_false _ e)))

-- what `strip_prefix` of a sign gives, behind the blanks
pub behind-stripped : (c : ℕ) (line bs : List ℕ) (r : Option (Bor (List ℕ))) → is_sign c ≡ true → bs ≡ drop (prefix_len is_blank line) line
    → MatchOption r ((rest : List ℕ) → bs ≡ c ∷ rest → ⊥) (λ x. bs ≡ c ∷ x.now) → option_map (λ x. tokens x.now) r ≡ behind c (tokens line)
behind-stripped c line bs None e cut h =
    sym (ap (behind c) (sym (tokens-trimmed line) ∙ ap tokens (sym cut)) ∙ behind-none c bs (ap begins_blank cut ∙ trimmed-begins line) h)
behind-stripped c line bs (Some x) e cut h =
    sym (ap (behind c) (sym (tokens-trimmed line) ∙ ap tokens (sym cut) ∙ ap tokens h) ∙ behind-sign c x.now e)

-- ---- words

abbrev IsWordAt : ℕ → List ℕ → Type 0
IsWordAt n bs = tokens bs ≡ word (take n bs) ∷ tokens (drop n bs)

longer_word : (b : ℕ) (bs : List ℕ) (m : ℕ) → is_word_byte b ≡ true → m ≡ prefix_len is_word_byte bs → (0 < m → IsWordAt m bs) → IsWordAt (suc m) (b ∷ bs)
longer_word b [] m inside e shorter = subst (λ k. IsWordAt (suc k) (b ∷ [])) (sym e) (tokens-inside b [] inside)
longer_word b (c ∷ cs) m inside e shorter =
    by_test (is_word_byte c)
    (λ f. let more : m ≡ suc (prefix_len is_word_byte cs) = e ∙ prefix-yes is_word_byte c cs f in
    tokens-inside b (c ∷ cs) inside ∙ ap (λ t. word_with b t (tokens (c ∷ cs))) f ∙ ap (word_with b true) (shorter (omega arith)))
    (λ f. let none : m ≡ 0 = e ∙ prefix-no is_word_byte c cs f in
    subst (λ k. IsWordAt (suc k) (b ∷ c ∷ cs)) (sym none) (tokens-inside b (c ∷ cs) inside ∙ ap (λ t. word_with b t (tokens (c ∷ cs))) f))

-- the word at the front is the longest run of its bytes
pub tokens-word : (bs : List ℕ) → 0 < prefix_len is_word_byte bs → IsWordAt (prefix_len is_word_byte bs) bs
tokens-word [] h = absurd (omega arith)
tokens-word (b ∷ bs) h =
    by_test (is_word_byte b)
    (λ e. subst (λ n. IsWordAt n (b ∷ bs)) (sym (prefix-yes is_word_byte b bs e)) (longer_word b bs (prefix_len is_word_byte bs) e refl (λ some. tokens-word bs some)))
    (λ e. let none : prefix_len is_word_byte (b ∷ bs) ≡ 0 = prefix-no is_word_byte b bs e in absurd (omega (arith, h, none)))

pub first_word-some : (line bs : List ℕ) (n : ℕ) → bs ≡ drop (prefix_len is_blank line) line → n ≡ prefix_len is_word_byte bs → 0 < n → Some (take n bs, tokens (drop n bs)) ≡ first_word (tokens line)
first_word-some line bs n cut e some =
    let run : IsWordAt n bs = subst (λ k. IsWordAt k bs) (sym e) (tokens-word bs (omega arith)) in
    sym (ap first_word (sym (tokens-trimmed line) ∙ ap tokens (sym cut) ∙ run))

a_sign : (x y : Bool) → x ≡ false → (not x && not y) ≡ false → y ≡ true
a_sign x true e f = refl
a_sign true false e f = cc
a_sign false false e f = cc

no_word : (bs : List ℕ) → begins_blank bs ≡ false → prefix_len is_word_byte bs ≡ 0 → first_word (tokens bs) ≡ None
no_word [] h e = refl
no_word (b ∷ bs) h e =
    by_test (is_word_byte b)
    (λ f. let some : prefix_len is_word_byte (b ∷ bs) ≡ suc (prefix_len is_word_byte bs) = prefix-yes is_word_byte b bs f in absurd (omega (arith, some, e)))
    (λ f. ap first_word (tokens-sign b bs (a_sign (is_blank b) (is_sign b) h f)))

pub first_word-none : (line bs : List ℕ) (n : ℕ) → bs ≡ drop (prefix_len is_blank line) line → n ≡ prefix_len is_word_byte bs → n ≡ 0 → None ≡ first_word (tokens line)
first_word-none line bs n cut e none =
    sym (ap first_word (sym (tokens-trimmed line) ∙ ap tokens (sym cut)) ∙ no_word bs (ap begins_blank cut ∙ trimmed-begins line) (sym e ∙ none))
