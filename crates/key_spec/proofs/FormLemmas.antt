-- What tokens spell, one step after another.
use Rattle.std.proofs.Common.{◌≡◌, ℕ, false, List, [], ◌∷◌, ◌++◌, length, refl, ap, sym, ◌∙◌, arith, eqb, Option, Some, None, option_map, option_and_then, eqb-true, drop, suc, append_assoc}
use Rattle.std.proofs.lemmas.Bool.{cond-false, cond-true, ne_eqb, and_left, and_from, not_from_false}
use Rattle.std.specs.List.{prefix_len}
use Rattle.key_spec.specs.Data.{PlainPath}
use Rattle.key_spec.specs.Lines.{is_blank}
use Rattle.key_spec.specs.Names.{path_of}
use Rattle.key_spec.specs.Form.{Token, sign, word, tokens, behind, first_as, path_with, some_paths, is_end, is_sign, begins_word}
use Rattle.key_spec.proofs.TokenLemmas.{by_test, begins_blank, trimmed-begins, tokens-trimmed, tokens-sign, word_with-word, tokens-inside}

pub some_same : {X : Type 0} (x y : X) → Some x ≡ Some y → x ≡ y
some_same x y e = cc

-- ---- behind a sign

-- where a sign comes first, it is the first token
pub behind-some : (c : ℕ) (ts us : List Token) → behind c ts ≡ Some us → ts ≡ sign c ∷ us
behind-some c [] us e = cc
behind-some c (word bytes ∷ ts) us e = cc
behind-some c (sign b ∷ ts) us e =
    by_test (eqb b c)
    (λ same. let inside : ts ≡ us = some_same ts us (sym (cond-true (eqb b c) (Some ts) None same) ∙ e) in
    ap (λ d. sign d ∷ ts) (eqb-true b c same) ∙ ap (λ vs. sign c ∷ vs) inside)
    (λ apart. let none : None ≡ Some us = sym (cond-false (eqb b c) (Some ts) None apart) ∙ e in cc)

-- ---- key paths

abbrev path_list : Type 0
path_list = Option (List PlainPath × List Token)

first_as-rest : {X : Type 0} (o : Option X) (vs : List Token) (x : X) (us : List Token) → option_map {U = X × List Token} (λ y. (y, vs)) o ≡ Some (x, us) → vs ≡ us
first_as-rest None vs x us e = cc
first_as-rest {X} (Some y) vs x us e = let given : X × List Token = (y, vs) in let found : X × List Token = (x, us) in ap (λ (p : X × List Token). p.1) (some_same given found e)

pub some_paths-none : (ts : List Token) → first_as path_of ts ≡ None → some_paths ts ≡ None
some_paths-none [] e = refl
some_paths-none (sign b ∷ ts) e = refl
some_paths-none (word bytes ∷ []) e = refl
some_paths-none (word bytes ∷ word more ∷ ts) e = refl
some_paths-none (word bytes ∷ sign b ∷ ts) e = ap (λ f. path_with f (some_paths ts)) e

-- a path whose first sign behind it is known
some_paths-path : (b : ℕ) (ts : List Token) (path : PlainPath) (us : List Token) → first_as path_of ts ≡ Some (path, sign b ∷ us) → some_paths ts ≡ path_with (Some (path, sign b ∷ us)) (some_paths us)
some_paths-path b [] path us e = cc
some_paths-path b (sign c ∷ ts) path us e = cc
some_paths-path b (word bytes ∷ []) path us e = let rest = first_as-rest (path_of bytes) [] path (sign b ∷ us) e in cc
some_paths-path b (word bytes ∷ word more ∷ ts) path us e = let rest = first_as-rest (path_of bytes) (word more ∷ ts) path (sign b ∷ us) e in cc
some_paths-path b (word bytes ∷ sign c ∷ ts) path us e =
    let rest : sign c ∷ ts ≡ sign b ∷ us = first_as-rest (path_of bytes) (sign c ∷ ts) path (sign b ∷ us) e in
    let same : ts ≡ us = cc in
    ap (λ f. path_with f (some_paths ts)) e ∙ ap (λ vs. path_with (Some (path, sign b ∷ us)) (some_paths vs)) same

pub some_paths-last : (ts : List Token) (path : PlainPath) (us rest : List Token) → first_as path_of ts ≡ Some (path, us) → behind 125 us ≡ Some rest → some_paths ts ≡ Some (path ∷ [], rest)
some_paths-last ts path us rest e last =
    some_paths-path 125 ts path rest (e ∙ ap (λ vs. Some (path, vs)) (behind-some 125 us rest last))

pub some_paths-more : (ts : List Token) (path : PlainPath) (us rest : List Token) → first_as path_of ts ≡ Some (path, us) → behind 44 us ≡ Some rest
    → some_paths ts ≡ option_map (λ o. (path ∷ o.0, o.1)) (some_paths rest)
some_paths-more ts path us rest e more =
    some_paths-path 44 ts path rest (e ∙ ap (λ vs. Some (path, vs)) (behind-some 44 us rest more))

path_with-stop : (path : PlainPath) (us : List Token) (others : path_list) → behind 125 us ≡ None → behind 44 us ≡ None → path_with (Some (path, us)) others ≡ None
path_with-stop path [] others last more = refl
path_with-stop path (word bytes ∷ us) others last more = refl
path_with-stop path (sign b ∷ us) others last more =
    by_test (eqb b 125)
    (λ e. let some : Some us ≡ None = sym (cond-true (eqb b 125) (Some us) None e) ∙ last in cc)
    (λ e. cond-false (eqb b 125) _ _ e ∙ by_test (eqb b 44)
    (λ f. let some : Some us ≡ None = sym (cond-true (eqb b 44) (Some us) None f) ∙ more in cc)
    (λ f. cond-false (eqb b 44) _ _ f))

pub some_paths-stop : (ts : List Token) (path : PlainPath) (us : List Token) → first_as path_of ts ≡ Some (path, us) → behind 125 us ≡ None → behind 44 us ≡ None → some_paths ts ≡ None
some_paths-stop [] path us e last more = refl
some_paths-stop (sign b ∷ ts) path us e last more = refl
some_paths-stop (word bytes ∷ []) path us e last more = refl
some_paths-stop (word bytes ∷ word next ∷ ts) path us e last more = refl
some_paths-stop (word bytes ∷ sign b ∷ ts) path us e last more = ap (λ f. path_with f (some_paths ts)) e ∙ path_with-stop path us (some_paths ts) last more

-- ---- the end

pub is_end-none : (ts : List Token) → behind 41 ts ≡ None → is_end ts ≡ false
is_end-none [] e = refl
is_end-none (word bytes ∷ ts) e = refl
is_end-none (sign b ∷ []) e = refl
is_end-none (sign b ∷ word bytes ∷ ts) e = refl
is_end-none (sign b ∷ sign c ∷ t ∷ ts) e = refl
is_end-none (sign b ∷ sign c ∷ []) e =
    by_test (eqb b 41)
    (λ f. let some : Some (sign c ∷ []) ≡ None = sym (cond-true (eqb b 41) (Some (sign c ∷ [])) None f) ∙ e in cc)
    (λ f. and_left (eqb b 41) (eqb c 41) f)

one_end : (us : List Token) → behind 41 us ≡ None → is_end (sign 41 ∷ us) ≡ false
one_end [] e = refl
one_end (word bytes ∷ ts) e = refl
one_end (sign c ∷ t ∷ ts) e = refl
one_end (sign c ∷ []) e =
    by_test (eqb c 41)
    (λ f. let left : List Token = [] in let some : Some left ≡ None = sym (cond-true (eqb c 41) (Some left) None f) ∙ e in cc)
    (λ f. f)

pub is_end-one : (ts us : List Token) → behind 41 ts ≡ Some us → behind 41 us ≡ None → is_end ts ≡ false
is_end-one ts us e f = ap is_end (behind-some 41 ts us e) ∙ one_end us f

two_ends : (ts : List Token) → is_end (sign 41 ∷ sign 41 ∷ ts) ≡ eqb (length ts) 0
two_ends [] = refl
two_ends (t ∷ ts) = sym (ne_eqb (suc (length ts)) 0 (λ e. omega arith))

-- what begins with no blank has tokens unless it is empty
tokens-none : (bs : List ℕ) → begins_blank bs ≡ false → eqb (length (tokens bs)) 0 ≡ eqb (length bs) 0
tokens-none [] e = refl
tokens-none (b ∷ bs) e =
    let some : eqb (suc (length bs)) 0 ≡ false = ne_eqb (suc (length bs)) 0 (λ f. omega arith) in
    by_test (is_sign b)
    (λ f. let first = ap length (tokens-sign b bs f) in ne_eqb (length (tokens (b ∷ bs))) 0 (λ g. omega (arith, first, g)) ∙ sym some)
    (λ f. let inside = tokens-inside b bs (and_from _ _ (not_from_false _ e) (not_from_false _ f)) in
    let all = word_with-word b (begins_word bs) (tokens bs) in
    let first = ap length (inside ∙ all.2) in
    ne_eqb (length (tokens (b ∷ bs))) 0 (λ g. omega (arith, first, g)) ∙ sym some)

pub is_end-two : (ts us : List Token) (line bs : List ℕ) → behind 41 ts ≡ Some us → behind 41 us ≡ Some (tokens line) → bs ≡ drop (prefix_len is_blank line) line → is_end ts ≡ eqb (length bs) 0
is_end-two ts us line bs e f cut =
    ap is_end (behind-some 41 ts us e ∙ ap (λ vs. sign 41 ∷ vs) (behind-some 41 us (tokens line) f)) ∙ two_ends (tokens line)
    ∙ ap (λ vs. eqb (length vs) 0) (sym (tokens-trimmed line) ∙ ap tokens (sym cut)) ∙ tokens-none bs (ap begins_blank cut ∙ trimmed-begins line)

end_neither : (ts : List Token) (o : Option (List Token)) → behind 41 ts ≡ o → option_and_then (behind 41) o ≡ None → is_end ts ≡ false
end_neither ts None e f = is_end-none ts e
end_neither ts (Some us) e f = is_end-one ts us e f

pub is_end-neither : (ts : List Token) → option_and_then (behind 41) (behind 41 ts) ≡ None → is_end ts ≡ false
is_end-neither ts f = end_neither ts (behind 41 ts) refl f

end_both : (ts : List Token) (o : Option (List Token)) (line bs : List ℕ) → behind 41 ts ≡ o → option_and_then (behind 41) o ≡ Some (tokens line) → bs ≡ drop (prefix_len is_blank line) line → is_end ts ≡ eqb (length bs) 0
end_both ts None line bs e f cut = cc
end_both ts (Some us) line bs e f cut = is_end-two ts us line bs e f cut

pub is_end-both : (ts : List Token) (line bs : List ℕ) → option_and_then (behind 41) (behind 41 ts) ≡ Some (tokens line) → bs ≡ drop (prefix_len is_blank line) line → is_end ts ≡ eqb (length bs) 0
is_end-both ts line bs f cut = end_both ts (behind 41 ts) line bs refl f cut

-- one more path is read: those so far and those that are left are still all of them
pub one_more_path : (whole left rest : Option (List PlainPath × List Token)) (front : List PlainPath) (path : PlainPath)
    → whole ≡ option_map (λ r. (front ++ r.0, r.1)) left → left ≡ option_map (λ r. (path ∷ r.0, r.1)) rest → whole ≡ option_map (λ r. ((front ++ path ∷ []) ++ r.0, r.1)) rest
one_more_path whole left None front path e f = e ∙ ap (option_map (λ r. (front ++ r.0, r.1))) f
one_more_path whole left (Some r) front path e f =
    e ∙ ap (option_map (λ s. (front ++ s.0, s.1))) f ∙ ap (λ ps. Some (ps, r.1)) (sym (append_assoc front (path ∷ []) r.0))
