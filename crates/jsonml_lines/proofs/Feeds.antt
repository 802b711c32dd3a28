-- Where the first line feed of some bytes stands.
use Rattle.std.proofs.Common.{◌≡◌, ℕ, suc, ◌+◌, ◌-◌, ◌==◌, not, cond, nat_lt, true, IsTrue, List, [], ◌∷◌, ◌++◌, length, take, drop, option_map, Some, None, refl, sym, ap, ap₂, ◌∙◌, arith, length-append}
use Rattle.std.specs.List.{position, prefix_len}
use Rattle.std.proofs.lemmas.Bool.{and_parts, lt-ltb}
use Rattle.std.proofs.lemmas.List.{drop-drop}
use Rattle.jsonml_print.proofs.Escapes.{slice-rest}
use Rattle.jsonml_lines.specs.Read.{cut}
use Rattle.jsonml_lines.specs.RoundTrip.{is_unbroken}

abbrev before : List ℕ → ℕ
before bs = prefix_len (λ b. not (b == 10)) bs

feed_behind : (front rest : List ℕ) → IsTrue (is_unbroken front) → before (front ++ 10 ∷ rest) ≡ length front
feed_behind [] rest e = refl
feed_behind (b ∷ bs) rest e =
    let both = and_parts (not (b == 10)) (is_unbroken bs) e in
    let next = feed_behind bs rest both.1 in
    ap (λ c. cond c (1 + before (bs ++ 10 ∷ rest)) 0) both.0 ∙ omega (arith, next)

pub feed_at : (front rest : List ℕ) → IsTrue (is_unbroken front) → position (λ b. b == 10) (front ++ 10 ∷ rest) ≡ Some (length front)
feed_at front rest e =
    let some : nat_lt (length front) (length (front ++ 10 ∷ rest)) ≡ true = lt-ltb _ _ (omega (arith, length-append front (10 ∷ rest))) in
    ap (λ n. cond (nat_lt n (length (front ++ 10 ∷ rest))) (Some n) None) (feed_behind front rest e) ∙ ap (λ c. cond c (Some (length front)) None) some

pub drop_front : (front rest : List ℕ) → drop (length front + 1) (front ++ 10 ∷ rest) ≡ rest
drop_front [] rest = refl
drop_front (b ∷ bs) rest = let more : suc (length bs) + 1 ≡ suc (length bs + 1) = omega arith in ap (λ k. drop k (b ∷ (bs ++ 10 ∷ rest))) more ∙ drop_front bs rest

-- the rest of some bytes, as a slice gives it
abbrev pub rest_at : List ℕ → ℕ → List ℕ
rest_at bytes at = take (length bytes - at) (drop at bytes)

pub split_some : (bytes : List ℕ) (at size : ℕ) → Some size ≡ position (λ b. b == 10) (rest_at bytes at)
    → Some (take size (rest_at bytes at), drop (at + size + 1) bytes) ≡ option_map (cut (drop at bytes)) (position (λ b. b == 10) (drop at bytes))
split_some bytes at size found =
    let same : rest_at bytes at ≡ drop at bytes = slice-rest bytes at in
    let to : at + size + 1 ≡ at + (size + 1) = omega arith in
    let behind : drop (at + size + 1) bytes ≡ drop (size + 1) (drop at bytes) = ap (λ n. drop n bytes) to ∙ sym (drop-drop (size + 1) at bytes) in
    let there : position (λ b. b == 10) (drop at bytes) ≡ Some size = ap (position (λ b. b == 10)) (sym same) ∙ sym found in
    ap₂ (λ front rest. Some (take size front, rest)) same behind ∙ sym (ap (option_map (cut (drop at bytes))) there)

pub split_none : (bytes : List ℕ) (at : ℕ) → None ≡ position (λ b. b == 10) (rest_at bytes at) → None ≡ option_map (cut (drop at bytes)) (position (λ b. b == 10) (drop at bytes))
split_none bytes at found = ap (option_map (cut (drop at bytes))) (found ∙ ap (position (λ b. b == 10)) (slice-rest bytes at))
