-- Bytes that are compared many at a time.
use Rattle.std.proofs.Common.{◌≡◌, ℕ, ◌+◌, ◌≤◌, List, ◌++◌, sym, ap, ◌∙◌, arith, length, take, drop, take_all, take-add, take-take, length-drop}
use Rattle.std.proofs.lemmas.List.{take-append-drop}
use Rattle.std.specs.Int.{to_le_bytes, w64}

-- equal numbers stand for the same eight bytes
pub same_words : (x y : ℕ) (xs ys : List ℕ) → to_le_bytes w64 x ≡ xs → to_le_bytes w64 y ≡ ys → x ≡ y → xs ≡ ys
same_words x y xs ys p q e = sym p ∙ ap (λ n. to_le_bytes w64 n) e ∙ q

-- the next ones are the same too
pub next : (a b : List ℕ) (at n : ℕ) → take at a ≡ take at b → take n (drop at a) ≡ take n (drop at b) → take (at + n) a ≡ take (at + n) b
next a b at n front same =
    take-add at n a ∙ ap (λ l. l ++ take n (drop at a)) front ∙ ap (λ l. take at b ++ l) same ∙ sym (take-add at n b)

-- all are the same, with the last ones
pub all : (a b : List ℕ) (at last n : ℕ) → length a ≡ last + n → length b ≡ last + n → last ≤ at → take at a ≡ take at b → take n (drop last a) ≡ take n (drop last b) → a ≡ b
all a b at last n fits_a fits_b le front same =
    let before : take last a ≡ take last b = sym (take-take last at a le) ∙ ap (take last) front ∙ take-take last at b le in
    let rest_a : take n (drop last a) ≡ drop last a = take_all n (drop last a) (omega (arith, length-drop last a)) in
    let rest_b : take n (drop last b) ≡ drop last b = take_all n (drop last b) (omega (arith, length-drop last b)) in
    let rest : drop last a ≡ drop last b = sym rest_a ∙ same ∙ rest_b in
    sym (take-append-drop last a) ∙ ap (λ l. l ++ drop last a) before ∙ ap (λ l. take last b ++ l) rest ∙ take-append-drop last b
