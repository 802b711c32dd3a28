-- Strings with their escapes, part by part.
use Rattle.std.proofs.Common.{◌≡◌, ℕ, Result, Ok, Err, ◌+◌, ◌-◌, ◌<◌, ◌≤◌, suc, List, [], ◌∷◌, ◌++◌, append-nil, length, take, drop, get_or, sym, ap, ◌∙◌, arith, drop-cons, take-append-drop, take_all, length-drop}
use Rattle.std.proofs.lemmas.Grind.{flat_map-append}
use Rattle.std.proofs.lemmas.List.{take_more}
use Rattle.std.specs.Result.{IsErr, MatchResult}
use Rattle.json.specs.Print.{escape, escape_byte}
use Rattle.xa_outside.proofs.Fronts.{take-rest}

pub escape-append : (xs ys : List ℕ) → escape (xs ++ ys) ≡ escape xs ++ escape ys
escape-append xs ys = flat_map-append escape_byte xs ys

-- a front without escapes, and the rest
pub escape-run : (bs : List ℕ) (n : ℕ) → escape (take n bs) ≡ take n bs → escape bs ≡ take n bs ++ escape (drop n bs)
escape-run bs n plain = ap escape (sym (take-append-drop n bs)) ∙ escape-append (take n bs) (drop n bs) ∙ ap (λ l. l ++ escape (drop n bs)) plain

-- the same, with the byte behind it
pub escape-byte : (bs : List ℕ) (n d : ℕ) → n < length bs → escape (take n bs) ≡ take n bs → escape bs ≡ take n bs ++ (escape_byte (get_or bs n d) ++ escape (drop (suc n) bs))
escape-byte bs n d within plain = escape-run bs n plain ∙ ap (λ l. take n bs ++ escape l) (drop-cons bs n d within)

-- a front without escapes, and the byte behind it
pub escape-next : (bs : List ℕ) (n d : ℕ) → n < length bs → escape (take n bs) ≡ take n bs → escape (take (n + 1) bs) ≡ take n bs ++ escape_byte (get_or bs n d)
escape-next bs n d within plain =
    ap escape (take_more bs n d within) ∙ escape-append (take n bs) (get_or bs n d ∷ []) ∙ ap (λ l. l ++ escape (get_or bs n d ∷ [])) plain
    ∙ ap (λ l. take n bs ++ l) (append-nil (escape_byte (get_or bs n d)))

-- the rest of a slice, as `&bs[at..]` gives it
pub slice-rest : (bs : List ℕ) (at : ℕ) → take (length bs - at) (drop at bs) ≡ drop at bs
slice-rest bs at = take_all (length bs - at) (drop at bs) (omega (arith, length-drop at bs))

pub length-slice-at : (bs : List ℕ) (at : ℕ) → length (take (length bs - at) (drop at bs)) ≡ length bs - at
length-slice-at bs at = ap length (slice-rest bs at) ∙ length-drop at bs

pub escape-at : (bs : List ℕ) (at : ℕ) → escape bs ≡ escape (take at bs) ++ escape (take (length bs - at) (drop at bs))
escape-at bs at = ap escape (sym (take-append-drop at bs)) ∙ escape-append (take at bs) (drop at bs) ∙ ap (λ l. escape (take at bs) ++ escape l) (sym (slice-rest bs at))

pub escape-more : (bs : List ℕ) (at n : ℕ) → at ≤ length bs → escape (take at bs) ++ escape (take n (take (length bs - at) (drop at bs))) ≡ escape (take (at + n) bs)
escape-more bs at n within = sym (escape-append (take at bs) _) ∙ ap escape (take-rest at n bs within)

-- an answer that is known to be an error
pub MatchResult-failed : {T E : Type 0} (r : Result T E) (P : T → Type 0) (Q : Type 0) → IsErr r → Q → MatchResult r P (λ _. Q)
MatchResult-failed (Ok x) P Q e q = absurd (cc)
MatchResult-failed (Err x) P Q e q = q
