-- Where parts stand in some bytes.
use Rattle.std.proofs.Common.{◌≡◌, ℕ, ◌+◌, ◌≤◌, List, ◌++◌, length, take, drop, refl, sym, ap, ◌∙◌, append_assoc, arith, drop-drop}
use Rattle.std.proofs.lemmas.List.{take-append-drop, take_at, drop_at, length-append}
use Rattle.file_rows.specs.StandsAt.{StandsAt}

-- what stands at an offset, and what is behind it
pub split : (bytes : List ℕ) (at : ℕ) (part : List ℕ) → StandsAt bytes at part → drop at bytes ≡ part ++ drop (length part) (drop at bytes)
split bytes at part h = sym (take-append-drop (length part) (drop at bytes)) ∙ ap (λ (bs : List ℕ). bs ++ drop (length part) (drop at bytes)) h

pub stands-of : (bytes : List ℕ) (at : ℕ) (part more : List ℕ) → drop at bytes ≡ part ++ more → StandsAt bytes at part
stands-of bytes at part more e = ap (take (length part)) e ∙ take_at part more (length part) refl

-- what stands within the bytes is no longer than they are
pub stands-within : (bytes : List ℕ) (at : ℕ) (part : List ℕ) → StandsAt bytes at part → length part ≤ length (drop at bytes)
stands-within bytes at part h = (let e = ap length (split bytes at part h) ∙ length-append part (drop (length part) (drop at bytes)) in omega (arith, e))

-- a part of what stands there
pub stands-part : (bytes : List ℕ) (at : ℕ) (front part back : List ℕ) → StandsAt bytes at (front ++ (part ++ back)) → StandsAt bytes (at + length front) part
stands-part bytes at front part back h =
    let whole = front ++ (part ++ back) in
    let more = drop (length whole) (drop at bytes) in
    let e : drop at bytes ≡ front ++ (part ++ (back ++ more)) = split bytes at whole h ∙ simp append_assoc in
    stands-of bytes (at + length front) part (back ++ more)
    (sym (drop-drop (length front) at bytes) ∙ ap (drop (length front)) e ∙ drop_at front (part ++ (back ++ more)) (length front) refl)

pub stands-front : (bytes : List ℕ) (at : ℕ) (part back : List ℕ) → StandsAt bytes at (part ++ back) → StandsAt bytes at part
stands-front bytes at part back h =
    let more = drop (length (part ++ back)) (drop at bytes) in
    stands-of bytes at part (back ++ more) (split bytes at (part ++ back) h ∙ append_assoc part back more)

pub stands-back : (bytes : List ℕ) (at : ℕ) (front part : List ℕ) → StandsAt bytes at (front ++ part) → StandsAt bytes (at + length front) part
stands-back bytes at front part h =
    let more = drop (length (front ++ part)) (drop at bytes) in
    let e : drop at bytes ≡ front ++ (part ++ more) = split bytes at (front ++ part) h ∙ append_assoc front part more in
    stands-of bytes (at + length front) part more
    (sym (drop-drop (length front) at bytes) ∙ ap (drop (length front)) e ∙ drop_at front (part ++ more) (length front) refl)
