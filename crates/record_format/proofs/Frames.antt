-- The length of a body, set where room was left for it.
use Rattle.std.proofs.Common.{◌≡◌, ℕ, ◌+◌, ◌-◌, List, [], ◌∷◌, ◌++◌, length, take, drop, ap, ◌∙◌, append_assoc, arith}
use Rattle.std.proofs.lemmas.List.{take_at, drop_at, length-append}
use Rattle.xa_fields.specs.Spelling.{u64_bytes}
use Rattle.record_format.specs.Spelling.{framed}

pub length_set : (old new front body : List ℕ) (kind at n : ℕ) → n ≡ length old - at → old ≡ (front ++ kind ∷ u64_bytes 0) ++ body → at ≡ length front + 9
    → new ≡ take (at - 8) old ++ (u64_bytes n ++ drop (at - 8 + 8) old) → new ≡ front ++ framed kind body
length_set old new front body kind at n n_is e at_is h =
    let head : List ℕ = front ++ kind ∷ [] in
    let opened : List ℕ = front ++ kind ∷ u64_bytes 0 in
    let head_length : length head ≡ at - 8 = omega (arith, length-append front (kind ∷ [])) in
    let open_length : length opened ≡ at - 8 + 8 = omega (arith, length-append front (kind ∷ u64_bytes 0)) in
    let size : length old ≡ length opened + length body = ap length e ∙ length-append opened body in
    let body_length : n ≡ length body = omega arith in
    let parted : old ≡ head ++ (u64_bytes 0 ++ body) = e ∙ simp append_assoc in
    let before : take (at - 8) old ≡ head = ap (take (at - 8)) parted ∙ take_at head (u64_bytes 0 ++ body) (at - 8) head_length in
    let behind : drop (at - 8 + 8) old ≡ body = ap (drop (at - 8 + 8)) e ∙ drop_at opened body (at - 8 + 8) open_length in
    h ∙ rw (before, behind, body_length) (append_assoc front (kind ∷ []) (u64_bytes (length body) ++ body))

-- ---- a record that was opened, filled and closed

-- what closing says of it
abbrev pub Closes : List ℕ → List ℕ → ℕ → Type 0
Closes filled new at = (front body : List ℕ) (kind : ℕ) → filled ≡ (front ++ kind ∷ u64_bytes 0) ++ body → at ≡ length front + 9 → new ≡ front ++ framed kind body

pub closed_is : (old opened filled new body : List ℕ) (kind at : ℕ) → opened ≡ old ++ kind ∷ u64_bytes 0 → at ≡ length old + 9 → filled ≡ opened ++ body → Closes filled new at → new ≡ old ++ framed kind body
closed_is old opened filled new body kind at o at_is f close = close old body kind (f ∙ ap (λ (z : List ℕ). z ++ body) o) at_is

-- with two parts
pub closed_both : (old opened half filled new x y : List ℕ) (kind at : ℕ) → opened ≡ old ++ kind ∷ u64_bytes 0 → at ≡ length old + 9 → half ≡ opened ++ x → filled ≡ half ++ y → Closes filled new at → new ≡ old ++ framed kind (x ++ y)
closed_both old opened half filled new x y kind at o at_is h f close =
    closed_is old opened filled new (x ++ y) kind at o at_is (f ∙ ap (λ (z : List ℕ). z ++ y) h ∙ append_assoc opened x y) close
