-- What is pending, and what was read.
use Rattle.std.proofs.Common.{◌≡◌, ℕ, ◌-◌, ◌<◌, ◌≤◌, List, [], ◌∷◌, ◌++◌, length, take, drop, Option, None, Some, sym, ap, ◌∙◌, subst, arith, get_or, length-drop, length-take-le, append_assoc}
use Rattle.std.proofs.Math.ListN.{drop_of_length-le}
use Rattle.std.specs.Io.KnownBytes.{Consumes, Keeps, prepend_known}
use Rattle.std.proofs.KnownBytes.{prepend_known-nil}

-- ---- pending bytes

pub pending-none : (s e : ℕ) (xs : List ℕ) → e ≤ s → e ≤ length xs → drop s (take e xs) ≡ []
pending-none s e xs ordered within = let len : length (take e xs) ≡ e = length-take-le e xs within in drop_of_length-le (take e xs) (omega arith)

pub pending-length : (s e : ℕ) (xs : List ℕ) → e ≤ length xs → length (drop s (take e xs)) ≡ e - s
pending-length s e xs within = length-drop s (take e xs) ∙ ap (λ n. n - s) (length-take-le e xs within)

-- ---- what is ahead

pub Keeps-read : (a b : Option (List ℕ)) (bs : List ℕ) → Consumes a b bs → Keeps a (prepend_known bs b)
Keeps-read None b bs p = tt
Keeps-read (Some x) None bs p = absurd p
Keeps-read (Some x) (Some y) bs p = sym p

pub Keeps-nothing : (a b : Option (List ℕ)) → Consumes a b [] → Keeps a b
Keeps-nothing None b p = tt
Keeps-nothing (Some x) None p = absurd p
Keeps-nothing (Some x) (Some y) p = sym p

-- pending bytes were taken
pub Consumes-pending : (a : Option (List ℕ)) (piece before now : List ℕ) → before ≡ piece ++ now → Consumes (prepend_known before a) (prepend_known now a) piece
Consumes-pending None piece before now e = tt
Consumes-pending (Some x) piece before now e = ap (λ l. l ++ x) e ∙ append_assoc piece now x

pub Consumes-after_keeps : (a b c : Option (List ℕ)) (bs : List ℕ) → Keeps a b → Consumes b c bs → Consumes a c bs
Consumes-after_keeps None b c bs p q = tt
Consumes-after_keeps (Some x) None c bs p q = absurd p
Consumes-after_keeps (Some x) (Some y) None bs p q = absurd q
Consumes-after_keeps (Some x) (Some y) (Some z) bs p q = sym p ∙ q

first_byte : (xs : List ℕ) (n : ℕ) → n ≡ 1 → 0 < length xs → take n xs ≡ get_or xs 0 0 ∷ []
first_byte [] n one some = absurd (omega arith)
first_byte (x ∷ xs) n one some = ap (λ k. take k (x ∷ xs)) one

-- one byte was read, where none was pending
pub past_read : (a b : Option (List ℕ)) (before buf : List ℕ) (count : ℕ) → before ≡ [] → Consumes a b (take count buf) → count ≡ 1 → 0 < length buf → (x : ℕ) × Consumes (prepend_known before a) b (x ∷ [])
past_read a b before buf count none read one some = (
  get_or buf 0 0,
  subst (λ (u : Option (List ℕ)). Consumes u b (get_or buf 0 0 ∷ [])) (sym (ap (λ l. prepend_known l a) none ∙ prepend_known-nil a)) (subst (Consumes a b) (first_byte buf count one some) read),
)

pub ruleset feeds = (pending-none, pending-length, Keeps-read, Keeps-nothing)
