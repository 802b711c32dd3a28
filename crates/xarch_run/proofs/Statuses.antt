-- The statuses of faults, each of which tells some of them.
use Rattle.std.proofs.Common.{◌≡◌, ◌≢◌, ◌⊎◌, inl, inr, ℕ, List, ◌==◌, ◌≤◌, Bool, true, false, cond, Option, None, Some, refl, ap, arith}
use Rattle.std.specs.Prelude.{IsSome}
use Rattle.std.proofs.lemmas.Bool.{eqb-true}
use Rattle.xarch_words.specs.Lines.{refusal_status}
use Rattle.xarch_words.specs.Refusal.{Refusal, usage, no_file, exists, bad_spec, bad_json, bad_shape, key_fault, key_fault_in, no_version, bad_path, damaged, limit, not_frontier, spec_differs, bad_csv, bad_text, PlainFault, refused, folder_fault, out_fault, in_fault, memory}
use Rattle.xarch_meanings.specs.Ran.{outside_of, status_after}
use Rattle.xarch_meanings.specs.Meanings.{IsLimited}

-- words that are no command have the status 2, and every other refusal a greater one
by-status : (q : Refusal) → (q ≡ usage) ⊎ (3 ≤ refusal_status q)
by-status usage = inl refl
by-status (no_file n) = inr (omega arith)
by-status (exists n) = inr (omega arith)
by-status (bad_spec l w) = inr (omega arith)
by-status bad_json = inr (omega arith)
by-status (bad_shape p w) = inr (omega arith)
by-status (key_fault f) = inr (omega arith)
by-status (key_fault_in i f) = inr (omega arith)
by-status (no_version i n) = inr (omega arith)
by-status (bad_path s) = inr (omega arith)
by-status (damaged n) = inr (omega arith)
by-status (limit q n) = inr (omega arith)
by-status not_frontier = inr (omega arith)
by-status (spec_differs one two) = inr (omega arith)
by-status (bad_csv r w) = inr (omega arith)
by-status bad_text = inr (omega arith)

-- none has a status from 13 to 16
beside : (q : Refusal) → (refusal_status q ≤ 12) ⊎ (17 ≤ refusal_status q)
beside usage = inl (omega arith)
beside (no_file n) = inl (omega arith)
beside (exists n) = inl (omega arith)
beside (bad_spec l w) = inl (omega arith)
beside bad_json = inl (omega arith)
beside (bad_shape p w) = inl (omega arith)
beside (key_fault f) = inl (omega arith)
beside (key_fault_in i f) = inl (omega arith)
beside (no_version i n) = inl (omega arith)
beside (bad_path s) = inl (omega arith)
beside (damaged n) = inl (omega arith)
beside (limit q n) = inl (omega arith)
beside not_frontier = inr (omega arith)
beside (spec_differs one two) = inr (omega arith)
beside (bad_csv r w) = inr (omega arith)
beside bad_text = inr (omega arith)

never-outside : (q : Refusal) (m : ℕ) → 13 ≤ m → m ≤ 16 → refusal_status q ≢ m
never-outside q m low high e = elim (beside q) [
  | inl few ↦ omega (arith, few, low, e)
  | inr many ↦ omega (arith, many, high, e)
]

pub usage-only : (q : Refusal) → refusal_status q ≡ 2 → q ≡ usage
usage-only q two = elim (by-status q) [ inl e ↦ e | inr low ↦ absurd (omega (arith, low, two)) ]

-- 11 is the status of damage
pub damage-only : (q : Refusal) → refusal_status q ≡ 11 → (name : List ℕ) × (q ≡ damaged name)
damage-only usage e = absurd (omega (arith, e))
damage-only (no_file n) e = absurd (omega (arith, e))
damage-only (exists n) e = absurd (omega (arith, e))
damage-only (bad_spec l w) e = absurd (omega (arith, e))
damage-only bad_json e = absurd (omega (arith, e))
damage-only (bad_shape p w) e = absurd (omega (arith, e))
damage-only (key_fault f) e = absurd (omega (arith, e))
damage-only (key_fault_in i f) e = absurd (omega (arith, e))
damage-only (no_version i n) e = absurd (omega (arith, e))
damage-only (bad_path t) e = absurd (omega (arith, e))
damage-only (damaged name) e = (name, refl)
damage-only (limit q n) e = absurd (omega (arith, e))
damage-only not_frontier e = absurd (omega (arith, e))
damage-only (spec_differs one two) e = absurd (omega (arith, e))
damage-only (bad_csv r w) e = absurd (omega (arith, e))
damage-only bad_text e = absurd (omega (arith, e))

pub status-other : (q : Refusal) → refusal_status q ≢ 0
status-other q zero = elim (by-status q) [
  | inl e ↦ let is : refusal_status q ≡ 2 = ap refusal_status e in omega (arith, is, zero)
  | inr low ↦ omega (arith, low, zero)
]

other-number : (n m : ℕ) → n ≢ m → (n == m) ≡ false
other-number n m other = by_test (n == m) refl
  where
    by_test : (b : Bool) → (n == m) ≡ b → b ≡ false
    by_test true e = absurd (other (eqb-true n m e))
    by_test false e = refl

pub status-not-0 : (q : Refusal) → (refusal_status q == 0) ≡ false
status-not-0 q = other-number (refusal_status q) 0 (status-other q)

none-of : (a b c d : Bool) → a ≡ false → b ≡ false → c ≡ false → d ≡ false → cond a (Some folder_fault) (cond b (Some out_fault) (cond c (Some in_fault) (cond d (Some memory) None))) ≡ None
none-of false false false false e f g h = refl
none-of true b c d e f g h = absurd cc
none-of false true c d e f g h = absurd cc
none-of false false true d e f g h = absurd cc
none-of false false false true e f g h = absurd cc

-- no refusal has the status of a fault of the outside
pub outside_of-refusal : (q : Refusal) → outside_of (refusal_status q) ≡ None
outside_of-refusal q =
    let n = refusal_status q in
    none-of (n == 13) (n == 14) (n == 15) (n == 16) (other-number n 13 (never-outside q 13 (omega arith) (omega arith))) (other-number n 14 (never-outside q 14 (omega arith) (omega arith)))
    (other-number n 15 (never-outside q 15 (omega arith) (omega arith))) (other-number n 16 (never-outside q 16 (omega arith) (omega arith)))

-- ---- the status of an end

-- with 2 words end that are no command
pub end-usage : (v : Option PlainFault) → status_after v ≡ 2 → v ≡ Some (refused usage)
end-usage None two = absurd (omega (arith, two))
end-usage (Some (refused q)) two = ap (λ r. Some (refused r)) (usage-only q two)
end-usage (Some folder_fault) two = absurd (omega (arith, two))
end-usage (Some out_fault) two = absurd (omega (arith, two))
end-usage (Some in_fault) two = absurd (omega (arith, two))
end-usage (Some memory) two = absurd (omega (arith, two))

-- what does not end with 0 has a fault
pub end-failed : (v : Option PlainFault) → status_after v ≢ 0 → IsSome v
end-failed None some = absurd (some refl)
end-failed (Some f) some = refl

-- the status of a fault of the outside is that of no other
pub end-outside : (v : Option PlainFault) (f : PlainFault) → outside_of (status_after v) ≡ Some f → v ≡ Some f
end-outside None f h = cc
end-outside (Some (refused r)) f h = let none = outside_of-refusal r in cc
end-outside (Some folder_fault) f h = h
end-outside (Some out_fault) f h = h
end-outside (Some in_fault) f h = h
end-outside (Some memory) f h = h

-- 12 is the status of a limit
limit-only : (q : Refusal) → refusal_status q ≡ 12 → IsLimited (Some (refused q))
limit-only usage e = absurd (omega (arith, e))
limit-only (no_file n) e = absurd (omega (arith, e))
limit-only (exists n) e = absurd (omega (arith, e))
limit-only (bad_spec l w) e = absurd (omega (arith, e))
limit-only bad_json e = absurd (omega (arith, e))
limit-only (bad_shape p w) e = absurd (omega (arith, e))
limit-only (key_fault f) e = absurd (omega (arith, e))
limit-only (key_fault_in i f) e = absurd (omega (arith, e))
limit-only (no_version i n) e = absurd (omega (arith, e))
limit-only (bad_path t) e = absurd (omega (arith, e))
limit-only (damaged n) e = absurd (omega (arith, e))
limit-only (limit q n) e = tt
limit-only not_frontier e = absurd (omega (arith, e))
limit-only (spec_differs one two) e = absurd (omega (arith, e))
limit-only (bad_csv r w) e = absurd (omega (arith, e))
limit-only bad_text e = absurd (omega (arith, e))

pub end-limited : (v : Option PlainFault) → status_after v ≡ 12 → IsLimited v
end-limited None e = absurd (omega (arith, e))
end-limited (Some (refused q)) e = limit-only q e
end-limited (Some folder_fault) e = absurd (omega (arith, e))
end-limited (Some out_fault) e = absurd (omega (arith, e))
end-limited (Some in_fault) e = absurd (omega (arith, e))
end-limited (Some memory) e = absurd (omega (arith, e))
