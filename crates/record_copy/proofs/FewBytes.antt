-- The parts of records that are read, and their bytes.
use Rattle.std.proofs.Common.{◌==◌, ℕ, ◌≤◌, true, false, cond, List, [], ◌∷◌, length, Some, None, refl, arith}
use Rattle.std.proofs.lemmas.List.{length-append}
use Rattle.version_set.specs.Members.{upto_pairs}
use Rattle.timestamp_tree.specs.Bytes.{set_bytes}
use Rattle.timestamp_tree.proofs.Trees.{length-set_bytes}
use Rattle.keyed_tree.specs.Data.{PlainKey, PlainLabel}
use Rattle.archive_tree.specs.Data.{Stamp}
use Rattle.record_format.specs.Data.{inner_rec, leaf_rec, alt_rec}
use Rattle.record_format.specs.Spelling.{rec_bytes}
use Rattle.record_format.proofs.Pieces.{rec-length}
use Rattle.record_parts.specs.Spelling.{label_bytes, stamp_bytes, value_bytes}
use Rattle.record_cursor.specs.Next.{size_of}
use Rattle.record_cursor.specs.Places.{Standing}
use Rattle.record_copy.specs.Parts.{opening_of}
use Rattle.record_copy.specs.Raised.{raised_stamp}
use Rattle.record_copy.specs.Short.{IfStored, IsRaisedOf}
use Rattle.record_copy.specs.declared.kind.Kind.{Kind}
use Rattle.record_copy.specs.declared.kind.Kind.TheVariants.{Inner, Leaf}

-- a stored set takes at most so many bytes
abbrev pub IsFewStamp : ℕ → Stamp → Type 0
IsFewStamp b s = IfStored (λ t. length (set_bytes t) ≤ b) s

pub opening-long : (kind : Kind) (c : Standing) (l : PlainLabel) (s : Stamp) → 9 ≤ size_of c (opening_of kind l s)
opening-long Inner c l s = omega arith
opening-long Leaf c l s = omega arith

pub alternative-long : (s : Stamp) (v : PlainKey) → 9 ≤ length (rec_bytes (alt_rec s v))
alternative-long s v = (let e = rec-length (alt_rec s v) in omega (arith, e))

pub opening-parts : (b : ℕ) (kind : Kind) (c : Standing) (l : PlainLabel) (s : Stamp) → size_of c (opening_of kind l s) ≤ b → (length (label_bytes l) ≤ b) × IsFewStamp b s
opening-parts b Inner c l None le = (let e = rec-length (inner_rec l None) in let f = length-append (label_bytes l) (stamp_bytes None) in (omega (arith, e, f, le), tt))
opening-parts b Leaf c l None le = (let e = rec-length (leaf_rec l None) in let f = length-append (label_bytes l) (stamp_bytes None) in (omega (arith, e, f, le), tt))
opening-parts b Inner c l (Some s) le = (let e = rec-length (inner_rec l (Some s)) in let f = length-append (label_bytes l) (1 ∷ set_bytes s) in (omega (arith, e, f, le), omega (arith, e, f, le)))
opening-parts b Leaf c l (Some s) le = (let e = rec-length (leaf_rec l (Some s)) in let f = length-append (label_bytes l) (1 ∷ set_bytes s) in (omega (arith, e, f, le), omega (arith, e, f, le)))

pub alternative-parts : (b : ℕ) (s : Stamp) (v : PlainKey) → length (rec_bytes (alt_rec s v)) ≤ b → IsFewStamp b s × (length (value_bytes v) ≤ b)
alternative-parts b None v le = (let e = rec-length (alt_rec None v) in let f = length-append (0 ∷ []) (value_bytes v) in (tt, omega (arith, e, f, le)))
alternative-parts b (Some s) v le = (let e = rec-length (alt_rec (Some s) v) in let f = length-append (1 ∷ set_bytes s) (value_bytes v) in (omega (arith, e, f, le), omega (arith, e, f, le)))

-- what is stored is raised of few bytes
pub raised-few : (b n : ℕ) (s : Stamp) → IsFewStamp b s → IfStored (IsRaisedOf b n) (raised_stamp n s)
raised-few b n None h = tt
raised-few b n (Some s) h = (s, h, refl)

-- the set of all versions takes few bytes
pub upto-few : (n : ℕ) → length (set_bytes (upto_pairs n)) ≤ 12
upto-few n = (let size = length-set_bytes (upto_pairs n) in let few = one n in omega (arith, size, few))
  where
    one : (n : ℕ) → length (upto_pairs n) ≤ 1
    one n = elim (n == 0) as (λ t. length (cond {A = List (ℕ × ℕ)} t [] ((1, n) ∷ [])) ≤ 1) [ true ↦ omega arith | false ↦ omega arith ]
