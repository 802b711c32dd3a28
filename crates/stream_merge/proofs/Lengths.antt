-- No stamp becomes shorter where a version is added to it, and no record where its stamp does not.
use Rattle.std.proofs.Common.{◌≡◌, ℕ, ◌+◌, ◌*◌, ◌≤◌, ◌==◌, Bool, true, false, cond, List, [], ◌∷◌, ◌++◌, length, Some, None, refl, sym, subst, ◌∙◌, arith}
use Rattle.std.specs.Bool.{⊤}
use Rattle.std.specs.List.{flat_map}
use Rattle.std.proofs.lemmas.List.{length-append}
use Rattle.version_set.specs.Pairs.{IsCanonical}
use Rattle.version_set.specs.Members.{members, before, intervals, with_last}
use Rattle.version_set.proofs.MembersLemmas.{intervals-members}
use Rattle.timestamp_tree.specs.Bytes.{pair_bytes, set_bytes}
use Rattle.timestamp_tree.proofs.Trees.{length-pairs}
use Rattle.xa_fields.specs.Spelling.{u32_bytes, u64_bytes}
use Rattle.keyed_tree.specs.Data.{PlainKey, PlainLabel}
use Rattle.archive_tree.specs.Data.{Stamp}
use Rattle.record_parts.specs.Spelling.{label_bytes, value_bytes, stamp_bytes}
use Rattle.record_format.specs.Data.{alt_rec}
use Rattle.record_format.specs.Spelling.{framed, rec_bytes}
use Rattle.nested_merge.specs.Merged.{grown}
use Rattle.stream_merge.specs.Meets.{opening_of}
use Rattle.stream_merge.specs.declared.begin.Kind.{Kind}
use Rattle.stream_merge.specs.declared.begin.Kind.TheVariants.{Inner, Leaf}

-- ---- intervals

-- where the first interval begins
abbrev start : List (ℕ × ℕ) → ℕ
start [] = 0
start (p ∷ ps) = p.0

abbrev NotEmpty : List (ℕ × ℕ) → Type 0
NotEmpty ps = 1 ≤ length ps

begins : (n : ℕ) (ps : List (ℕ × ℕ)) → NotEmpty (before n ps) × (start (before n ps) ≡ n)
begins n [] = (omega arith, refl)
begins n (p ∷ ps) = elim (n + 1 == p.0) as (λ b. NotEmpty (cond b ((n, p.1) ∷ ps) ((n, n) ∷ p ∷ ps)) × (start (cond b ((n, p.1) ∷ ps) ((n, n) ∷ p ∷ ps)) ≡ n)) [
  | true ↦ (omega arith, refl)
  | false ↦ (omega arith, refl)
]

same_start : (n a b d : ℕ) (ps qs : List (ℕ × ℕ)) → length ps ≤ length qs → length (before n ((a, b) ∷ ps)) ≤ length (before n ((a, d) ∷ qs))
same_start n a b d ps qs le =
    elim (n + 1 == a) as (λ (t : Bool). length (cond t ((n, b) ∷ ps) ((n, n) ∷ (a, b) ∷ ps)) ≤ length (cond t ((n, d) ∷ qs) ((n, n) ∷ (a, d) ∷ qs))) [
      | true ↦ omega (arith, le)
      | false ↦ omega (arith, le)
    ]

no_less : (n : ℕ) (ps qs : List (ℕ × ℕ)) → NotEmpty ps → NotEmpty qs → start ps ≡ start qs → length ps ≤ length qs → length (before n ps) ≤ length (before n qs)
no_less n [] qs h g e le = absurd (omega (arith, h))
no_less n (p ∷ ps) [] h g e le = absurd (omega (arith, g))
no_less n (p ∷ ps) (q ∷ qs) h g e le = subst (λ (a : ℕ). length (before n (p ∷ ps)) ≤ length (before n ((a, q.1) ∷ qs))) e (same_start n p.0 p.1 q.1 ps qs (omega (arith, le)))

-- one more number makes no fewer intervals
intervals_more : (ns : List ℕ) (n : ℕ) → length (intervals ns) ≤ length (intervals (ns ++ n ∷ []))
intervals_more [] n = omega arith
intervals_more (m ∷ []) n = (begins m ((n, n) ∷ [])).0
intervals_more (m ∷ k ∷ ks) n =
    let less = begins k (intervals ks) in
    let more = begins k (intervals (ks ++ n ∷ [])) in
    no_less m (intervals (k ∷ ks)) (intervals (k ∷ (ks ++ n ∷ []))) less.0 more.0 (less.1 ∙ sym more.1) (intervals_more (k ∷ ks) n)

with_last_more : (s : List (ℕ × ℕ)) (n : ℕ) → IsCanonical s → length s ≤ length (with_last s n)
with_last_more s n c = subst (λ (z : List (ℕ × ℕ)). length z ≤ length (with_last s n)) (intervals-members 1 s c) (intervals_more (members s) n)

-- ---- stamps

set_size : (s : List (ℕ × ℕ)) → length (set_bytes s) ≡ 4 + 8 * length s
set_size s = (let e = length-append (u32_bytes (length s)) (flat_map pair_bytes s) in let f = length-pairs s in omega (arith, e, f))

-- what is stored of a stamp is canonical
abbrev pub IsStored : Stamp → Type 0
IsStored None = ⊤
IsStored (Some s) = IsCanonical s

pub grown_more : (n : ℕ) (s : Stamp) → IsStored s → length (stamp_bytes s) ≤ length (stamp_bytes (grown n s))
grown_more n None c = omega arith
grown_more n (Some s) c = (let e = set_size s in let f = set_size (with_last s n) in let le = with_last_more s n c in omega (arith, e, f, le))

-- ---- records

-- the stamp of the other takes as many bytes, or more
abbrev pub Longer : Stamp → Stamp → Type 0
Longer s t = length (stamp_bytes s) ≤ length (stamp_bytes t)

framed_more : (kind : ℕ) (a b : List ℕ) → length a ≤ length b → length (framed kind a) ≤ length (framed kind b)
framed_more kind a b le =
    let e = length-append (u64_bytes (length a)) a in
    let f = length-append (u64_bytes (length b)) b in
    omega (arith, e, f, le)

behind : (l : List ℕ) (s t : Stamp) → Longer s t → length (l ++ stamp_bytes s) ≤ length (l ++ stamp_bytes t)
behind l s t le = (let e = length-append l (stamp_bytes s) in let f = length-append l (stamp_bytes t) in omega (arith, e, f, le))

pub opening_longer : (kind : Kind) (l : PlainLabel) (s t : Stamp) → Longer s t → length (rec_bytes (opening_of kind l s)) ≤ length (rec_bytes (opening_of kind l t))
opening_longer Inner l s t le = framed_more 1 (label_bytes l ++ stamp_bytes s) (label_bytes l ++ stamp_bytes t) (behind (label_bytes l) s t le)
opening_longer Leaf l s t le = framed_more 2 (label_bytes l ++ stamp_bytes s) (label_bytes l ++ stamp_bytes t) (behind (label_bytes l) s t le)

pub alt_longer : (s t : Stamp) (b : PlainKey) → Longer s t → length (rec_bytes (alt_rec s b)) ≤ length (rec_bytes (alt_rec t b))
alt_longer s t b le =
    let e = length-append (stamp_bytes s) (value_bytes b) in
    let f = length-append (stamp_bytes t) (value_bytes b) in
    framed_more 3 (stamp_bytes s ++ value_bytes b) (stamp_bytes t ++ value_bytes b) (omega (arith, e, f, le))
