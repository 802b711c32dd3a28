-- A stored set is not empty.
use Rattle.std.proofs.Common.{◌≡◌, ℕ, zero, suc, ◌<◌, ◌==◌, true, false, Bool, cond, List, length, Option, Some, None, refl, sym, arith}
use Rattle.std.specs.Int.{w32}
use Rattle.archive_tree.specs.Data.{Stamp}
use Rattle.xa_fields.specs.Reading.{◌>>=◌, number_at, chain_at, chained_at}
use Rattle.xa_fields.specs.Laws.{IsBytes}
use Rattle.timestamp_tree.specs.Bytes.{pair_bytes}
use Rattle.record_parts.specs.Bounds.{most}
use Rattle.record_parts.specs.Behind.{behind}
use Rattle.timestamp_tree.specs.Reading.{pair_at, next_pair}
use Rattle.record_parts.specs.Reading.{stamp_of}
use Rattle.xa_fields.proofs.Chains.{chain_read}
use Rattle.record_parts.specs.Readers.{not_zero}
use Rattle.record_parts.specs.Parts.{IsPair, pair_reads}

-- no intervals
pub no_set : (bytes after : List ℕ) (count : ℕ) → count ≡ 0 → Some (count, after) ≡ number_at w32 bytes → behind (stamp_of 1 bytes) ≡ None
unfolding stamp_of chained_at chain_at
no_set bytes after zero z e = (let f = sym e in rw f refl)
no_set bytes after (suc n) z e = absurd (omega arith)

-- a stored set that is not empty
abbrev stored : List (ℕ × ℕ) × List ℕ → Option (Stamp × List ℕ)
stored x = Some (Some x.0, x.1)

kept_if : (b : Bool) (x : List (ℕ × ℕ) × List ℕ) → b ≡ false → behind (cond b None (stored x)) ≡ Some x.1
kept_if true x e = absurd cc
kept_if false x e = refl

kept : (r : Option (List (ℕ × ℕ) × List ℕ)) → ((x : List (ℕ × ℕ) × List ℕ) → r ≡ Some x → 0 < length x.0) → behind (r >>= λ s. cond (length s.0 == 0) None (stored s)) ≡ behind r
kept (Some x) h = kept_if (length x.0 == 0) x (not_zero (length x.0) (h x refl))
kept None h = refl

-- at least one interval
pub some_set : (bytes after : List ℕ) (count : ℕ) → IsBytes after → 0 < count → Some (count, after) ≡ number_at w32 bytes → behind (chain_at pair_at (next_pair most) 1 count after) ≡ behind (stamp_of 1 bytes)
unfolding stamp_of chained_at
some_set bytes after count fits lt e =
    let f = sym e in
    let long : (x : List (ℕ × ℕ) × List ℕ) → chain_at pair_at (next_pair most) 1 count after ≡ Some x → 0 < length x.0 = λ x g. omega (arith, (chain_read pair_at (next_pair most) pair_bytes IsPair pair_reads 1 count after x fits g).count) in
    rw f (sym (kept (chain_at pair_at (next_pair most) 1 count after) long))
