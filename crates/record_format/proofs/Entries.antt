-- What is read of entries is spelled so, and what is spelled so is read.
use Rattle.std.proofs.Common.{◌≡◌, ℕ, List, ◌++◌, Some, refl, ap, subst, ◌∙◌, append_assoc}
use Rattle.std.specs.Int.{w64}
use Rattle.xa_fields.specs.Spelling.{u64_bytes}
use Rattle.xa_fields.specs.Reading.{◌>>=◌, number_at}
use Rattle.xa_fields.specs.Laws.{IsBytes, Read, Reads}
use Rattle.xa_fields.proofs.Fields.{bind_some, some_is, Takes-then, u64_reads}
use Rattle.record_format.specs.Data.{PlainEntry}
use Rattle.record_format.specs.Spelling.{entry_bytes}
use Rattle.record_format.specs.Bounds.{IsEntry}
use Rattle.record_format.specs.Reading.{entry_at}

entry_read : (bytes : List ℕ) (x : PlainEntry × List ℕ) → IsBytes bytes → entry_at bytes ≡ Some x → Read entry_bytes IsEntry bytes x
unfolding entry_at
entry_read bytes x fits e =
    let a = bind_some (number_at w64 bytes) (λ start. number_at w64 start.1 >>= λ length. number_at w64 length.1 >>= λ dir. Some (record { start = start.0; length = length.0; dir = dir.0 }, dir.1)) x e in
    let b = bind_some (number_at w64 a.0.1) (λ length. number_at w64 length.1 >>= λ dir. Some (record { start = a.0.0; length = length.0; dir = dir.0 }, dir.1)) x a.2 in
    let c = bind_some (number_at w64 b.0.1) (λ dir. Some (record { start = a.0.0; length = b.0.0; dir = dir.0 }, dir.1)) x b.2 in
    let r = u64_reads.takes bytes a.0 fits a.1 in
    let s = u64_reads.takes a.0.1 b.0 r.takes.rest_fits b.1 in
    let t = u64_reads.takes b.0.1 c.0 s.takes.rest_fits c.1 in
    let last = Takes-then a.0.1 (u64_bytes b.0.0) b.0.1 (u64_bytes c.0.0) c.0.1 s.takes t.takes in
    let made : PlainEntry × List ℕ = (record { start = a.0.0; length = b.0.0; dir = c.0.0 }, c.0.1) in
    subst (λ (y : PlainEntry × List ℕ). Read entry_bytes IsEntry bytes y) (some_is made x c.2) (record {
      takes = Takes-then bytes (u64_bytes a.0.0) a.0.1 (u64_bytes b.0.0 ++ u64_bytes c.0.0) c.0.1 r.takes last;
      fits = record { start = r.fits; length = s.fits; dir = t.fits };
    })

entry_again : (e : PlainEntry) (rest : List ℕ) → IsEntry e → entry_at (entry_bytes e ++ rest) ≡ Some (e, rest)
unfolding entry_at
entry_again e rest h =
    let regrouped : entry_bytes e ++ rest ≡ u64_bytes e.start ++ (u64_bytes e.length ++ (u64_bytes e.dir ++ rest)) = simp append_assoc in
    let first = u64_reads.again e.start (u64_bytes e.length ++ (u64_bytes e.dir ++ rest)) h.start in
    let second = u64_reads.again e.length (u64_bytes e.dir ++ rest) h.length in
    let third = u64_reads.again e.dir rest h.dir in
    ap entry_at regrouped ∙ rw (first, second, third) refl

pub entry_reads : Reads entry_at entry_bytes IsEntry
entry_reads = record { takes = entry_read; again = entry_again }
