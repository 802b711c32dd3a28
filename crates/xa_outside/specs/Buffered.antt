-- What a buffer in front of a sink shows.
use Rattle.std.specs.Prelude.{ℕ, List, ◌∷◌}
use Rattle.std.specs.Borrow.{MutBor}
use Rattle.std.specs.Io.KnownBytes.{append_known}
use Rattle.xa_outside.specs.Taken.{Taken}
use Rattle.xa_outside.specs.Held.{held_bytes}
use Rattle.xa_outside.specs.declared.buffered.Buffered.{Buffered}

-- what a buffer has taken in front of a sink of this name: what that sink has taken, and then the bytes that wait
abbrev pub taken_before : ℕ → Taken → List ℕ → Taken
taken_before name inner waiting =
    record {
      bytes = append_known inner.bytes waiting;
      behind = record { name = name; bytes = inner.bytes } ∷ inner.behind;
    }

module _ {O : Type 0} where
  -- the sink behind it
  abbrev pub sink_behind : Buffered O → MutBor O
  sink_behind b = b.out

  -- the bytes that it has not passed on yet
  abbrev pub waiting_bytes : Buffered O → List ℕ
  waiting_bytes b = held_bytes b.held

  abbrev pub buffered_taken : (O → Taken) → Buffered O → Taken
  buffered_taken taken b = taken_before b.out.ghost_name (taken b.out.now) (waiting_bytes b)

  -- a buffer fails only where the sink behind does
  abbrev pub buffered_faults : (O → ℕ) → Buffered O → ℕ
  buffered_faults faults b = faults b.out.now
