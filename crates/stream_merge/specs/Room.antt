-- What a part of the merge has the writer do, whatever the archive is, up to a call that does not fit.
use Rattle.std.specs.Prelude.{◌≡◌, ℕ, List, ◌∷◌, ◌++◌, Option, Some, None, ⊤}
use Rattle.std.specs.List.{AllByRecursion}
use Rattle.record_writer.specs.Calls.{all_appended, after_all, Fits, AllFit}
use Rattle.record_writer.specs.Data.{PlainWriter, WriterCall}
use Rattle.stream_merge.specs.Short.{IsShortCall}
use Rattle.stream_merge.specs.declared.fault.MergeFault.{MergeFault}
use Rattle.stream_merge.specs.declared.fault.MergeFault.TheVariants.{TooLong}

-- Of these calls some were made, which all fit and appended these bytes, and the next one does not fit.
pub record Stops (x : List ℕ) (cs : List WriterCall) (v : PlainWriter) : Type 0 where
  pub made : List WriterCall
  pub next : WriterCall
  pub others : List WriterCall
  pub walk : cs ≡ made ++ next ∷ others
  pub same : x ≡ all_appended v made
  pub fit : AllFit v made
  pub over : ¬ Fits (after_all v made) next

abbrev pub StopsIf : List ℕ → List WriterCall → PlainWriter → Option MergeFault → Type 0
StopsIf x cs v (Some TooLong) = Stops x cs v
StopsIf x cs v other = ⊤

-- Some calls that are given short parts were made, which all fit and appended these bytes.
pub record Went (b n : ℕ) (x : List ℕ) (v w : PlainWriter) : Type 0 where
  pub made : List WriterCall
  pub short : AllByRecursion (IsShortCall b n) made
  pub same : x ≡ all_appended v made
  pub fit : AllFit v made
  pub writer : w ≡ after_all v made

-- And one that is given short parts too does not fit behind them.
pub record NoRoom (b n : ℕ) (x : List ℕ) (v : PlainWriter) : Type 0 where
  pub made : List WriterCall
  pub next : WriterCall
  pub short : AllByRecursion (IsShortCall b n) made
  pub next_short : IsShortCall b n next
  pub same : x ≡ all_appended v made
  pub fit : AllFit v made
  pub over : ¬ Fits (after_all v made) next

-- Calls that are given short parts were made, up to one that does not fit where the file would be too long.
abbrev pub WentIf : ℕ → ℕ → List ℕ → PlainWriter → PlainWriter → Option MergeFault → Type 0
WentIf b n x v w None = Went b n x v w
WentIf b n x v w (Some TooLong) = NoRoom b n x v
WentIf b n x v w (Some other) = ⊤

-- the same of the last part, behind which there is no writer
abbrev pub NoRoomIf : ℕ → ℕ → List ℕ → PlainWriter → Option MergeFault → Type 0
NoRoomIf b n x v (Some TooLong) = NoRoom b n x v
NoRoomIf b n x v other = ⊤
