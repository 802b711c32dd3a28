-- What a call for the next line takes.
use Rattle.std.specs.Prelude.{◌≡◌, ◌≤◌, ℕ, ◌+◌, List, [], ◌∷◌, ◌++◌, length, Bool, true, false, Option, Result, Ok, Err}
use Rattle.std.specs.Io.KnownBytes.{Consumes, IsAtEnd}
use Rattle.xa_outside.specs.Filled.{ConsumesSome}
use Rattle.xarch_run.specs.Feed.{ahead, budget, pending}
use Rattle.xarch_run.specs.Lines.{has_line_feed}
use Rattle.xarch_run.specs.Shown.{Shows}
use Rattle.xarch_run.specs.declared.lines.Lines.{Lines}
use Rattle.xarch_run.specs.declared.stop.Stop.{Stop}
use Rattle.xarch_run.specs.declared.stop.Stop.TheVariants.{Failed, PastLimit, Memory}

-- A line that the LF ended was taken, with its LF.
pub record TakesEnded (before now : Lines) (old new : Option (List ℕ)) : Type 0 where
  pub bytes : List ℕ
  pub one : has_line_feed bytes ≡ false
  pub shows : Shows now.line bytes
  pub consumed : Consumes (ahead before.feed old) (ahead now.feed new) (bytes ++ 10 ∷ [])
  pub counted : length bytes + 1 + budget now.feed ≡ budget before.feed

-- What stood behind the last LF was taken, up to the end of the input.
pub record TakesLast (before now : Lines) (old new : Option (List ℕ)) : Type 0 where
  pub bytes : List ℕ
  pub one : has_line_feed bytes ≡ false
  pub shows : Shows now.line bytes
  pub consumed : Consumes (ahead before.feed old) new bytes
  pub ends : IsAtEnd new
  pub counted : length bytes ≤ budget before.feed

-- A read failed in the line of these bytes, which has no LF yet.
pub record FailsIn (before : Lines) (old new : Option (List ℕ)) : Type 0 where
  pub bytes : List ℕ
  pub one : has_line_feed bytes ≡ false
  pub consumed : Consumes (ahead before.feed old) new bytes
  pub counted : length bytes ≤ budget before.feed

-- The last byte that may come stands in the line of these bytes, which has no LF yet, and there is one more.
pub record EndsIn (before : Lines) (old new : Option (List ℕ)) : Type 0 where
  pub bytes : List ℕ
  pub one : has_line_feed bytes ≡ false
  pub byte : ℕ
  pub consumed : Consumes (ahead before.feed old) new (bytes ++ byte ∷ [])
  pub counted : length bytes ≡ budget before.feed

-- what a call for the next line took
abbrev pub TakesLine : Lines → Lines → Option (List ℕ) → Option (List ℕ) → Result Bool Stop → Type 0
TakesLine before now old new (Ok true) = TakesEnded before now old new
TakesLine before now old new (Ok false) = TakesLast before now old new
TakesLine before now old new (Err Failed) = FailsIn before old new
TakesLine before now old new (Err PastLimit) = EndsIn before old new
TakesLine before now old new (Err Memory) = ConsumesSome (ahead before.feed old) new

-- The pending bytes up to the first LF were put to the line, and that LF was taken.
pub record PutsEnd (before now : Lines) (line : List ℕ) : Type 0 where
  pub piece : List ℕ
  pub one : has_line_feed piece ≡ false
  pub shows : Shows now.line (line ++ piece)
  pub consumed : pending before.feed ≡ piece ++ 10 ∷ pending now.feed

-- All pending bytes were put to the line, for there is no LF among them.
pub record PutsAll (before now : Lines) (line : List ℕ) : Type 0 where
  pub one : has_line_feed (pending before.feed) ≡ false
  pub shows : Shows now.line (line ++ pending before.feed)
  pub consumed : pending now.feed ≡ []

-- whether an LF was taken
abbrev pub PutsPiece : Lines → Lines → List ℕ → Bool → Type 0
PutsPiece before now line true = PutsEnd before now line
PutsPiece before now line false = PutsAll before now line
