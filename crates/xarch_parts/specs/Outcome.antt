-- What a command does: it is refused, or it has files and an output.
use Rattle.std.specs.Prelude.{ℕ, List, [], Option, Some, None, Result, Ok, Err}
use Rattle.xa_outside.specs.Folder.{Files}
use Rattle.xarch_words.specs.Refusal.{Refusal, refused}
use Rattle.xarch_words.specs.Lines.{refusal_status, fault_line}

-- the files afterwards, and what the output gains
pub record Outcome : Type 0 where
  pub files : Files
  pub output : List ℕ

-- go on with the value, or stay refused
abbrev pub and_then : {A B : Type 0} → Result A Refusal → (A → Result B Refusal) → Result B Refusal
and_then (Ok x) f = f x
and_then (Err r) f = Err r

-- the value, or else this refusal
abbrev pub or_refuse : {A : Type 0} → Option A → Refusal → Result A Refusal
or_refuse (Some x) r = Ok x
or_refuse None r = Err r

-- the output of what is defined, and none where it is refused
abbrev pub output_of : Result Outcome Refusal → List ℕ
output_of (Ok o) = o.output
output_of (Err r) = []

-- what the program does: the files afterwards, the output, the line on the error sink, the status
pub record Step : Type 0 where
  pub files : Files
  pub output : List ℕ
  pub line : List ℕ
  pub status : ℕ

-- A command that is refused changes no file and has no output.
abbrev pub step_from : Files → Result Outcome Refusal → Step
step_from files (Ok o) = record { files = o.files; output = o.output; line = []; status = 0 }
step_from files (Err r) = record { files = files; output = []; line = fault_line (refused r); status = refusal_status r }
