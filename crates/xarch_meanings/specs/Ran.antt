-- What a call of the program did, against what is defined.
use Rattle.std.specs.Prelude.{◌≡◌, ℕ, ◌==◌, List, [], Option, Some, None, if◌then◌else◌}
use Rattle.std.specs.Option.{option_map_or}
use Rattle.xa_outside.specs.Causes.{Rose}
use Rattle.xa_outside.specs.Folder.{Files}
use Rattle.xa_outside.specs.Taken.{Taken, Takes, TakesPrefix}
use Rattle.xarch_words.specs.Lines.{fault_status, fault_line}
use Rattle.xarch_words.specs.Refusal.{PlainFault, folder_fault, out_fault, in_fault, memory}
use Rattle.xarch_parts.specs.Outcome.{Step}
use Rattle.xarch_parts.specs.Ends.{TellsOnly}

-- 0 where it did what it should, else the status of its fault
abbrev pub status_after : Option PlainFault → ℕ
status_after ended = option_map_or fault_status ended 0

-- no line where it did what it should, else that of its fault
abbrev pub line_after : Option PlainFault → List ℕ
line_after ended = option_map_or fault_line ended []

-- the fault of the outside that has this status: of the folder, of the output, of the input, or want of memory
abbrev pub outside_of : ℕ → Option PlainFault
outside_of status =
    if status == 13 then Some folder_fault
    else (if status == 14 then Some out_fault
    else (if status == 15 then Some in_fault
    else (if status == 16 then Some memory
    else None)))

-- the sink gained the line, or a prefix of it where its count of faults rose
pub record Says (old new : Taken) (before now : ℕ) (line : List ℕ) : Type 0 where
  pub prefix : TakesPrefix old new line
  pub whole : ¬ Rose before now → Takes old new line

-- all is as the step says
pub record Ran (s : Step) (answer : ℕ) (after : Option Files) (old new err_old err_new : Taken) (before now : ℕ) : Type 0 where
  pub status : answer ≡ s.status
  pub files : TellsOnly after s.files
  pub output : Takes old new s.output
  pub line : Says err_old err_new before now s.line

-- Whatever the folder tells: the answer is 0 or the status of a fault, and the line is that of the fault.
pub record Said (answer : ℕ) (old new : Taken) (before now : ℕ) : Type 0 where
  pub fault : Option PlainFault
  pub status : answer ≡ status_after fault
  pub line : Says old new before now (line_after fault)
