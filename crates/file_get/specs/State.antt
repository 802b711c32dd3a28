-- What the printing of a version goes along: a folder, an output with a printer, and a count of steps.
use Rattle.std.specs.Prelude.{ℕ, List, Option}
use Rattle.xa_outside.specs.Folder.{Files}
use Rattle.xa_outside.specs.Numbers.{Numbers}
use Rattle.xa_outside.specs.Taken.{Taken}
use Rattle.jsonml_print.specs.Pen.{Pen}

pub record State : Type 0 where
  pub files : Option Files
  pub draft : Option (List ℕ)
  pub numbers : Numbers
  pub faults : ℕ
  pub taken : Taken
  pub out_faults : ℕ
  pub pen : Pen
  pub steps : ℕ

-- The folder's files, draft, numbers and count of faults stand first, and then what the output has taken and its count of faults.
abbrev pub state : {S K : Type 0} → (S → Option Files) → (S → Option (List ℕ)) → (S → Numbers) → (S → ℕ) → (K → Taken) → (K → ℕ) → S → K → Pen → ℕ → State
state files draft numbers faults taken out_faults folder sink pen steps =
    record {
      files = files folder;
      draft = draft folder;
      numbers = numbers folder;
      faults = faults folder;
      taken = taken sink;
      out_faults = out_faults sink;
      pen = pen;
      steps = steps;
    }
