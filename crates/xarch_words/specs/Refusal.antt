-- Why a command ends without its answer: plain data, with a list of bytes for each name and a list of positions for each place.
use Rattle.std.specs.Prelude.{ℕ, List}
use Rattle.key_rules.specs.Faults.{PlainKeyFault}

-- what has a limit
pub data PlainQuantity : Type 0 where
  document : PlainQuantity
  depth : PlainQuantity
  versions : PlainQuantity
  specification : PlainQuantity
  archive : PlainQuantity
  line : PlainQuantity
  batch : PlainQuantity
  demo : PlainQuantity
  note : PlainQuantity
  text : PlainQuantity

-- A refusal is an answer of the command itself: the words and the files alone say when it comes.
pub data Refusal : Type 0 where
  usage : Refusal
  no_file : List ℕ → Refusal
  exists : List ℕ → Refusal
  -- the line and why
  bad_spec : ℕ → ℕ → Refusal
  bad_json : Refusal
  -- the place and why
  bad_shape : List ℕ → ℕ → Refusal
  key_fault : PlainKeyFault → Refusal
  -- the version and its fault
  key_fault_in : ℕ → PlainKeyFault → Refusal
  -- the version that was asked for, and how many there are
  no_version : ℕ → ℕ → Refusal
  -- the step, which counts from 1, or 0 for the path as a whole
  bad_path : ℕ → Refusal
  -- the name of the archive
  damaged : List ℕ → Refusal
  -- the quantity and the number that it passed
  limit : PlainQuantity → ℕ → Refusal
  not_frontier : Refusal
  -- the names of the two archives
  spec_differs : List ℕ → List ℕ → Refusal
  -- the record, which counts from 1, or 0 where there is none, and why
  bad_csv : ℕ → ℕ → Refusal
  bad_text : Refusal

-- A fault is a refusal, a failure of the folder, of the output or of the input, or want of memory.
pub data PlainFault : Type 0 where
  refused : Refusal → PlainFault
  folder_fault : PlainFault
  out_fault : PlainFault
  in_fault : PlainFault
  memory : PlainFault
