-- The input files of a command.
use Rattle.std.specs.Prelude.{ℕ, ◌^◌, ◌-◌, List, length, nat_le, Option, Some, None, Result, Ok, Err, if◌then◌else◌}
use Rattle.std.specs.FinMap as map
use Rattle.xa_outside.specs.Folder.{Files, bytes_or_none}
use Rattle.xarch_words.specs.Refusal.{PlainQuantity, Refusal, no_file, limit}
use Rattle.xarch_parts.specs.Outcome.{and_then, or_refuse}

-- the bytes of the file of this name
abbrev pub file_of : Files → List ℕ → Result (List ℕ) Refusal
file_of files name = or_refuse (map.get files name) (no_file name)

-- the length of the file of this name
abbrev pub file_length : Files → List ℕ → Result ℕ Refusal
file_length files name = and_then (file_of files name) (λ bytes. Ok (length bytes))

-- a number that is at most the limit
abbrev pub at_most : PlainQuantity → ℕ → ℕ → Result ℕ Refusal
at_most quantity most n = if nat_le n most then Ok n else Err (limit quantity most)

-- the length of the file of this name, which is at most the limit
abbrev pub length_in : Files → List ℕ → PlainQuantity → ℕ → Result ℕ Refusal
length_in files name quantity most = and_then (file_of files name) (λ bytes. at_most quantity most (length bytes))

-- what the bytes of the file of this name are read as
abbrev pub read_in : {A : Type 0} → Files → List ℕ → (List ℕ → Result A Refusal) → Result A Refusal
read_in files name reading = and_then (file_of files name) reading

-- the length of the file of this name, and the greatest of all lengths where files are not told
abbrev pub size_in : Option Files → List ℕ → ℕ
size_in None name = 2 ^ 64 - 1
size_in (Some files) name = length (bytes_or_none (map.get files name))
