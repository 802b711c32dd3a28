-- What holds of each command, by its kind.
use Rattle.std.proofs.Common.{◌≡◌, ℕ, List, Option, Some, None, refl, ap}
use Rattle.std.specs.Prelude.{MatchOption, option_map}
use Rattle.xarch_words.specs.Commands.{PlainCommand, norm, init, add, rekey, get, history, log, check, stats, versions, export, import, cut, join, table, tablekeys, batch, demo}
use Rattle.xarch_words.specs.Refusal.{PlainFault, damaged, refused}
use Rattle.xarch_meanings.specs.Meaning.{IsReading, Way, by_lines, in_turn, made_by, name_of, only_reads, stores}
use Rattle.xarch_meanings.specs.Meanings.{IsMetLate, MayHaveWritten, said}
use Rattle.xarch_meanings.specs.Ran.{status_after}
use Rattle.xarch_meanings.specs.Step.{alone}

-- what only reads makes no file
pub reading-none : (way : Way) → IsReading way → option_map name_of (made_by way) ≡ None
reading-none only_reads h = refl
reading-none (stores made) h = absurd h
reading-none (in_turn made) h = absurd h
reading-none by_lines h = absurd h

-- what was met late has the status of damage
pub met-status : (c : Option PlainCommand) (e : Option PlainFault) → IsMetLate c e → MayHaveWritten c (status_after e)
met-status c e late = by_late (said c).late late
  where
    by_late : (o : Option (List ℕ)) → MatchOption o ⊥ (λ name. e ≡ Some (refused (damaged name))) → MatchOption o ⊥ (λ name. status_after e ≡ 11)
    by_late None h = h
    by_late (Some name) h = ap status_after h

-- what is no batch is a command by itself
pub single-alone : (command : PlainCommand) → ¬ (command ≡ batch) → alone (Some command) ≡ Some command
single-alone (norm spec doc) other = refl
single-alone (init archive spec) other = refl
single-alone (add archive doc note) other = refl
single-alone (rekey archive spec) other = refl
single-alone (get archive i) other = refl
single-alone (history archive path) other = refl
single-alone (log archive path) other = refl
single-alone (check archive) other = refl
single-alone (stats archive) other = refl
single-alone (versions archive) other = refl
single-alone (export archive) other = refl
single-alone (import text new) other = refl
single-alone (cut archive new i j) other = refl
single-alone (join one two new) other = refl
single-alone (table csv tag keys doc) other = refl
single-alone (tablekeys tag keys spec) other = refl
single-alone batch other = absurd (other refl)
single-alone (demo seed count archive) other = refl
