-- What is said of each command, and of the words of clauses that speak of it.
use Rattle.std.specs.Prelude.{◌≡◌, ◌⊎◌, ℕ, List, Option, Some, None, MatchOption, Result, Err, option_map, ⊤}
use Rattle.xa_outside.specs.Folder.{Files}
use Rattle.xa_outside.specs.Numbers.{Numbers}
use Rattle.xa_outside.specs.Taken.{Taken}
use Rattle.xarch_words.specs.Commands.{PlainCommand, norm, init, add, rekey, get, history, log, check, stats, versions, export, import, cut, join, table, tablekeys, batch, demo}
use Rattle.xarch_words.specs.Refusal.{PlainFault, Refusal, damaged, limit, refused, usage}
use Rattle.xarch_parts.specs.Ends.{EndsGained, Gained}
use Rattle.xarch_parts.specs.Outcome.{Outcome}
use Rattle.xarch_meanings.specs.Add.{add_meaning}
use Rattle.xarch_meanings.specs.Check.{check_meaning}
use Rattle.xarch_meanings.specs.Cut.{cut_meaning}
use Rattle.xarch_meanings.specs.Demo.{demo_meaning}
use Rattle.xarch_meanings.specs.Export.{export_meaning}
use Rattle.xarch_meanings.specs.Get.{get_meaning}
use Rattle.xarch_meanings.specs.History.{history_meaning}
use Rattle.xarch_meanings.specs.Import.{import_meaning}
use Rattle.xarch_meanings.specs.Init.{init_meaning}
use Rattle.xarch_meanings.specs.Join.{join_meaning}
use Rattle.xarch_meanings.specs.Log.{log_meaning}
use Rattle.xarch_meanings.specs.Meaning.{IsReading, Meaning, Meets, by_lines, made_by, name_of, only_reads, plain}
use Rattle.xarch_meanings.specs.Norm.{norm_meaning}
use Rattle.xarch_meanings.specs.Rekey.{rekey_meaning}
use Rattle.xarch_meanings.specs.Stats.{stats_meaning}
use Rattle.xarch_meanings.specs.Table.{table_meaning, tablekeys_meaning}
use Rattle.xarch_meanings.specs.Versions.{versions_meaning}

-- what is said of each command
abbrev pub meaning : PlainCommand → Meaning
meaning (norm spec doc) = norm_meaning spec doc
meaning (init archive spec) = init_meaning archive spec
meaning (add archive doc note) = add_meaning archive doc note
meaning (rekey archive spec) = rekey_meaning archive spec
meaning (get archive i) = get_meaning archive i
meaning (history archive path) = history_meaning archive path
meaning (log archive path) = log_meaning archive path
meaning (check archive) = check_meaning archive
meaning (stats archive) = stats_meaning archive
meaning (versions archive) = versions_meaning archive
meaning (export archive) = export_meaning archive
meaning (import text new) = import_meaning text new
meaning (cut archive new i j) = cut_meaning archive new i j
meaning (join one two new) = join_meaning one two new
meaning (table csv tag keys doc) = table_meaning csv tag keys doc
meaning (tablekeys tag keys spec) = tablekeys_meaning tag keys spec
meaning batch = plain by_lines (λ files r. r ≡ Err usage)
meaning (demo seed count archive) = demo_meaning seed count archive

-- and of words that are no command, which are refused
abbrev pub said : Option PlainCommand → Meaning
said None = record (plain only_reads (λ files r. r ≡ Err usage)) { Silent = ⊤ }
said (Some command) = meaning command

-- ---- what it does

-- What a command does to these files. It is defined where each archive that it names is absent or sound, and `check` always.
abbrev pub OutcomeIs : Files → PlainCommand → Result Outcome Refusal → Type 0
OutcomeIs files command = (meaning command).Is files

abbrev pub DoesOrRefuses : Files → Option PlainCommand → Result Outcome Refusal → Type 0
DoesOrRefuses files c = (said c).Is files

-- what it may do to any files
abbrev pub MayBe : Files → PlainCommand → Result Outcome Refusal → Type 0
MayBe files command = (meaning command).May files

abbrev pub MayDo : Files → Option PlainCommand → Result Outcome Refusal → Type 0
MayDo files c = (said c).May files

-- when it should succeed
abbrev pub ShouldSucceed : Files → PlainCommand → Type 0
ShouldSucceed files command = (meaning command).Should files

-- what its words alone refuse, whatever the folder tells
abbrev pub ByWords : Option PlainCommand → Option PlainFault → Type 0
ByWords c ended = (said c).ByWords ended

-- ---- damage that comes late, behind output

-- a refusal that may come so
abbrev pub MayComeLate : Files → Option PlainCommand → Refusal → Type 0
MayComeLate files c r = MatchOption (said c).late ⊥ (λ name. (r ≡ damaged name) × (said c).Ready files)

-- words with this answer may have written something before they were refused
abbrev pub MayHaveWritten : Option PlainCommand → ℕ → Type 0
MayHaveWritten c answer = MatchOption (said c).late ⊥ (λ name. answer ≡ 11)

-- the same of the fault with which a command ended
abbrev pub IsMetLate : Option PlainCommand → Option PlainFault → Type 0
IsMetLate c ended = MatchOption (said c).late ⊥ (λ name. ended ≡ Some (refused (damaged name)))

-- What the output gained, whatever the folder tells: nothing where the command was refused, unless the refusal came late.
abbrev pub GainsBy : Option PlainCommand → Option PlainFault → Taken → Taken → Type 0
GainsBy c ended old new = EndsGained ended old new ⊎ (IsMetLate c ended × Gained old new)

-- ---- how it meets the folder and the output

-- the name of the file that a command makes or replaces, if it does
abbrev pub made_name : PlainCommand → Option (List ℕ)
made_name command = option_map name_of (made_by (meaning command).way)

-- it only reads files, or is no command
abbrev pub OnlyReads : Option PlainCommand → Type 0
OnlyReads c = IsReading (said c).way

-- it prints nothing, or is no command
abbrev pub IsSilent : Option PlainCommand → Type 0
IsSilent c = (said c).Silent

-- What is pulled and drafted, from files that are told or not: nothing for words that are no command. Of a batch nothing is said.
abbrev pub CountsAsSaid : Option PlainCommand → Option Files → Numbers → Numbers → Type 0
CountsAsSaid c told = Meets (said c).way ((said c).most told)

-- what else is pulled and drafted as long as it did not fail so
abbrev pub GoesOnce : Option PlainCommand → Option Files → Numbers → Numbers → Type 0 → Type 0
GoesOnce c = (said c).Once

-- and whatever is answered
abbrev pub ReadsLittle : Option PlainCommand → Option Files → Numbers → Numbers → Type 0
ReadsLittle c = (said c).Little

-- it was refused by a limit
abbrev pub IsLimited : Option PlainFault → Type 0
IsLimited (Some (refused (limit quantity number))) = ⊤
IsLimited other = ⊥

-- what the draft is then
abbrev pub FillsUp : Option PlainCommand → Option Files → Option (List ℕ) → Type 0 → Type 0
FillsUp c = (said c).Fills
