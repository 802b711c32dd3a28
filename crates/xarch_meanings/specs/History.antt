-- What `history` does: it writes which versions of an archive hold the element at a path.
use Rattle.std.specs.Prelude.{◌≡◌, ℕ, List, ◌++◌, codes, Result, Ok, ◌+◌, length, Err}
use Rattle.version_set.specs.Members.{intervals}
use Rattle.version_set.specs.Text.{set_text}
use Rattle.xa_outside.specs.Folder.{Files}
use Rattle.key_spec.specs.Data.{PlainRule}
use Rattle.key_rules.specs.UserPaths.{user_path}
use Rattle.keyed_tree.specs.Data.{PlainLabel, PlainKeyed}
use Rattle.archive_tree.specs.History.{hist}
use Rattle.noted_file.specs.Contents.{Contents}
use Rattle.xarch_words.specs.Refusal.{Refusal, bad_path}
use Rattle.xarch_parts.specs.Outcome.{Outcome, and_then}
use Rattle.xarch_parts.specs.Readings.{refused_as, front_in}
use Rattle.xa_outside.specs.Numbers.{PullsAtMost}
use Rattle.archive_tree.specs.Data.{PlainArchive}
use Rattle.record_format.specs.Files.{header_bytes}
use Rattle.record_format.specs.Probed.{probed}
use Rattle.xarch_parts.specs.Inputs.{read_in}
use Rattle.xarch_meanings.specs.Meaning.{Meaning, printing}
use Rattle.xarch_meanings.specs.Over.{HasArchiveWith, HasValue, IfSound}

-- the labels that a path spells under the rules
unfoldable pub labels_of : List PlainRule → List ℕ → Result (List PlainLabel) Refusal
labels_of rules path = refused_as bad_path (user_path rules path)

-- the numbers, as the fewest intervals, and a line feed
abbrev pub numbers_text : List ℕ → List ℕ
numbers_text ns = set_text (intervals ns) ++ codes "\n"

-- the versions that hold the path
abbrev pub history_text : Files → List PlainRule → List PlainKeyed → List ℕ → Result Outcome Refusal
history_text files rules vs path = and_then (labels_of rules path) (λ labels. Ok (record { files = files; output = numbers_text (hist vs labels) }))

-- what is written where the archive holds this
abbrev pub TellsFrom : Files → List ℕ → Contents → Result Outcome Refusal → Type 0
TellsFrom files path c r = r ≡ history_text files c.rules c.versions path

-- ---- what is decided before the records of an archive are looked at

-- The rules and the number of versions of the archive and the labels of the path, or the first refusal: the archive is
-- there, a header stands in front of it, and the path spells labels under its rules.
abbrev pub history_input : Files → List ℕ → List ℕ → Result ((List PlainRule × ℕ) × List PlainLabel) Refusal
history_input files name path =
    and_then (read_in files name (front_in name)) (λ h.
    and_then (labels_of h.0 path) (λ ls.
    Ok (h, ls)))

-- ---- all that is said of it

-- how many bytes stand in front of the records of an archive
abbrev pub front_size : List PlainRule → List PlainKeyed → ℕ
front_size rules vs = length (header_bytes rules (length vs))

-- where the path spells labels, how many bytes a search for them looks at
abbrev pub path_bytes : PlainArchive → Result (List PlainLabel) Refusal → ℕ
path_bytes a (Ok path) = probed a path
path_bytes a (Err e) = 0

-- It should succeed where the path spells labels under the archive's rules. Of a sound archive it pulls no more than the header, the tail of 8 bytes, 16 in
-- which it is looked where the notes begin, and what its search looks at.
abbrev pub history_meaning : List ℕ → List ℕ → Meaning
history_meaning archive path = record (printing archive (λ files. history_input files archive path) (λ files. TellsFrom files path)) {
  Should = λ files. HasArchiveWith files archive (λ c. HasValue (labels_of c.rules path));
  Little = λ told before after. IfSound told archive (λ files c a. PullsAtMost (front_size c.rules c.versions + (24 + path_bytes a (labels_of c.rules path))) before after);
}
