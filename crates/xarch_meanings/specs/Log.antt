-- What `log` does: it writes each content that an element at the frontier, or an attribute, has had, with its versions.
use Rattle.std.specs.Prelude.{◌≡◌, ℕ, List, Result, Ok, Err, if◌then◌else◌, ◌+◌}
use Rattle.xa_outside.specs.Folder.{Files}
use Rattle.key_spec.specs.Data.{PlainRule}
use Rattle.keyed_tree.specs.Data.{PlainLabel, PlainKeyed}
use Rattle.content_log.specs.Frontier.{at_frontier}
use Rattle.content_log.specs.Text.{log_text}
use Rattle.noted_file.specs.Contents.{Contents}
use Rattle.xarch_words.specs.Refusal.{Refusal, not_frontier}
use Rattle.xarch_parts.specs.Outcome.{Outcome, and_then}
use Rattle.xarch_meanings.specs.History.{labels_of, front_size}
use Rattle.xa_outside.specs.Numbers.{PullsAtMost}
use Rattle.archive_tree.specs.Data.{PlainArchive}
use Rattle.content_log.specs.Written.{leaf_bytes}
use Rattle.file_history.specs.Leads.{node_along}
use Rattle.record_format.specs.Probed.{probed}
use Rattle.xarch_parts.specs.Inputs.{read_in, size_in}
use Rattle.xarch_parts.specs.Readings.{front_in}
use Rattle.xarch_meanings.specs.Meaning.{Meaning, printing_late}
use Rattle.xarch_meanings.specs.Over.{HasArchiveWith, HasValue, IfSound}

-- the labels, where they end in an attribute, or in an element at the frontier
abbrev pub ending_at_frontier : List PlainRule → List PlainLabel → Result (List PlainLabel) Refusal
ending_at_frontier rules labels = if at_frontier rules labels then Ok labels else Err not_frontier

-- the labels that a path spells under the rules, which end so
unfoldable pub frontier_of : List PlainRule → List ℕ → Result (List PlainLabel) Refusal
frontier_of rules path = and_then (labels_of rules path) (ending_at_frontier rules)

-- a line for each different content, with the versions that have it
abbrev pub logged : Files → List PlainRule → List PlainKeyed → List ℕ → Result Outcome Refusal
logged files rules vs path = and_then (frontier_of rules path) (λ labels. Ok (record { files = files; output = log_text vs labels }))

-- what is written where the archive holds this
abbrev pub LogsFrom : Files → List ℕ → Contents → Result Outcome Refusal → Type 0
LogsFrom files path c r = r ≡ logged files c.rules c.versions path

-- ---- what is decided before the records of an archive are looked at

-- The rules and the number of versions of the archive and the labels of the path, or the first refusal: the archive is
-- there, a header stands in front of it, and the path spells labels under its rules, which end so.
abbrev pub log_input : Files → List ℕ → List ℕ → Result ((List PlainRule × ℕ) × List PlainLabel) Refusal
log_input files name path =
    and_then (read_in files name (front_in name)) (λ h.
    and_then (frontier_of h.0 path) (λ ls.
    Ok (h, ls)))

-- ---- all that is said of it

-- where the path spells labels, how many bytes a search for them looks at, and the leaf at the path has, if there is one
abbrev pub leaf_path_bytes : PlainArchive → Result (List PlainLabel) Refusal → ℕ
leaf_path_bytes a (Ok path) = probed a path + leaf_bytes (node_along a path)
leaf_path_bytes a (Err e) = 0

-- It should succeed where the path ends at the frontier. It may read a leaf when that has been searched for. Of a sound archive it pulls no more than a
-- `history` may, and the bytes of the one leaf, where the path ends so, and else no more than the header and the 24 bytes.
abbrev pub log_meaning : List ℕ → List ℕ → Meaning
log_meaning archive path = record (printing_late archive (λ files. log_input files archive path) (λ files. LogsFrom files path)) {
  Should = λ files. HasArchiveWith files archive (λ c. HasValue (frontier_of c.rules path));
  most = λ told. size_in told archive + (16 + size_in told archive);
  Little = λ told before after. IfSound told archive (λ files c a. PullsAtMost (front_size c.rules c.versions + (24 + leaf_path_bytes a (frontier_of c.rules path))) before after);
}
