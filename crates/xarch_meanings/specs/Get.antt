-- What `get` does: it writes a version of an archive in key order.
use Rattle.std.specs.Prelude.{◌≡◌, ℕ, List, length, Result, Ok, ◌+◌, ◌&&◌, nat_le, Some, Err, if◌then◌else◌}
use Rattle.xa_outside.specs.Folder.{Files}
use Rattle.keyed_tree.specs.Data.{PlainKeyed}
use Rattle.archive_tree.specs.Stands.{version_of}
use Rattle.noted_file.specs.Contents.{Contents}
use Rattle.xarch_words.specs.Refusal.{Refusal, no_version, damaged}
use Rattle.keyed_print.specs.KeyedText.{keyed_text}
use Rattle.xarch_parts.specs.Outcome.{Outcome, and_then, or_refuse}
use Rattle.xa_outside.specs.Numbers.{PullsAtMost}
use Rattle.archive_tree.specs.Data.{PlainArchive}
use Rattle.record_format.specs.Fronts.{fixed}
use Rattle.record_format.specs.Seen.{seen}
use Rattle.xarch_parts.specs.Inputs.{read_in}
use Rattle.xarch_parts.specs.Readings.{core_in}
use Rattle.xarch_meanings.specs.Meaning.{Meaning, printing_late}
use Rattle.xarch_meanings.specs.Over.{HasArchiveWith, IfSound}

-- the text of the version of that number, which counts from 1
abbrev pub version_text : Files → List PlainKeyed → ℕ → Result Outcome Refusal
version_text files vs i = and_then (or_refuse (version_of vs i) (no_version i (length vs))) (λ k. Ok (record { files = files; output = keyed_text k }))

-- what is written where the archive holds this
abbrev pub GetsFrom : Files → ℕ → Contents → Result Outcome Refusal → Type 0
GetsFrom files i c r = r ≡ version_text files c.versions i

-- ---- what is decided before the records of an archive are looked at

-- of n versions there is one of the number i
abbrev pub is_version : ℕ → ℕ → Result Unit Refusal
is_version n i = if nat_le 1 i && nat_le i n then Ok tt else Err (no_version i n)

-- The bytes of the archive before its notes, or the first refusal: the archive is there and has parts, the fields of a header
-- stand in front of it, and they count the version.
abbrev pub get_input : Files → List ℕ → ℕ → Result (List ℕ) Refusal
get_input files name i =
    and_then (read_in files name (core_in name)) (λ core.
    and_then (or_refuse (fixed core) (damaged name)) (λ n.
    and_then (is_version n i) (λ _.
    Ok core)))

-- ---- all that is said of it

-- how many bytes a search for the version of that number looks at, where there is one
abbrev pub version_bytes : PlainArchive → ℕ → ℕ
version_bytes a i = if nat_le 1 i && nat_le i a.n then seen a i else 0

-- It should succeed where the archive has the version. Of a sound archive it pulls at most 38 bytes, which are the fixed fields of the header, the tail, and
-- 16 in which it is looked where the notes begin, and what the search for the version looks at, if there is one.
abbrev pub get_meaning : List ℕ → ℕ → Meaning
get_meaning archive i = record (printing_late archive (λ files. get_input files archive i) (λ files. GetsFrom files i)) {
  Should = λ files. HasArchiveWith files archive (λ c. (k : PlainKeyed) × (version_of c.versions i ≡ Some k));
  Little = λ told before after. IfSound told archive (λ files c a. PullsAtMost (38 + version_bytes a i) before after);
}
