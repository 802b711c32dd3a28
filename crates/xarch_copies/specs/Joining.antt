-- What comes of two archives whose versions go into one.
use Rattle.std.specs.Prelude.{◌≡◌, ◌⊎◌, ◌≤◌, ℕ, ◌+◌, ◌-◌, true, false, List, ◌++◌, length, Option, Some, None, Result, Ok, option_map, ⊤}
use Rattle.std.specs.List.{AllByRecursion}
use Rattle.xa_outside.specs.Folder.{Files, committed}
use Rattle.xa_outside.specs.Numbers.{Numbers}
use Rattle.key_spec.specs.Data.{PlainRule}
use Rattle.keyed_tree.specs.Data.{PlainKeyed}
use Rattle.archive_file.specs.Sound.{SoundAs}
use Rattle.record_cursor.specs.View.{PlainHeader, header_view}
use Rattle.record_format.specs.Files.{FileOf}
use Rattle.record_format.specs.declared.limits.TheConstants.{LONGEST}
use Rattle.archive_join.specs.Join.{Appended, IsArchive, Overfull}
use Rattle.archive_join.specs.declared.fault.JoinFault.{JoinFault}
use Rattle.archive_join.specs.declared.fault.JoinFault.TheVariants.{Damage, Folder, TooLong, Memory}
use Rattle.version_notes.specs.Notes.{IsNote, notes_part}
use Rattle.version_notes.specs.Reader.{PlainReader, at_first, file_of}
use Rattle.version_notes.specs.Reading.{all_read, notes_from}
use Rattle.version_notes.specs.Walk.{Copies}
use Rattle.version_notes.specs.Writer.{PlainWriter}
use Rattle.xarch_words.specs.Refusal.{archive, Refusal, damaged, limit, PlainFault, refused, folder_fault, memory}
use Rattle.xarch_words.specs.declared.fault.Fault.{Fault}
use Rattle.xarch_parts.specs.Inputs.{file_length, read_in, size_in}
use Rattle.xarch_parts.specs.Outcome.{and_then}
use Rattle.xarch_parts.specs.Readings.{front_in}
use Rattle.xarch_parts.specs.declared.front.Front.{Front}
use Rattle.xarch_meanings.specs.Meanings.{IsLimited}
use Rattle.xarch_meanings.specs.Join.{are_joinable}
use Rattle.xarch_copies.specs.Cutting.{IsUnsound, NotesEnd}
use Rattle.xarch_copies.specs.Extending.{Extends}
use Rattle.xarch_copies.specs.Making.{Asks, Fails, Makes, StandsBefore, behind_front, front_read}
use Rattle.xarch_copies.specs.declared.join.Both.{Both}
use Rattle.record_parts.specs.declared.limits.TheConstants.{MOST_VERSIONS}

-- ---- what is read first

-- the rules and the numbers of versions that both headers give
abbrev pub fronts_read : Both → (List PlainRule × ℕ) × (List PlainRule × ℕ)
fronts_read both = (front_read both.one, front_read both.two)

-- What stands in front of both archives, or the first refusal: a header stands in front of each, both have one specification, and there is room for the
-- versions of both.
abbrev pub fronts_in : Files → List ℕ → List ℕ → Result ((List PlainRule × ℕ) × (List PlainRule × ℕ)) Refusal
fronts_in files one two =
    and_then (read_in files one (front_in one)) (λ h.
    and_then (read_in files two (front_in two)) (λ g.
    and_then (are_joinable one two h g) (λ _.
    Ok (h, g))))

-- both headers give the same rules, and together no more versions than there may be
pub record GoTogether (h g : PlainHeader) : Type 0 where
  pub rules : h.rules ≡ g.rules
  pub few : h.versions + g.versions ≤ MOST_VERSIONS

-- These stand in front of the archives of these names, and go together.
pub record AreFound (one two : List ℕ) (files : Option Files) (both : Both) : Type 0 where
  pub first : StandsBefore files one both.one
  pub second : StandsBefore files two both.two
  pub together : GoTogether (header_view both.one.header) (header_view both.two.header)

-- no file of this name is longer, and where files are told its length is this
pub record IsSize (files : Option Files) (name : List ℕ) (size : ℕ) : Type 0 where
  pub most : size ≤ size_in files name
  pub is : (told : Files) → files ≡ Some told → file_length told name ≡ Ok size

-- What stands in front of both archives is read: no more than both of them, and 32 bytes. Where it is found, no more than both headers, and 32 bytes.
abbrev pub Fronts : {S : Type 0} → (S → Option Files) → (S → Option (List ℕ)) → (S → Numbers) → (S → ℕ) → List ℕ → List ℕ → (Files → Result ((List PlainRule × ℕ) × (List PlainRule × ℕ)) Refusal) → S → S → Result Both Fault → Type 0
Fronts files draft numbers faults one two asked old now result =
    Asks files draft numbers faults (size_in (files old) one + (size_in (files old) two + 32)) fronts_read asked (AreFound one two) (λ both. 32 + (header_view both.one.header).first + (header_view both.two.header).first) old now result

-- ---- the records

-- the fault of a join, as it is told of the archives of these names
abbrev pub IsToldAs : List ℕ → List ℕ → JoinFault → PlainFault → Type 0
IsToldAs one two (Damage false) fault = (fault ≡ refused (damaged one)) ⊎ (fault ≡ memory)
IsToldAs one two (Damage true) fault = (fault ≡ refused (damaged two)) ⊎ (fault ≡ memory)
IsToldAs one two TooLong fault = fault ≡ refused (limit archive LONGEST)
IsToldAs one two Folder fault = fault ≡ folder_fault
IsToldAs one two Memory fault = fault ≡ memory

-- if both are sound, no file can hold the versions of both
abbrev pub AreTooLong : Option Files → List ℕ → PlainHeader → List ℕ → PlainHeader → Type 0
AreTooLong files one h two g = (rules : List PlainRule) (vs us : List PlainKeyed) → IsArchive files one h rules vs → IsArchive files two g rules us → (bytes : List ℕ) → ¬ FileOf rules (vs ++ us) bytes

-- why the records of both were not joined
abbrev pub RecordsEnd : Option Files → List ℕ → PlainHeader → List ℕ → PlainHeader → PlainFault → Type 0
RecordsEnd files one h two g (refused q) = ((q ≡ damaged one) × IsUnsound files one h) ⊎ ((q ≡ damaged two) × IsUnsound files two g) ⊎ ((q ≡ limit archive LONGEST) × AreTooLong files one h two g)
RecordsEnd files one h two g other = ⊤

-- The records of both went into an empty draft.
pub record Joins {S : Type 0} (files : S → Option Files) (draft : S → Option (List ℕ)) (numbers : S → Numbers) (faults : S → ℕ)
    (one : List ℕ) (h : PlainHeader) (two : List ℕ) (g : PlainHeader) (old now : S) : Type 0 where
  pub extends : Extends files draft numbers faults ((h.length - h.first) + (g.length - g.first)) old now
  pub appended : Appended h one g two (files old) (draft old) (draft now)

-- where the new file would be too long, the draft is as full as it can be
abbrev pub IsFull : PlainHeader → PlainHeader → Option (List ℕ) → Type 0
IsFull h g draft = (b : ℕ) → h.length + 12 ≤ b → g.length + 12 ≤ b → Overfull b h.rules h.versions g.versions draft

-- They did not.
pub record Unjoined {S : Type 0} (files : S → Option Files) (draft : S → Option (List ℕ)) (numbers : S → Numbers) (faults : S → ℕ)
    (one : List ℕ) (h : PlainHeader) (two : List ℕ) (g : PlainHeader) (old now : S) (fault : PlainFault) : Type 0 where
  pub fails : Fails files draft numbers faults ((h.length - h.first) + (g.length - g.first)) (RecordsEnd (files old) one h two g) old now fault
  pub fills : IsLimited (Some fault) → IsFull h g (draft now)

-- ---- the notes

-- All notes of a reader went to a writer.
pub record CopiesAll {S : Type 0} (files : S → Option Files) (draft : S → Option (List ℕ)) (numbers : S → Numbers) (faults : S → ℕ)
    (old new : S) (start : PlainReader) (before after : PlainWriter) : Type 0 where
  pub extends : Extends files draft numbers faults (all_read start) old new
  pub copies : Copies (files old) start before after (draft old) (draft new)

-- The draft gained what stands behind a file with as many notes as two readers give. Where files are told, both give notes, and these are the notes of the
-- first and behind them those of the second.
pub record Carries {S : Type 0} (files : S → Option Files) (draft : S → Option (List ℕ)) (numbers : S → Numbers) (faults : S → ℕ)
    (old new : S) (start other : PlainReader) : Type 0 where
  pub notes : List (List ℕ)
  pub many : length notes ≡ start.due + other.due
  pub each : AllByRecursion IsNote notes
  pub first : List (List ℕ)
  pub second : List (List ℕ)
  pub are : notes ≡ first ++ second
  pub given : (told : Files) → files old ≡ Some told → (notes_from start (file_of told start.name) ≡ Some first) × (notes_from other (file_of told other.name) ≡ Some second)
  pub extends : Extends files draft numbers faults (all_read start + all_read other) old new
  pub gains : draft new ≡ option_map (λ d. d ++ notes_part notes) (draft old)

-- where it was refused, no notes are read of the file of this name
abbrev pub FrontNotesEnd : Option Files → List ℕ → Front → PlainFault → Type 0
FrontNotesEnd files name front fault = NotesEnd files name front.parts (header_view front.header).versions fault

-- the notes of one of both were not read, or not appended
abbrev pub BothNotesEnd : Option Files → List ℕ → Front → List ℕ → Front → PlainFault → Type 0
BothNotesEnd files one first two second fault = FrontNotesEnd files one first fault ⊎ FrontNotesEnd files two second fault

-- the reader before the notes of the archive of this name
abbrev pub front_reader : List ℕ → Front → PlainReader
front_reader name front = at_first name front.parts (header_view front.header).versions

-- ---- the new archive

-- A file came under the new name by way of the draft, where both are told: that of the versions of both, and behind it what stands behind a file with the notes
-- of both, which both archives give.
pub record Comes (files : Option Files) (draft : Option (List ℕ)) (one two new : List ℕ) (both : Both) (after : Option Files) : Type 0 where
  pub core : List ℕ
  pub notes : List (List ℕ)
  pub joined : (rules : List PlainRule) (vs us : List PlainKeyed) → IsArchive files one (header_view both.one.header) rules vs → IsArchive files two (header_view both.two.header) rules us → SoundAs rules (vs ++ us) core
  pub many : length notes ≡ (header_view both.one.header).versions + (header_view both.two.header).versions
  pub each : AllByRecursion IsNote notes
  pub first : List (List ℕ)
  pub second : List (List ℕ)
  pub are : notes ≡ first ++ second
  pub given : (told : Files) → files ≡ Some told → (notes_from (front_reader one both.one) (file_of told one) ≡ Some first) × (notes_from (front_reader two both.two) (file_of told two) ≡ Some second)
  pub stored : after ≡ committed files (option_map (λ _. core ++ notes_part notes) draft) new

-- with what this ends
abbrev pub JoinEnds : Option Files → Option (List ℕ) → List ℕ → List ℕ → List ℕ → Both → Option Files → Option PlainFault → Type 0
JoinEnds files draft one two new both after None = Comes files draft one two new both after
JoinEnds files draft one two new both after (Some fault) = RecordsEnd files one (header_view both.one.header) two (header_view both.two.header) fault ⊎ BothNotesEnd files one both.one two both.two fault

-- What is done to the folder for this.
abbrev pub Assembles : {S : Type 0} → (S → Option Files) → (S → Option (List ℕ)) → (S → Numbers) → (S → ℕ) → List ℕ → List ℕ → List ℕ → Both → S → S → Option PlainFault → Type 0
Assembles files draft numbers faults one two new both old now ended =
    Makes files draft numbers faults (behind_front both.one + behind_front both.two) (JoinEnds (files old) (draft old) one two new both) (IsFull (header_view both.one.header) (header_view both.two.header)) old now ended
