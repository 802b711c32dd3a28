-- What is said of one command, and how commands meet the folder.
use Rattle.std.specs.Prelude.{◌≡◌, ◌≢◌, ◌⊎◌, ℕ, ◌+◌, List, Option, Some, None, Result, ⊤}
use Rattle.std.specs.Result.{IsOk}
use Rattle.xa_outside.specs.Folder.{Files}
use Rattle.xa_outside.specs.Numbers.{Numbers, PullsAtMost}
use Rattle.noted_file.specs.Contents.{Contents}
use Rattle.xarch_words.specs.Refusal.{Refusal, PlainFault}
use Rattle.xarch_parts.specs.Archives.{GoesOn, Opens}
use Rattle.xarch_parts.specs.Folders.{Counts, CountsInTurn}
use Rattle.xarch_parts.specs.Inputs.{size_in}
use Rattle.xarch_parts.specs.Outcome.{Outcome}
use Rattle.xarch_meanings.specs.Over.{HasArchive, HasValue, MayOver, MayWrite}

-- ---- how a command meets the folder

-- what it makes: a new archive, another new file, the next archive in the place of one
pub data Made : Type 0 where
  new_archive : List ℕ → Made
  new_file : List ℕ → Made
  next_archive : List ℕ → Made

-- It only reads; it reads all, and then drafts what it makes; it reads and drafts in turn; or it is a batch, of whose numbers nothing is said.
pub data Way : Type 0 where
  only_reads : Way
  stores : Made → Way
  in_turn : Made → Way
  by_lines : Way

abbrev pub made_by : Way → Option Made
made_by (stores made) = Some made
made_by (in_turn made) = Some made
made_by other = None

abbrev pub name_of : Made → List ℕ
name_of (new_archive name) = name
name_of (new_file name) = name
name_of (next_archive name) = name

abbrev pub IsReading : Way → Type 0
IsReading only_reads = ⊤
IsReading other = ⊥

abbrev pub IsMaking : Way → Type 0
IsMaking (stores made) = ⊤
IsMaking (in_turn made) = ⊤
IsMaking other = ⊥

-- what a command pulls and drafts that pulls at most so many bytes
abbrev pub Meets : Way → ℕ → Numbers → Numbers → Type 0
Meets only_reads most = PullsAtMost most
Meets (stores made) most = Counts (Some (name_of made)) most
Meets (in_turn made) most = CountsInTurn most
Meets by_lines most = λ before after. ⊤

-- what is made is the archive of this name, and it is new
abbrev pub IsNewArchive : List ℕ → Option Made → Type 0
IsNewArchive name (Some (new_archive made)) = name ≡ made
IsNewArchive name other = ⊥

-- what is made is the file of this name, be it an archive or not, and it is new
abbrev pub IsNewFile : List ℕ → Option Made → Type 0
IsNewFile name (Some (new_file made)) = name ≡ made
IsNewFile name other = IsNewArchive name other

-- what the archive of this name holds before it is made and behind that: it changes so where it is the one that is replaced, and else not at all
abbrev pub ChangesOnly : List ℕ → Option Made → (Contents → Contents → Type 0) → Contents → Contents → Type 0
ChangesOnly name (Some (next_archive made)) Changes h i = ((name ≡ made) × Changes h i) ⊎ ((name ≢ made) × (i ≡ h))
ChangesOnly name other Changes h i = i ≡ h

-- ---- what is said

-- What is said of one command. "Told" are the files where they are told, before it and behind it the numbers of the folder.
pub record Meaning : Type 1 where
  pub way : Way
  -- it prints nothing
  pub Silent : Type 0
  -- what it does to these files, where each archive that it names is absent or sound, and what it may do to any
  pub Is : Files → Result Outcome Refusal → Type 0
  pub May : Files → Result Outcome Refusal → Type 0
  -- when it should succeed
  pub Should : Files → Type 0
  -- what its words alone refuse, by the fault with which it ended
  pub ByWords : Option PlainFault → Type 0
  -- the archive whose damage it may meet late, behind output, once this holds of the files
  pub late : Option (List ℕ)
  pub Ready : Files → Type 0
  -- how many bytes it pulls at most, from files that are told or not
  pub most : Option Files → ℕ
  -- what else is said of what it pulls and drafts as long as the folder did not fail, and whatever is answered
  pub Once : Option Files → Numbers → Numbers → Type 0 → Type 0
  pub Little : Option Files → Numbers → Numbers → Type 0
  -- what its draft is where a limit refused it
  pub Fills : Option Files → Option (List ℕ) → Type 0 → Type 0
  -- what a new archive holds then, and whether each archive of which it is made is sound
  pub Begins : Files → Contents → Type 0
  pub Over : Files → Type 0
  -- what an archive that it replaces holds before and behind it
  pub Changes : Files → Contents → Contents → Type 0

-- A command that does this: it pulls nothing, prints nothing if it makes a file, meets nothing late, and leaves what an archive holds. Of `Should`,
-- `ByWords`, `Once`, `Little` and `Fills` nothing is said, and no proof asks for them: set them. `May` and `Silent` follow what is given here, and not a
-- later change of `Is` and `way`.
abbrev pub plain : Way → (Files → Result Outcome Refusal → Type 0) → Meaning
plain way Is = record {
  way = way;
  Silent = IsMaking way;
  Is = Is;
  May = Is;
  Should = λ files. ⊥;
  ByWords = λ ended. ⊤;
  late = None;
  Ready = λ files. ⊥;
  most = λ told. 0;
  Once = λ told before after failed. ⊤;
  Little = λ told before after. ⊤;
  Fills = λ told draft limited. ⊤;
  Begins = λ files h. ⊥;
  Over = λ files. ⊤;
  Changes = λ files h i. i ≡ h;
}

-- one whose outcome is computed, and which should succeed where that is a value
abbrev pub computed : Way → (Files → Result Outcome Refusal) → Meaning
computed way f = record (plain way (λ files r. r ≡ f files)) { Should = λ files. HasValue (f files) }

-- One over the archive of this name. Where that is sound, it goes on from what it holds; whatever it is, some of these may come, once what is decided first is
-- not refused. It reads the archive once at most, and 16 bytes in which it is looked where the notes begin, and should succeed where that is sound.
abbrev pub on_archive : {A : Type 0} → Way → List ℕ → (Files → Result A Refusal) → (Files → Result Outcome Refusal → Type 0) → (Files → Contents → Result Outcome Refusal → Type 0) → Meaning
on_archive way name input Any From = record (plain way (λ files. Opens files name (From files))) {
  May = λ files. MayOver files name (GoesOn (input files) (λ _. Any files)) (From files);
  Should = λ files. HasArchive files name;
  most = λ told. size_in told name + 16;
}

-- one that prints something of it
abbrev pub printing : {A : Type 0} → List ℕ → (Files → Result A Refusal) → (Files → Contents → Result Outcome Refusal → Type 0) → Meaning
printing name input From = on_archive only_reads name input (λ files. MayWrite files name) From

-- and does so while it reads, and so may meet damage behind output
abbrev pub printing_late : {A : Type 0} → List ℕ → (Files → Result A Refusal) → (Files → Contents → Result Outcome Refusal → Type 0) → Meaning
printing_late name input From = record (printing name input From) { late = Some name; Ready = λ files. IsOk (input files) }
