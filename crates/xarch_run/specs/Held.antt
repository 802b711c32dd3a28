-- What an archive holds after commands: the documents that were handed in to it.
use Rattle.std.specs.Prelude.{◌≡◌, ◌≢◌, ◌↔◌, ◌⊎◌, ℕ, List, [], ◌∷◌, Option, Some, None, Result, ⊤}
use Rattle.std.specs.FinMap as finite
use Rattle.xa_outside.specs.Folder.{Files}
use Rattle.keyed_tree.specs.Data.{PlainKeyed}
use Rattle.noted_file.specs.Contents.{Contents, with_version}
use Rattle.noted_file.specs.Full.{Full, FullOf}
use Rattle.xarch_words.specs.Commands.{PlainCommand}
use Rattle.xarch_words.specs.Refusal.{Refusal}
use Rattle.xarch_parts.specs.Archives.{ArchiveIs}
use Rattle.xarch_parts.specs.Outcome.{Outcome, Step, step_from}
use Rattle.xarch_meanings.specs.Add.{IsHandedIn}
use Rattle.xarch_meanings.specs.Cut.{CutsFrom}
use Rattle.xarch_meanings.specs.Export.{ExportsFrom}
use Rattle.xarch_meanings.specs.Import.{ImportIs}
use Rattle.xarch_meanings.specs.Join.{JoinsFrom}
use Rattle.xarch_meanings.specs.Meaning.{ChangesOnly, IsNewArchive, IsNewFile, made_by}
use Rattle.xarch_meanings.specs.Meanings.{said}
use Rattle.xarch_meanings.specs.Rekey.{IsRekeyed, RekeysFrom}
use Rattle.xarch_meanings.specs.Stats.{CountsFrom}
use Rattle.xarch_run.specs.Steps.{files_after}

-- the rules of an archive, its versions in order, and the note of each
abbrev pub Held : Type 0
Held = Contents

-- ---- what a file holds

-- the file of this name is a sound archive of these rules and versions, with these notes
abbrev pub Holds : Files → List ℕ → Held → Type 0
Holds files name h = ArchiveIs files name h

-- The name has such a file, and its bytes are exactly the encoding of the versions under the rules, with the notes.
pub record HoldsExactly (files : Files) (name : List ℕ) (h : Held) : Type 0 where
  pub archive : Holds files name h
  pub exactly : (bytes : List ℕ) → (finite.get files name ≡ Some bytes) ↔ FullOf h bytes

-- ---- how an archive begins

-- the command is an `init`, a `demo`, a `cut`, a `join` or an `import` that makes the archive of this name
abbrev pub MakesArchive : List ℕ → Option PlainCommand → Type 0
MakesArchive name command = IsNewArchive name (made_by (said command).way)

-- The command makes the archive of this name, which then holds this: an `init` the rules of its specification and no
-- versions, a `demo` the company rules and the generated documents, whose notes are empty, a `cut` some versions of what
-- another archive holds, with their notes, a `join` those of two others, with theirs, an `import` what its text is that of.
abbrev pub BeginsWith : Files → List ℕ → Option PlainCommand → Held → Type 0
BeginsWith files name command h = MakesArchive name command × (said command).Begins files h

-- the command makes a new file of this name, be it an archive or not
abbrev pub MakesFile : List ℕ → Option PlainCommand → Type 0
MakesFile name command = IsNewFile name (made_by (said command).way)

-- each archive that a command makes another of is sound
abbrev pub GoesOver : Files → Option PlainCommand → Type 0
GoesOver files command = (said command).Over files

-- the archive that the command made
pub record Begun (files : Files) (name : List ℕ) (command : Option PlainCommand) (now : Files) : Type 0 where
  pub held : Held
  pub begins : BeginsWith files name command held
  pub archive : Holds now name held

-- each of these commands that makes a new file of this name was refused
abbrev pub NoneMakes : List ℕ → List (Option PlainCommand) → List Step → Type 0
NoneMakes name [] ss = ⊤
NoneMakes name (c ∷ cs) [] = ⊤
NoneMakes name (c ∷ cs) (s ∷ ss) = (MakesFile name c → s.status ≢ 0) × NoneMakes name cs ss

-- ---- how it goes on

-- What the archive of this name holds before a command and behind it: a document comes to it by an `add` that names it, its versions get other keys by
-- a `rekey` that names it, and no other command changes what it holds.
abbrev pub HeldBy : Files → List ℕ → Option PlainCommand → Held → Held → Type 0
HeldBy files name command h i = ChangesOnly name (made_by (said command).way) ((said command).Changes files) h i

-- what it holds behind the first command, from where the rest is said
pub record HeldThen (files : Files) (name : List ℕ) (c : Option PlainCommand) (Rest : Held → Type 0) (h : Held) : Type 0 where
  pub between : Held
  pub first : HeldBy files name c h between
  pub rest : Rest between

-- what it holds before commands that took these steps and behind them, each from the files that the one before left
abbrev pub HeldAfter : Files → List ℕ → List (Option PlainCommand) → List Step → Held → Held → Type 0
HeldAfter files name [] ss h i = i ≡ h
HeldAfter files name (c ∷ cs) [] h i = ⊥
HeldAfter files name (c ∷ cs) (s ∷ ss) h i = HeldThen files name c (λ m. HeldAfter s.files name cs ss m i) h

-- What the archive of this name holds behind these commands is what it held and what was handed in.
pub record HoldsBehind (files : Files) (name : List ℕ) (cs : List (Option PlainCommand)) (ss : List Step) (h : Held) : Type 0 where
  pub held : Held
  pub after : HeldAfter files name cs ss h held
  pub archive : Holds (files_after files ss) name held

-- A command made the archive of this name, and those behind it took it to what it holds.
pub record MadeBy (files : Files) (name : List ℕ) (c : Option PlainCommand) (s : Step) (cs : List (Option PlainCommand)) (ss : List Step) (h : Held) : Type 0 where
  pub answered : s.status ≡ 0
  pub first : Held
  pub begins : BeginsWith files name c first
  pub after : HeldAfter s.files name cs ss first h

-- What was handed in to the archive of this name: one of these commands made it, wherever it stands among them, and this is
-- what the archive holds after all of them.
abbrev pub HandedIn : Files → List ℕ → List (Option PlainCommand) → List Step → Held → Type 0
HandedIn files name [] ss h = ⊥
HandedIn files name (c ∷ cs) [] h = ⊥
HandedIn files name (c ∷ cs) (s ∷ ss) h = MadeBy files name c s cs ss h ⊎ HandedIn s.files name cs ss h

-- The document in this file was handed in with the note, and its keyed tree came behind the versions.
pub record Accepted (files : Files) (name doc note : List ℕ) (h : Held) (now : Files) : Type 0 where
  pub tree : PlainKeyed
  pub handed : IsHandedIn files doc note h tree
  pub archive : Holds now name (with_version h tree note)

-- The specification in this file was handed in, and the versions come under it.
pub record TakesKeys (files : Files) (name spec : List ℕ) (h : Held) (now : Files) : Type 0 where
  pub under : Held
  pub keys : IsRekeyed files name spec h under
  pub archive : Holds now name under

-- The step is what comes of these versions under the keys of the specification: their file, or the first that does not satisfy them, or why neither is.
pub record ChangesOrTells (files : Files) (name spec : List ℕ) (h : Held) (s : Step) : Type 0 where
  pub outcome : Result Outcome Refusal
  pub comes : RekeysFrom files name spec h outcome
  pub is : s ≡ step_from files outcome

-- ---- what else steps do

-- each step with another status than 0 left the files as they were
abbrev pub RefusalsKeep : Files → List Step → Type 0
RefusalsKeep files [] = ⊤
RefusalsKeep files (s ∷ ss) = (s.status ≢ 0 → s.files ≡ files) × RefusalsKeep s.files ss

-- there is a file of this name, and its bytes are so
pub record FileIs (files : Files) (name : List ℕ) (P : List ℕ → Type 0) : Type 0 where
  pub bytes : List ℕ
  pub there : finite.get files name ≡ Some bytes
  pub is : P bytes

-- The status of the step says what the file of this name is, whatever it is: a sound archive with its notes, none, or absent.
pub record TellsSoundness (files : Files) (name : List ℕ) (s : Step) : Type 0 where
  pub sound : (s.status ≡ 0) ↔ FileIs files name Full
  pub damaged : (s.status ≡ 11) ↔ FileIs files name (λ bytes. ¬ Full bytes)
  pub absent : (s.status ≡ 3) ↔ (finite.get files name ≡ None)

-- the step writes the counts of the archive that holds this
pub record WritesCounts (files : Files) (h : Held) (s : Step) : Type 0 where
  pub outcome : Result Outcome Refusal
  pub counts : CountsFrom files h outcome
  pub is : s ≡ step_from files outcome

-- the step writes the text of the archive that holds this
pub record WritesText (files : Files) (h : Held) (s : Step) : Type 0 where
  pub outcome : Result Outcome Refusal
  pub text : ExportsFrom files h outcome
  pub is : s ≡ step_from files outcome

-- The step is what comes of some of these versions: their file under the new name, or why there is none.
pub record CutsOrTells (files : Files) (new : List ℕ) (i j : ℕ) (h : Held) (s : Step) : Type 0 where
  pub outcome : Result Outcome Refusal
  pub comes : CutsFrom files new i j h outcome
  pub is : s ≡ step_from files outcome

-- The step is what comes of the versions of both, the second's behind the first's: their file under the new name, or why there is none.
pub record JoinsOrTells (files : Files) (one two new : List ℕ) (h g : Held) (s : Step) : Type 0 where
  pub outcome : Result Outcome Refusal
  pub comes : JoinsFrom files one two new h g outcome
  pub is : s ≡ step_from files outcome

-- The step is what comes of the text in this file: its archive under the new name, or why there is none.
pub record ImportsOrTells (files : Files) (text new : List ℕ) (s : Step) : Type 0 where
  pub outcome : Result Outcome Refusal
  pub comes : ImportIs files text new outcome
  pub is : s ≡ step_from files outcome
