-- What a command, or a part of it, does to the folder that it is given. The folder's files, draft, numbers and count of faults
-- stand first in each definition.
use Rattle.std.specs.Prelude.{◌≡◌, ◌⊎◌, ◌≤◌, ℕ, List, Option, Some, None, IsSome}
use Rattle.xa_outside.specs.Folder.{Files, IsBlank}
use Rattle.xa_outside.specs.Numbers.{Numbers, PullsAtMost, PullsAndDrafts, after_begin, after_draft, after_pull}
use Rattle.xarch_words.specs.Refusal.{PlainFault}
use Rattle.xarch_parts.specs.Ends.{IsOfFolder}

-- files and draft are both told
abbrev pub IsTold : Option Files → Option (List ℕ) → Type 0
IsTold files draft = IsSome files × IsSome draft

-- It is only read from: files and draft stay, and at most so many bytes are pulled.
pub record ReadsOnly {S : Type 0} (files : S → Option Files) (draft : S → Option (List ℕ)) (numbers : S → Numbers) (faults : S → ℕ)
    (most : ℕ) (old new : S) (ended : Option PlainFault) : Type 0 where
  pub same_files : files new ≡ files old
  pub same_draft : draft new ≡ draft old
  pub pulls : PullsAtMost most (numbers old) (numbers new)
  pub later : faults old ≤ faults new
  pub cause : IsOfFolder (faults old) (faults new) ended

-- Its draft is emptied. Where that fails, nothing is done.
pub record Begins {S : Type 0} (files : S → Option Files) (draft : S → Option (List ℕ)) (numbers : S → Numbers) (faults : S → ℕ)
    (old new : S) (ended : Option PlainFault) : Type 0 where
  pub same_files : files new ≡ files old
  pub blank : ended ≡ None → IsBlank (draft new)
  pub draft_untold : draft old ≡ None → draft new ≡ None
  pub draft_told : IsSome (draft old) → IsSome (draft new)
  pub begun : ended ≡ None → numbers new ≡ after_begin (numbers old)
  pub failed : IsSome ended → numbers new ≡ numbers old
  pub later : faults old ≤ faults new
  pub cause : IsOfFolder (faults old) (faults new) ended

-- It is only written to: bytes are drafted, and the draft may become a file, which is the last thing that can fail.
pub record WritesOnly {S : Type 0} (files : S → Option Files) (draft : S → Option (List ℕ)) (numbers : S → Numbers)
    (old new : S) (ended : Option PlainFault) : Type 0 where
  pub refused : IsSome ended → files new ≡ files old
  pub untold : files old ≡ None → files new ≡ None
  pub draft_untold : draft old ≡ None → draft new ≡ None
  pub told : IsTold (files old) (draft old) → IsTold (files new) (draft new)
  pub drafted : ℕ
  pub counted : numbers new ≡ after_draft (numbers old) drafted

-- It is read from and written to in turn: at most so many bytes are pulled, others are drafted, and the draft may become a file, which is the last
-- thing that can fail.
pub record Streams {S : Type 0} (files : S → Option Files) (draft : S → Option (List ℕ)) (numbers : S → Numbers)
    (most : ℕ) (old new : S) (ended : Option PlainFault) : Type 0 where
  pub refused : IsSome ended → files new ≡ files old
  pub untold : files old ≡ None → files new ≡ None
  pub draft_untold : draft old ≡ None → draft new ≡ None
  pub told : IsTold (files old) (draft old) → IsTold (files new) (draft new)
  pub counted : PullsAndDrafts most (numbers old) (numbers new)

-- at most so many bytes are pulled, and then some are drafted
pub record PullsThenDrafts (most : ℕ) (old new : Numbers) : Type 0 where
  pub pulled : ℕ
  pub drafted : ℕ
  pub within : pulled ≤ most
  pub is : new ≡ after_draft (after_pull old pulled) drafted

-- A command that makes no file pulls at most so many bytes. One that makes a file of this name begins its draft once, before it
-- reads, and drafts nothing before it has read all; or nothing is begun.
abbrev pub Counts : Option (List ℕ) → ℕ → Numbers → Numbers → Type 0
Counts None most old new = PullsAtMost most old new
Counts (Some name) most old new = (new ≡ old) ⊎ PullsThenDrafts most (after_begin old) new

-- One that goes over a file while it makes the next begins its draft once, before it reads, and then reads and drafts in turn; or nothing is begun.
abbrev pub CountsInTurn : ℕ → Numbers → Numbers → Type 0
CountsInTurn most old new = (new ≡ old) ⊎ PullsAndDrafts most (after_begin old) new

-- What a command does that makes the file of this name, or none, and that pulls and drafts as said.
pub record Keeps {S : Type 0} (files : S → Option Files) (draft : S → Option (List ℕ)) (numbers : S → Numbers)
    (made : Option (List ℕ)) (counting : Numbers → Numbers → Type 0) (old new : S) (ended : Option PlainFault) : Type 0 where
  pub refused : IsSome ended → files new ≡ files old
  pub same_files : made ≡ None → files new ≡ files old
  pub same_draft : made ≡ None → draft new ≡ draft old
  pub untold : files old ≡ None → files new ≡ None
  pub draft_untold : draft old ≡ None → draft new ≡ None
  pub told : IsTold (files old) (draft old) → IsTold (files new) (draft new)
  pub counts : counting (numbers old) (numbers new)
