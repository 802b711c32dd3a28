-- What the calls of a cursor leave.
use Rattle.std.specs.Prelude.{◌≡◌, ◌+◌, ◌≤◌, ⊤, ℕ, List, drop, Option, Some, None, Result, Ok, Err}
use Rattle.key_spec.specs.View.{spec_view}
use Rattle.xa_outside.specs.Folder.{Files, front_of}
use Rattle.record_format.specs.Fronts.{header_at}
use Rattle.record_cursor.specs.Faults.{IfDamage}
use Rattle.record_cursor.specs.Items.{PlainItem}
use Rattle.record_cursor.specs.Places.{Standing, after_item}
use Rattle.record_cursor.specs.Next.{next_of, Gives, size_of}
use Rattle.record_cursor.specs.View.{PlainCursor, PlainHeader, shown_item}
use Rattle.record_cursor.specs.declared.header.Header.{Header}
use Rattle.record_cursor.specs.declared.item.Item.{Item}
use Rattle.record_cursor.specs.declared.fault.CursorFault.{CursorFault}

-- The header at the front of the bytes of a file, and damage where none stands there or the file is too short.
abbrev pub TellsHeader : Result Header CursorFault → Option (List ℕ) → Type 0
TellsHeader (Ok h) (Some bytes) = header_at bytes ≡ Some ((spec_view h.spec, h.versions), drop h.first bytes)
TellsHeader (Ok h) None = ⊥
TellsHeader (Err e) (Some bytes) = IfDamage e (header_at bytes ≡ None)
TellsHeader (Err e) None = ⊤

-- the header is the one that stands at the front of the bytes
abbrev pub IsHeaderOf : PlainHeader → List ℕ → Type 0
IsHeaderOf h bytes = header_at bytes ≡ Some ((h.rules, h.versions), drop h.first bytes)

-- files are told, and these are the first bytes of the file of this name, so many
abbrev pub TellsFront : Option Files → List ℕ → ℕ → List ℕ → Type 0
TellsFront told name size bytes = (files : Files) × (told ≡ Some files) × (front_of files name size ≡ Some bytes)

-- These items come next, one after another, in a file that is told.
pub record Comes (told : Option Files) (c : PlainCursor) (is : List PlainItem) : Type 0 where
  pub bytes : List ℕ
  pub tells : TellsFront told c.name c.length bytes
  pub standing : Standing
  pub rest : List ℕ
  pub gives : Gives c.standing (drop c.at bytes) is standing rest

-- the cursor stands behind the item, which is what comes next in a file that is told
pub record Goes (told : Option Files) (old : PlainCursor) (item : Item) (new : PlainCursor) : Type 0 where
  pub may_come : after_item old.standing (shown_item item) ≡ Some new.standing
  pub moved : new.at ≡ old.at + size_of old.standing (shown_item item)
  pub within : new.at ≤ new.length
  pub same_name : new.name ≡ old.name
  pub same_length : new.length ≡ old.length
  pub comes : (bytes : List ℕ) → TellsFront told old.name old.length bytes → next_of old.standing (drop old.at bytes) ≡ Some (shown_item item, (new.standing, drop new.at bytes))

-- behind the item that was given, and after a fault where it stood
abbrev pub Moves : Option Files → PlainCursor → Result Item CursorFault → PlainCursor → Type 0
Moves told old (Ok item) new = Goes told old item new
Moves told old (Err fault) new = new ≡ old
