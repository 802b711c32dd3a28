-- What a part of the copying does, whatever the archive is.
use Rattle.std.specs.Prelude.{◌≡◌, ◌≢◌, ℕ, ◌-◌, ◌≤◌, List, [], ◌∷◌, ◌++◌, Option, Some, None, option_map}
use Rattle.keyed_tree.specs.Data.{PlainLabel}
use Rattle.archive_tree.specs.Data.{Stamp}
use Rattle.xa_outside.specs.Causes.{Rose}
use Rattle.xa_outside.specs.Numbers.{PullsAndDrafts}
use Rattle.record_writer.specs.Data.{OpenInner, PlainWriter, WriterCall, call_inner, call_leaf}
use Rattle.record_copy.specs.Faults.{IfFolder}
use Rattle.record_copy.specs.State.{State}
use Rattle.record_copy.specs.declared.kind.Kind.{Kind}
use Rattle.record_copy.specs.declared.kind.Kind.TheVariants.{Inner, Leaf}
use Rattle.record_copy.specs.declared.fault.CopyFault.{CopyFault}

-- ---- states

-- how many bytes may be pulled: those by which the cursor moved, and after a fault those that it had left
abbrev pub may_pull : State → State → Option CopyFault → ℕ
may_pull s t None = t.cursor.at - s.cursor.at
may_pull s t (Some e) = s.cursor.length - s.cursor.at

-- The files stay, the draft only grows, by these bytes, the folder fails only where its count rose, and the cursor goes on in its file and no further.
pub record Passes (x : List ℕ) (s t : State) (ended : Option CopyFault) : Type 0 where
  pub same_files : t.files ≡ s.files
  pub lengthens : t.draft ≡ option_map (λ d. d ++ x) s.draft
  pub later : s.faults ≤ t.faults
  pub cause : IfFolder ended (Rose s.faults t.faults)
  pub same_name : t.cursor.name ≡ s.cursor.name
  pub same_length : t.cursor.length ≡ s.cursor.length
  pub onward : s.cursor.at ≤ t.cursor.at
  pub within : t.cursor.at ≤ t.cursor.length
  pub pulls : PullsAndDrafts (may_pull s t ended) s.numbers t.numbers

-- ---- writers

-- no leaf stands begun, and the inner nodes that do are those of before
pub record Rests (v w : PlainWriter) : Type 0 where
  pub no_leaf : w.leaf ≡ None
  pub inners : w.inners ≡ v.inners

-- no leaf stands begun, and the inner node that was begun last is closed
pub record Closes (v w : PlainWriter) : Type 0 where
  pub no_leaf : w.leaf ≡ None
  pub closed : OpenInner
  pub inners : v.inners ≡ closed ∷ w.inners

-- A node of this kind stands begun.
abbrev pub IsOpen : Kind → PlainWriter → Type 0
IsOpen Inner w = (w.leaf ≡ None) × (w.inners ≢ [])
IsOpen Leaf w = w.leaf ≢ None

-- The node of this kind that was begun last is closed.
abbrev pub EndsKind : Kind → PlainWriter → PlainWriter → Type 0
EndsKind Inner v w = Closes v w
EndsKind Leaf v w = Rests v w

-- the call that begins a node
abbrev pub call_of : Kind → PlainLabel → Stamp → List (ℕ × ℕ) → WriterCall
call_of Inner l s set = call_inner l s set
call_of Leaf l s set = call_leaf l s set
