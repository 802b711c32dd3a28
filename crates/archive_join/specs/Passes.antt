-- What a part of the join does, whatever the archives are.
use Rattle.std.specs.Prelude.{◌≡◌, ℕ, ◌+◌, ◌-◌, ◌≤◌, List, ◌++◌, Option, Some, None, option_map}
use Rattle.xa_outside.specs.Causes.{Rose}
use Rattle.xa_outside.specs.Numbers.{PullsAndDrafts}
use Rattle.record_copy.specs.Faults.{IfFolder}
use Rattle.record_copy.specs.declared.fault.CopyFault.{CopyFault}
use Rattle.record_cursor.specs.View.{PlainCursor}
use Rattle.archive_join.specs.State.{State}

-- the cursor goes on in its file and no further
pub record GoesOn (a b : PlainCursor) : Type 0 where
  pub same_name : b.name ≡ a.name
  pub same_length : b.length ≡ a.length
  pub onward : a.at ≤ b.at
  pub within : b.at ≤ b.length

-- how many bytes may be pulled: those by which the cursors moved, and after a fault those that they had left
abbrev pub may_pull : State → State → Option CopyFault → ℕ
may_pull s t None = (t.first.at - s.first.at) + (t.second.at - s.second.at)
may_pull s t (Some e) = (s.first.length - s.first.at) + (s.second.length - s.second.at)

-- The files stay, the draft only grows, by these bytes, the folder fails only where its count rose, and the cursors go on.
pub record Passes (x : List ℕ) (s t : State) (ended : Option CopyFault) : Type 0 where
  pub same_files : t.files ≡ s.files
  pub lengthens : t.draft ≡ option_map (λ d. d ++ x) s.draft
  pub later : s.faults ≤ t.faults
  pub cause : IfFolder ended (Rose s.faults t.faults)
  pub first : GoesOn s.first t.first
  pub second : GoesOn s.second t.second
  pub pulls : PullsAndDrafts (may_pull s t ended) s.numbers t.numbers
