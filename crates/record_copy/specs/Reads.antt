-- What is read of an archive, seen with n more in each number.
use Rattle.std.specs.Prelude.{◌≡◌, ℕ, ◌+◌, ◌≤◌, ◌<◌, List, [], ◌∷◌, Option, Some, None, option_map, Result, Ok, Err, IfOk, OnOk, IfSome, ⊤}
use Rattle.archive_tree.specs.Data.{PlainAlt}
use Rattle.record_cursor.specs.Items.{PlainItem, alt_item, leaf_end_item, end_item, finish}
use Rattle.record_copy.specs.Faults.{fault_of, IfLong}
use Rattle.record_copy.specs.Parts.{PlainHead, alternative_view, head_view, opening}
use Rattle.record_copy.specs.Passes.{Passes}
use Rattle.record_copy.specs.Seen.{Coming}
use Rattle.record_copy.specs.Short.{IfStored, IsShortBody, IsShortLabel, IsRaisedOf}
use Rattle.record_copy.specs.State.{State}
use Rattle.record_copy.specs.declared.fault.CopyFault.{CopyFault}
use Rattle.record_copy.specs.declared.fault.CopyFault.TheVariants.{Damage}
use Rattle.record_copy.specs.declared.parts.Alternative.{Alternative}
use Rattle.record_copy.specs.declared.parts.Head.{Head}

-- What was read shows this, and these come next; or it failed, but for no damage.
abbrev pub Shows : {T U : Type 0} → ℕ → (T → U) → U → List PlainItem → State → Result T CopyFault → Type 0
Shows n view u next t (Ok x) = (view x ≡ u) × Coming n t.files t.cursor next
Shows n view u next t (Err Damage) = ⊥
Shows n view u next t (Err other) = ⊤

-- Its label is short, and its stored set passes.
pub record IsShortHead (S : List (ℕ × ℕ) → Type 0) (b : ℕ) (h : PlainHead) : Type 0 where
  pub label : IsShortLabel b h.label
  pub stamp : IfStored S h.stamp

-- So are the body and the set of an alternative.
pub record IsShortAlternative (S : List (ℕ × ℕ) → Type 0) (b : ℕ) (a : PlainAlt) : Type 0 where
  pub body : IsShortBody b a.body
  pub stamp : IfStored S a.stamp

-- The next node of a row was read, or the END behind the row.
pub record HeadRead (n : ℕ) (s t : State) (head : Result (Option Head) CopyFault) : Type 0 where
  pub passes : Passes [] s t (fault_of head)
  pub not_long : IfLong (fault_of head) ⊥
  pub onward : OnOk head (s.cursor.at < t.cursor.at)
  pub short : (b : ℕ) → s.cursor.length + 12 ≤ b → IfOk head (λ o. IfSome o (λ h. IsShortHead (IsRaisedOf b n) b (head_view h)))
  pub node : (h : PlainHead) (next : List PlainItem) → Coming n s.files s.cursor (opening h ∷ next) → Shows n (option_map head_view) (Some h) next t head
  pub ended : (next : List PlainItem) → Coming n s.files s.cursor (end_item 0 ∷ next) → Shows n (option_map head_view) None next t head

-- The next alternative of a leaf was read, or the end of the leaf.
pub record AlternativeRead (n : ℕ) (s t : State) (alternative : Result (Option Alternative) CopyFault) : Type 0 where
  pub passes : Passes [] s t (fault_of alternative)
  pub not_long : IfLong (fault_of alternative) ⊥
  pub onward : OnOk alternative (s.cursor.at < t.cursor.at)
  pub short : (b : ℕ) → s.cursor.length + 12 ≤ b → IfOk alternative (λ o. IfSome o (λ a. IsShortAlternative (IsRaisedOf b n) b (alternative_view a)))
  pub one : (a : PlainAlt) (next : List PlainItem) → Coming n s.files s.cursor (alt_item a.stamp a.body ∷ next) → Shows n (option_map alternative_view) (Some a) next t alternative
  pub ended : (next : List PlainItem) → Coming n s.files s.cursor (leaf_end_item ∷ next) → Shows n (option_map alternative_view) None next t alternative

-- The end of the file was read.
pub record FinishRead (n : ℕ) (s t : State) (done : Result (Unit {0}) CopyFault) : Type 0 where
  pub passes : Passes [] s t (fault_of done)
  pub not_long : IfLong (fault_of done) ⊥
  pub ended : (next : List PlainItem) → Coming n s.files s.cursor (finish ∷ next) → Shows n (λ (x : Unit {0}). x) tt next t done
