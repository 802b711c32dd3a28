-- The alternatives of a leaf are read.
use Rattle.std.specs.Prelude.{◌≡◌, ◌≤◌, ◌+◌, ℕ, List, [], ◌∷◌, ◌++◌, map, Result, Ok, Err, IfOk, ⊤}
use Rattle.std.specs.List.{AllByRecursion}
use Rattle.archive_tree.specs.Data.{PlainAlt}
use Rattle.record_cursor.specs.Items.{PlainItem, leaf_end_item}
use Rattle.record_cursor.specs.Moves.{Comes}
use Rattle.record_copy.specs.Faults.{IfLong, fault_of}
use Rattle.record_copy.specs.Passes.{Passes}
use Rattle.record_copy.specs.State.{State}
use Rattle.record_copy.specs.declared.fault.CopyFault.{CopyFault}
use Rattle.record_copy.specs.declared.fault.CopyFault.TheVariants.{Damage}
use Rattle.archive_cut.specs.Held.{held_view, KnowsFirst, alts_left, IsShortAlt}
use Rattle.record_cursor.specs.NodeItems.{alt_items}
use Rattle.archive_cut.specs.declared.held.Held.{Held}

-- Of these alternatives, which came, what is held is left, and these items come next; or it failed, but for no damage.
abbrev pub Reads : ℕ → ℕ → List (ℕ × ℕ) → List PlainAlt → List PlainItem → State → Result (List Held) CopyFault → Type 0
Reads i j now xs behind t (Ok held) = (map held_view held ≡ alts_left i j now xs) × Comes t.files t.cursor behind
Reads i j now xs behind t (Err Damage) = ⊥
Reads i j now xs behind t (Err other) = ⊤

-- The alternatives of a leaf, where they come and its end, are read, and what is left of them is held, where now is left of the leaf's set.
pub record AltsRead (i j : ℕ) (now : List (ℕ × ℕ)) (s t : State) (held : Result (List Held) CopyFault) : Type 0 where
  pub passes : Passes [] s t (fault_of held)
  pub not_long : IfLong (fault_of held) ⊥
  pub firsts : IfOk held (AllByRecursion (KnowsFirst now))
  pub short : (b : ℕ) → s.cursor.length + 12 ≤ b → IfOk held (λ hs. AllByRecursion (IsShortAlt b i j) (map held_view hs))
  pub alternatives : (xs : List PlainAlt) (behind : List PlainItem) → Comes s.files s.cursor (alt_items xs ++ leaf_end_item ∷ behind) → Reads i j now xs behind t held
