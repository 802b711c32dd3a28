-- Calls of the writer that are given parts of few bytes.
use Rattle.std.specs.Prelude.{◌≡◌, ℕ, ◌≤◌, List, length, Option, Some, None, ⊤}
use Rattle.std.specs.List.{AllByRecursion}
use Rattle.timestamp_tree.specs.Bytes.{set_bytes}
use Rattle.keyed_tree.specs.Data.{PlainKey, PlainLabel}
use Rattle.archive_tree.specs.Data.{Stamp}
use Rattle.record_parts.specs.Shapes.{FitsLabel, FitsValue}
use Rattle.record_parts.specs.Spelling.{label_bytes, value_bytes}
use Rattle.record_writer.specs.Data.{WriterCall, call_inner, call_leaf, call_alt, call_end_leaf, call_end_inner, call_finish}
use Rattle.record_copy.specs.Faults.{IfLong}
use Rattle.record_copy.specs.Raised.{raised}
use Rattle.record_copy.specs.declared.fault.CopyFault.{CopyFault}

-- its lengths and counts fit their fields, and it takes at most so many bytes
abbrev pub IsShortLabel : ℕ → PlainLabel → Type 0
IsShortLabel b l = FitsLabel l × (length (label_bytes l) ≤ b)

abbrev pub IsShortBody : ℕ → PlainKey → Type 0
IsShortBody b v = FitsValue v × (length (value_bytes v) ≤ b)

-- a stored set passes
abbrev pub IfStored : (List (ℕ × ℕ) → Type 0) → Stamp → Type 0
IfStored S None = ⊤
IfStored S (Some s) = S s

-- a set that takes at most so many bytes, with n more in each number
abbrev pub IsRaisedOf : ℕ → ℕ → List (ℕ × ℕ) → Type 0
IsRaisedOf b n q = (p : List (ℕ × ℕ)) × (length (set_bytes p) ≤ b) × (q ≡ raised n p)

-- each label and body that it is given is short, and each set passes
abbrev pub IsShortCall : (List (ℕ × ℕ) → Type 0) → ℕ → WriterCall → Type 0
IsShortCall S b (call_inner l s set) = IsShortLabel b l × IfStored S s × S set
IsShortCall S b (call_leaf l s set) = IsShortLabel b l × IfStored S s × S set
IsShortCall S b (call_alt s v) = IfStored S s × IsShortBody b v
IsShortCall S b call_end_leaf = ⊤
IsShortCall S b call_end_inner = ⊤
IsShortCall S b call_finish = ⊤

-- so are the calls that were made, and the one that did not fit
pub record AreShort (S : List (ℕ × ℕ) → Type 0) (b : ℕ) (made : List WriterCall) (next : WriterCall) (ended : Option CopyFault) : Type 0 where
  pub each : AllByRecursion (IsShortCall S b) made
  pub last : IfLong ended (IsShortCall S b next)
