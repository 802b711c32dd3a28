-- The alternatives of a leaf of the second archive, held.
use Rattle.std.specs.Prelude.{◌≡◌, ℕ, Bool, not, List, filter, map}
use Rattle.std.specs.Cmp.Lexicographic.{slice_cmp}
use Rattle.std.specs.List.{AllByRecursion, enumerate_from, list_any}
use Rattle.std.specs.List.Sorted.{IsPermutation, IsSorted}
use Rattle.std.specs.Ordering.{is_eq, nat_cmp}
use Rattle.keyed_tree.specs.Data.{PlainKey}
use Rattle.keyed_tree.specs.Order.{key_cmp}
use Rattle.archive_tree.specs.Data.{PlainAlt}
use Rattle.record_parts.specs.Spelling.{value_bytes}
use Rattle.record_copy.specs.Parts.{alternative_view}
use Rattle.record_copy.specs.Reads.{IsShortAlternative}
use Rattle.record_copy.specs.Short.{IsRaisedOf}
use Rattle.archive_join.specs.declared.held.Entry.{Entry}
use Rattle.archive_join.specs.declared.held.Held.{Held}

-- the body is one of these
abbrev pub is_among : PlainKey → List PlainKey → Bool
is_among b bs = list_any (λ c. is_eq (key_cmp c b)) bs

-- those whose bodies were not taken
abbrev pub left_over : List PlainKey → List PlainAlt → List PlainAlt
left_over taken ys = filter (λ y. not (is_among y.body taken)) ys

-- ---- entries

abbrev pub shown : Entry → PlainAlt
shown e = alternative_view e.alternative

-- with how many came before it
abbrev pub placed : Entry → ℕ × PlainAlt
placed e = (e.at, shown e)

-- the bytes of its body
abbrev pub spelled : Entry → List ℕ
spelled e = value_bytes (shown e).body

-- it is marked just where its body is one of these
abbrev pub IsMarked : List PlainKey → Entry → Type 0
IsMarked taken e = e.taken ≡ is_among (shown e).body taken

abbrev pub Ascend : List Entry → Type 0
Ascend es = IsSorted (slice_cmp nat_cmp) (map spelled es)

-- These are held, each with its place, in the order of the bytes of their bodies, and those whose bodies were taken are marked.
pub record Holds (ys : List PlainAlt) (taken : List PlainKey) (h : Held) : Type 0 where
  pub all : IsPermutation (enumerate_from 0 ys) (map placed h.entries.items)
  pub marked : AllByRecursion (IsMarked taken) h.entries.items
  pub in_order : Ascend h.entries.items

-- the body of each is short, and its set few bytes with n more in each number
abbrev pub HoldsShort : ℕ → ℕ → Held → Type 0
HoldsShort b n h = AllByRecursion (IsShortAlternative (IsRaisedOf b n) b) (map shown h.entries.items)
