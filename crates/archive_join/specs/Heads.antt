-- The next node of a row in each archive, as far as there is one.
use Rattle.std.specs.Prelude.{◌≡◌, ◌+◌, ◌<◌, ℕ, List, [], ◌∷◌, ◌++◌, Option, Some, None, option_map, Result, Ok, Err, IfOk, OnOk, IfSome, ◌≤◌, ⊤}
use Rattle.std.specs.Ordering.{ordering_then}
use Rattle.std.specs.declared.cmp.Ordering.{Ordering}
use Rattle.std.specs.declared.cmp.Ordering.TheVariants.{Less, Equal, Greater}
use Rattle.xa_outside.specs.Folder.{Files}
use Rattle.keyed_tree.specs.Order.{label_cmp}
use Rattle.archive_tree.specs.Data.{PlainNode, PlainNodes, no_nodes, node}
use Rattle.record_copy.specs.Faults.{Unless, IfLong}
use Rattle.record_copy.specs.Parts.{PlainHead, head_of, head_view}
use Rattle.record_copy.specs.Passes.{Rests}
use Rattle.record_copy.specs.Reads.{IsShortHead}
use Rattle.record_copy.specs.Runs.{Run}
use Rattle.record_copy.specs.Seen.{Coming, inside_items, row_items}
use Rattle.record_copy.specs.Short.{AreShort, IsRaisedOf}
use Rattle.record_copy.specs.State as copy
use Rattle.record_copy.specs.declared.fault.CopyFault.{CopyFault}
use Rattle.record_copy.specs.declared.fault.CopyFault.TheVariants.{Damage}
use Rattle.record_copy.specs.declared.kind.Kind.{Kind}
use Rattle.record_copy.specs.declared.kind.Kind.TheVariants.{Inner, Leaf}
use Rattle.record_cursor.specs.Items.{PlainItem, end_item}
use Rattle.record_cursor.specs.View.{PlainCursor}
use Rattle.record_writer.specs.Data.{WriterCall}
use Rattle.record_writer.specs.Walks.{node_calls}
use Rattle.archive_join.specs.Faults.{fault_of, plain, SparesFirst, SparesSecond}
use Rattle.archive_join.specs.Joined.{alone_node}
use Rattle.archive_join.specs.Passes.{Passes}
use Rattle.archive_join.specs.Runs.{AreCalls}
use Rattle.archive_join.specs.State.{State}
use Rattle.archive_join.specs.declared.fault.JoinFault.{JoinFault}
use Rattle.archive_join.specs.declared.heads.Heads.{Heads}

-- ---- their order

abbrev pub kind_cmp : Kind → Kind → Ordering
kind_cmp Inner Inner = Equal
kind_cmp Leaf Leaf = Equal
kind_cmp Inner Leaf = Less
kind_cmp Leaf Inner = Less

-- by their labels; of two kinds that of the first comes before that of the second
abbrev pub head_cmp : PlainHead → PlainHead → Ordering
head_cmp h j = ordering_then (label_cmp h.label j.label) (kind_cmp h.kind j.kind)

-- which comes next: that of the first alone, both, or that of the second alone
abbrev pub turn : Option PlainHead → Option PlainHead → Option Ordering
turn None None = None
turn (Some h) None = Some Less
turn None (Some j) = Some Greater
turn (Some h) (Some j) = Some (head_cmp h j)

abbrev pub one_of : Heads → Option PlainHead
one_of hs = option_map head_view hs.one

abbrev pub two_of : Heads → Option PlainHead
two_of hs = option_map head_view hs.two

-- ---- what is left of a row

-- The head is that of the first of these nodes, and the rest of them come, seen with n more in each number, with the END behind them and then these; or there are no nodes, and no head, and these come.
abbrev pub Left : ℕ → Option Files → PlainCursor → Option PlainHead → PlainNodes → List PlainItem → Type 0
Left n told c h no_nodes behind = (h ≡ None) × Coming n told c behind
Left n told c h (node k ks) behind = (h ≡ Some (head_of k)) × Coming n told c (inside_items k ++ (row_items ks ++ end_item 0 ∷ behind))

-- the label is short, and the set few bytes
abbrev pub AreShortHeads : ℕ → ℕ → Option PlainHead → Option PlainHead → Type 0
AreShortHeads b n one two = IfSome one (IsShortHead (IsRaisedOf b 0) b) × IfSome two (IsShortHead (IsRaisedOf b n) b)

-- Without a fault so is what is left.
abbrev pub LeavesFirst : PlainNodes → List PlainItem → State → Result Heads JoinFault → Type 0
LeavesFirst ks behind t (Ok hs) = Left 0 t.files t.first (one_of hs) ks behind
LeavesFirst ks behind t (Err e) = SparesFirst (Some e)

abbrev pub LeavesSecond : ℕ → PlainNodes → List PlainItem → State → Result Heads JoinFault → Type 0
LeavesSecond n js behind t (Ok hs) = Left n t.files t.second (two_of hs) js behind
LeavesSecond n js behind t (Err e) = SparesSecond (Some e)

-- The next node of a row, or the END behind the row, was read of each archive.
pub record HeadsRead (n : ℕ) (s t : State) (heads : Result Heads JoinFault) : Type 0 where
  pub passes : Passes [] s t (plain (fault_of heads))
  pub not_long : IfLong (plain (fault_of heads)) ⊥
  pub onward : OnOk heads (s.first.at + s.second.at < t.first.at + t.second.at)
  pub short : (b : ℕ) → s.first.length + 12 ≤ b → s.second.length + 12 ≤ b → IfOk heads (λ hs. AreShortHeads b n (one_of hs) (two_of hs))
  pub first : (ks : PlainNodes) (behind : List PlainItem) → Coming 0 s.files s.first (row_items ks ++ end_item 0 ∷ behind) → LeavesFirst ks behind t heads
  pub second : (js : PlainNodes) (behind : List PlainItem) → Coming n s.files s.second (row_items js ++ end_item 0 ∷ behind) → LeavesSecond n js behind t heads

-- ---- what one archive has alone

-- without a fault the head is that of what is left
abbrev pub LeavesOne : ℕ → PlainNodes → List PlainItem → copy.State → Option PlainHead → Option CopyFault → Type 0
LeavesOne n ks behind t h None = Left n t.files t.cursor h ks behind
LeavesOne n ks behind t h (Some Damage) = ⊥
LeavesOne n ks behind t h (Some other) = ⊤

-- The node whose head was read is written as one that the archive alone has, where its parent has p there and q in the other; and the next head is read.
pub record PassedAlone (n : ℕ) (p q : List (ℕ × ℕ)) (old now : Option PlainHead) (s t : copy.State) (ended : Option CopyFault) : Type 0 where
  pub made : List WriterCall
  pub next : WriterCall
  pub run : Run made next s t ended
  pub rests : Unless ended (Rests s.writer t.writer)
  pub onward : Unless ended (s.cursor.at < t.cursor.at)
  pub short : (b : ℕ) → s.cursor.length + 12 ≤ b → IsRaisedOf b n p → IfSome old (IsShortHead (IsRaisedOf b n) b) → AreShort (IsRaisedOf b n) b made next ended × Unless ended (IfSome now (IsShortHead (IsRaisedOf b n) b))
  pub node : (both : List (ℕ × ℕ)) (k : PlainNode) (ks : PlainNodes) (behind : List PlainItem) → (q ≡ [] → both ≡ p) → Left n s.files s.cursor old (node k ks) behind
      → AreCalls (node_calls both (alone_node p q k)) made next ended × LeavesOne n ks behind t now ended
