-- What is done with the nodes of both archives, under a node that has p in the first, q in the second, with n more in each number, and both together.
use Rattle.std.specs.Prelude.{◌≡◌, ◌<◌, ◌≤◌, ◌+◌, ℕ, List, [], ◌∷◌, ◌++◌, Bool, true, false, Option, Some, None, Result, Ok, Err, IfOk, OnOk}
use Rattle.keyed_tree.specs.Lists.{Ascends}
use Rattle.keyed_tree.specs.Order.{label_cmp}
use Rattle.archive_tree.specs.Data.{PlainNode, PlainNodes, node, nodes_list}
use Rattle.archive_tree.specs.Stands.{labels}
use Rattle.record_copy.specs.Faults as copy
use Rattle.record_copy.specs.Parts.{PlainHead, head_of}
use Rattle.record_copy.specs.Passes.{Rests, Closes}
use Rattle.record_copy.specs.Reads.{IsShortHead}
use Rattle.record_copy.specs.Seen.{Coming, inside_items, row_items}
use Rattle.record_copy.specs.Short.{AreShort, IsRaisedOf}
use Rattle.record_copy.specs.declared.kind.Kind.{Kind}
use Rattle.record_copy.specs.declared.kind.Kind.TheVariants.{Inner, Leaf}
use Rattle.record_cursor.specs.Items.{PlainItem, end_item}
use Rattle.record_writer.specs.Data.{WriterCall, call_end_inner}
use Rattle.record_writer.specs.Walks.{node_calls, row_calls}
use Rattle.archive_join.specs.Faults.{fault_of, plain, SparesFirst, SparesSecond}
use Rattle.archive_join.specs.Heads.{AreShortHeads, Left}
use Rattle.archive_join.specs.Joined.{joined_node, joined_row}
use Rattle.archive_join.specs.Leaves.{LeafJoined}
use Rattle.archive_join.specs.Meets.{Meet, RowsMeet}
use Rattle.archive_join.specs.Runs.{Run, AreCalls, KeepsFirst, KeepsSecond}
use Rattle.archive_join.specs.Short.{IsMadeOf}
use Rattle.archive_join.specs.State.{State}
use Rattle.archive_join.specs.declared.fault.JoinFault.{JoinFault}

-- labels ascend in both rows, and nodes of one label can stand in one
pub record RowsFit (ks js : PlainNodes) : Type 0 where
  pub first : Ascends label_cmp (labels ks)
  pub second : Ascends label_cmp (labels js)
  pub meet : RowsMeet ks (nodes_list js)

-- The nodes of both rows are written, where they come and the ENDs behind them.
pub record RowJoined (n : ℕ) (p q both : List (ℕ × ℕ)) (s t : State) (ended : Option JoinFault) : Type 0 where
  pub made : List WriterCall
  pub next : WriterCall
  pub run : Run made next s t (plain ended)
  pub rests : copy.Unless (plain ended) (Rests s.writer t.writer)
  pub short : (b : ℕ) → s.first.length + 12 ≤ b → s.second.length + 12 ≤ b → IsRaisedOf b 0 p → IsRaisedOf b n q → AreShort (IsMadeOf b n) b made next (plain ended)
  pub first : (ks : PlainNodes) (behind : List PlainItem) → Coming 0 s.files s.first (row_items ks ++ end_item 0 ∷ behind) → KeepsFirst behind t ended
  pub second : (js : PlainNodes) (behind : List PlainItem) → Coming n s.files s.second (row_items js ++ end_item 0 ∷ behind) → KeepsSecond n behind t ended
  pub rows : (ks js : PlainNodes) (others more : List PlainItem) → Coming 0 s.files s.first (row_items ks ++ end_item 0 ∷ others) → Coming n s.files s.second (row_items js ++ end_item 0 ∷ more) → RowsFit ks js
      → AreCalls (row_calls both (joined_row p q ks (nodes_list js))) made next (plain ended)

-- A node whose heads were read of both, of one kind and label, is written, where what is inside it comes.
pub record NodeJoined (n : ℕ) (p q both : List (ℕ × ℕ)) (one two : PlainHead) (s t : State) (ended : Option JoinFault) : Type 0 where
  pub made : List WriterCall
  pub next : WriterCall
  pub run : Run made next s t (plain ended)
  pub rests : copy.Unless (plain ended) (Rests s.writer t.writer)
  pub short : (b : ℕ) → s.first.length + 12 ≤ b → s.second.length + 12 ≤ b → IsRaisedOf b 0 p → IsRaisedOf b n q → IsShortHead (IsRaisedOf b 0) b one → IsShortHead (IsRaisedOf b n) b two → AreShort (IsMadeOf b n) b made next (plain ended)
  pub first : (k : PlainNode) (behind : List PlainItem) → one ≡ head_of k → Coming 0 s.files s.first (inside_items k ++ behind) → KeepsFirst behind t ended
  pub second : (j : PlainNode) (behind : List PlainItem) → two ≡ head_of j → Coming n s.files s.second (inside_items j ++ behind) → KeepsSecond n behind t ended
  pub nodes : (k j : PlainNode) (others more : List PlainItem) → one ≡ head_of k → two ≡ head_of j → Coming 0 s.files s.first (inside_items k ++ others) → Coming n s.files s.second (inside_items j ++ more) → Meet k j
      → AreCalls (node_calls both (joined_node p q k j)) made next (plain ended)

-- ---- one turn of a row

-- What is left of rows behind a turn: with a node more to come there, the calls that are left are the rest of those that were.
pub record TurnLeaves (n : ℕ) (p q both : List (ℕ × ℕ)) (made : List WriterCall) (ks js : PlainNodes) (others more : List PlainItem) (t : State) (one two : Option PlainHead) : Type 0 where
  pub ks_left : PlainNodes
  pub js_left : PlainNodes
  pub first : Left 0 t.files t.first one ks_left others
  pub second : Left n t.files t.second two js_left more
  pub fits : RowsFit ks_left js_left
  pub calls : row_calls both (joined_row p q ks (nodes_list js)) ≡ made ++ row_calls both (joined_row p q ks_left (nodes_list js_left))

-- some nodes are left
pub record SomeLeftFirst (n : ℕ) (behind : List PlainItem) (t : State) (h : Option PlainHead) : Type 0 where
  pub ks : PlainNodes
  pub first : Left n t.files t.first h ks behind

pub record SomeLeftSecond (n : ℕ) (behind : List PlainItem) (t : State) (h : Option PlainHead) : Type 0 where
  pub js : PlainNodes
  pub second : Left n t.files t.second h js behind

abbrev pub FirstGoesOn : List PlainItem → State → Option PlainHead → Result Bool JoinFault → Type 0
FirstGoesOn behind t one (Ok true) = SomeLeftFirst 0 behind t one
FirstGoesOn behind t one (Ok false) = Coming 0 t.files t.first behind
FirstGoesOn behind t one (Err e) = SparesFirst (Some e)

abbrev pub SecondGoesOn : ℕ → List PlainItem → State → Option PlainHead → Result Bool JoinFault → Type 0
SecondGoesOn n behind t two (Ok true) = SomeLeftSecond n behind t two
SecondGoesOn n behind t two (Ok false) = Coming n t.files t.second behind
SecondGoesOn n behind t two (Err e) = SparesSecond (Some e)

abbrev pub RowsGoOn : ℕ → List (ℕ × ℕ) → List (ℕ × ℕ) → List (ℕ × ℕ) → List WriterCall → WriterCall → PlainNodes → PlainNodes → List PlainItem → List PlainItem → State → Option PlainHead → Option PlainHead → Result Bool JoinFault → Type 0
RowsGoOn n p q both made next ks js others more t one two (Ok true) = TurnLeaves n p q both made ks js others more t one two
RowsGoOn n p q both made next ks js others more t one two (Ok false) = made ≡ row_calls both (joined_row p q ks (nodes_list js))
RowsGoOn n p q both made next ks js others more t one two (Err e) = AreCalls (row_calls both (joined_row p q ks (nodes_list js))) made next (plain (Some e))

-- The next node of the rows is written, and the heads behind it are read; or there was none: whether there was.
pub record TurnJoined (n : ℕ) (p q both : List (ℕ × ℕ)) (one two one_now two_now : Option PlainHead) (s t : State) (had : Result Bool JoinFault) : Type 0 where
  pub made : List WriterCall
  pub next : WriterCall
  pub run : Run made next s t (plain (fault_of had))
  pub rests : OnOk had (Rests s.writer t.writer)
  pub onward : IfOk had (λ h. h ≡ true → s.first.at + s.second.at < t.first.at + t.second.at)
  pub short : (b : ℕ) → s.first.length + 12 ≤ b → s.second.length + 12 ≤ b → IsRaisedOf b 0 p → IsRaisedOf b n q → AreShortHeads b n one two → AreShort (IsMadeOf b n) b made next (plain (fault_of had)) × OnOk had (AreShortHeads b n one_now two_now)
  pub first : (ks : PlainNodes) (behind : List PlainItem) → Left 0 s.files s.first one ks behind → FirstGoesOn behind t one_now had
  pub second : (js : PlainNodes) (behind : List PlainItem) → Left n s.files s.second two js behind → SecondGoesOn n behind t two_now had
  pub rows : (ks js : PlainNodes) (others more : List PlainItem) → Left 0 s.files s.first one ks others → Left n s.files s.second two js more → RowsFit ks js → RowsGoOn n p q both made next ks js others more t one_now two_now had

-- ---- a node that both have

-- The nodes of both rows are written, where they come and the ENDs behind them, and the inner node that they are in is closed.
pub record InnerJoined (n : ℕ) (p q both : List (ℕ × ℕ)) (s t : State) (ended : Option JoinFault) : Type 0 where
  pub made : List WriterCall
  pub next : WriterCall
  pub run : Run made next s t (plain ended)
  pub closed : copy.Unless (plain ended) (Closes s.writer t.writer)
  pub short : (b : ℕ) → s.first.length + 12 ≤ b → s.second.length + 12 ≤ b → IsRaisedOf b 0 p → IsRaisedOf b n q → AreShort (IsMadeOf b n) b made next (plain ended)
  pub first : (ks : PlainNodes) (behind : List PlainItem) → Coming 0 s.files s.first (row_items ks ++ end_item 0 ∷ behind) → KeepsFirst behind t ended
  pub second : (js : PlainNodes) (behind : List PlainItem) → Coming n s.files s.second (row_items js ++ end_item 0 ∷ behind) → KeepsSecond n behind t ended
  pub rows : (ks js : PlainNodes) (others more : List PlainItem) → Coming 0 s.files s.first (row_items ks ++ end_item 0 ∷ others) → Coming n s.files s.second (row_items js ++ end_item 0 ∷ more) → RowsFit ks js
      → AreCalls (row_calls both (joined_row p q ks (nodes_list js)) ++ call_end_inner ∷ []) made next (plain ended)

-- What is inside a node of this kind is written, and the node is closed.
abbrev pub InsideJoined : Kind → ℕ → List (ℕ × ℕ) → List (ℕ × ℕ) → List (ℕ × ℕ) → State → State → Option JoinFault → Type 0
InsideJoined Inner n p q both s t ended = InnerJoined n p q both s t ended
InsideJoined Leaf n p q both s t ended = LeafJoined n p q s t ended

abbrev pub FirstLeft : PlainNodes → List PlainItem → State → Option PlainHead → Option JoinFault → Type 0
FirstLeft ks behind t one None = Left 0 t.files t.first one ks behind
FirstLeft ks behind t one (Some e) = SparesFirst (Some e)

abbrev pub SecondLeft : ℕ → PlainNodes → List PlainItem → State → Option PlainHead → Option JoinFault → Type 0
SecondLeft n js behind t two None = Left n t.files t.second two js behind
SecondLeft n js behind t two (Some e) = SparesSecond (Some e)

-- The node that both have next is written, and the heads behind it are read.
pub record PairJoined (n : ℕ) (p q both : List (ℕ × ℕ)) (one two one_now two_now : Option PlainHead) (s t : State) (ended : Option JoinFault) : Type 0 where
  pub made : List WriterCall
  pub next : WriterCall
  pub run : Run made next s t (plain ended)
  pub rests : copy.Unless (plain ended) (Rests s.writer t.writer)
  pub onward : copy.Unless (plain ended) (s.first.at + s.second.at < t.first.at + t.second.at)
  pub short : (b : ℕ) → s.first.length + 12 ≤ b → s.second.length + 12 ≤ b → IsRaisedOf b 0 p → IsRaisedOf b n q → AreShortHeads b n one two
      → AreShort (IsMadeOf b n) b made next (plain ended) × copy.Unless (plain ended) (AreShortHeads b n one_now two_now)
  pub first : (k : PlainNode) (ks : PlainNodes) (behind : List PlainItem) → Left 0 s.files s.first one (node k ks) behind → FirstLeft ks behind t one_now ended
  pub second : (j : PlainNode) (js : PlainNodes) (behind : List PlainItem) → Left n s.files s.second two (node j js) behind → SecondLeft n js behind t two_now ended
  pub nodes : (k j : PlainNode) (ks js : PlainNodes) (others more : List PlainItem) → Left 0 s.files s.first one (node k ks) others → Left n s.files s.second two (node j js) more → Meet k j
      → AreCalls (node_calls both (joined_node p q k j)) made next (plain ended)
