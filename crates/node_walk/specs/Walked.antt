-- What the parts of a walk do.
use Rattle.std.specs.Prelude.{◌≡◌, ◌≢◌, ◌≤◌, ◌<◌, ℕ, ◌+◌, ◌-◌, ◌^◌, Bool, true, false, List, [], ◌∷◌, ◌++◌, length, take, drop, Option, Some, None, IsSome, ⊤, IsTrue, Result, Ok, Err, IfOk, OnOk, IfErr}
use Rattle.version_set.specs.Members.{members}
use Rattle.jsonml_tree.specs.declared.limits.TheConstants.{GREATEST_DEPTH}
use Rattle.key_spec.specs.Data.{PlainRule}
use Rattle.keyed_tree.specs.Data.{PlainLabel}
use Rattle.archive_tree.specs.Data.{Stamp, PlainAlt, PlainNode, inner_node, leaf_node, PlainNodes, node_label, node_stamp}
use Rattle.archive_tree.specs.Parts.{node_sets}
use Rattle.archive_tree.specs.PartsTest.{are_parts}
use Rattle.archive_tree.specs.View.{stamp_view}
use Rattle.xa_fields.specs.Spelling.{u64_bytes}
use Rattle.xa_outside.specs.Folder.{Files}
use Rattle.xa_outside.specs.Numbers.{PullsAtMost, after_pull}
use Rattle.record_parts.specs.ShownViews.{label_in}
use Rattle.record_format.specs.Bounds.{IsRec}
use Rattle.record_format.specs.Data.{PlainDir, end_rec}
use Rattle.record_format.specs.Nodes.{dir_of, set_in, node_piece, node_pieces}
use Rattle.record_format.specs.Spelling.{dir_bytes, framed, rec_bytes}
use Rattle.archive_file.specs.Laid.{AltsAt, NodeAt, RowAt}
use Rattle.record_cursor.specs.Faults.{IfDamage, IfFolder}
use Rattle.record_cursor.specs.Items.{PlainItem, alt_item, leaf_end_item, end_item, finish}
use Rattle.record_cursor.specs.Next.{next_of, read_for, size_of}
use Rattle.record_cursor.specs.Places.{among_nodes, closed_by, finished, after_item}
use Rattle.record_cursor.specs.Spelled.{IsSpelled}
use Rattle.record_cursor.specs.Steps.{fault_of, IsCause, Filled}
use Rattle.record_cursor.specs.declared.fault.CursorFault.{CursorFault}
use Rattle.record_cursor.specs.declared.fault.CursorFault.TheVariants.{Damage}
use Rattle.row_ends.specs.Kids.{PlainKids, AreKids, dir_in}
use Rattle.node_judge.specs.Holding.{PlainHeld, Holds}
use Rattle.node_judge.specs.Rows.{PlainFrame, PlainLeaf, root_frame, may_open, row_below, leaf_of, is_met_all, is_body_of, are_alts_of, is_next, goes_on}
use Rattle.node_walk.specs.Next.{next_view, HasLabel, HasStamp}
use Rattle.node_walk.specs.Places.{depth_of, left_of}
use Rattle.node_walk.specs.Seen.{Seen, Told, IsWhole, at_hand, Reads}
use Rattle.node_walk.specs.declared.next.Next.{Next}
use Rattle.node_walk.specs.declared.rows.InRow.{InRow}
use Rattle.node_walk.specs.declared.rows.InRow.TheVariants.{Kid, End}

-- ---- one record

-- what is not right is damage
abbrev pub or_damage : Bool → Result (Unit {0}) CursorFault
or_damage true = Ok tt
or_damage false = Err Damage

-- The item was given, and the cursor moved behind it.
pub record Given (s t : Seen) (i : PlainItem) : Type 0 where
  pub may_come : after_item s.cursor.standing i ≡ Some t.cursor.standing
  pub moved : t.cursor.at ≡ s.cursor.at + size_of s.cursor.standing i
  pub pulled : t.numbers ≡ after_pull s.numbers (read_for s.cursor.standing i)
  pub comes : (bytes : List ℕ) → Told s bytes → next_of s.cursor.standing (at_hand s bytes) ≡ Some (i, (t.cursor.standing, at_hand t bytes))
  pub spelled : (bytes : List ℕ) → Told s bytes → IsSpelled s.cursor.standing i (at_hand s bytes) (at_hand t bytes)
  pub whole : (files : Files) → s.files ≡ Some files → s.cursor.standing ≢ finished → i ≡ finish → IsWhole s files

-- What stands at the cursor in a row was read, and its label is the one that is kept. Damage is where nothing stands there
-- that may come.
pub record NextRead (l : Option PlainLabel) (s t : Seen) (r : Result Next CursorFault) : Type 0 where
  pub reads : Reads s t (fault_of r)
  pub given : IfOk r (λ n. Given s t (next_view l n))
  pub labelled : IfOk r (HasLabel l)
  pub stamped : IfOk r HasStamp
  pub damage : (bytes : List ℕ) → Told s bytes → IfErr r (λ e. IfDamage e (next_of s.cursor.standing (at_hand s bytes) ≡ None))

-- The file ends behind the END of the root, whose body has this length.
pub record FinishRead (n : ℕ) (s t : Seen) (r : Result (Unit {0}) CursorFault) : Type 0 where
  pub reads : Reads s t (fault_of r)
  pub lies : (bytes : List ℕ) → Told s bytes → OnOk r (at_hand s bytes ≡ u64_bytes n)
  pub found : (bytes : List ℕ) → Told s bytes → at_hand s bytes ≡ u64_bytes n → IfErr r (λ e. IfDamage e ⊥)
  pub whole : (files : Files) → s.files ≡ Some files → OnOk r (IsWhole s files)

-- ---- leaves

-- These are the alternatives that lie there, and they are right in their leaf.
pub record AltsHere (h : PlainLeaf) (now after : List ℕ) : Type 0 where
  pub alts : List PlainAlt
  pub lies : AltsAt alts after now
  pub only : (xs : List PlainAlt) (rest : List ℕ) → AltsAt xs rest now → (alts ≡ xs) × (after ≡ rest)
  pub right : IsTrue (are_alts_of h alts)

-- An alternative was held, or refused since it is not right in the leaf, or not behind those that are held.
pub record AltHeld (h : PlainLeaf) (old new : PlainHeld) (a : PlainAlt) (r : Result Bool CursorFault) : Type 0 where
  pub more : IfOk r (λ b. b ≡ true)
  pub right : IfOk r (λ b. IsTrue (is_body_of h a.body))
  pub holds : (xs : List PlainAlt) → Holds (members h.set) xs old → IfOk r (λ b. Holds (members h.set) (xs ++ a ∷ []) new)
  pub inside : IfErr r (λ e. IfFolder e ⊥)
  pub refused : (xs ys : List PlainAlt) → Holds (members h.set) xs old → IfErr r (λ e. IfDamage e (are_alts_of h (xs ++ a ∷ ys) ≡ false))

-- One more alternative came, which is right in the leaf and is held.
pub record OneMore (h : PlainLeaf) (old new : PlainHeld) (s t : Seen) : Type 0 where
  pub alt : PlainAlt
  pub given : Given s t (alt_item alt.stamp alt.body)
  pub right : IsTrue (is_body_of h alt.body)
  pub holds : (xs : List PlainAlt) → Holds (members h.set) xs old → Holds (members h.set) (xs ++ alt ∷ []) new

-- one more came, or the record that closes the leaf
abbrev pub Comes : PlainLeaf → PlainHeld → PlainHeld → Seen → Seen → Bool → Type 0
Comes h old new s t true = OneMore h old new s t
Comes h old new s t false = Given s t leaf_end_item × (new ≡ old)

-- The next alternative of a leaf was held, or the record that closes the leaf was passed over. Damage is where no alternatives
-- lie that are right behind those that are held.
pub record AlternativeJudged (h : PlainLeaf) (old new : PlainHeld) (s t : Seen) (r : Result Bool CursorFault) : Type 0 where
  pub reads : Reads s t (fault_of r)
  pub comes : IfOk r (Comes h old new s t)
  pub refused : (bytes : List ℕ) → Told s bytes → (done xs : List PlainAlt) (rest : List ℕ) → Holds (members h.set) done old → AltsAt xs rest (at_hand s bytes) → IsTrue (are_alts_of h (done ++ xs)) → IfErr r (λ e. IfDamage e ⊥)

-- The alternatives of a leaf were judged, to the record that closes it.
pub record AlternativesJudged (h : PlainLeaf) (s t : Seen) (r : Result (Unit {0}) CursorFault) : Type 0 where
  pub reads : Reads s t (fault_of r)
  pub behind : OnOk r (t.cursor.standing ≡ among_nodes (depth_of s.cursor.standing))
  pub lies : (bytes : List ℕ) → Told s bytes → OnOk r (AltsHere h (at_hand s bytes) (at_hand t bytes))
  pub found : (bytes : List ℕ) → Told s bytes → (xs : List PlainAlt) (rest : List ℕ) → AltsAt xs rest (at_hand s bytes) → IsTrue (are_alts_of h xs) → IfErr r (λ e. IfDamage e ⊥)

-- A leaf with this label and stamp was judged behind the record that opens it.
pub record LeafJudged (f : PlainFrame) (l : PlainLabel) (a : Stamp) (s t : Seen) (r : Result (Unit {0}) CursorFault) : Type 0 where
  pub reads : Reads s t (fault_of r)
  pub opened : OnOk r (IsTrue (may_open f true l a))
  pub behind : OnOk r (t.cursor.standing ≡ among_nodes (depth_of s.cursor.standing))
  pub lies : (bytes : List ℕ) → Told s bytes → OnOk r (AltsHere (leaf_of f l a) (at_hand s bytes) (at_hand t bytes))
  pub found : (bytes : List ℕ) → Told s bytes → (xs : List PlainAlt) (rest : List ℕ) → AltsAt xs rest (at_hand s bytes) → IsTrue (is_next f (leaf_node l a xs)) → IfErr r (λ e. IfDamage e ⊥)

-- ---- rows

-- the body of the END that the cursor moved behind, which has so many bytes
abbrev pub end_body : Seen → ℕ → List ℕ → List ℕ
end_body s n bytes = take n (drop (s.cursor.at - n) bytes)

-- The END behind these kids was judged: nothing is waited for any more, and its body is their directory, or the file is damaged.
pub record EndJudged (f : PlainFrame) (kids : PlainKids) (n : ℕ) (s t : Seen) (r : Result (Unit {0}) CursorFault) : Type 0 where
  pub same_files : t.files ≡ s.files
  pub same_draft : t.draft ≡ s.draft
  pub later : s.faults ≤ t.faults
  pub cause : IsCause s.faults t.faults (fault_of r)
  pub pulls : PullsAtMost n s.numbers t.numbers
  pub short : s.cursor.at < 2 ^ 64
  pub met : OnOk r (IsTrue (is_met_all f))
  pub lies : (bytes : List ℕ) → Told s bytes → OnOk r (dir_bytes (dir_in f.set kids) ≡ end_body s n bytes)
  pub undamaged : (bytes : List ℕ) → Told s bytes → IsTrue (is_met_all f) → dir_bytes (dir_in f.set kids) ≡ end_body s n bytes → IfErr r (λ e. IfDamage e ⊥)

-- This is the node that lies there, with this label and stamp, and it is right in its place. Its END has a body of so many bytes.
pub record KidHere (f : PlainFrame) (l : PlainLabel) (a : Stamp) (n left : ℕ) (now after : List ℕ) : Type 0 where
  pub kid : PlainNode
  pub label : node_label kid ≡ l
  pub stamp : node_stamp kid ≡ a
  pub lies : NodeAt f.set kid after left now
  pub only : (k : PlainNode) (rest : List ℕ) → NodeAt f.set k rest left now → (kid ≡ k) × (after ≡ rest)
  pub long : n ≡ (node_piece f.set kid).dir
  pub right : IsTrue (is_next f kid)

-- where the cursor stands behind what comes in a row
abbrev pub IsBehind : Option PlainLabel → Seen → Seen → InRow → Type 0
IsBehind l s t (Kid a n) = IsSome l × (t.cursor.standing ≡ s.cursor.standing) × (s.cursor.at + 9 ≤ t.cursor.at)
IsBehind l s t (End n) = Given s t (end_item n)

-- these bytes are a node with the label that is kept, or an END, and then the rest
abbrev pub Lies : PlainFrame → Option PlainLabel → ℕ → InRow → List ℕ → List ℕ → Type 0
Lies f l left (Kid a n) after now = KidHere f (label_in l) (stamp_view a) n left now after
Lies f l left (End n) after now = (body : List ℕ) × (length body ≡ n) × (now ≡ framed 4 body ++ after)

-- what is answered where the node lies there: no END, and no damage where it is right in its place
abbrev pub AnswersNode : PlainFrame → PlainNode → Result InRow CursorFault → Type 0
AnswersNode f k (Ok (Kid a n)) = ⊤
AnswersNode f k (Ok (End n)) = ⊥
AnswersNode f k (Err e) = IsTrue (is_next f k) → IfDamage e ⊥

abbrev pub IsEnd : ℕ → InRow → Type 0
IsEnd n (Kid a m) = ⊥
IsEnd n (End m) = m ≡ n

-- The next node of a row was judged, or the END behind the row was passed over.
pub record InRowJudged (f : PlainFrame) (l : Option PlainLabel) (s t : Seen) (r : Result InRow CursorFault) : Type 0 where
  pub reads : Reads s t (fault_of r)
  pub behind : IfOk r (IsBehind l s t)
  pub lies : (bytes : List ℕ) → Told s bytes → IfOk r (λ k. Lies f l (left_of s) k (at_hand t bytes) (at_hand s bytes))
  pub node : (bytes : List ℕ) → Told s bytes → (k : PlainNode) (rest : List ℕ) → NodeAt f.set k rest (left_of s) (at_hand s bytes) → AnswersNode f k r
  pub ended : (bytes : List ℕ) → Told s bytes → (d : PlainDir) (rest : List ℕ) → IsRec (end_rec d) → at_hand s bytes ≡ rec_bytes (end_rec d) ++ rest → Filled r (λ j. IsEnd (length (dir_bytes d)) j × (at_hand t bytes ≡ rest))

-- the length of the body of the END behind these nodes
abbrev pub end_length : List (ℕ × ℕ) → PlainNodes → ℕ
end_length set ks = length (dir_bytes (dir_of (node_pieces set ks)))

-- These are the nodes of the row that lies there, to its END, whose body has so many bytes. The row is right, and the kids are
-- what is kept of them.
pub record RowHere (f : PlainFrame) (kids : PlainKids) (n left : ℕ) (now after : List ℕ) : Type 0 where
  pub nodes : PlainNodes
  pub lies : RowAt f.set nodes after left now
  pub only : (ks : PlainNodes) (rest : List ℕ) → RowAt f.set ks rest left now → (nodes ≡ ks) × (after ≡ rest)
  pub long : n ≡ end_length f.set nodes
  pub right : IsTrue (goes_on f nodes)
  pub are : AreKids f.set (node_pieces f.set nodes) kids

-- A row was judged to its END.
pub record RowJudged (f : PlainFrame) (kids : PlainKids) (s t : Seen) (r : Result ℕ CursorFault) : Type 0 where
  pub reads : Reads s t (fault_of r)
  pub behind : IfOk r (λ n. t.cursor.standing ≡ closed_by n (depth_of s.cursor.standing))
  pub lies : (bytes : List ℕ) → Told s bytes → IfOk r (λ n. RowHere f kids n (left_of s) (at_hand s bytes) (at_hand t bytes))
  pub found : (bytes : List ℕ) → Told s bytes → (ks : PlainNodes) (rest : List ℕ) → RowAt f.set ks rest (left_of s) (at_hand s bytes) → IsTrue (goes_on f ks) → IfErr r (λ e. IfDamage e ⊥)

-- An inner node with this label and stamp was judged behind the record that opens it.
pub record InnerJudged (f : PlainFrame) (l : PlainLabel) (a : Stamp) (s t : Seen) (r : Result ℕ CursorFault) : Type 0 where
  pub reads : Reads s t (fault_of r)
  pub opened : OnOk r (IsTrue (may_open f false l a))
  pub behind : IfOk r (λ n. t.cursor.standing ≡ closed_by n (depth_of s.cursor.standing))
  pub lies : (bytes : List ℕ) → Told s bytes → IfOk r (λ n. (kids : PlainKids) × RowHere (row_below f l a) kids n (left_of s) (at_hand s bytes) (at_hand t bytes))
  pub found : (bytes : List ℕ) → Told s bytes → (ks : PlainNodes) (rest : List ℕ) → RowAt (set_in a f.set) ks rest (left_of s) (at_hand s bytes) → IsTrue (is_next f (inner_node l a ks)) → IfErr r (λ e. IfDamage e ⊥)

-- the row of the virtual root is right, whose versions are the set, and the sets of its nodes divide the versions
abbrev pub IsRootRight : List PlainRule → List (ℕ × ℕ) → PlainNodes → Type 0
IsRootRight rules set ks = IsTrue (goes_on (root_frame rules set GREATEST_DEPTH) ks) × IsTrue (are_parts (members set) (node_sets (members set) ks))

-- The row of the virtual root was judged to its END.
pub record RootJudged (rules : List PlainRule) (set : List (ℕ × ℕ)) (s t : Seen) (r : Result ℕ CursorFault) : Type 0 where
  pub reads : Reads s t (fault_of r)
  pub behind : IfOk r (λ n. t.cursor.standing ≡ closed_by n (depth_of s.cursor.standing))
  pub lies : (bytes : List ℕ) → Told s bytes → IfOk r (λ n. (kids : PlainKids) × (x : RowHere (root_frame rules set GREATEST_DEPTH) kids n (left_of s) (at_hand s bytes) (at_hand t bytes)) × IsTrue (are_parts (members set) (node_sets (members set) x.nodes)))
  pub found : (bytes : List ℕ) → Told s bytes → (ks : PlainNodes) (rest : List ℕ) → RowAt set ks rest (left_of s) (at_hand s bytes) → IsRootRight rules set ks → IfErr r (λ e. IfDamage e ⊥)
