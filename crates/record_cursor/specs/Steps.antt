-- What the parts of a call do.
use Rattle.std.specs.Prelude.{◌≡◌, ◌+◌, ◌≤◌, ◌==◌, ⊤, ℕ, zero, suc, List, [], ◌++◌, length, take, drop, Option, Some, None, option_map, Result, Ok, Err, nat_lt, IsTrue, if◌then◌else◌}
use Rattle.std.specs.Int.{w32, w64}
use Rattle.xa_fields.specs.Reading.{byte_at, number_at}
use Rattle.xa_outside.specs.Causes.{Rose}
use Rattle.xa_outside.specs.Folder.{Files}
use Rattle.xa_outside.specs.Numbers.{Numbers, after_pull}
use Rattle.record_parts.specs.Bounds.{deepest}
use Rattle.record_format.specs.Fronts.{header_at}
use Rattle.record_format.specs.Reading.{record_of}
use Rattle.record_format.specs.Whole.{has_parts, with_parts}
use Rattle.record_format.specs.Data.{PlainRec}
use Rattle.record_format.specs.Bounds.{IsRec}
use Rattle.record_format.specs.Spelling.{kind_of, framed, rec_bytes}
use Rattle.record_cursor.specs.Items.{PlainItem, leaf_end_item, end_item, finish, item_of}
use Rattle.record_cursor.specs.Places.{Standing, among_nodes, in_leaf, behind_root, finished, closed_by, after_item}
use Rattle.record_cursor.specs.Next.{size_of, read_for}
use Rattle.record_cursor.specs.Spelled.{IsEndAt}
use Rattle.record_cursor.specs.View.{place_view}
use Rattle.record_cursor.specs.Faults.{IfDamage, IfFolder}
use Rattle.record_cursor.specs.declared.fault.CursorFault.{CursorFault}
use Rattle.record_cursor.specs.declared.item.Read.{Read}
use Rattle.record_cursor.specs.declared.item.Read.TheVariants as read
use Rattle.record_cursor.specs.declared.step.Step.{Step}

-- ---- the folder

abbrev pub fault_of : {T : Type 0} → Result T CursorFault → Option CursorFault
fault_of (Ok x) = None
fault_of (Err e) = Some e

abbrev pub IsCause : ℕ → ℕ → Option CursorFault → Type 0
IsCause before now None = ⊤
IsCause before now (Some e) = IfFolder e (Rose before now)

-- Files and draft stay, and the folder fails only where its count rose.
pub record OnlyReads {S : Type 0} (files : S → Option Files) (draft : S → Option (List ℕ)) (faults : S → ℕ) (old new : S) (ended : Option CursorFault) : Type 0 where
  pub same_files : files new ≡ files old
  pub same_draft : draft new ≡ draft old
  pub later : faults old ≤ faults new
  pub cause : IsCause (faults old) (faults new) ended

-- this holds of what was answered, or the folder failed or memory ran out
abbrev pub Filled : {T : Type 0} → Result T CursorFault → (T → Type 0) → Type 0
Filled (Ok x) P = P x
Filled (Err e) P = IfDamage e ⊥

-- what was answered shows what is found, and damage is for nothing
abbrev pub Finds : {T X : Type 0} → (T → Option X) → Result T CursorFault → Option X → Type 0
Finds view (Ok x) found = found ≡ view x
Finds view (Err e) found = IfDamage e (found ≡ None)

-- the kind and the length of the record at the front of the bytes
pub record IsFrame (bytes : List ℕ) (frame : ℕ × ℕ) : Type 0 where
  pub kind : byte_at bytes ≡ Some (frame.0, drop 1 bytes)
  pub size : number_at w64 (drop 1 bytes) ≡ Some (frame.1, drop 9 bytes)

-- The first ten bytes of a header were read, and its length is so many bytes more than that of its text; damage is for bytes
-- without a header.
pub record HasText (bytes : List ℕ) (first : ℕ) : Type 0 where
  pub text : ℕ
  pub stands : number_at w32 (drop 6 bytes) ≡ Some (text, drop 10 bytes)
  pub length : first ≡ 14 + text

abbrev pub FrontIs : Result ℕ CursorFault → List ℕ → List ℕ → Type 0
FrontIs (Ok first) front bytes = (front ≡ take 10 bytes) × HasText bytes first
FrontIs (Err e) front bytes = IfDamage e (header_at bytes ≡ None)

-- ---- kinds

abbrev pub after_kind_in_nodes : ℕ → ℕ → ℕ → Option Standing
after_kind_in_nodes depth n zero = None
after_kind_in_nodes depth n (suc zero) = if nat_lt depth deepest then Some (among_nodes (suc depth)) else None
after_kind_in_nodes depth n (suc (suc zero)) = Some (in_leaf depth)
after_kind_in_nodes depth n (suc (suc (suc zero))) = None
after_kind_in_nodes depth n (suc (suc (suc (suc zero)))) = Some (closed_by n depth)
after_kind_in_nodes depth n (suc (suc (suc (suc (suc k))))) = None

abbrev pub after_kind_in_leaf : ℕ → ℕ → ℕ → Option Standing
after_kind_in_leaf depth n zero = None
after_kind_in_leaf depth n (suc zero) = None
after_kind_in_leaf depth n (suc (suc zero)) = None
after_kind_in_leaf depth n (suc (suc (suc zero))) = Some (in_leaf depth)
after_kind_in_leaf depth n (suc (suc (suc (suc zero)))) = None
after_kind_in_leaf depth n (suc (suc (suc (suc (suc zero))))) = if n == 0 then Some (among_nodes depth) else None
after_kind_in_leaf depth n (suc (suc (suc (suc (suc (suc k)))))) = None

-- where a record of this kind, with a body of so many bytes, leads, if it may come there
abbrev pub after_kind : Standing → ℕ → ℕ → Option Standing
after_kind (among_nodes depth) kind n = after_kind_in_nodes depth n kind
after_kind (in_leaf depth) kind n = after_kind_in_leaf depth n kind
after_kind (behind_root m) kind n = None
after_kind finished kind n = None

-- where records may come
abbrev pub IsInside : Standing → Type 0
IsInside (among_nodes depth) = ⊤
IsInside (in_leaf depth) = ⊤
IsInside (behind_root m) = ⊥
IsInside finished = ⊥

-- a record of this kind, with a body of so many bytes, may come somewhere
abbrev pub MayCome : ℕ → ℕ → Type 0
MayCome kind n = (s : Standing) × (t : Standing) × (after_kind s kind n ≡ Some t)

-- ---- what was read

-- the item that was read, where the bytes in the buffer are the parts of a record
abbrev pub read_item : Read → List ℕ → Option PlainItem
read_item (read.Parts kind) buffer = option_map item_of (with_parts (record_of kind buffer))
read_item read.LeafEnd buffer = Some leaf_end_item
read_item (read.End n) buffer = Some (end_item n)
read_item read.Finish buffer = Some finish

-- the item that is lent out of so many bytes is one of what was read
abbrev pub IsRead : Read → ℕ → PlainItem → Type 0
IsRead (read.Parts kind) held i = (r : PlainRec) × (item_of r ≡ i) × IsTrue (has_parts r) × (kind_of r ≡ kind) × (length (rec_bytes r) ≡ 9 + held)
IsRead read.LeafEnd held i = i ≡ leaf_end_item
IsRead (read.End n) held i = i ≡ end_item n
IsRead read.Finish held i = i ≡ finish

-- it was read of a record of this kind, with a body of so many bytes
abbrev pub IsReadOf : ℕ → ℕ → Read → ℕ → Type 0
IsReadOf kind n (read.Parts k) held = (k ≡ kind) × (held ≡ n)
IsReadOf kind n read.LeafEnd held = kind ≡ 5
IsReadOf kind n (read.End m) held = (kind ≡ 4) × (m ≡ n)
IsReadOf kind n read.Finish held = ⊥

-- the bytes in the buffer are the body, if it was read
abbrev pub HasBody : Read → List ℕ → List ℕ → Type 0
HasBody (read.Parts kind) buffer body = buffer ≡ body
HasBody read.LeafEnd buffer body = ⊤
HasBody (read.End n) buffer body = ⊤
HasBody read.Finish buffer body = ⊤

-- the record that was read is what the bytes begin with, and then they are the rest
abbrev pub IsReadAt : Read → List ℕ → List ℕ → List ℕ → Type 0
IsReadAt (read.Parts kind) buffer now rest = now ≡ framed kind buffer ++ rest
IsReadAt read.LeafEnd buffer now rest = now ≡ framed 5 [] ++ rest
IsReadAt (read.End n) buffer now rest = IsEndAt n now rest
IsReadAt read.Finish buffer now rest = ⊤

-- the item that is lent is that of a record that has an encoding, with the body in the buffer
abbrev pub IsLent : Read → List ℕ → PlainItem → Type 0
IsLent (read.Parts kind) buffer i = (r : PlainRec) × IsRec r × IsTrue (has_parts r) × (item_of r ≡ i) × (rec_bytes r ≡ framed kind buffer)
IsLent read.LeafEnd buffer i = i ≡ leaf_end_item
IsLent (read.End n) buffer i = i ≡ end_item n
IsLent read.Finish buffer i = i ≡ finish

-- how many bytes of the body of a record of this kind, which may come, are read at most
abbrev pub body_size : ℕ → ℕ → ℕ
body_size kind n = if kind == 4 then 0 else n

-- how many bytes of the body were read
abbrev pub body_read : Read → ℕ → ℕ
body_read (read.Parts kind) held = held
body_read read.LeafEnd held = 0
body_read (read.End n) held = 0
body_read read.Finish held = 0

-- an item was read, over any folder
pub record Leads (s : Standing) (at : ℕ) (before now : Numbers) (step : Step) (i : PlainItem) : Type 0 where
  pub may_come : after_item s i ≡ Some (place_view step.place)
  pub moved : step.at ≡ at + size_of s i
  pub pulled : now ≡ after_pull before (read_for s i)

-- what comes next, if the bytes in the buffer are the parts of a record
abbrev pub step_view : List ℕ → List ℕ → Step → Option (PlainItem × (Standing × List ℕ))
step_view bytes buffer step = option_map (λ i. (i, (place_view step.place, drop step.at bytes))) (read_item step.read buffer)
