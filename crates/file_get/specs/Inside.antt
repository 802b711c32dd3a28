-- What stands inside a node.
use Rattle.std.specs.Prelude.{◌≡◌, ℕ, ◌+◌, ◌-◌, ◌≤◌, List, [], ◌∷◌, ◌++◌, length, map, drop, Some, Bool, true, false, ◌||◌, if◌then◌else◌, Result, IfOk, Option, is_some}
use Rattle.std.specs.Int.{w64}
use Rattle.std.specs.List.{flat_map, AllByRecursion}
use Rattle.xa_fields.specs.Reading.{byte_at, number_at}
use Rattle.version_set.specs.Members.{members, has}
use Rattle.jsonml_print.specs.Calls.{content_calls}
use Rattle.key_annotate.specs.Inside.{inside_of}
use Rattle.record_parts.specs.Shown.{shown_name}
use Rattle.archive_tree.specs.Data.{Stamp, PlainAlt, PlainNode, inner_node, leaf_node, node_label}
use Rattle.archive_tree.specs.Read.{read}
use Rattle.record_cursor.specs.Moves.{TellsFront}
use Rattle.record_format.specs.Bounds.{IsRec}
use Rattle.record_format.specs.Data.{PlainRec, inner_rec, leaf_rec}
use Rattle.record_format.specs.Nodes.{alt_of, node_pieces, set_in}
use Rattle.record_parts.specs.Spelling.{stamp_bytes}
use Rattle.record_format.specs.Spelling.{rec_bytes}
use Rattle.record_format.specs.Seen.{node_steps, piece_sets}
use Rattle.xa_fields.specs.Spelling.{u64_bytes}
use Rattle.xa_outside.specs.Folder.{Files}
use Rattle.file_rows.specs.StandsAt.{StandsAt}
use Rattle.file_rows.specs.View.{PlainChild}
use Rattle.file_get.specs.Told.{Unless, fault_of}
use Rattle.file_get.specs.State.{State}
use Rattle.file_get.specs.Walks.{Walks, StandsIn, Shows}
use Rattle.keyed_tree.specs.Proper.{is_tag}
use Rattle.file_get.specs.Kids.{some_has, kid_calls}
use Rattle.file_get.specs.Stands.{NodeIs}
use Rattle.file_get.specs.declared.fault.GetFault.{GetFault}
use Rattle.file_get.specs.declared.body.Alternative.{Alternative}
use Rattle.file_get.specs.declared.read.Opening.{Opening}
use Rattle.file_get.specs.Searched.{alts_read, dir_read, row_read}

-- the record that opens a node
abbrev pub opening_rec : PlainNode → PlainRec
opening_rec (inner_node l s ks) = inner_rec l s
opening_rec (leaf_node l s xs) = leaf_rec l s

abbrev pub is_inner : PlainNode → Bool
is_inner (inner_node l s ks) = true
is_inner (leaf_node l s xs) = false

-- the opening record of a node that begins at this offset
pub record OpeningIs (k : PlainNode) (first : ℕ) (o : Opening) : Type 0 where
  pub name : shown_name o.name ≡ (node_label k).name
  pub inner : o.is_inner ≡ is_inner k
  pub behind : o.behind ≡ first + length (rec_bytes (opening_rec k))

-- These alternatives stand there, one behind another, and one of them has i.
pub record AltsTold (i : ℕ) (files : Option Files) (name bytes : List ℕ) (last at end : ℕ) (set : List (ℕ × ℕ)) (xs : List PlainAlt) (more : List ℕ) : Type 0 where
  pub tells : TellsFront files name last bytes
  pub within : end ≤ last
  pub stands : StandsAt bytes at (flat_map rec_bytes (map alt_of xs) ++ more)
  pub ends : end ≡ at + length (flat_map rec_bytes (map alt_of xs) ++ more)
  pub records : AllByRecursion IsRec (map alt_of xs)
  pub has : has (members set) i ≡ true
  pub some : some_has i set xs ≡ true

-- whether i is in the set, and the offset behind it
abbrev pub SetIs : ℕ → ℕ → List (ℕ × ℕ) → Bool × ℕ → Type 0
SetIs i behind set r = (r.0 ≡ has (members set) i) × (r.1 ≡ behind)

-- the first bytes of an alternative whose body has this size: its kind, the size, and whether its timestamp is stored
abbrev pub head_bytes : ℕ → Stamp → List ℕ
head_bytes size s = 3 ∷ (u64_bytes size ++ (if is_some s then 1 else 0) ∷ [])

-- The kind of an alternative, the length of its body and whether its timestamp is stored stand at the front of the bytes; the record has so many.
pub record IsAltHead (bytes : List ℕ) (size : ℕ) (is_stored : Bool) : Type 0 where
  pub kind : byte_at bytes ≡ Some (3, drop 1 bytes)
  pub length : number_at w64 (drop 1 bytes) ≡ Some (size - 9, drop 9 bytes)
  pub stored : byte_at (drop 9 bytes) ≡ Some (if is_stored then 1 else 0, drop 10 bytes)
  pub some : 10 ≤ size

-- what is read of an alternative that stands here, in a leaf that has this set
pub record AltIs (i at : ℕ) (set : List (ℕ × ℕ)) (x : PlainAlt) (a : Alternative) : Type 0 where
  pub has : a.has ≡ has (members (set_in x.stamp set)) i
  pub body : a.body ≡ at + (9 + length (stamp_bytes x.stamp))
  pub end : a.end ≡ at + length (rec_bytes (alt_of x))

-- the bytes that are looked at of a node behind its opening record
abbrev pub inside_seen : ℕ → List (ℕ × ℕ) → PlainNode → ℕ
inside_seen i parent (inner_node l s ks) = dir_read i (piece_sets (node_pieces (set_in s parent) ks)) + row_read i (set_in s parent) ks
inside_seen i parent (leaf_node l s xs) = alts_read i (set_in s parent) xs

-- The node is this child, and this its opening record; version i has it, and it can be printed at this place.
pub record NodeOpened (i : ℕ) (files : Option Files) (name bytes : List ℕ) (end : ℕ) (child : PlainChild) (opening : Opening) (depth : ℕ) (has_item : Bool) (parent : List (ℕ × ℕ)) (k : PlainNode) : Type 0 where
  pub node : NodeIs i files name bytes end child depth has_item parent k
  pub opens : OpeningIs k child.first opening

-- What stands behind the opening record of a node was printed.
pub record InsidePrinted (i : ℕ) (name : List ℕ) (child : PlainChild) (opening : Opening) (depth : ℕ) (s t : State) (ended : Option GetFault) : Type 0 where
  pub walks : Walks (child.end - opening.behind) s t ended
  pub stands : Unless ended (depth + 1 ≤ t.pen.depth)
  pub shows : (bytes : List ℕ) (end : ℕ) (has_item : Bool) (parent : List (ℕ × ℕ)) (k : PlainNode) → NodeOpened i s.files name bytes end child opening depth has_item parent k → is_tag (node_label k).name ≡ true
      → Shows (content_calls (inside_of (read i (members parent) k))) (inside_seen i parent k) (node_steps i parent k) s t ended

-- A node was printed whose opening record was read, and whether an element stands there now.
pub record OpenedPrinted (i : ℕ) (name : List ℕ) (child : PlainChild) (opening : Opening) (depth : ℕ) (has_item : Bool) (s t : State) (result : Result Bool GetFault) : Type 0 where
  pub walks : Walks (child.end - opening.behind) s t (fault_of result)
  pub stands : IfOk result (λ h. StandsIn depth h t.pen)
  pub shows : (bytes : List ℕ) (end : ℕ) (parent : List (ℕ × ℕ)) (k : PlainNode) → NodeOpened i s.files name bytes end child opening depth has_item parent k
      → Shows (kid_calls (read i (members parent) k)) (inside_seen i parent k) (node_steps i parent k) s t (fault_of result)
      × IfOk result (λ h. h ≡ (has_item || is_tag (node_label k).name))
