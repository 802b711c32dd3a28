-- Printing what a version has at the virtual root.
use Rattle.std.specs.Prelude.{◌≡◌, ℕ, ◌+◌, ◌-◌, ◌≤◌, List, [], ◌∷◌, true, false, IsTrue, Option}
use Rattle.std.specs.List.{AllByRecursion}
use Rattle.xa_fields.specs.Spelling.{u64_bytes}
use Rattle.xa_outside.specs.Folder.{Files}
use Rattle.xa_outside.specs.Numbers.{PullsAtMost}
use Rattle.version_set.specs.Members.{upto_pairs}
use Rattle.keyed_tree.specs.Data.{PlainKeyed}
use Rattle.keyed_tree.specs.Proper.{IsElement}
use Rattle.keyed_print.specs.KeyedText.{keyed_text}
use Rattle.archive_tree.specs.Data.{PlainArchive, nodes_list}
use Rattle.jsonml_print.specs.Calls.{calls_of}
use Rattle.keyed_tree.specs.Plain.{plain}
use Rattle.record_format.specs.Bounds.{IsRec}
use Rattle.record_format.specs.Files.{root_pieces}
use Rattle.record_format.specs.Nested.{are_nested}
use Rattle.record_format.specs.Nodes.{closed_by_end}
use Rattle.record_format.specs.Seen.{steps_for}
use Rattle.record_parts.specs.Bounds.{deepest}
use Rattle.record_cursor.specs.Moves.{TellsFront}
use Rattle.file_rows.specs.StandsAt.{StandsAt, RowLaid}
use Rattle.file_rows.specs.View.{PlainRow}
use Rattle.file_get.specs.State.{State}
use Rattle.file_get.specs.Walks.{Walks, Prefixed, Shows}
use Rattle.file_get.specs.Kids.{all_find, kids_in, kid_fits}
use Rattle.file_get.specs.Searched.{bytes_read}
use Rattle.file_get.specs.Told.{IsSound, RefusesShort, Unless}
use Rattle.file_get.specs.declared.fault.GetFault.{GetFault}

-- The archive's nodes stand behind a header of so many bytes, and the tail behind them; and version i among them is this tree.
pub record RootTold (i : ℕ) (files : Option Files) (name bytes : List ℕ) (size first : ℕ) (row : PlainRow) (a : PlainArchive) (k : PlainKeyed) : Type 0 where
  pub tells : TellsFront files name size bytes
  pub stands : RowLaid bytes row (root_pieces a)
  pub begins : row.first ≡ first
  pub ends : row.end + (9 + row.dir) + 8 ≡ size
  pub tail : StandsAt bytes (size - 8) (u64_bytes row.dir)
  pub records : AllByRecursion IsRec (closed_by_end (root_pieces a))
  pub nested : IsTrue (are_nested deepest a.kids)
  pub bodies : all_find i (upto_pairs a.n) (nodes_list a.kids) ≡ true
  pub one : kids_in i (upto_pairs a.n) (nodes_list a.kids) ≡ k ∷ []
  pub fits : IsTrue (kid_fits false false k)
  pub element : IsElement k
  pub some : 1 ≤ a.n

-- The version was printed.
pub record RootPrinted (i : ℕ) (name : List ℕ) (size first : ℕ) (s t : State) (ended : Option GetFault) : Type 0 where
  pub walks : Walks (size - first) s t ended
  pub short : RefusesShort s.files name size ended
  pub shows : (bytes : List ℕ) (row : PlainRow) (a : PlainArchive) (k : PlainKeyed) → RootTold i s.files name bytes size first row a k
      → Shows (calls_of (plain k)) (8 + bytes_read a i) (steps_for a i) s t ended

-- The text of the version was written, and a line feed.
pub record TextPut (i : ℕ) (name : List ℕ) (size first : ℕ) (s t : State) (ended : Option GetFault) : Type 0 where
  pub walks : Walks (size - first) s t ended
  pub short : RefusesShort s.files name size ended
  pub sound : (bytes : List ℕ) (row : PlainRow) (a : PlainArchive) (k : PlainKeyed) → RootTold i s.files name bytes size first row a k
      → IsSound ended × Prefixed s.taken t.taken ended (keyed_text k) × PullsAtMost (8 + bytes_read a i) s.numbers t.numbers × (t.steps ≤ s.steps + steps_for a i) × Unless ended (t.steps ≡ s.steps + steps_for a i)
