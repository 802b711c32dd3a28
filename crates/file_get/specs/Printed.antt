-- What the printing of nodes shows.
use Rattle.std.specs.Prelude.{◌≡◌, ℕ, ◌+◌, ◌-◌, List, [], ◌∷◌, nat_lt, Bool, false, true, ◌||◌, IsTrue, Option, Result, IfOk}
use Rattle.xa_outside.specs.Folder.{Files}
use Rattle.keyed_tree.specs.Proper.{is_tag}
use Rattle.archive_tree.specs.Data.{PlainNode, node_label}
use Rattle.archive_tree.specs.Read.{read}
use Rattle.version_set.specs.Members.{members}
use Rattle.record_cursor.specs.Moves.{TellsFront}
use Rattle.record_format.specs.Seen.{node_steps}
use Rattle.file_rows.specs.View.{PlainRow, PlainChild}
use Rattle.file_get.specs.Told.{fault_of}
use Rattle.file_get.specs.State.{State}
use Rattle.file_get.specs.Walks.{Walks, StandsIn, Shows}
use Rattle.file_get.specs.Kids.{has_at, all_find, kids_in, kid_calls, kids_calls, item_behind, kids_fit, nodes_seen, nodes_steps, sets_seen, sets_steps}
use Rattle.file_get.specs.Stands.{RowIs, NodeIs, VisitIs}
use Rattle.file_get.specs.Visits.{reach, Reaches, EndsAt}
use Rattle.file_get.specs.declared.span.Span.{Span}
use Rattle.file_get.specs.declared.span.Place.{Place}
use Rattle.file_get.specs.declared.fault.GetFault.{GetFault}
use Rattle.file_get.specs.Searched.{node_read}

-- These nodes are this row, and what version i has among them can be printed.
pub record RowTold (i : ℕ) (files : Option Files) (name bytes : List ℕ) (end depth : ℕ) (row : PlainRow) (parent : List (ℕ × ℕ)) (ks : List PlainNode) : Type 0 where
  pub tells : TellsFront files name end bytes
  pub nodes : RowIs bytes end depth row parent ks
  pub bodies : all_find i parent ks ≡ true
  pub fits : IsTrue (kids_fit (nat_lt 0 depth) false (kids_in i parent ks))

-- A row was printed, and whether an element was.
pub record RowPrinted (i : ℕ) (name : List ℕ) (row : PlainRow) (depth : ℕ) (s t : State) (result : Result Bool GetFault) : Type 0 where
  pub walks : Walks (row.end + (9 + row.dir) - row.first) s t (fault_of result)
  pub stands : IfOk result (λ h. StandsIn depth h t.pen)
  pub shows : (bytes : List ℕ) (end : ℕ) (parent : List (ℕ × ℕ)) (ks : List PlainNode) → RowTold i s.files name bytes end depth row parent ks
      → Shows (kids_calls (kids_in i parent ks)) (13 + (sets_seen i parent ks + nodes_seen i parent ks)) (sets_steps i parent ks + nodes_steps i parent ks) s t (fault_of result)
      × IfOk result (λ h. h ≡ item_behind false (kids_in i parent ks))

-- A child of a row was printed, of which the entry was not yet read.
pub record ChildPrinted (i : ℕ) (name : List ℕ) (row : PlainRow) (span : Span) (place : Place) (s t : State) (result : Result Place GetFault) : Type 0 where
  pub walks : Walks (24 + (reach row.end result - place.after)) s t (fault_of result)
  pub reaches : IfOk result (λ p. Reaches row.end place p t.pen)
  pub shows : (bytes : List ℕ) (end : ℕ) (parent : List (ℕ × ℕ)) (front behind : List PlainNode) (k : PlainNode) → VisitIs i s.files name bytes end row span place parent front (k ∷ []) behind
      → has_at i parent k ≡ true
      → Shows (kids_calls (kids_in i parent (k ∷ []))) (nodes_seen i parent (k ∷ [])) (nodes_steps i parent (k ∷ [])) s t (fault_of result)
      × IfOk result (λ p. EndsAt i row parent front (k ∷ []) behind place p)

-- A node was printed, and whether an element stands there now.
pub record NodePrinted (i : ℕ) (name : List ℕ) (child : PlainChild) (depth : ℕ) (has_item : Bool) (s t : State) (result : Result Bool GetFault) : Type 0 where
  pub walks : Walks (child.end - child.first) s t (fault_of result)
  pub stands : IfOk result (λ h. StandsIn depth h t.pen)
  pub shows : (bytes : List ℕ) (end : ℕ) (parent : List (ℕ × ℕ)) (k : PlainNode) → NodeIs i s.files name bytes end child depth has_item parent k
      → Shows (kid_calls (read i (members parent) k)) (node_read i parent k) (node_steps i parent k) s t (fault_of result)
      × IfOk result (λ h. h ≡ (has_item || is_tag (node_label k).name))
