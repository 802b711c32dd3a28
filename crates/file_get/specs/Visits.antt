-- What the search of a part of a row shows.
use Rattle.std.specs.Prelude.{◌≡◌, ℕ, ◌+◌, ◌-◌, ◌*◌, ◌≤◌, List, ◌++◌, length, map, Result, Ok, Err, IfOk}
use Rattle.timestamp_tree.specs.Search.{visits}
use Rattle.timestamp_tree.specs.Tree.{tree_of}
use Rattle.archive_tree.specs.Data.{PlainNode, nodes_from}
use Rattle.jsonml_print.specs.Pen.{Pen}
use Rattle.record_format.specs.Nodes.{node_pieces}
use Rattle.file_rows.specs.StandsAt.{start_in}
use Rattle.file_rows.specs.View.{PlainRow}
use Rattle.file_get.specs.Told.{fault_of}
use Rattle.file_get.specs.State.{State}
use Rattle.file_get.specs.Walks.{Walks, StandsIn, Shows}
use Rattle.file_get.specs.Kids.{set_of, kids_in, kids_calls, item_behind, nodes_seen, nodes_steps}
use Rattle.file_get.specs.Stands.{VisitIs}
use Rattle.file_get.specs.declared.span.Span.{Span}
use Rattle.file_get.specs.declared.span.Place.{Place}
use Rattle.file_get.specs.declared.fault.GetFault.{GetFault}
use Rattle.file_get.specs.Searched.{tree_read}

-- the place that a search came to, if it did not fail
abbrev pub arrived : Place → Result Unit GetFault → Result Place GetFault
arrived p (Ok u) = Ok p
arrived p (Err e) = Err e

-- how far a search has come in a row that ends here
abbrev pub reach : ℕ → Result Place GetFault → ℕ
reach end (Ok p) = p.after
reach end (Err e) = end

-- at most the bytes of a part's tree, an entry for each of its children, and what was passed of the row
abbrev pub may_pull : ℕ → Span → Place → Result Place GetFault → ℕ
may_pull end span place result = (span.limit - span.at) + 24 * span.count + (reach end result - place.after)

-- A place that was reached from another one, in a row that ends here.
pub record Reaches (end : ℕ) (old new : Place) (p : Pen) : Type 0 where
  pub depth : new.depth ≡ old.depth
  pub onward : old.after ≤ new.after
  pub within : new.after ≤ end
  pub stands : StandsIn new.depth new.has_item p

-- where the search of these nodes ends
pub record EndsAt (i : ℕ) (row : PlainRow) (parent : List (ℕ × ℕ)) (front ks behind : List PlainNode) (old new : Place) : Type 0 where
  pub item : new.has_item ≡ item_behind old.has_item (kids_in i parent ks)
  pub after : new.after ≤ start_in row.first (node_pieces parent (nodes_from (front ++ (ks ++ behind)))) (length front + length ks)

-- The search of a part of a row: whatever the file is, and where these nodes stand there.
pub record Visited (i : ℕ) (name : List ℕ) (row : PlainRow) (span : Span) (place : Place) (s t : State) (result : Result Place GetFault) : Type 0 where
  pub walks : Walks (may_pull row.end span place result) s t (fault_of result)
  pub reaches : IfOk result (λ p. Reaches row.end place p t.pen)
  pub shows : (bytes : List ℕ) (end : ℕ) (parent : List (ℕ × ℕ)) (front ks behind : List PlainNode) → VisitIs i s.files name bytes end row span place parent front ks behind
      → Shows (kids_calls (kids_in i parent ks)) (tree_read (tree_of (map (set_of parent) ks)) i + nodes_seen i parent ks) (visits (tree_of (map (set_of parent) ks)) i + nodes_steps i parent ks) s t (fault_of result)
      × IfOk result (λ p. EndsAt i row parent front ks behind place p)
