use Rattle.std.proofs.Common.{◌≡◌, ℕ, ◌+◌, ◌≤◌, List, None, map, drop}
use Rattle.version_set.specs.View.{pairs_of}
use Rattle.keyed_tree.specs.View.{label_view}
use Rattle.archive_tree.specs.Data.{PlainNodes}
use Rattle.record_cursor.specs.Steps.{OnlyReads}
use Rattle.file_rows.specs.View.{row_view}
use Rattle.file_history.specs.Pulled.{PullsBut}
use Rattle.file_history.specs.Rows.{RowIs, Reached}
use Rattle.file_history.specs.View.{span_of, span_in}
use Rattle.file_history.proofs.follow.follow.Given as goal

-- the rest of the path leads on from the row that was reached
abbrev pub invariant-loop-label : goal.invariant-loop-label
invariant-loop-label g l = record {
  name : l.cursor.name ≡ l.name;
  counted : l.fn.steps + l.label-index ≤ l.steps;
  reads : OnlyReads g.F.Folder.files g.F.Folder.draft g.F.Folder.faults l.fn.folder l.folder None;
  pulls : PullsBut (span_of l.fn.row) (span_in l.here) (g.F.Folder.numbers l.fn.folder) (g.F.Folder.numbers l.folder);
  told : (bytes : List ℕ) (ks : PlainNodes) → RowIs (g.F.Folder.files l.fn.folder) l.name bytes 0 (row_view l.fn.row) (pairs_of l.fn.parent) ks
      → Reached (g.F.Folder.files l.fn.folder) l.name bytes (map label_view l.path) (pairs_of l.fn.parent) ks (map label_view (drop l.label-index l.path)) l.depth l.here l.leaf (pairs_of l.set) (g.F.Folder.numbers l.fn.folder) (g.F.Folder.numbers l.folder) l.fn.steps l.steps;
}
