use Rattle.std.proofs.Common.{◌≡◌, None, length}
use Rattle.keyed_parts.specs.View.{kids_view}
use Rattle.record_parts.specs.ShownViews.{shown_label}
use Rattle.record_writer.specs.View.{writer_view}
use Rattle.record_copy.specs.State.{state}
use Rattle.stream_merge.specs.View.{inherited_view}
use Rattle.stream_merge.proofs.Belows.{PutOn}
use Rattle.stream_merge.proofs.beside.put_below.Given as goal

-- some kids were written
abbrev pub invariant-loop-kid : goal.invariant-loop-kid
invariant-loop-kid g l =
    let f = g.F.Folder in
    record {
      no_leaf : (writer_view l.writer).leaf ≡ None;
      puts : PutOn (inherited_view l.from) (shown_label l.label) (kids_view l.kids) (kids_view l.left) (λ c. state f.files f.draft f.numbers f.faults l.fn.folder c l.fn.writer) (λ c. state f.files f.draft f.numbers f.faults l.folder c l.writer);
    }

abbrev pub decreases-loop-kid : goal.decreases-loop-kid
decreases-loop-kid g l = length (kids_view l.left)
