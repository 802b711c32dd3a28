use Rattle.version_set.specs.View.{pairs_of}
use Rattle.archive_cut.proofs.Pieces.{may_push, all_pieces}
use Rattle.archive_cut.proofs.window.cut_set.Goals as goal

pub push_left-requires : goal.push_left-requires
push_left-requires c =
    let w = c.args.window.now in
    let s = c.args.set.now in
    may_push w.first w.last c.loop-pair.pair-index c.pairs-pair-items.result.now (pairs_of s) (pairs_of c.loop-pair.left) (0, 0) w.from s.canonical c.pairs-pair-items.ensures c.loop-pair-test.true c.loop-pair.invariant

pub returns : goal.returns
returns c =
    let w = c.args.window.now in
    let s = c.args.set.now in
    all_pieces w.first w.last c.loop-pair.pair-index c.pairs-pair-items.result.now (pairs_of s) (pairs_of c.loop-pair.left) w.from s.canonical c.pairs-pair-items.ensures c.loop-pair-test.false c.loop-pair.invariant
