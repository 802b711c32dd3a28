use Rattle.std.proofs.lemmas.Grind.{common_steps}
use Rattle.std.proofs.Common.{sym, ◌∙◌, arith}
use Rattle.archive_tree.proofs.Tiles.{tile_stop, tile_end}
use Rattle.node_judge.proofs.tiles.do_tile.Goals as goal

pub returns-then-at-whole : goal.returns-then-at-whole
returns-then-at-whole c =
    let l = c.loop-from in
    sym (l.invariant.same ∙ tile_stop l.low l.at l.from-index c.args.whole.now c.args.pairs.now (omega (arith, c.if-at-whole.true)) c.loop-from-test.true)

pub returns : goal.returns
returns c =
    let l = c.loop-from in
    tile_end l.low l.at l.from-index c.args.whole.now c.args.pairs.now l.invariant.inside c.loop-from-test.false ∙ sym l.invariant.same

pub loop-from-init : goal.loop-from-init
loop-from-init c = grind (arith, common_steps)

pub loop-from-preserved : goal.loop-from-preserved
loop-from-preserved c = grind (arith, common_steps)

pub loop-from-preserved-then-to-last-2 : goal.loop-from-preserved-then-to-last-2
loop-from-preserved-then-to-last-2 c = grind (arith, common_steps)

pub returns-then-from-max : goal.returns-then-from-max
returns-then-from-max c = grind (arith, common_steps)
