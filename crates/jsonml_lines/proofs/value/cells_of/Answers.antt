use Rattle.std.proofs.Common.{◌+◌, drop}
use Rattle.jsonml_text.proofs.Spelling.{values_left}
use Rattle.jsonml_lines.proofs.Cells.{cells_step, well_step}
use Rattle.jsonml_lines.proofs.value.cells_of.Goals as goal

pub loop-value-preserved : goal.loop-value-preserved
loop-value-preserved c =
    let vs = c.args.values.now in
    let i = c.loop-value.value-index in
    let v = c.value-item.result in
    let pushed = c.in_ok-push-in-Some.ensures.items in
    let cell = rw c.in-Some.is at c.in_ok-cell.ensures.cell in
    let well = rw c.in-Some.is at c.in_ok-cell.ensures.well_formed in
    record {
      so_far = cells_step c.loop-value.cells.items c.push.new.self.items c.in-Some.cell (drop i vs) (drop (i + 1) vs) v _ (values_left vs i v c.loop-value-test.true c.value-item.is) pushed cell c.loop-value.invariant.so_far;
      well = well_step c.loop-value.cells.items c.push.new.self.items c.in-Some.cell pushed c.loop-value.invariant.well well;
    }
