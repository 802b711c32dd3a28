use Rattle.std.specs.List.{flat_map}
use Rattle.xa_outside.proofs.Output.{Puts-cut}
use Rattle.archive_text.proofs.Chains.{five, fourth, second, third}
use Rattle.archive_text.proofs.LineParts.{begun_is, cell_part, end_part, text_part, word_part}
use Rattle.archive_text.proofs.nodes.put_texts.Goals as goal

pub returns-in_err-write_word-clause-bytes : goal.returns-in_err-write_word-clause-bytes
returns-in_err-write_word-clause-bytes g c = Puts-cut _ _ c.from_residual.result _ (word_part c.args.word.now) _ (begun_is c.args.word.now c.args.stamp.now c.args.name.now c.args.keys.now) c.from_residual.ensures.0 c.in_err-write_word.ensures.bytes

pub returns-in_err-write_text_cell-clause-bytes : goal.returns-in_err-write_text_cell-clause-bytes
returns-in_err-write_text_cell-clause-bytes g c =
    second c.from_residual-in_err-write_text_cell.result _ _ _ _ (word_part c.args.word.now) (text_part c.args.stamp.now) _ (begun_is c.args.word.now c.args.stamp.now c.args.name.now c.args.keys.now) c.from_residual-in_err-write_text_cell.ensures.0
    c.in_ok-write_word.ensures.bytes c.in_err-write_text_cell.ensures.bytes

pub returns-in_err-write_text_cell-2-clause-bytes : goal.returns-in_err-write_text_cell-2-clause-bytes
returns-in_err-write_text_cell-2-clause-bytes g c =
    third c.from_residual-in_err-write_text_cell-2.result _ _ _ _ _ (word_part c.args.word.now) (text_part c.args.stamp.now) (text_part c.args.name.now) _ (begun_is c.args.word.now c.args.stamp.now c.args.name.now c.args.keys.now)
    c.from_residual-in_err-write_text_cell-2.ensures.0 c.in_ok-write_word.ensures.bytes c.in_ok-write_text_cell.ensures.bytes c.in_err-write_text_cell-2.ensures.bytes

pub returns-in_err-put_cells-clause-bytes : goal.returns-in_err-put_cells-clause-bytes
returns-in_err-put_cells-clause-bytes g c =
    fourth c.from_residual-in_err-put_cells.result _ _ _ _ _ _ (word_part c.args.word.now) (text_part c.args.stamp.now) (text_part c.args.name.now) (flat_map cell_part c.args.keys.now) end_part (begun_is c.args.word.now c.args.stamp.now c.args.name.now c.args.keys.now)
    c.from_residual-in_err-put_cells.ensures.0 c.in_ok-write_word.ensures.bytes c.in_ok-write_text_cell.ensures.bytes c.in_ok-write_text_cell-2.ensures.bytes c.in_err-put_cells.ensures.bytes

pub returns-clause-bytes : goal.returns-clause-bytes
returns-clause-bytes g c =
    five c.end_line.result _ _ _ _ _ _ _ (word_part c.args.word.now) (text_part c.args.stamp.now) (text_part c.args.name.now) (flat_map cell_part c.args.keys.now) end_part (begun_is c.args.word.now c.args.stamp.now c.args.name.now c.args.keys.now)
    c.in_ok-write_word.ensures.bytes c.in_ok-write_text_cell.ensures.bytes c.in_ok-write_text_cell-2.ensures.bytes c.in_ok-put_cells.ensures.bytes c.end_line.ensures.bytes
