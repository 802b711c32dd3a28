use Rattle.std.proofs.Common.{codes}
use Rattle.xa_outside.proofs.Output.{Puts-cut}
use Rattle.archive_text.proofs.Chains.{four, second, third}
use Rattle.archive_text.proofs.LineParts.{body_is, cell_part, end_part, text_part, word_part}
use Rattle.archive_text.proofs.nodes.put_body.Goals as goal

pub returns-in_err-write_word-clause-bytes : goal.returns-in_err-write_word-clause-bytes
returns-in_err-write_word-clause-bytes g c = Puts-cut _ _ c.from_residual.result _ (word_part (codes "alt")) _ (body_is c.args.stamp.now c.args.body.now) c.from_residual.ensures.0 c.in_err-write_word.ensures.bytes

pub returns-in_err-write_text_cell-clause-bytes : goal.returns-in_err-write_text_cell-clause-bytes
returns-in_err-write_text_cell-clause-bytes g c =
    second c.from_residual-in_err-write_text_cell.result _ _ _ _ (word_part (codes "alt")) (text_part c.args.stamp.now) _ (body_is c.args.stamp.now c.args.body.now) c.from_residual-in_err-write_text_cell.ensures.0 c.in_ok-write_word.ensures.bytes c.in_err-write_text_cell.ensures.bytes

pub returns-in_err-write_cell-clause-bytes : goal.returns-in_err-write_cell-clause-bytes
returns-in_err-write_cell-clause-bytes g c =
    third c.from_residual-in_err-write_cell.result _ _ _ _ _ (word_part (codes "alt")) (text_part c.args.stamp.now) (cell_part c.args.body.now) end_part (body_is c.args.stamp.now c.args.body.now) c.from_residual-in_err-write_cell.ensures.0
    c.in_ok-write_word.ensures.bytes c.in_ok-write_text_cell.ensures.bytes c.in_err-write_cell.ensures.bytes

pub returns-clause-bytes : goal.returns-clause-bytes
returns-clause-bytes g c =
    four c.end_line.result _ _ _ _ _ _ (word_part (codes "alt")) (text_part c.args.stamp.now) (cell_part c.args.body.now) end_part (body_is c.args.stamp.now c.args.body.now)
    c.in_ok-write_word.ensures.bytes c.in_ok-write_text_cell.ensures.bytes c.in_ok-write_cell.ensures.bytes c.end_line.ensures.bytes
