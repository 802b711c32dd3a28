use Rattle.xa_outside.specs.TakenLaws.{Puts-failed, Puts-after}
use Rattle.keyed_print.specs.KeyedText.{keyed_text}
use Rattle.keyed_print.proofs.put.put_line.Goals as goal

pub returns-in_err-put_element-clause-bytes : goal.returns-in_err-put_element-clause-bytes
unfolding keyed_text
returns-in_err-put_element-clause-bytes g c = Puts-failed _ _ c.from_residual.result _ _ c.from_residual.ensures.0 c.in_err-put_element.ensures.bytes

pub returns-clause-bytes : goal.returns-clause-bytes
unfolding keyed_text
returns-clause-bytes g c = Puts-after _ _ _ c.put_all.result _ _ c.in_ok-put_element.ensures.bytes c.put_all.ensures.bytes
