use Rattle.std.proofs.Common.{arith}
use Rattle.std.proofs.lemmas.Fmt.{parse-decimal}
use Rattle.archive_text.proofs.Found.{ok_is, not_err}
use Rattle.archive_text.proofs.cells.number_of.Goals as goal

pub returns-in-Ok : goal.returns-in-Ok
returns-in-Ok c = λ n h e. ok_is _ _ _ c.in-Ok.is (parse-decimal 32 n c.args.text.now c.parse.result h (omega arith) e c.parse.ensures.value.0)

pub returns-in-Err : goal.returns-in-Err
returns-in-Err c = λ n h e. absurd (not_err _ _ _ c.in-Err.is (parse-decimal 32 n c.args.text.now c.parse.result h (omega arith) e c.parse.ensures.value.0))
