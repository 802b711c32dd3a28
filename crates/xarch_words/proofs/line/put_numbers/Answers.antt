use Rattle.std.proofs.Common.{arith, rules}
use Rattle.std.proofs.lemmas.Grind.{common_steps}
use Rattle.xa_outside.specs.TakenLaws.{Puts-after, Puts-failed}
use Rattle.xarch_words.proofs.line.put_numbers.Goals as goal

pub returns-clause-cause : goal.returns-clause-cause
returns-clause-cause g c = grind (arith, common_steps)

pub returns-clause-bytes : goal.returns-clause-bytes
returns-clause-bytes g c = Puts-after _ _ _ _ _ _ c.in_ok-put_number.ensures.bytes c.put_number-2.ensures.bytes

pub returns-in_err-put_number-clause-bytes : goal.returns-in_err-put_number-clause-bytes
returns-in_err-put_number-clause-bytes g c = Puts-failed _ _ _ _ _ (search rules) c.in_err-put_number.ensures.bytes
