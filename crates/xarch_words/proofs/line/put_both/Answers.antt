use Rattle.std.proofs.Common.{arith, rules}
use Rattle.std.proofs.lemmas.Grind.{common_steps}
use Rattle.xa_outside.specs.TakenLaws.{Puts-after, Puts-failed}
use Rattle.xarch_words.proofs.line.put_both.Goals as goal

pub returns-clause-cause : goal.returns-clause-cause
returns-clause-cause g c = grind (arith, common_steps)

pub returns-clause-bytes : goal.returns-clause-bytes
returns-clause-bytes g c = Puts-after _ _ _ _ _ _ c.in_ok-put_all.ensures.bytes c.put_all-2.ensures.bytes

pub returns-in_err-put_all-clause-bytes : goal.returns-in_err-put_all-clause-bytes
returns-in_err-put_all-clause-bytes g c = Puts-failed _ _ _ _ _ (search rules) c.in_err-put_all.ensures.bytes
