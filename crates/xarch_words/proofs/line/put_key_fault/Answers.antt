use Rattle.std.proofs.Common.{arith, rules}
use Rattle.std.proofs.lemmas.Grind.{common_steps}
use Rattle.xa_outside.specs.TakenLaws.{Puts-after, Puts-failed}
use Rattle.xarch_words.proofs.line.put_key_fault.Goals as goal

pub returns-clause-cause : goal.returns-clause-cause
returns-clause-cause g c = grind (arith, common_steps)

pub returns-in_err-put_at-clause-cause : goal.returns-in_err-put_at-clause-cause
returns-in_err-put_at-clause-cause g c = grind (arith, common_steps)

pub returns-clause-bytes : goal.returns-clause-bytes
returns-clause-bytes g c = rw (← c.deref.ensures.value) (Puts-after _ _ _ _ _ _ c.in_ok-put_at.ensures.bytes c.put_key_path.ensures.bytes)

pub returns-in_err-put_at-clause-bytes : goal.returns-in_err-put_at-clause-bytes
returns-in_err-put_at-clause-bytes g c = rw (← c.deref.ensures.value) (Puts-failed _ _ _ _ _ (search rules) c.in_err-put_at.ensures.bytes)
