use Rattle.std.proofs.Common.{refl, arith, rules}
use Rattle.std.proofs.lemmas.Grind.{common_steps}
use Rattle.xa_outside.specs.TakenLaws.{Puts-after, Puts-failed, Puts-in}
use Rattle.xarch_words.proofs.line.put_names.Goals as goal

pub returns-clause-cause : goal.returns-clause-cause
returns-clause-cause g c = grind (arith, common_steps)

pub returns-clause-bytes : goal.returns-clause-bytes
returns-clause-bytes g c = Puts-after _ _ _ _ _ _ c.in_ok-put_both.ensures.bytes (Puts-after _ _ _ _ _ _ c.in_ok-put_both-2.ensures.bytes c.put_all.ensures.bytes)

pub returns-in_err-put_both-clause-bytes : goal.returns-in_err-put_both-clause-bytes
returns-in_err-put_both-clause-bytes g c = Puts-failed _ _ _ _ _ (search rules) c.in_err-put_both.ensures.bytes

pub returns-in_err-put_both-2-clause-bytes : goal.returns-in_err-put_both-2-clause-bytes
returns-in_err-put_both-2-clause-bytes g c = Puts-in _ _ _ _ _ _ _ _ refl (search rules) c.in_ok-put_both.ensures.bytes c.in_err-put_both-2.ensures.bytes
