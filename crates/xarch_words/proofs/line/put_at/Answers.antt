use Rattle.std.proofs.Common.{arith, rules}
use Rattle.std.proofs.lemmas.Grind.{common_steps}
use Rattle.xa_outside.specs.TakenLaws.{Takes-trans, Puts-after, Puts-failed, TakesPrefix-more, TakesPrefix-after}
use Rattle.xarch_words.proofs.line.put_at.Goals as goal

pub returns-clause-bytes : goal.returns-clause-bytes
returns-clause-bytes g c = Puts-after _ _ _ _ _ _ (Takes-trans _ _ _ _ _ c.in_ok-put_all.ensures.bytes c.in_ok-put_place.ensures.bytes) c.put_why.ensures.bytes

pub returns-clause-cause : goal.returns-clause-cause
returns-clause-cause g c = grind (arith, common_steps)

pub returns-in_err-put_all-clause-bytes : goal.returns-in_err-put_all-clause-bytes
returns-in_err-put_all-clause-bytes g c = Puts-failed _ _ _ _ _ (search rules) (TakesPrefix-more _ _ _ _ c.in_err-put_all.ensures.bytes)

pub returns-in_err-put_place-clause-bytes : goal.returns-in_err-put_place-clause-bytes
returns-in_err-put_place-clause-bytes g c = Puts-failed _ _ _ _ _ (search rules) (TakesPrefix-after _ _ _ _ _ c.in_ok-put_all.ensures.bytes c.in_err-put_place.ensures.bytes)
