use Rattle.std.proofs.Common.{arith}
use Rattle.std.proofs.lemmas.Grind.{common_steps}
use Rattle.xa_outside.specs.TakenLaws.{Takes-trans, Puts-after}
use Rattle.xarch_words.proofs.line.put_long_path.Goals as goal

pub returns-in-None-clause-bytes : goal.returns-in-None-clause-bytes
returns-in-None-clause-bytes g c = rw (c.in-None.is, ← c.as_bytes.ensures.value) (Takes-trans _ _ _ _ _ c.in_ok-put_all.ensures.bytes c.in_ok-put_tags.ensures.bytes)

pub returns-in-None-clause-cause : goal.returns-in-None-clause-cause
returns-in-None-clause-cause g c = grind (arith, common_steps)

pub returns-in-Some-clause-cause : goal.returns-in-Some-clause-cause
returns-in-Some-clause-cause g c = grind (arith, common_steps)

pub returns-in_err-put_all-clause-cause : goal.returns-in_err-put_all-clause-cause
returns-in_err-put_all-clause-cause g c = grind (arith, common_steps)

pub returns-in_err-put_tags-clause-cause : goal.returns-in_err-put_tags-clause-cause
returns-in_err-put_tags-clause-cause g c = grind (arith, common_steps)

pub returns-in-Some-clause-bytes : goal.returns-in-Some-clause-bytes
returns-in-Some-clause-bytes g c = rw (c.in-Some.is, ← c.as_bytes.ensures.value, ← c.as_bytes-in-Some.ensures.value) (Puts-after _ _ _ _ _ _ c.in_ok-put_all.ensures.bytes (Puts-after _ _ _ _ _ _ c.in_ok-put_tags.ensures.bytes c.put_both.ensures.bytes))
