use Rattle.std.proofs.Common.{arith}
use Rattle.std.proofs.lemmas.Grind.{common_steps}
use Rattle.xa_outside.specs.TakenLaws.{Takes-nil}
use Rattle.xarch_words.specs.Lines.{key_path_text}
use Rattle.xarch_words.proofs.line.put_key_path.Goals as goal

pub returns-in-None-clause-bytes : goal.returns-in-None-clause-bytes
unfolding key_path_text
returns-in-None-clause-bytes g c = rw c.in-None.is (Takes-nil _)

pub returns-in-Some-clause-cause : goal.returns-in-Some-clause-cause
returns-in-Some-clause-cause g c = grind (arith, common_steps)

pub returns-in-None-clause-cause : goal.returns-in-None-clause-cause
returns-in-None-clause-cause g c = grind (arith, common_steps)
