use Rattle.std.proofs.Common.{◌∙◌, arith}
use Rattle.version_notes.specs.Writer.{fresh}
use Rattle.version_notes.proofs.Written.{part_written, used_after, pushed_after}
use Rattle.version_notes.proofs.laws.writers_append_the_part.Goals as goal

pub returns-clause-part : goal.returns-clause-part
returns-clause-part c = part_written

pub returns-clause-used : goal.returns-clause-used
returns-clause-used c = λ at_once notes. used_after (fresh at_once) notes

pub returns-clause-pushed : goal.returns-clause-pushed
returns-clause-pushed c = λ at_once notes. pushed_after (fresh at_once) notes ∙ omega arith
