use Rattle.std.proofs.Common.{List, ℕ, Ok, sym, ap, ◌∙◌}
use Rattle.xarch_parts.specs.Readings.{rules_of}
use Rattle.xarch_parts.specs.EndLaws.{IsDefined-here, Matches-next, Matches-passed}
use Rattle.xarch_parts.specs.FolderLaws.{reads-inside, reads-passed}
use Rattle.xarch_parts.proofs.readings.read_spec.Goals as goal

pub returns-in_err-bytes-clause-reads : goal.returns-in_err-bytes-clause-reads
returns-in_err-bytes-clause-reads g c = reads-passed _ _ _ c.from_residual.result _ c.from_residual.ensures.1 c.in_err-bytes.ensures.reads

pub returns-in_err-bytes-clause-told : goal.returns-in_err-bytes-clause-told
returns-in_err-bytes-clause-told g c = λ files told length. Matches-passed _ _ c.from_residual.result _ c.from_residual.ensures.1 (IsDefined-here _ _ _ (c.in_err-bytes.ensures.told files told length))

pub returns-clause-reads : goal.returns-clause-reads
returns-clause-reads g c = reads-inside _ _ _ _ c.in_ok-bytes.ensures.reads c.spec_from.ensures.cause

pub returns-clause-told : goal.returns-clause-told
returns-clause-told g c = λ files told length. Matches-next _ _ rules_of _ c.spec_from.result (c.in_ok-bytes.ensures.told files told length ∙ ap (λ (b : List ℕ). Ok b) (sym c.deref.ensures.value)) c.spec_from.ensures.told
