use Rattle.std.proofs.Common.{List, ℕ, Ok, sym, ap, ◌∙◌}
use Rattle.xarch_meanings.specs.Table.{rows_of}
use Rattle.xarch_parts.specs.EndLaws.{IfOk-passed, IsDefined-here, Matches-next, Matches-passed}
use Rattle.xarch_parts.specs.FolderLaws.{reads-inside, reads-passed}
use Rattle.xarch_tables.proofs.table.table_in.Goals as goal

pub returns-in_err-bytes-clause-reads : goal.returns-in_err-bytes-clause-reads
returns-in_err-bytes-clause-reads g c = reads-passed _ _ _ c.from_residual.result _ c.from_residual.ensures.1 c.in_err-bytes.ensures.reads

pub returns-in_err-bytes-clause-told : goal.returns-in_err-bytes-clause-told
returns-in_err-bytes-clause-told g c = λ files told length. Matches-passed _ _ c.from_residual.result _ c.from_residual.ensures.1 (IsDefined-here _ _ _ (c.in_err-bytes.ensures.told files told length))

pub returns-in_err-bytes-clause-regular : goal.returns-in_err-bytes-clause-regular
returns-in_err-bytes-clause-regular g c = IfOk-passed c.from_residual.result _ _ c.from_residual.ensures.1

pub returns-in_err-bytes-clause-few : goal.returns-in_err-bytes-clause-few
returns-in_err-bytes-clause-few g c = IfOk-passed c.from_residual.result _ _ c.from_residual.ensures.1

pub returns-clause-reads : goal.returns-clause-reads
returns-clause-reads g c = reads-inside _ _ _ _ c.in_ok-bytes.ensures.reads c.table_from.ensures.cause

pub returns-clause-told : goal.returns-clause-told
returns-clause-told g c = λ files told length. Matches-next _ _ rows_of _ c.table_from.result (c.in_ok-bytes.ensures.told files told length ∙ ap (λ (b : List ℕ). Ok b) (sym c.deref.ensures.value)) c.table_from.ensures.told
