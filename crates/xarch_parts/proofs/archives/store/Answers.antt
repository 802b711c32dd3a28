use Rattle.std.proofs.Common.{◌∙◌}
use Rattle.xarch_parts.specs.EndLaws.{OnOk-passed}
use Rattle.xarch_parts.specs.FolderLaws.{caused-passed, caused-then, writes-passed, writes-then}
use Rattle.xarch_parts.specs.AllowedLaws.{IfErr-passed, commit-tells}
use Rattle.xarch_parts.proofs.archives.store.Goals as goal

pub returns-in_err-draft-clause-writes : goal.returns-in_err-draft-clause-writes
returns-in_err-draft-clause-writes g c = writes-passed _ _ c.from_residual.result _ c.from_residual.ensures.1 c.in_err-draft.ensures.writes

pub returns-in_err-draft-clause-caused : goal.returns-in_err-draft-clause-caused
returns-in_err-draft-clause-caused g c = λ out. caused-passed _ _ _ _ c.from_residual.result _ c.from_residual.ensures.1 (c.in_err-draft.ensures.caused out)

pub returns-in_err-draft-clause-stored : goal.returns-in_err-draft-clause-stored
returns-in_err-draft-clause-stored g c = λ files told. OnOk-passed c.from_residual.result _ _ c.from_residual.ensures.1

pub returns-in_err-draft-clause-fault : goal.returns-in_err-draft-clause-fault
returns-in_err-draft-clause-fault g c = IfErr-passed c.from_residual.result _ _ c.from_residual.ensures.1 c.in_err-draft.ensures.fault

pub returns-clause-writes : goal.returns-clause-writes
returns-clause-writes g c = writes-then _ _ _ _ c.in_ok-draft.ensures.writes c.in_ok-draft.ensures.files c.commit.ensures.writes

pub returns-clause-caused : goal.returns-clause-caused
returns-clause-caused g c = λ out. caused-then _ _ _ _ _ _ _ (c.in_ok-draft.ensures.caused out) (c.commit.ensures.caused out)

pub returns-clause-stored : goal.returns-clause-stored
returns-clause-stored g c = λ files told. commit-tells c.commit.result files _ _ _ c.args.name.now c.args.bytes.now c.commit.ensures.committed (c.in_ok-draft.ensures.files ∙ told) c.in_ok-draft.ensures.drafted
