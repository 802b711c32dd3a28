use Rattle.std.proofs.Common.{length}
use Rattle.xarch_parts.specs.Inputs.{file_of}
use Rattle.xarch_parts.specs.EndLaws.{IsDefined-whatever, Matches-passed}
use Rattle.xarch_parts.specs.FolderLaws.{reads-inside, reads-passed}
use Rattle.xarch_parts.specs.InputLaws.{limited}
use Rattle.xarch_parts.proofs.inputs.limited_length.Goals as goal

pub returns-in_err-length-clause-reads : goal.returns-in_err-length-clause-reads
returns-in_err-length-clause-reads g c = reads-passed _ _ _ c.from_residual.result _ c.from_residual.ensures.1 c.in_err-length.ensures.reads

pub returns-in_err-length-clause-told : goal.returns-in_err-length-clause-told
returns-in_err-length-clause-told g c = λ files told. Matches-passed _ _ c.from_residual.result _ c.from_residual.ensures.1 (IsDefined-whatever (file_of files c.args.name.now) length _ _ (c.in_err-length.ensures.told files told))

pub returns-clause-reads : goal.returns-clause-reads
returns-clause-reads g c = reads-inside _ _ _ _ c.in_ok-length.ensures.reads c.at_most.ensures.cause

pub returns-clause-told : goal.returns-clause-told
returns-clause-told g c = λ files told. limited (file_of files c.args.name.now) _ _ _ c.at_most.result (c.in_ok-length.ensures.told files told) c.at_most.ensures.told
