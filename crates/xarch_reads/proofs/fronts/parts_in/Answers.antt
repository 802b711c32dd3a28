use Rattle.std.proofs.Common.{arith, ◌∙◌}
use Rattle.std.proofs.lemmas.Result.{IfOk-weaker}
use Rattle.xarch_words.specs.View.{fault_view}
use Rattle.xarch_parts.specs.CoreLaws.{within-more}
use Rattle.xarch_parts.specs.EndLaws.{IfOk-passed, IsDefined-here, Matches-passed}
use Rattle.xarch_parts.specs.FolderLaws.{reads-more, reads-passed, reads-then}
use Rattle.xarch_parts.specs.InputLaws.{IsDefined-file}
use Rattle.xarch_parts.specs.Inputs.{file_of}
use Rattle.xarch_parts.specs.Readings.{parts_of}
use Rattle.xarch_reads.proofs.fronts.parts_in.Goals as goal

pub returns-in_err-size-clause-within : goal.returns-in_err-size-clause-within
returns-in_err-size-clause-within g c = IfOk-passed c.from_residual.result _ _ c.from_residual.ensures.1

pub returns-in_err-size-clause-reads : goal.returns-in_err-size-clause-reads
returns-in_err-size-clause-reads g c = reads-passed _ _ _ c.from_residual.result _ c.from_residual.ensures.1 (reads-more 0 _ _ _ _ (omega arith) c.in_err-size.ensures.reads)

pub returns-in_err-size-clause-told : goal.returns-in_err-size-clause-told
returns-in_err-size-clause-told g c = λ files told.
    let name = c.args.archive.now in
    let v = fault_view c.in_err-size.field-0.0 in
    Matches-passed _ _ c.from_residual.result _ c.from_residual.ensures.1 (IsDefined-here (file_of files name) (parts_of name) v (IsDefined-file (file_of files name) v (c.in_err-size.ensures.told files told)))

pub returns-in_err-size-clause-are : goal.returns-in_err-size-clause-are
returns-in_err-size-clause-are g c = λ files told. IfOk-passed c.from_residual.result _ _ c.from_residual.ensures.1

pub returns-clause-within : goal.returns-clause-within
returns-clause-within g c = let size = c.in_ok-size.ensures.size in IfOk-weaker c.read_parts.result _ _ (λ parts is. within-more _ _ parts size is) c.read_parts.ensures.within

pub returns-clause-reads : goal.returns-clause-reads
returns-clause-reads g c = reads-then 0 16 _ _ _ _ _ (omega arith) c.in_ok-size.ensures.reads c.read_parts.ensures.reads

pub returns-clause-told : goal.returns-clause-told
returns-clause-told g c = λ files told. c.read_parts.ensures.told files (c.in_ok-size.ensures.reads.same_files ∙ told) (c.in_ok-size.ensures.told files told)

pub returns-clause-are : goal.returns-clause-are
returns-clause-are g c = λ files told. c.read_parts.ensures.are files (c.in_ok-size.ensures.reads.same_files ∙ told) (c.in_ok-size.ensures.told files told)
