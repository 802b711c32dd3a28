use Rattle.std.proofs.Common.{arith, ◌∙◌}
use Rattle.xarch_parts.specs.EndLaws.{IfOk-passed, IsDefined-here, IsDefined-next, Matches-next, Matches-passed}
use Rattle.xarch_parts.specs.FolderLaws.{reads-more, reads-passed, reads-then}
use Rattle.xarch_parts.specs.InputLaws.{length_in-length}
use Rattle.xarch_texts.proofs.import.read_input.Goals as goal

pub returns-in_err-length-clause-reads : goal.returns-in_err-length-clause-reads
returns-in_err-length-clause-reads g c = reads-passed _ _ _ c.from_residual.result _ c.from_residual.ensures.1 (reads-more 0 _ _ _ _ (omega arith) c.in_err-length.ensures.reads)

pub returns-in_err-length-clause-told : goal.returns-in_err-length-clause-told
returns-in_err-length-clause-told g c = λ files told. Matches-passed _ _ c.from_residual.result _ c.from_residual.ensures.1 (IsDefined-here _ _ _ (c.in_err-length.ensures.told files told))

pub returns-in_err-length-clause-short : goal.returns-in_err-length-clause-short
returns-in_err-length-clause-short g c = IfOk-passed c.from_residual.result _ _ c.from_residual.ensures.1

pub returns-in_err-check_free-clause-reads : goal.returns-in_err-check_free-clause-reads
returns-in_err-check_free-clause-reads g c = reads-passed _ _ _ c.from_residual-in_err-check_free.result _ c.from_residual-in_err-check_free.ensures.1 (reads-then 0 0 _ _ _ _ _ (omega arith) c.in_ok-length.ensures.reads c.in_err-check_free.ensures.reads)

pub returns-in_err-check_free-clause-told : goal.returns-in_err-check_free-clause-told
returns-in_err-check_free-clause-told g c = λ files told.
    let told1 = c.in_ok-length.ensures.reads.same_files ∙ told in
    Matches-passed _ _ c.from_residual-in_err-check_free.result _ c.from_residual-in_err-check_free.ensures.1 (IsDefined-next _ _ _ _ (c.in_ok-length.ensures.told files told) (IsDefined-here _ _ _ (c.in_err-check_free.ensures.told files told1)))

pub returns-in_err-check_free-clause-short : goal.returns-in_err-check_free-clause-short
returns-in_err-check_free-clause-short g c = IfOk-passed c.from_residual-in_err-check_free.result _ _ c.from_residual-in_err-check_free.ensures.1

pub returns-clause-reads : goal.returns-clause-reads
returns-clause-reads g c =
    let short = c.in_ok-length.ensures.bound in
    reads-then 0 c.in_ok-length.length _ _ _ _ _ (omega (arith, short)) (reads-then 0 0 0 _ _ _ _ (omega arith) c.in_ok-length.ensures.reads c.in_ok-check_free.ensures.reads) c.read_whole.ensures.reads

pub returns-clause-told : goal.returns-clause-told
returns-clause-told g c = λ files told.
    let told1 = c.in_ok-length.ensures.reads.same_files ∙ told in
    let told2 = c.in_ok-check_free.ensures.reads.same_files ∙ told1 in
    let length = c.in_ok-length.ensures.told files told in
    Matches-next _ _ _ _ c.read_whole.result length (Matches-next _ _ _ _ c.read_whole.result (c.in_ok-check_free.ensures.told files told1) (c.read_whole.ensures.told files told2 (length_in-length _ _ _ _ _ length)))
