use Rattle.std.proofs.Common.{◌+◌, arith, ◌∙◌}
use Rattle.std.proofs.lemmas.Result.{IfOk-weaker}
use Rattle.xarch_words.specs.declared.limits.TheConstants.{SPECIFICATION}
use Rattle.xarch_parts.specs.EndLaws.{IfOk-passed, IsDefined-here, IsDefined-next, Matches-next, Matches-passed}
use Rattle.xarch_parts.specs.FolderLaws.{reads-more, reads-passed, reads-then}
use Rattle.xarch_parts.specs.InputLaws.{length_in-length}
use Rattle.xarch_writes.proofs.rekey.new_keys.Goals as goal

-- ---- the archive is not there

pub returns-in_err-size-clause-reads : goal.returns-in_err-size-clause-reads
returns-in_err-size-clause-reads g c = reads-passed _ _ _ c.from_residual.result _ c.from_residual.ensures.1 (reads-more 0 _ _ _ _ (omega arith) c.in_err-size.ensures.reads)

pub returns-in_err-size-clause-told : goal.returns-in_err-size-clause-told
returns-in_err-size-clause-told g c = λ files told. Matches-passed _ _ c.from_residual.result _ c.from_residual.ensures.1 (IsDefined-here _ _ _ (c.in_err-size.ensures.told files told))

pub returns-in_err-size-clause-are : goal.returns-in_err-size-clause-are
returns-in_err-size-clause-are g c = λ files told. IfOk-passed c.from_residual.result _ _ c.from_residual.ensures.1

pub returns-in_err-size-clause-within : goal.returns-in_err-size-clause-within
returns-in_err-size-clause-within g c = IfOk-passed c.from_residual.result _ _ c.from_residual.ensures.1

-- ---- the specification is not there, or too long

pub returns-in_err-length-clause-reads : goal.returns-in_err-length-clause-reads
returns-in_err-length-clause-reads g c = reads-passed _ _ _ c.from_residual-in_err-length.result _ c.from_residual-in_err-length.ensures.1 (reads-then 0 0 _ _ _ _ _ (omega arith) c.in_ok-size.ensures.reads c.in_err-length.ensures.reads)

pub returns-in_err-length-clause-told : goal.returns-in_err-length-clause-told
returns-in_err-length-clause-told g c = λ files told.
    Matches-passed _ _ c.from_residual-in_err-length.result _ c.from_residual-in_err-length.ensures.1
    (IsDefined-next _ _ c.in_ok-size.size _ (c.in_ok-size.ensures.told files told) (IsDefined-here _ _ _ (c.in_err-length.ensures.told files (c.in_ok-size.ensures.reads.same_files ∙ told))))

pub returns-in_err-length-clause-are : goal.returns-in_err-length-clause-are
returns-in_err-length-clause-are g c = λ files told. IfOk-passed c.from_residual-in_err-length.result _ _ c.from_residual-in_err-length.ensures.1

pub returns-in_err-length-clause-within : goal.returns-in_err-length-clause-within
returns-in_err-length-clause-within g c = IfOk-passed c.from_residual-in_err-length.result _ _ c.from_residual-in_err-length.ensures.1

-- ---- both have their lengths

pub returns-clause-reads : goal.returns-clause-reads
returns-clause-reads g c = let size = c.in_ok-size.ensures.size in
    reads-then 0 (16 + c.in_ok-size.size + SPECIFICATION) _ _ _ _ _ (omega (arith, size)) (reads-then 0 0 0 _ _ _ _ (omega arith) c.in_ok-size.ensures.reads c.in_ok-length.ensures.reads) c.keys_behind.ensures.reads

pub returns-clause-told : goal.returns-clause-told
returns-clause-told g c = λ files told.
    let told1 = c.in_ok-size.ensures.reads.same_files ∙ told in
    let told2 = c.in_ok-length.ensures.reads.same_files ∙ told1 in
    let size = c.in_ok-size.ensures.told files told in
    let length = c.in_ok-length.ensures.told files told1 in
    Matches-next _ _ _ c.in_ok-size.size c.keys_behind.result size (Matches-next _ _ _ c.in_ok-length.length c.keys_behind.result length (c.keys_behind.ensures.told files told2 size (length_in-length _ _ _ _ _ length)))

pub returns-clause-are : goal.returns-clause-are
returns-clause-are g c = λ files told. c.keys_behind.ensures.are files (c.in_ok-length.ensures.reads.same_files ∙ (c.in_ok-size.ensures.reads.same_files ∙ told)) (c.in_ok-size.ensures.told files told)

pub returns-clause-within : goal.returns-clause-within
returns-clause-within g c =
    let size = c.in_ok-size.ensures.size in
    IfOk-weaker c.keys_behind.result _ _ (λ r h. (let within = h.within in record { within = omega (arith, size, within); room = h.room })) c.keys_behind.ensures.within
