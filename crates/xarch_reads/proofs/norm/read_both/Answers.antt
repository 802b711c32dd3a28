use Rattle.std.proofs.Common.{arith, refl, ◌∙◌}
use Rattle.xarch_parts.specs.EndLaws.{IfOk-passed, IsDefined-here, IsDefined-next, Matches-passed, and_then-Ok}
use Rattle.xarch_parts.specs.FolderLaws.{reads-more, reads-passed, reads-then}
use Rattle.xarch_parts.specs.InputLaws.{length_in-length}
use Rattle.xarch_reads.proofs.norm.read_both.Goals as goal

pub returns-in_err-spec_length-clause-reads : goal.returns-in_err-spec_length-clause-reads
returns-in_err-spec_length-clause-reads g c = reads-passed _ _ _ c.from_residual.result _ c.from_residual.ensures.1 (reads-more 0 _ _ _ _ (omega arith) c.in_err-spec_length.ensures.reads)

pub returns-in_err-spec_length-clause-short : goal.returns-in_err-spec_length-clause-short
returns-in_err-spec_length-clause-short g c = IfOk-passed c.from_residual.result _ _ c.from_residual.ensures.1

pub returns-in_err-spec_length-clause-told : goal.returns-in_err-spec_length-clause-told
returns-in_err-spec_length-clause-told g c = λ files told. Matches-passed _ _ c.from_residual.result _ c.from_residual.ensures.1 (IsDefined-here _ _ _ (c.in_err-spec_length.ensures.told files told))

pub returns-in_err-doc_length-clause-reads : goal.returns-in_err-doc_length-clause-reads
returns-in_err-doc_length-clause-reads g c = reads-passed _ _ _ c.from_residual-in_err-doc_length.result _ c.from_residual-in_err-doc_length.ensures.1 (reads-then 0 0 _ _ _ _ _ (omega arith) c.in_ok-spec_length.ensures.reads c.in_err-doc_length.ensures.reads)

pub returns-in_err-doc_length-clause-short : goal.returns-in_err-doc_length-clause-short
returns-in_err-doc_length-clause-short g c = IfOk-passed c.from_residual-in_err-doc_length.result _ _ c.from_residual-in_err-doc_length.ensures.1

pub returns-in_err-doc_length-clause-told : goal.returns-in_err-doc_length-clause-told
returns-in_err-doc_length-clause-told g c = λ files told.
    let told1 = c.in_ok-spec_length.ensures.reads.same_files ∙ told in
    Matches-passed _ _ c.from_residual-in_err-doc_length.result _ c.from_residual-in_err-doc_length.ensures.1 (IsDefined-next _ _ _ _ (c.in_ok-spec_length.ensures.told files told) (IsDefined-here _ _ _ (c.in_err-doc_length.ensures.told files told1)))

pub returns-in_err-spec-clause-reads : goal.returns-in_err-spec-clause-reads
returns-in_err-spec-clause-reads g c = let few = c.in_ok-spec_length.ensures.bound in
    reads-passed _ _ _ c.from_residual-in_err-spec.result _ c.from_residual-in_err-spec.ensures.1 (reads-then 0 c.in_ok-spec_length.spec_length _ _ _ _ _ (omega (arith, few)) (reads-then 0 0 0 _ _ _ _ (omega arith) c.in_ok-spec_length.ensures.reads c.in_ok-doc_length.ensures.reads) c.in_err-spec.ensures.reads)

pub returns-in_err-spec-clause-short : goal.returns-in_err-spec-clause-short
returns-in_err-spec-clause-short g c = IfOk-passed c.from_residual-in_err-spec.result _ _ c.from_residual-in_err-spec.ensures.1

pub returns-in_err-spec-clause-told : goal.returns-in_err-spec-clause-told
returns-in_err-spec-clause-told g c = λ files told.
    let told1 = c.in_ok-spec_length.ensures.reads.same_files ∙ told in
    let told2 = c.in_ok-doc_length.ensures.reads.same_files ∙ told1 in
    let spec_length = c.in_ok-spec_length.ensures.told files told in
    Matches-passed _ _ c.from_residual-in_err-spec.result _ c.from_residual-in_err-spec.ensures.1 (IsDefined-next _ _ _ _ spec_length (IsDefined-next _ _ _ _ (c.in_ok-doc_length.ensures.told files told1) (IsDefined-here _ _ _ (c.in_err-spec.ensures.told files told2 (length_in-length _ _ _ _ _ spec_length)))))

pub returns-in_err-bytes-clause-reads : goal.returns-in_err-bytes-clause-reads
returns-in_err-bytes-clause-reads g c = let few = c.in_ok-spec_length.ensures.bound in
    let short = c.in_ok-doc_length.ensures.bound in
    reads-passed _ _ _ c.from_residual-in_err-bytes.result _ c.from_residual-in_err-bytes.ensures.1 (reads-then c.in_ok-spec_length.spec_length c.in_ok-doc_length.doc_length _ _ _ _ _ (omega (arith, few, short))
    (reads-then 0 c.in_ok-spec_length.spec_length c.in_ok-spec_length.spec_length _ _ _ _ (omega arith) (reads-then 0 0 0 _ _ _ _ (omega arith) c.in_ok-spec_length.ensures.reads c.in_ok-doc_length.ensures.reads) c.in_ok-spec.ensures.reads)
    c.in_err-bytes.ensures.reads)

pub returns-in_err-bytes-clause-short : goal.returns-in_err-bytes-clause-short
returns-in_err-bytes-clause-short g c = IfOk-passed c.from_residual-in_err-bytes.result _ _ c.from_residual-in_err-bytes.ensures.1

pub returns-in_err-bytes-clause-told : goal.returns-in_err-bytes-clause-told
returns-in_err-bytes-clause-told g c = λ files told.
    let told1 = c.in_ok-spec_length.ensures.reads.same_files ∙ told in
    let told2 = c.in_ok-doc_length.ensures.reads.same_files ∙ told1 in
    let told3 = c.in_ok-spec.ensures.reads.same_files ∙ told2 in
    let spec_length = c.in_ok-spec_length.ensures.told files told in
    let doc_length = c.in_ok-doc_length.ensures.told files told1 in
    let rules = c.in_ok-spec.ensures.told files told2 (length_in-length _ _ _ _ _ spec_length) in
    let bytes = c.in_err-bytes.ensures.told files told3 (length_in-length _ _ _ _ _ doc_length) in
    Matches-passed _ _ c.from_residual-in_err-bytes.result _ c.from_residual-in_err-bytes.ensures.1 (IsDefined-next _ _ _ _ spec_length (IsDefined-next _ _ _ _ doc_length (IsDefined-next _ _ _ _ rules (IsDefined-here _ _ _ bytes))))

pub returns-clause-reads : goal.returns-clause-reads
returns-clause-reads g c = let few = c.in_ok-spec_length.ensures.bound in
    let short = c.in_ok-doc_length.ensures.bound in
    reads-then c.in_ok-spec_length.spec_length c.in_ok-doc_length.doc_length _ _ _ _ _ (omega (arith, few, short))
    (reads-then 0 c.in_ok-spec_length.spec_length c.in_ok-spec_length.spec_length _ _ _ _ (omega arith) (reads-then 0 0 0 _ _ _ _ (omega arith) c.in_ok-spec_length.ensures.reads c.in_ok-doc_length.ensures.reads) c.in_ok-spec.ensures.reads)
    c.in_ok-bytes.ensures.reads

pub returns-clause-short : goal.returns-clause-short
returns-clause-short g c = let fits = c.in_ok-bytes.ensures.short in
    let short = c.in_ok-doc_length.ensures.bound in
    omega (arith, fits, short)

pub returns-clause-told : goal.returns-clause-told
returns-clause-told g c = λ files told.
    let told1 = c.in_ok-spec_length.ensures.reads.same_files ∙ told in
    let told2 = c.in_ok-doc_length.ensures.reads.same_files ∙ told1 in
    let told3 = c.in_ok-spec.ensures.reads.same_files ∙ told2 in
    let spec_length = c.in_ok-spec_length.ensures.told files told in
    let doc_length = c.in_ok-doc_length.ensures.told files told1 in
    let rules = c.in_ok-spec.ensures.told files told2 (length_in-length _ _ _ _ _ spec_length) in
    let bytes = c.in_ok-bytes.ensures.told files told3 (length_in-length _ _ _ _ _ doc_length) in
    and_then-Ok _ _ _ _ spec_length (and_then-Ok _ _ _ _ doc_length (and_then-Ok _ _ _ _ rules (and_then-Ok _ _ _ _ bytes refl)))
