use Rattle.std.proofs.Common.{◌∙◌, take, arith}
use Rattle.xarch_parts.specs.CoreLaws.{of-parts}
use Rattle.xarch_parts.specs.EndLaws.{IfOk-passed}
use Rattle.xarch_parts.specs.FolderLaws.{reads-more, reads-passed}
use Rattle.xarch_parts.specs.AllowedLaws.{IfErr-passed, defined_refused}
use Rattle.xarch_parts.specs.Inputs.{read_in}
use Rattle.xarch_parts.specs.Readings.{parts_of}
use Rattle.xarch_reads.proofs.CheckEnds.{may_refuse_core, may_refuse_early, may_refuse_notes, may_tell}
use Rattle.xarch_reads.proofs.PartEnds.{three-parts, two-parts}
use Rattle.xarch_reads.proofs.check.versions_in.Goals as goal

pub returns-in_err-parts-clause-reads : goal.returns-in_err-parts-clause-reads
returns-in_err-parts-clause-reads g c = reads-passed _ _ _ c.from_residual.result _ c.from_residual.ensures.1 (reads-more 16 _ _ _ _ (omega arith) c.in_err-parts.ensures.reads)

pub returns-in_err-parts-clause-versions : goal.returns-in_err-parts-clause-versions
returns-in_err-parts-clause-versions g c = λ files told. IfOk-passed c.from_residual.result _ _ c.from_residual.ensures.1

pub returns-in_err-parts-clause-refused : goal.returns-in_err-parts-clause-refused
returns-in_err-parts-clause-refused g c = λ files q told.
    let law = c.full_files_have_parts.ensures in
    IfErr-passed c.from_residual.result c.in_err-parts.field-0.0 _ c.from_residual.ensures.1
    (λ e. may_refuse_early law.parts law.none files c.args.archive.now q (defined_refused (read_in files c.args.archive.now (parts_of c.args.archive.now)) _ q (c.in_err-parts.ensures.told files told) e))

pub returns-in_err-versions-clause-reads : goal.returns-in_err-versions-clause-reads
returns-in_err-versions-clause-reads g c = reads-passed _ _ _ c.from_residual-in_err-versions.result _ c.from_residual-in_err-versions.ensures.1 (two-parts c.in_ok-parts.parts _ _ _ _ _ c.in_ok-parts.ensures.within c.in_ok-parts.ensures.reads c.in_err-versions.ensures.reads)

pub returns-in_err-versions-clause-versions : goal.returns-in_err-versions-clause-versions
returns-in_err-versions-clause-versions g c = λ files told. IfOk-passed c.from_residual-in_err-versions.result _ _ c.from_residual-in_err-versions.ensures.1

pub returns-in_err-versions-clause-refused : goal.returns-in_err-versions-clause-refused
returns-in_err-versions-clause-refused g c = λ files q told.
    let law = c.full_files_have_parts.ensures in
    let name = c.args.archive.now in
    let parts = c.in_ok-parts.parts in
    let p = c.in_ok-parts.ensures.are files told in
    IfErr-passed c.from_residual-in_err-versions.result c.in_err-versions.field-0.0 _ c.from_residual-in_err-versions.ensures.1
    (λ e. (let h = c.in_err-versions.ensures.refused files (take parts.core p.bytes) q (c.in_ok-parts.ensures.reads.same_files ∙ told) (of-parts files name parts p) e in may_refuse_core law.parts law.none files name parts p q h.0 h.1))

pub check_notes_of-requires : goal.check_notes_of-requires
check_notes_of-requires g c = c.in_ok-parts.ensures.within.room

pub returns-in-Ok-clause-reads : goal.returns-in-Ok-clause-reads
returns-in-Ok-clause-reads g c = three-parts c.in_ok-parts.parts _ _ _ _ _ _ c.in_ok-parts.ensures.within c.in_ok-parts.ensures.reads c.in_ok-versions.ensures.reads c.in-Ok.ensures.reads

pub returns-in-Ok-clause-versions : goal.returns-in-Ok-clause-versions
returns-in-Ok-clause-versions g c = λ files told.
    let law = c.full_files_have_parts.ensures in
    let name = c.args.archive.now in
    let parts = c.in_ok-parts.parts in
    let p = c.in_ok-parts.ensures.are files told in
    let told1 = c.in_ok-parts.ensures.reads.same_files ∙ told in
    let told2 = c.in_ok-versions.ensures.reads.same_files ∙ told1 in
    let s = c.in_ok-versions.ensures.sound files (take parts.core p.bytes) told1 (of-parts files name parts p) in
    may_tell law.parts law.none files name parts p s.0 c.in_ok-versions.versions s.1 c.full_files_are_read_note_by_note.ensures.full (c.in-Ok.ensures.stand files told2)

pub returns-in-Err-clause-reads : goal.returns-in-Err-clause-reads
returns-in-Err-clause-reads g c = three-parts c.in_ok-parts.parts _ _ _ _ _ _ c.in_ok-parts.ensures.within c.in_ok-parts.ensures.reads c.in_ok-versions.ensures.reads c.in-Err.ensures.reads

pub returns-in-Err-clause-refused : goal.returns-in-Err-clause-refused
returns-in-Err-clause-refused g c = λ files q told e.
    let law = c.full_files_have_parts.ensures in
    let name = c.args.archive.now in
    let parts = c.in_ok-parts.parts in
    let p = c.in_ok-parts.ensures.are files told in
    let told1 = c.in_ok-parts.ensures.reads.same_files ∙ told in
    let told2 = c.in_ok-versions.ensures.reads.same_files ∙ told1 in
    let s = c.in_ok-versions.ensures.sound files (take parts.core p.bytes) told1 (of-parts files name parts p) in
    let h = c.in-Err.ensures.refused files q told2 e in
    may_refuse_notes law.parts law.none files name parts p s.0 c.in_ok-versions.versions s.1 c.full_files_are_read_note_by_note.ensures.damaged q h.0 h.1
