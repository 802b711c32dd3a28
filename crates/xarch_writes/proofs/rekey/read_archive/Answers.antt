use Rattle.std.proofs.Common.{Some, map, take, sym, ◌∙◌, subst, arith}
use Rattle.std.specs.Prelude.{string_bytes}
use Rattle.std.proofs.lemmas.List.{length-map}
use Rattle.archive_tree.specs.ArchiveView.{archive_view}
use Rattle.xarch_words.specs.Refusal.{PlainFault}
use Rattle.xarch_parts.specs.AllowedLaws.{IfErr-passed}
use Rattle.xarch_parts.specs.CoreLaws.{of-parts}
use Rattle.xarch_parts.specs.EndLaws.{IfOk-passed}
use Rattle.xarch_parts.specs.FolderLaws.{reads-more, reads-passed, reads-then}
use Rattle.xarch_parts.specs.Noted.{notes_bytes}
use Rattle.xarch_writes.specs.Appending.{NotesEnd}
use Rattle.xarch_writes.proofs.RekeyEnds.{can-follow, core-damaged, damaged-notes, opened-by}
use Rattle.xarch_writes.proofs.rekey.read_archive.Goals as goal

-- ---- its records are not read

pub returns-in_err-old-clause-reads : goal.returns-in_err-old-clause-reads
returns-in_err-old-clause-reads g c = reads-passed _ _ _ c.from_residual.result _ c.from_residual.ensures.1 (reads-more c.args.parts.now.core _ _ _ _ (omega arith) c.in_err-old.ensures.reads)

pub returns-in_err-old-clause-opened : goal.returns-in_err-old-clause-opened
returns-in_err-old-clause-opened g c = λ files told are. IfOk-passed c.from_residual.result _ _ c.from_residual.ensures.1

pub returns-in_err-old-clause-damage : goal.returns-in_err-old-clause-damage
returns-in_err-old-clause-damage g c = λ files q told are.
    let name = c.args.archive.now in
    let parts = c.args.parts.now in
    IfErr-passed c.from_residual.result c.in_err-old.field-0.0 _ c.from_residual.ensures.1
    (λ e. core-damaged c.full_files_have_parts.ensures.parts files name parts are q (c.in_err-old.ensures.damage files (take parts.core are.bytes) q told (of-parts files name parts are) e))

pub returns-in_err-old-clause-few : goal.returns-in_err-old-clause-few
returns-in_err-old-clause-few g c = IfOk-passed c.from_residual.result _ _ c.from_residual.ensures.1

pub returns-in_err-old-clause-documents : goal.returns-in_err-old-clause-documents
returns-in_err-old-clause-documents g c = IfOk-passed c.from_residual.result _ _ c.from_residual.ensures.1

pub returns-in_err-old-clause-follow : goal.returns-in_err-old-clause-follow
returns-in_err-old-clause-follow g c = IfOk-passed c.from_residual.result _ _ c.from_residual.ensures.1

-- ---- its notes are not read

pub returns-in_err-notes-clause-reads : goal.returns-in_err-notes-clause-reads
returns-in_err-notes-clause-reads g c =
    let parts = c.args.parts.now in
    reads-passed _ _ _ c.from_residual-in_err-notes.result _ c.from_residual-in_err-notes.ensures.1 (reads-then parts.core (notes_bytes parts.notes) _ _ _ _ _ (omega arith) c.in_ok-old.ensures.reads c.in_err-notes.ensures.reads)

pub returns-in_err-notes-clause-opened : goal.returns-in_err-notes-clause-opened
returns-in_err-notes-clause-opened g c = λ files told are. IfOk-passed c.from_residual-in_err-notes.result _ _ c.from_residual-in_err-notes.ensures.1

pub returns-in_err-notes-clause-damage : goal.returns-in_err-notes-clause-damage
returns-in_err-notes-clause-damage g c = λ files q told are.
    let name = c.args.archive.now in
    let parts = c.args.parts.now in
    let old = c.in_ok-old in
    let kept = c.archives_stand_for_one_list.ensures.told (archive_view old.old) old.old.stands in
    let sound = old.ensures.sound files (take parts.core are.bytes) told (of-parts files name parts are) kept.versions kept.is in
    let ends = c.in_err-notes.ensures.ends files (old.ensures.reads.same_files ∙ told) in
    IfErr-passed c.from_residual-in_err-notes.result c.in_err-notes.field-0.0 _ c.from_residual-in_err-notes.ensures.1
    (λ e. damaged-notes files name parts are kept.versions c.n.result sound (c.n.ensures ∙ sym kept.is.count) c.full_files_are_read_note_by_note.ensures.damaged q (subst (λ (z : PlainFault). NotesEnd files name parts c.n.result (Some z)) e ends))

pub returns-in_err-notes-clause-few : goal.returns-in_err-notes-clause-few
returns-in_err-notes-clause-few g c = IfOk-passed c.from_residual-in_err-notes.result _ _ c.from_residual-in_err-notes.ensures.1

pub returns-in_err-notes-clause-documents : goal.returns-in_err-notes-clause-documents
returns-in_err-notes-clause-documents g c = IfOk-passed c.from_residual-in_err-notes.result _ _ c.from_residual-in_err-notes.ensures.1

pub returns-in_err-notes-clause-follow : goal.returns-in_err-notes-clause-follow
returns-in_err-notes-clause-follow g c = IfOk-passed c.from_residual-in_err-notes.result _ _ c.from_residual-in_err-notes.ensures.1

-- ---- both are

pub returns-clause-reads : goal.returns-clause-reads
returns-clause-reads g c = let parts = c.args.parts.now in reads-then parts.core (notes_bytes parts.notes) _ _ _ _ _ (omega arith) c.in_ok-old.ensures.reads c.in_ok-notes.ensures.reads

pub returns-clause-opened : goal.returns-clause-opened
returns-clause-opened g c = λ files told are vs is.
    let name = c.args.archive.now in
    let parts = c.args.parts.now in
    let old = c.in_ok-old in
    let sound = old.ensures.sound files (take parts.core are.bytes) told (of-parts files name parts are) vs is in
    opened-by files name parts are vs c.n.result sound (c.n.ensures ∙ sym is.count) c.full_files_are_read_note_by_note.ensures.full (map string_bytes c.in_ok-notes.notes.items) (c.in_ok-notes.ensures.told files (old.ensures.reads.same_files ∙ told))

pub returns-clause-damage : goal.returns-clause-damage
returns-clause-damage g c = λ files q told are. tt

pub returns-clause-few : goal.returns-clause-few
returns-clause-few g c = c.in_ok-old.ensures.few

pub returns-clause-documents : goal.returns-clause-documents
returns-clause-documents g c = c.in_ok-old.ensures.documents

pub notes_of-requires : goal.notes_of-requires
notes_of-requires g c = c.requires

pub returns-clause-follow : goal.returns-clause-follow
returns-clause-follow g c = λ noted known.
    let n = c.in_ok-notes.ensures in
    let few = c.in_ok-old.ensures.few in
    let count = c.n.ensures in
    can-follow (map string_bytes c.in_ok-notes.notes.items) c.n.result c.args.parts.now.notes noted (length-map c.in_ok-notes.notes.items string_bytes ∙ n.count) (omega (arith, few, count)) n.each n.some known
