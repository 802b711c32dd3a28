use Rattle.std.proofs.Common.{◌+◌, map, arith, ◌∙◌}
use Rattle.std.specs.Prelude.{string_bytes}
use Rattle.key_spec.specs.View.{spec_view}
use Rattle.archive_tree.specs.ArchiveView.{archive_view}
use Rattle.xarch_parts.specs.FolderLaws.{reads-more, reads-then}
use Rattle.xarch_parts.specs.Noted.{notes_bytes}
use Rattle.xarch_texts.proofs.ExportEnds.{may_export, may_refuse_core, may_refuse_notes}
use Rattle.xarch_texts.proofs.GivingLemmas.{gives-fault, gives-passed, gives-value}
use Rattle.xarch_texts.proofs.export.kept_in.Goals as goal

pub returns-in_err-spec : goal.returns-in_err-spec
returns-in_err-spec g c =
    let name = c.args.name.now in
    let parts = c.args.parts.now in
    let e = c.in_err-spec.ensures in
    gives-passed _ _ _ c.from_residual.result _ _ _ c.from_residual.ensures.1 (reads-more parts.core (parts.core + notes_bytes parts.notes) _ _ _ (omega arith) e.reads)
    (λ files q told is p. (let d = e.refuses files q told is in may_refuse_core c.full_files_have_parts.ensures.parts files name parts p q d.0 d.1))

pub notes_of-requires : goal.notes_of-requires
notes_of-requires g c = c.requires

pub returns-in-Ok : goal.returns-in-Ok
returns-in-Ok g c =
    let name = c.args.name.now in
    let parts = c.args.parts.now in
    let core = c.in_ok-spec in
    let n = c.in-Ok.ensures in
    gives-value (parts.core + notes_bytes parts.notes) _ _ _ _ _ (reads-then parts.core (notes_bytes parts.notes) _ _ _ _ _ (omega arith) core.ensures.reads n.reads)
    (λ files told p.
    may_export c.full_files_have_parts.ensures.parts files name parts p (spec_view core.spec) (archive_view core.archive) c.n.result c.n.ensures (core.ensures.given files told) c.full_files_are_read_note_by_note.ensures.full
    c.full_files_have_one_reading.ensures.reading (map string_bytes c.in-Ok.notes.items) (n.given files (core.ensures.reads.same_files ∙ told)))

pub returns-in-Err : goal.returns-in-Err
returns-in-Err g c =
    let name = c.args.name.now in
    let parts = c.args.parts.now in
    let core = c.in_ok-spec in
    let n = c.in-Err.ensures in
    gives-fault (parts.core + notes_bytes parts.notes) _ _ _ _ _ (reads-then parts.core (notes_bytes parts.notes) _ _ _ _ _ (omega arith) core.ensures.reads n.reads)
    (λ files q told is p. (let d = n.refuses files q (core.ensures.reads.same_files ∙ told) is in
    may_refuse_notes c.full_files_have_parts.ensures.parts files name parts p (spec_view core.spec) (archive_view core.archive) c.n.result c.n.ensures (core.ensures.given files told) c.full_files_are_read_note_by_note.ensures.damaged q d.0 d.1))
