use Rattle.std.proofs.Common.{◌+◌, arith, ◌∙◌}
use Rattle.xarch_words.specs.View.{fault_view}
use Rattle.xarch_parts.specs.AllowedLaws.{defined_refused}
use Rattle.xarch_parts.specs.EndLaws.{IsDefined-here}
use Rattle.xarch_parts.specs.FolderLaws.{reads-more, reads-then}
use Rattle.xarch_parts.specs.InputLaws.{IsDefined-file}
use Rattle.xarch_parts.specs.Inputs.{file_of, size_in}
use Rattle.xarch_parts.specs.Noted.{notes_bytes}
use Rattle.xarch_parts.specs.Readings.{parts_of}
use Rattle.xarch_meanings.specs.Stats.{stats_input}
use Rattle.xarch_texts.proofs.ExportEnds.{may_refuse_early}
use Rattle.xarch_texts.proofs.GivingLemmas.{gives-passed, gives-then}
use Rattle.xarch_texts.proofs.export.read_kept.Goals as goal

pub returns-in_err-size : goal.returns-in_err-size
returns-in_err-size g c =
    let name = c.args.name.now in
    let v = fault_view c.in_err-size.field-0.0 in
    let e = c.in_err-size.ensures in
    gives-passed _ _ _ c.from_residual.result _ _ _ c.from_residual.ensures.1 (reads-more 0 _ _ _ _ (omega arith) e.reads)
    (λ files q told is. may_refuse_early c.full_files_have_parts.ensures.parts files name q
    (defined_refused (stats_input files name) v q (IsDefined-here (file_of files name) (parts_of name) v (IsDefined-file (file_of files name) v (e.told files told))) is))

pub returns-in_err-parts : goal.returns-in_err-parts
returns-in_err-parts g c =
    let name = c.args.name.now in
    let s = c.in_ok-size.ensures in
    let e = c.in_err-parts.ensures in
    gives-passed _ _ _ c.from_residual-in_err-parts.result _ _ _ c.from_residual-in_err-parts.ensures.1 (reads-then 0 16 _ _ _ _ _ (omega arith) s.reads e.reads)
    (λ files q told is. may_refuse_early c.full_files_have_parts.ensures.parts files name q (defined_refused (stats_input files name) _ q (e.told files (s.reads.same_files ∙ told) (s.told files told)) is))

pub kept_in-requires : goal.kept_in-requires
kept_in-requires g c = c.in_ok-parts.ensures.within.room

pub returns : goal.returns
returns g c =
    let name = c.args.name.now in
    let parts = c.in_ok-parts.parts in
    let s = c.in_ok-size.ensures in
    let p = c.in_ok-parts.ensures in
    let fits = s.size in
    let all = p.within.within in
    gives-then 16 (parts.core + notes_bytes parts.notes) (size_in (g.F.Folder.files c.args.folder.now) name + 16) _ _ _ c.kept_in.result _ _ _ _ (omega (arith, fits, all)) (reads-then 0 16 16 _ _ _ _ (omega arith) s.reads p.reads) c.kept_in.ensures
    (λ files told k h. h (p.are files (s.reads.same_files ∙ told) (s.told files told)))
    (λ files told q h. h (p.are files (s.reads.same_files ∙ told) (s.told files told)))
