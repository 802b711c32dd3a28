use Rattle.std.proofs.Common.{◌≡◌, Some, None, map, subst}
use Rattle.std.specs.Prelude.{string_bytes}
use Rattle.version_notes.specs.Faults.{IfDamage}
use Rattle.version_notes.specs.Reader.{PlainReader, at_first, file_of}
use Rattle.version_notes.specs.Reading.{notes_from}
use Rattle.version_notes.specs.declared.fault.NotesFault.{NotesFault}
use Rattle.xarch_words.specs.Refusal.{memory}
use Rattle.xarch_words.specs.View.{fault_view}
use Rattle.xarch_parts.specs.Ends.{IsInside, IsOfFolder}
use Rattle.xarch_parts.specs.FolderLaws.{reads-none}
use Rattle.xarch_parts.specs.Noted.{notes_bytes}
use Rattle.xarch_texts.proofs.GivingLemmas.{gives-fault, gives-value}
use Rattle.xarch_texts.proofs.NotesRead.{comes_of, notes_pulled}
use Rattle.xarch_texts.proofs.export.notes_of.Goals as goal

pub returns-in-Ok-read_notes : goal.returns-in-Ok-read_notes
unfolding IsOfFolder IsInside
returns-in-Ok-read_notes g c =
    let name = c.args.name.now in
    let parts = c.args.parts.now in
    let first = c.in-Ok.ensures in
    let e = c.in-Ok-read_notes.ensures in
    gives-value (notes_bytes parts.notes) _ _ _ _ _ (record { same_files = e.files; same_draft = e.draft; pulls = notes_pulled name parts c.args.versions _ _ _ first e.pulls; later = e.later; cause = tt })
    (λ files told. subst (λ (r : PlainReader). notes_from r (file_of files r.name) ≡ Some (map string_bytes c.in-Ok-read_notes.notes.items)) first (e.told files told))

pub returns-in-Err-read_notes : goal.returns-in-Err-read_notes
returns-in-Err-read_notes g c =
    let name = c.args.name.now in
    let parts = c.args.parts.now in
    let first = c.in-Ok.ensures in
    let fault = c.in-Err-read_notes.fault in
    let e = c.in-Err-read_notes.ensures in
    let of = comes_of name fault (fault_view c.notes_fault.result) c.notes_fault.ensures in
    gives-fault (notes_bytes parts.notes) _ _ _ _ _ (record { same_files = e.files; same_draft = e.draft; pulls = notes_pulled name parts c.args.versions _ _ _ first e.pulls; later = e.later; cause = of.caused _ _ e.cause })
    (λ files q told is.
    let r = of.refused_as q is in (
      r.0,
      subst (λ (x : NotesFault). IfDamage x (notes_from (at_first name parts c.args.versions) (file_of files name) ≡ None)) r.1
          (subst (λ (x : PlainReader). IfDamage fault (notes_from x (file_of files x.name) ≡ None)) first (e.told files told)),
    ))

pub returns-in-Err : goal.returns-in-Err
unfolding IsInside
returns-in-Err g c = gives-fault (notes_bytes c.args.parts.now.notes) _ _ _ _ _ (reads-none _ c.args.folder.now (Some memory) (g.met.F.Folder.metered c.args.folder.now) tt) (λ files q told is. absurd cc)
