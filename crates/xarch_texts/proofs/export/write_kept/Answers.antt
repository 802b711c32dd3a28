use Rattle.std.proofs.Common.{◌≡◌, inr, map, Some, refl, subst}
use Rattle.std.specs.Prelude.{string_bytes}
use Rattle.key_spec.specs.View.{spec_view}
use Rattle.archive_text.specs.Export.{export_text}
use Rattle.archive_tree.specs.ArchiveView.{archive_view}
use Rattle.xa_outside.specs.Taken.{Takes, TakesPrefix}
use Rattle.xarch_words.specs.Refusal.{memory, out_fault}
use Rattle.xarch_parts.specs.AllowedLaws.{MayEnd-did, MayEnd-outside, tells_same}
use Rattle.xarch_parts.specs.EndLaws.{IsOfCommand-inside}
use Rattle.xarch_parts.specs.Ends.{IsInside, IsOfOutput}
use Rattle.xarch_parts.specs.FolderLaws.{caused-output}
use Rattle.xarch_texts.specs.Kept.{exported}
use Rattle.xarch_texts.proofs.export.write_kept.Goals as goal

pub returns-in-Ok-clause-caused : goal.returns-in-Ok-clause-caused
unfolding IsOfOutput
returns-in-Ok-clause-caused g c = λ before now later. caused-output before now _ _ _ later c.write_text.ensures.later tt

pub returns-in-Ok-clause-may : goal.returns-in-Ok-clause-may
returns-in-Ok-clause-may g c = λ files.
    let k = c.args.kept.now in
    let taken = g.O.Sink.taken in
    MayEnd-did (λ r. r ≡ exported files k) (record { files = files; output = export_text (spec_view k.spec) (archive_view k.archive) (map string_bytes k.notes.items) }) _ _ _ refl (tells_same _ files refl)
    (subst (λ l. Takes (taken c.args.out.now) (taken c.write_text.new.sink) (export_text (spec_view k.spec) (archive_view k.archive) (map string_bytes l))) c.deref.ensures.value c.in-Ok.ensures.bytes)

pub returns-in-Err-Sink-clause-caused : goal.returns-in-Err-Sink-clause-caused
unfolding IsOfOutput
returns-in-Err-Sink-clause-caused g c = λ before now later. caused-output before now _ _ _ later c.write_text.ensures.later (rw c.in-Err-Sink.field-0-is at c.in-Err-Sink.ensures.cause)

pub returns-in-Err-Sink-clause-may : goal.returns-in-Err-Sink-clause-may
returns-in-Err-Sink-clause-may g c = λ files.
    let k = c.args.kept.now in
    let taken = g.O.Sink.taken in
    MayEnd-outside (λ r. r ≡ exported files k) out_fault _ _ _ (λ q is. absurd cc) (inr (record {
      outcome = exported files k;
      may = refl;
      output = subst (λ l. TakesPrefix (taken c.args.out.now) (taken c.write_text.new.sink) (export_text (spec_view k.spec) (archive_view k.archive) (map string_bytes l))) c.deref.ensures.value c.in-Err-Sink.ensures.bytes;
    }))

pub returns-in-Err-Memory-clause-caused : goal.returns-in-Err-Memory-clause-caused
unfolding IsInside
returns-in-Err-Memory-clause-caused g c = λ before now later. record { folder_later = later; out_later = c.write_text.ensures.later; cause = IsOfCommand-inside before now _ _ (Some memory) tt }

pub returns-in-Err-Memory-clause-may : goal.returns-in-Err-Memory-clause-may
returns-in-Err-Memory-clause-may g c = λ files.
    let k = c.args.kept.now in
    let taken = g.O.Sink.taken in
    MayEnd-outside (λ r. r ≡ exported files k) memory _ _ _ (λ q is. absurd cc) (inr (record {
      outcome = exported files k;
      may = refl;
      output = subst (λ l. TakesPrefix (taken c.args.out.now) (taken c.write_text.new.sink) (export_text (spec_view k.spec) (archive_view k.archive) (map string_bytes l))) c.deref.ensures.value c.in-Err-Memory.ensures.bytes;
    }))
