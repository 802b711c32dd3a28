use Rattle.std.proofs.Common.{◌≡◌, List, ℕ, Some, refl, ◌∙◌, subst}
use Rattle.std.proofs.lemmas.Result.{IfOk-weaker}
use Rattle.xarch_parts.specs.EndLaws.{IsOfFolder-inside}
use Rattle.xarch_words.specs.Refusal.{folder_fault, memory}
use Rattle.xarch_parts.specs.AllowedLaws.{IfErr-more}
use Rattle.xarch_writes.specs.Rekeyed.{IsNoArchive, IsSoundOf}
use Rattle.xarch_parts.proofs.Pushing.{of-folder}
use Rattle.xarch_writes.proofs.RekeyEnds.{core-bytes}
use Rattle.xarch_writes.proofs.rekey.read_records.Goals as goal
use Rattle.xarch_parts.proofs.NoteLaws.{inside-memory}

pub returns-in-Ok-clause-sound : goal.returns-in-Ok-clause-sound
returns-in-Ok-clause-sound g c = λ files bytes told core.
    let same : c.deref.result.now ≡ bytes = c.deref.ensures.value ∙ core-bytes files c.args.archive.now c.args.core bytes c.in-Ok.bytes.items core (c.in-Ok.ensures.bytes files told) in
    IfOk-weaker c.archive_from.result _ _ (λ a h vs is. subst (λ (b : List ℕ). IsSoundOf vs b) same (h vs is)) c.archive_from.ensures.sound

pub returns-in-Ok-clause-damage : goal.returns-in-Ok-clause-damage
returns-in-Ok-clause-damage g c = λ files bytes q told core.
    let same : c.deref.result.now ≡ bytes = c.deref.ensures.value ∙ core-bytes files c.args.archive.now c.args.core bytes c.in-Ok.bytes.items core (c.in-Ok.ensures.bytes files told) in
    IfErr-more c.archive_from.result _ _ (λ f h e. subst (λ (b : List ℕ). IsNoArchive c.args.archive.now b q) same (h e)) (c.archive_from.ensures.damage q)

pub returns-in-Err-Folder-clause-reads : goal.returns-in-Err-Folder-clause-reads
returns-in-Err-Folder-clause-reads g c =
    let e = c.in-Err-Folder.ensures in
    let cause = rw c.in-Err-Folder.field-0-is at e.cause in
    record { same_files = e.files; same_draft = e.draft; pulls = e.pulls; later = e.later; cause = of-folder _ _ folder_fault refl cause }

pub returns-in-Err-Memory-clause-reads : goal.returns-in-Err-Memory-clause-reads
returns-in-Err-Memory-clause-reads g c =
    let e = c.in-Err-Memory.ensures in
    record { same_files = e.files; same_draft = e.draft; pulls = e.pulls; later = e.later; cause = IsOfFolder-inside _ _ (Some memory) inside-memory }
