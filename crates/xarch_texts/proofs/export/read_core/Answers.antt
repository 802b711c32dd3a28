use Rattle.std.proofs.Common.{List, ℕ, ◌∙◌, subst}
use Rattle.std.proofs.lemmas.Result.{IfOk-weaker}
use Rattle.key_spec.specs.View.{spec_view}
use Rattle.archive_file.specs.Sound.{Sound}
use Rattle.archive_tree.specs.ArchiveView.{archive_view}
use Rattle.xarch_parts.specs.AllowedLaws.{IfErr-more}
use Rattle.xarch_parts.specs.EndLaws.{IsOfFolder-inside}
use Rattle.xarch_parts.specs.Ends.{IsInside, IsOfFolder}
use Rattle.xarch_texts.specs.Kept.{IsReadOf}
use Rattle.xarch_texts.proofs.GivingLemmas.{gives-fault}
use Rattle.xarch_texts.proofs.export.read_core.Goals as goal

pub returns-in-Ok : goal.returns-in-Ok
returns-in-Ok g c =
    let e = c.in-Ok.ensures in
    let d = c.archive_from.ensures in
    record {
      reads = record { same_files = e.files; same_draft = e.draft; pulls = e.pulls; later = e.later; cause = IsOfFolder-inside _ _ _ d.cause };
      given = λ files told.
          IfOk-weaker c.archive_from.result _ _ (λ r is. subst (λ (b : List ℕ). IsReadOf b (spec_view r.0) (archive_view r.1)) (c.deref.ensures.value ∙ e.bytes files told) is) d.read;
      refuses = λ files q told.
          IfErr-more c.archive_from.result _ _ (λ f h is. (let w = h is in (w.0, subst (λ (b : List ℕ). ¬ Sound b) (c.deref.ensures.value ∙ e.bytes files told) w.1))) (d.damage q);
    }

pub returns-in-Err-Folder : goal.returns-in-Err-Folder
unfolding IsOfFolder
returns-in-Err-Folder g c =
    let e = c.in-Err-Folder.ensures in
    gives-fault _ _ _ _ _ _ (record { same_files = e.files; same_draft = e.draft; pulls = e.pulls; later = e.later; cause = rw c.in-Err-Folder.field-0-is at e.cause }) (λ files q told is. absurd cc)

pub returns-in-Err-Memory : goal.returns-in-Err-Memory
unfolding IsOfFolder IsInside
returns-in-Err-Memory g c =
    let e = c.in-Err-Memory.ensures in
    gives-fault _ _ _ _ _ _ (record { same_files = e.files; same_draft = e.draft; pulls = e.pulls; later = e.later; cause = tt }) (λ files q told is. absurd cc)
