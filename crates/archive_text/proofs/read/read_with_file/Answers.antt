use Rattle.std.proofs.Common.{refl, sym, ◌∙◌, subst, string_bytes}
use Rattle.std.proofs.lemmas.List.{length-map}
use Rattle.archive_tree.specs.Stands.{ArchiveOf}
use Rattle.archive_text.proofs.ReadWhole.{if_ok, finds_ok, text_bad}
use Rattle.archive_text.proofs.read.read_with_file.Goals as goal

pub returns-clause-bad : goal.returns-clause-bad
returns-clause-bad c =
    text_bad c.args.bytes.now c.read_kept.result _ (λ held file full e. c.read_kept.ensures.found held e.archive file e.is full (c.texts_can_be_read.ensures held file c.args.bytes.now full e))

pub returns-clause-only : goal.returns-clause-only
returns-clause-only c = λ held file full e.
    finds_ok _ _ c.read_kept.result (λ k h. (h.0, subst (ArchiveOf held.versions) (sym h.1) e.is, h.2)) (c.read_kept.ensures.found held e.archive file e.is full (c.texts_can_be_read.ensures held file c.args.bytes.now full e))

pub returns-clause-file : goal.returns-clause-file
returns-clause-file c = if_ok _ _ c.read_kept.result (λ r h vs is. record { core = r.1.items; is = h.sound vs is; as_many = h.kept.as_many ∙ sym is.count; each = h.kept.each; spelled = refl }) c.read_kept.ensures.kept

pub returns-clause-few : goal.returns-clause-few
returns-clause-few c = if_ok _ _ c.read_kept.result (λ r h. h.kept.few) c.read_kept.ensures.kept

pub returns-clause-keyed : goal.returns-clause-keyed
returns-clause-keyed c = if_ok _ _ c.read_kept.result (λ r h. h.kept.keyed) c.read_kept.ensures.kept

pub returns-clause-notes : goal.returns-clause-notes
returns-clause-notes c = if_ok _ _ c.read_kept.result (λ r h. (h.kept.each, sym (length-map r.0.notes.items string_bytes) ∙ h.kept.as_many)) c.read_kept.ensures.kept
