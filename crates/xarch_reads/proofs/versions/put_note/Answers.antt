use Rattle.std.proofs.Common.{sym, ◌∙◌, subst}
use Rattle.xa_outside.specs.TakenLaws.{Takes-nil}
use Rattle.xa_outside.specs.Taken.{Takes}
use Rattle.xarch_meanings.specs.Versions.{note_text}
use Rattle.xarch_reads.proofs.ListLemmas.{none-shorter}
use Rattle.xarch_reads.proofs.versions.put_note.Goals as goal

pub returns-in-empty-clause-bytes : goal.returns-in-empty-clause-bytes
returns-in-empty-clause-bytes g c =
    subst (λ n. Takes (g.K.Sink.taken c.args.sink.now) (g.K.Sink.taken c.args.sink.now) (note_text n)) (sym (none-shorter c.as_bytes.result.now c.in-empty.len_below) ∙ c.as_bytes.ensures.value) (Takes-nil (g.K.Sink.taken c.args.sink.now))
