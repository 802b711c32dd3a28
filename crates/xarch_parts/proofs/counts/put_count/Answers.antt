use Rattle.std.proofs.Common.{List, ℕ, ◌∙◌, subst}
use Rattle.xa_outside.specs.Taken.{Takes, TakesPrefix}
use Rattle.xa_outside.specs.TakenLaws.{Takes-trans, TakesPrefix-after, TakesPrefix-more, Puts-after, Puts-failed}
use Rattle.xarch_parts.proofs.counts.put_count.Goals as goal

pub returns-clause-bytes : goal.returns-clause-bytes
returns-clause-bytes g c =
    let number = subst (λ (l : List ℕ). Takes (g.K.Sink.taken c.put_all.new.sink) (g.K.Sink.taken c.put_all-2.new.sink) l) (c.as_bytes.ensures.value ∙ c.format.ensures.text) c.in_ok-put_all-2.ensures.bytes in
    Puts-after _ _ _ _ _ _ (Takes-trans _ _ _ _ _ c.in_ok-put_all.ensures.bytes number) c.put_all-3.ensures.bytes

pub returns-in_err-put_all-clause-bytes : goal.returns-in_err-put_all-clause-bytes
returns-in_err-put_all-clause-bytes g c = Puts-failed _ _ c.from_residual.result _ _ c.from_residual.ensures.0 (TakesPrefix-more _ _ _ _ c.in_err-put_all.ensures.bytes)

pub returns-in_err-put_all-2-clause-bytes : goal.returns-in_err-put_all-2-clause-bytes
returns-in_err-put_all-2-clause-bytes g c =
    let number = subst (λ (l : List ℕ). TakesPrefix (g.K.Sink.taken c.put_all.new.sink) (g.K.Sink.taken c.put_all-2.new.sink) l) (c.as_bytes.ensures.value ∙ c.format.ensures.text) c.in_err-put_all-2.ensures.bytes in
    Puts-failed _ _ c.from_residual-in_err-put_all-2.result _ _ c.from_residual-in_err-put_all-2.ensures.0 (TakesPrefix-after _ _ _ _ _ c.in_ok-put_all.ensures.bytes number)
