use Rattle.xa_outside.specs.TakenLaws.{Takes-trans, TakesPrefix-after, TakesPrefix-more, Puts-after, Puts-failed}
use Rattle.xarch_parts.specs.Counts.{nodes_text}
use Rattle.xarch_parts.proofs.counts.put_nodes.Goals as goal

pub returns-in_err-put_count-clause-bytes : goal.returns-in_err-put_count-clause-bytes
unfolding nodes_text
returns-in_err-put_count-clause-bytes g c = Puts-failed _ _ c.from_residual.result _ _ c.from_residual.ensures.0 (TakesPrefix-more _ _ _ _ (TakesPrefix-more _ _ _ _ c.in_err-put_count.ensures.bytes))

pub returns-in_err-put_count-2-clause-bytes : goal.returns-in_err-put_count-2-clause-bytes
unfolding nodes_text
returns-in_err-put_count-2-clause-bytes g c =
    Puts-failed _ _ c.from_residual-in_err-put_count-2.result _ _ c.from_residual-in_err-put_count-2.ensures.0
    (TakesPrefix-more _ _ _ _ (TakesPrefix-after _ _ _ _ _ c.in_ok-put_count.ensures.bytes c.in_err-put_count-2.ensures.bytes))

pub returns-in_err-put_count-3-clause-bytes : goal.returns-in_err-put_count-3-clause-bytes
unfolding nodes_text
returns-in_err-put_count-3-clause-bytes g c =
    Puts-failed _ _ c.from_residual-in_err-put_count-3.result _ _ c.from_residual-in_err-put_count-3.ensures.0
    (TakesPrefix-after _ _ _ _ _ (Takes-trans _ _ _ _ _ c.in_ok-put_count.ensures.bytes c.in_ok-put_count-2.ensures.bytes) c.in_err-put_count-3.ensures.bytes)

pub returns-clause-bytes : goal.returns-clause-bytes
unfolding nodes_text
returns-clause-bytes g c =
    Puts-after _ _ _ c.put_count-4.result _ _ (Takes-trans _ _ _ _ _ (Takes-trans _ _ _ _ _ c.in_ok-put_count.ensures.bytes c.in_ok-put_count-2.ensures.bytes) c.in_ok-put_count-3.ensures.bytes) c.put_count-4.ensures.bytes
