use Rattle.xa_outside.specs.TakenLaws.{Puts-after, Puts-failed}
use Rattle.xarch_parts.specs.Counts.{counts_text}
use Rattle.xarch_parts.proofs.counts.put_lines.Goals as goal

pub returns-in_err-put_nodes-clause-bytes : goal.returns-in_err-put_nodes-clause-bytes
unfolding counts_text
returns-in_err-put_nodes-clause-bytes g c = Puts-failed _ _ c.from_residual.result _ _ c.from_residual.ensures.0 c.in_err-put_nodes.ensures.bytes

pub returns-clause-bytes : goal.returns-clause-bytes
unfolding counts_text
returns-clause-bytes g c = Puts-after _ _ _ c.put_sizes.result _ _ c.in_ok-put_nodes.ensures.bytes c.put_sizes.ensures.bytes
