use Rattle.std.proofs.Common.{subst, rules}
use Rattle.xa_outside.specs.Taken.{Takes}
use Rattle.xa_outside.specs.TakenLaws.{Takes-nil, Takes-trans, Puts-stopped}
use Rattle.xa_outside.proofs.Fronts.{take-rest}
use Rattle.xa_outside.proofs.sink.put_rest.Goals as goal

pub loop-done-init : goal.loop-done-init
loop-done-init g c = record { within = search rules; bytes = Takes-nil _; later = search rules }

pub loop-done-preserved : goal.loop-done-preserved
loop-done-preserved g c =
    let old = c.loop-done.invariant in
    record {
      within = search rules;
      bytes = subst (Takes _ _) (take-rest c.loop-done.done c.in_ok-done.field-0 c.args.piece.now old.within) (Takes-trans _ _ _ _ _ old.bytes c.in_ok-done.ensures.bytes);
      later = search rules;
    }

pub returns-in_err-done-clause-bytes : goal.returns-in_err-done-clause-bytes
returns-in_err-done-clause-bytes g c = Puts-stopped _ _ _ c.from_residual.result c.args.piece.now c.loop-done.done (search rules) c.loop-done.invariant.bytes c.in_err-done.ensures.bytes
