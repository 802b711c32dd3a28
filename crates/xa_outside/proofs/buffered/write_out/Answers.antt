use Rattle.std.proofs.Common.{subst, rules}
use Rattle.xa_outside.specs.Taken.{Takes}
use Rattle.xa_outside.specs.TakenLaws.{Takes-nil, Takes-trans, Takes-kept}
use Rattle.xa_outside.proofs.Fronts.{take-rest}
use Rattle.xa_outside.proofs.buffered.write_out.Goals as goal

pub loop-written-init : goal.loop-written-init
loop-written-init g c = record { within = search rules; bytes = Takes-nil _; later = search rules }

pub loop-written-preserved : goal.loop-written-preserved
loop-written-preserved g c =
    let old = c.loop-written.invariant in
    record {
      within = search rules;
      bytes = subst (Takes _ _) (take-rest c.loop-written.written c.in-Ok.count c.args.bytes.now old.within) (Takes-trans _ _ _ _ _ old.bytes c.in-Ok.ensures.bytes);
      later = search rules;
    }

pub returns-in-Err-clause-bytes : goal.returns-in-Err-clause-bytes
returns-in-Err-clause-bytes g c = Takes-kept _ _ _ _ c.loop-written.invariant.bytes c.in-Err.ensures.bytes
