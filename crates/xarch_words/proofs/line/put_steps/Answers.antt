use Rattle.std.proofs.Common.{rules}
use Rattle.xa_outside.specs.TakenLaws.{Takes-nil, Takes-piece, Puts-piece}
use Rattle.xarch_words.specs.Lines.{step_text}
use Rattle.xarch_words.proofs.line.put_steps.Goals as goal

pub loop-step-init : goal.loop-step-init
loop-step-init g c = record { bytes = Takes-nil _; later = search rules }

pub loop-step-preserved : goal.loop-step-preserved
loop-step-preserved g c =
    record {
      bytes = Takes-piece step_text _ _ _ c.args.steps.now c.loop-step.step-index 0 (search rules) c.loop-step.invariant.bytes c.in_ok-put_number.ensures.bytes;
      later = search rules;
    }

pub returns-in_err-put_number-clause-bytes : goal.returns-in_err-put_number-clause-bytes
returns-in_err-put_number-clause-bytes g c =
    Puts-piece step_text _ _ _ c.from_residual.result c.args.steps.now c.loop-step.step-index 0 (search rules) (search rules) c.loop-step.invariant.bytes c.in_err-put_number.ensures.bytes
