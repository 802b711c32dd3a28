use Rattle.std.proofs.Common.{◌∙◌}
use Rattle.xarch_run.proofs.LineLemmas.{shows-whole}
use Rattle.xarch_run.proofs.line.Line.bytes.Goals as goal

pub returns : goal.returns
returns c = λ bytes s short. c.deref.ensures.value ∙ shows-whole c.args.self.now bytes s short
