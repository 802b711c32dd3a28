use Rattle.std.proofs.Common.{◌≡◌, ◌∙◌, nat_lt, rules}
use Rattle.xarch_words.specs.declared.limits.TheConstants.{LINE}
use Rattle.xarch_run.proofs.LineLemmas.{shows-long}
use Rattle.xarch_run.proofs.line.Line.is_too_long.Goals as goal

pub returns : goal.returns
returns c = λ bytes s. let kept : nat_lt LINE c.len.result ≡ nat_lt LINE c.args.self.now.bytes.len = search rules in kept ∙ shows-long c.args.self.now bytes s
