use Rattle.std.proofs.Common.{ap₂, nat_eq, ◌∙◌}
use Rattle.key_spec.specs.ContextView.{context_path, context_rules}
use Rattle.key_spec.proofs.StretchLaws.{frontier-counts}
use Rattle.key_spec.proofs.context.Context.is_frontier.Goals as goal

pub returns : goal.returns
returns c = ap₂ nat_eq c.stretch-start.ensures.start c.stretch-start.ensures.end ∙ frontier-counts (context_path c.args.self) (context_rules c.args.self)
