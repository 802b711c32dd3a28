use Rattle.std.proofs.Common.{◌≡◌, option_map, IfOk, subst, rules}
use Rattle.jsonml_lines.specs.View.{line_view}
use Rattle.jsonml_lines.proofs.Taking.{line_of-read, line_of-none}
use Rattle.jsonml_lines.proofs.read.line_by_value.Goals as goal

pub returns-in-Ok-clause-line : goal.returns-in-Ok-clause-line
returns-in-Ok-clause-line c = subst (λ l. IfOk c.line_in.result (λ o. option_map line_view o ≡ l)) (line_of-read c.args.front.now _ c.in-Ok.ensures.ok.0 c.in-Ok.ensures.ok.1) c.line_in.ensures.line

pub returns-else-is_memory-clause-line : goal.returns-else-is_memory-clause-line
returns-else-is_memory-clause-line c = line_of-none c.args.front.now (c.in-Err.ensures.err (search rules))
