use Rattle.std.proofs.Common.{◌==◌, Some, None, drop, option_map, ap, sym, ◌∙◌}
use Rattle.std.specs.List.{position}
use Rattle.jsonml_lines.specs.View.{line_view}
use Rattle.jsonml_lines.proofs.Taking.{line_at-cut, line_at-none, printed_found}
use Rattle.jsonml_lines.proofs.read.take_line.Goals as goal

pub returns-in-Some-2-clause-line : goal.returns-in-Some-2-clause-line
returns-in-Some-2-clause-line c =
    let bytes = c.args.bytes.now in
    let left = drop c.args.at bytes in
    let rest = drop c.in-Some.next bytes in
    ap (λ o. option_map (λ l. (l, rest)) (option_map line_view o)) (sym c.in-Some-2.is) ∙ ap (option_map (λ l. (l, rest))) c.in_ok-line-in-Some.ensures.line ∙ sym (line_at-cut left c.in-Some.front.now rest (position (λ b. b == 10) left) c.in-Some.ensures.split)

pub returns-in-None-2-clause-line : goal.returns-in-None-2-clause-line
returns-in-None-2-clause-line c =
    let bytes = c.args.bytes.now in
    let left = drop c.args.at bytes in
    let rest = drop c.in-Some.next bytes in
    ap (λ o. option_map (λ l. (l, rest)) (option_map line_view o)) (sym c.in-None-2.is) ∙ ap (option_map (λ l. (l, rest))) c.in_ok-line-in-Some.ensures.line ∙ sym (line_at-cut left c.in-Some.front.now rest (position (λ b. b == 10) left) c.in-Some.ensures.split)

pub returns-in-None-clause-line : goal.returns-in-None-clause-line
returns-in-None-clause-line c = let left = drop c.args.at c.args.bytes.now in line_at-none left (position (λ b. b == 10) left) c.in-None.ensures.split

pub returns-in-Some-2-clause-found : goal.returns-in-Some-2-clause-found
returns-in-Some-2-clause-found c = printed_found (Some (c.in-Some-2.line, c.in-Some.next)) c.args.bytes.now c.args.at (returns-in-Some-2-clause-line c)

pub returns-in-None-2-clause-found : goal.returns-in-None-2-clause-found
returns-in-None-2-clause-found c = printed_found None c.args.bytes.now c.args.at (returns-in-None-2-clause-line c)

pub returns-in-None-clause-found : goal.returns-in-None-clause-found
returns-in-None-clause-found c = printed_found None c.args.bytes.now c.args.at (returns-in-None-clause-line c)
