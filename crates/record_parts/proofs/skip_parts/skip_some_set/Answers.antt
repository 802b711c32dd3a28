use Rattle.std.proofs.Common.{◌<◌, drop, sym, ◌∙◌, arith}
use Rattle.xa_fields.proofs.Fields.{IsBytes-drop}
use Rattle.record_parts.proofs.SomeSets.{no_set, some_set}
use Rattle.record_parts.proofs.skip_parts.skip_some_set.Goals as goal

pub returns-then-count-eq0-clause-found : goal.returns-then-count-eq0-clause-found
returns-then-count-eq0-clause-found c = sym (no_set (drop c.args.at c.args.bytes.now) (drop c.in_ok-count.at c.args.bytes.now) c.in_ok-count.count c.if-count-eq0.true c.in_ok-count.ensures.found)

pub returns-clause-found : goal.returns-clause-found
returns-clause-found c =
    let some : 0 < c.in_ok-count.count = omega arith in
    c.skip_pairs.ensures.found ∙ some_set (drop c.args.at c.args.bytes.now) (drop c.in_ok-count.at c.args.bytes.now) c.in_ok-count.count (IsBytes-drop c.in_ok-count.at c.args.bytes.now (λ i. omega (arith, c.type_inv.bytes i))) some c.in_ok-count.ensures.found
