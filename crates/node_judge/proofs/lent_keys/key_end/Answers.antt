use Rattle.std.proofs.Common.{ap, drop, arith}
use Rattle.record_parts.specs.Behind.{behind}
use Rattle.node_judge.proofs.Values.{scalar-ends, forward}
use Rattle.node_judge.proofs.lent_keys.key_end.Goals as goal

pub returns-in-Some-eq0-default-clause-found : goal.returns-in-Some-eq0-default-clause-found
returns-in-Some-eq0-default-clause-found c =
    let b = c.args.bytes.now in
    let s = c.in-Some-eq0-default in
    scalar-ends (drop c.args.at b) s.field-0-0 (drop s.next b) (drop c.in-Some.end b) _ s.field-0-0-test s.ensures.found c.in-Some.ensures.found

pub returns-in-Some-eq0-default-clause-next : goal.returns-in-Some-eq0-default-clause-next
returns-in-Some-eq0-default-clause-next c =
    let within = c.in-Some.ensures.next in
    (forward c.args.bytes.now c.args.at (λ i. omega (arith, c.type_inv.bytes i)) c.in-Some.end within (returns-in-Some-eq0-default-clause-found c), within)

pub returns-clause-next : goal.returns-clause-next
returns-clause-next c =
    let within = c.in-Ok.ensures.next in
    (forward c.args.bytes.now c.args.at (λ i. omega (arith, c.type_inv.bytes i)) c.in-Ok.end within (ap behind c.in-Ok.ensures.found), within)
