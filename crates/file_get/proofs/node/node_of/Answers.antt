use Rattle.std.proofs.Common.{refl, sym, ap, arith}
use Rattle.std.specs.Option.{option_map}
use Rattle.file_get.specs.Nodes.{says_of}
use Rattle.file_get.proofs.StoredNodes.{count-is, no-count, no-interval, not-whole, no-pairs, node-says}
use Rattle.file_get.proofs.node.node_of.Goals.{then-count-lt1-via-then-count-lt1, then-count-lt1-via-else-count-lt1+then-count-size}
use Rattle.file_get.proofs.node.node_of.Goals as goal

pub returns-in_default-clause-exact : goal.returns-in_default-clause-exact
returns-in_default-clause-exact c = sym (ap (option_map (says_of c.args.version)) (no-count c.args.node.now (c.in_default.ensures.none.0 refl)))

pub returns-then-count-lt1-clause-exact : goal.returns-then-count-lt1-clause-exact
returns-then-count-lt1-clause-exact c =
    let bytes = c.args.node.now in
    let n = c.in-Some.count in
    let count = count-is bytes n _ c.in-Some.ensures.found c.in-Some.ensures.next in
    elim c.then-count-lt1.branch [
      | then-count-lt1-via-then-count-lt1 w ↦ sym (ap (option_map (says_of c.args.version)) (no-interval bytes n count w.if-count-lt1.true))
      | then-count-lt1-via-else-count-lt1+then-count-size w ↦ sym (ap (option_map (says_of c.args.version)) (not-whole bytes n count (λ e. omega (arith, e, w.if-count-size.true))))
    ]

pub returns-in_default-pairs_contain-clause-exact : goal.returns-in_default-pairs_contain-clause-exact
returns-in_default-pairs_contain-clause-exact c =
    let bytes = c.args.node.now in
    let n = c.in-Some.count in
    let count = count-is bytes n _ c.in-Some.ensures.found c.in-Some.ensures.next in
    sym (ap (option_map (says_of c.args.version)) (no-pairs bytes n c.args.version (omega (arith, c.if-count-size.false)) count c.in_default-pairs_contain.ensures))

pub returns-clause-exact : goal.returns-clause-exact
returns-clause-exact c =
    let bytes = c.args.node.now in
    let n = c.in-Some.count in
    let count = count-is bytes n _ c.in-Some.ensures.found c.in-Some.ensures.next in
    let last = c.in-Some-take_u64 in
    sym (node-says bytes _ n c.args.version last.left c.in-Some-pairs_contain.has (omega (arith, c.if-count-lt1.false)) (omega (arith, c.if-count-size.false)) count c.in-Some-pairs_contain.ensures last.ensures.found)
