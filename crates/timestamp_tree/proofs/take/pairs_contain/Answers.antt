use Rattle.std.proofs.Common.{drop, sym}
use Rattle.std.specs.Option.{option_map}
use Rattle.version_set.specs.Members.{members, has}
use Rattle.xa_fields.specs.Reading.{chain_at}
use Rattle.timestamp_tree.specs.Reading.{pair_at, next_pair}
use Rattle.timestamp_tree.proofs.Contained.{contained_on, contained_breaks, contained_stops, contained_done}
use Rattle.timestamp_tree.proofs.take.pairs_contain.Goals as goal

pub returns-in_default : goal.returns-in_default
returns-in_default c =
    contained_breaks pair_at (next_pair c.args.most) c.loop.low c.loop.found c.args.number c.args.count c.loop.counter (drop c.loop.at c.args.bytes.now) (option_map (λ p. has (members p.0) c.args.number) (chain_at pair_at (next_pair c.args.most) 1 c.args.count (drop c.args.at c.args.bytes.now))) c.loop-test.true (sym c.in_default.ensures.found) c.loop.invariant

pub returns-in_default-low_behind : goal.returns-in_default-low_behind
returns-in_default-low_behind c =
    contained_stops pair_at (next_pair c.args.most) c.loop.low c.loop.found c.args.number c.args.count c.loop.counter (drop c.loop.at c.args.bytes.now) c.in-Some.pair (drop c.in-Some.next c.args.bytes.now) (option_map (λ p. has (members p.0) c.args.number) (chain_at pair_at (next_pair c.args.most) 1 c.args.count (drop c.args.at c.args.bytes.now))) c.loop-test.true (sym c.in-Some.ensures.found) (sym c.in_default-low_behind.ensures) c.loop.invariant

pub loop-preserved : goal.loop-preserved
loop-preserved c =
    rw c.found_in-found.ensures (contained_on pair_at (next_pair c.args.most) c.loop.low c.in-Some-low_behind.behind c.loop.found c.args.number c.args.count c.loop.counter (drop c.loop.at c.args.bytes.now) c.in-Some.pair (drop c.in-Some.next c.args.bytes.now) (option_map (λ p. has (members p.0) c.args.number) (chain_at pair_at (next_pair c.args.most) 1 c.args.count (drop c.args.at c.args.bytes.now))) c.loop-test.true (sym c.in-Some.ensures.found) (sym c.in-Some-low_behind.ensures) c.loop.invariant)

pub returns : goal.returns
returns c =
    contained_done pair_at (next_pair c.args.most) c.loop.low c.loop.found c.args.number c.args.count c.loop.counter (drop c.loop.at c.args.bytes.now) (option_map (λ p. has (members p.0) c.args.number) (chain_at pair_at (next_pair c.args.most) 1 c.args.count (drop c.args.at c.args.bytes.now))) c.loop-test.false c.loop.invariant
