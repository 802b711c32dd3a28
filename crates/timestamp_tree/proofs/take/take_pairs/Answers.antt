use Rattle.std.proofs.Common.{◌≡◌, ℕ, ◌+◌, ◌-◌, List, drop, sym, subst, rules}
use Rattle.xa_fields.proofs.Loops.{with_front}
use Rattle.version_set.specs.View.{pairs_of}
use Rattle.version_set.specs.Walk.{end_of}
use Rattle.xa_fields.specs.Reading.{chain_at}
use Rattle.xa_fields.proofs.Chains.{chain_on, chain_breaks, chain_stops, chain_done}
use Rattle.timestamp_tree.specs.Reading.{pair_at, next_pair}
use Rattle.timestamp_tree.proofs.take.take_pairs.Goals as goal

pub returns-in_default-clause-found : goal.returns-in_default-clause-found
returns-in_default-clause-found c = sym (chain_breaks pair_at (next_pair c.args.most) (end_of (pairs_of c.loop.set)) (pairs_of c.loop.set) c.args.count c.loop.counter (drop c.loop.at c.args.bytes.now) (chain_at pair_at (next_pair c.args.most) 1 c.args.count (drop c.args.at c.args.bytes.now)) c.loop-test.true (sym c.in_default.ensures.found) c.loop.invariant.read)

pub returns-then-not-branch-clause-found : goal.returns-then-not-branch-clause-found
returns-then-not-branch-clause-found c =
    sym (chain_stops pair_at (next_pair c.args.most) (end_of (pairs_of c.loop.set)) (pairs_of c.loop.set) c.args.count c.loop.counter (drop c.loop.at c.args.bytes.now) c.in-Some.pair (drop c.in-Some.next c.args.bytes.now) (chain_at pair_at (next_pair c.args.most) 1 c.args.count (drop c.args.at c.args.bytes.now)) c.loop-test.true (sym c.in-Some.ensures.found) (search rules) c.loop.invariant.read)

pub loop-preserved : goal.loop-preserved
loop-preserved c =
    record {
      within = c.in-Some.ensures.next;
      read = subst (λ (ps : List (ℕ × ℕ)). with_front ps (chain_at pair_at (next_pair c.args.most) (end_of (pairs_of c.put_pair.new.set)) (c.args.count - (c.loop.counter + 1)) (drop c.in-Some.next c.args.bytes.now)) ≡ chain_at pair_at (next_pair c.args.most) 1 c.args.count (drop c.args.at c.args.bytes.now)) (sym (c.in_ok-put_pair.ensures.pairs (search rules))) (chain_on pair_at (next_pair c.args.most) (end_of (pairs_of c.loop.set)) (end_of (pairs_of c.put_pair.new.set)) (pairs_of c.loop.set) c.args.count c.loop.counter (drop c.loop.at c.args.bytes.now) c.in-Some.pair (drop c.in-Some.next c.args.bytes.now) (chain_at pair_at (next_pair c.args.most) 1 c.args.count (drop c.args.at c.args.bytes.now)) c.loop-test.true (sym c.in-Some.ensures.found) (search rules) c.loop.invariant.read);
    }

pub returns-clause-found : goal.returns-clause-found
returns-clause-found c = sym (chain_done pair_at (next_pair c.args.most) (end_of (pairs_of c.loop.set)) (pairs_of c.loop.set) c.args.count c.loop.counter (drop c.loop.at c.args.bytes.now) (chain_at pair_at (next_pair c.args.most) 1 c.args.count (drop c.args.at c.args.bytes.now)) c.loop-test.false c.loop.invariant.read)
