use Rattle.std.proofs.Common.{◌≡◌, ◌++◌, ◌∷◌, [], map, drop}
use Rattle.std.proofs.lemmas.Result.{err_from_is_err_and}
use Rattle.std.proofs.lemmas.List.{map_push}
use Rattle.xa_fields.specs.Reading.{many_at}
use Rattle.xa_fields.proofs.Loops.{goes_on, is_done}
use Rattle.keyed_tree.specs.View.{key_view}
use Rattle.record_parts.specs.Reading.{value_at}
use Rattle.record_parts.proofs.Loops.{fails_in}
use Rattle.record_parts.proofs.take_parts.take_values.Goals as goal

pub returns-in_err-value-clause-found : goal.returns-in_err-value-clause-found
returns-in_err-value-clause-found c =
    let p = err_from_is_err_and c.from_residual-in_err-value.result c.from_residual-in_err-value.ensures.1 in
    rw (p.1, p.2) (fails_in value_at c.in_err-value.field-0.0 (map key_view c.loop.values.items) c.args.count c.loop.counter (drop c.loop.at c.args.bytes.now) (many_at value_at c.args.count (drop c.args.at c.args.bytes.now)) c.loop-test.true c.in_err-value.ensures.found c.loop.invariant.read)

pub loop-preserved : goal.loop-preserved
loop-preserved c =
    let n = c.in_ok-value.value in
    let e : map key_view c.push.new.self.items ≡ map key_view c.loop.values.items ++ key_view n ∷ [] = rw c.in_ok-push.ensures.items (map_push _ c.loop.values.items n) in
    record {
      within = c.in_ok-value.ensures.next;
      read = rw e (goes_on value_at (map key_view c.loop.values.items) c.args.count c.loop.counter (drop c.loop.at c.args.bytes.now) (key_view n) (drop c.in_ok-value.next c.args.bytes.now) (many_at value_at c.args.count (drop c.args.at c.args.bytes.now)) c.loop-test.true c.in_ok-value.ensures.found c.loop.invariant.read);
    }

pub returns-clause-found : goal.returns-clause-found
returns-clause-found c = is_done value_at (map key_view c.loop.values.items) c.args.count c.loop.counter (drop c.loop.at c.args.bytes.now) (many_at value_at c.args.count (drop c.args.at c.args.bytes.now)) c.loop-test.false c.loop.invariant.read
