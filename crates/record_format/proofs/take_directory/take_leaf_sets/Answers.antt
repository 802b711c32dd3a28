use Rattle.std.proofs.Common.{map, drop}
use Rattle.std.proofs.lemmas.Result.{err_from_is_err_and}
use Rattle.version_set.specs.View.{pairs_of}
use Rattle.xa_fields.specs.Reading.{many_at}
use Rattle.timestamp_tree.specs.Reading.{stored_at}
use Rattle.record_parts.specs.Bounds.{most}
use Rattle.record_format.specs.Reading.{with_leaf_sets}
use Rattle.record_format.proofs.Directories.{node_on, node_fails, nodes_done}
use Rattle.record_format.proofs.take_directory.take_leaf_sets.Goals as goal

pub returns-in_err-set-clause-found : goal.returns-in_err-set-clause-found
returns-in_err-set-clause-found c =
    let p = err_from_is_err_and c.from_residual.result c.from_residual.ensures.1 in
    rw (p.1, p.2) (node_fails c.in_err-set.field-0.0 (map pairs_of c.loop.sets.items) c.args.count c.loop.counter (drop c.loop.at c.args.bytes.now) (with_leaf_sets (many_at (stored_at most) c.args.count (drop c.args.at c.args.bytes.now))) c.loop-test.true c.in_err-set.ensures.found c.loop.invariant.read)

pub loop-preserved : goal.loop-preserved
loop-preserved c =
    let e = c.in_ok-push_leaf.ensures.ok in
    record {
      within = c.in_ok-set.ensures.next;
      read = rw e (node_on (map pairs_of c.loop.sets.items) c.args.count c.loop.counter (drop c.loop.at c.args.bytes.now) (pairs_of c.in_ok-set.set, c.in_ok-set.left) (drop c.in_ok-set.next c.args.bytes.now) (with_leaf_sets (many_at (stored_at most) c.args.count (drop c.args.at c.args.bytes.now))) c.loop-test.true c.in_ok-set.ensures.found c.loop.invariant.read);
    }

pub returns-clause-found : goal.returns-clause-found
returns-clause-found c = nodes_done (map pairs_of c.loop.sets.items) c.args.count c.loop.counter (drop c.loop.at c.args.bytes.now) (with_leaf_sets (many_at (stored_at most) c.args.count (drop c.args.at c.args.bytes.now))) c.loop-test.false c.loop.invariant.read
