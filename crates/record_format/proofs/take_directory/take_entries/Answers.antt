use Rattle.std.proofs.Common.{◌≡◌, ◌++◌, ◌∷◌, [], map, drop, sym}
use Rattle.std.proofs.lemmas.List.{map_push}
use Rattle.xa_fields.specs.Reading.{many_at}
use Rattle.xa_fields.proofs.Loops.{goes_on, breaks_off, is_done}
use Rattle.record_format.specs.View.{entry_view}
use Rattle.record_format.specs.Reading.{entry_at}
use Rattle.record_format.proofs.take_directory.take_entries.Goals as goal

pub returns-in_default-clause-found : goal.returns-in_default-clause-found
returns-in_default-clause-found c =
    breaks_off entry_at (map entry_view c.loop.entries.items) c.args.count c.loop.counter (drop c.loop.at c.args.bytes.now) (many_at entry_at c.args.count (drop c.args.at c.args.bytes.now)) c.loop-test.true (sym c.in_default.ensures.found) c.loop.invariant.read

pub loop-preserved : goal.loop-preserved
loop-preserved c =
    let n = c.in-Some.entry in
    let e : map entry_view c.push.new.self.items ≡ map entry_view c.loop.entries.items ++ entry_view n ∷ [] = rw c.in_ok-push.ensures.items (map_push _ c.loop.entries.items n) in
    record {
      within = c.in-Some.ensures.next;
      read = rw e (goes_on entry_at (map entry_view c.loop.entries.items) c.args.count c.loop.counter (drop c.loop.at c.args.bytes.now) (entry_view n) (drop c.in-Some.next c.args.bytes.now) (many_at entry_at c.args.count (drop c.args.at c.args.bytes.now)) c.loop-test.true (sym c.in-Some.ensures.found) c.loop.invariant.read);
    }

pub returns-clause-found : goal.returns-clause-found
returns-clause-found c = is_done entry_at (map entry_view c.loop.entries.items) c.args.count c.loop.counter (drop c.loop.at c.args.bytes.now) (many_at entry_at c.args.count (drop c.args.at c.args.bytes.now)) c.loop-test.false c.loop.invariant.read
