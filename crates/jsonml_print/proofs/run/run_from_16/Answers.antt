use Rattle.std.proofs.Common.{◌-◌, length, ap, arith}
use lib.Count.{count_trailing_zeros}
use Rattle.jsonml_print.proofs.Runs.{run_on, run_stops, run_whole}
use Rattle.jsonml_print.proofs.run.run_from_16.Goals as goal

pub returns-then-found-ne0 : goal.returns-then-found-ne0
returns-then-found-ne0 c =
    let found = c.stops_16-found.ensures in
    let run = run_stops c.args.bytes.now c.loop-at.at 16 c.loop-at.invariant.0 (omega arith) (omega arith) (omega (arith, found)) in
    omega (arith, run, ap (count_trailing_zeros 64) found)

pub loop-at-preserved : goal.loop-at-preserved
loop-at-preserved c =
    let run = run_on c.args.bytes.now c.loop-at.at 16 c.loop-at.invariant.0 (omega arith) (omega (arith, c.stops_16-found.ensures)) in
    (omega (arith, run), omega arith)

pub returns-then-behind-ne0 : goal.returns-then-behind-ne0
returns-then-behind-ne0 c =
    let found = c.stops_16-behind.ensures in
    let last = length c.args.bytes.now - 16 in
    let run = run_stops c.args.bytes.now last 16 (omega (arith, c.loop-at.invariant.0)) (omega arith) (omega arith) (omega (arith, found)) in
    omega (arith, run, ap (count_trailing_zeros 64) found)

pub returns : goal.returns
returns c =
    let last = length c.args.bytes.now - 16 in
    run_whole c.args.bytes.now last 16 (omega (arith, c.loop-at.invariant.0)) (omega arith) (omega (arith, c.stops_16-behind.ensures))
