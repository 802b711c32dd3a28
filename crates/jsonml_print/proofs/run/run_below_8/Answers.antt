use Rattle.std.proofs.Common.{◌-◌, length, ap, arith}
use lib.Count.{count_trailing_zeros}
use Rattle.jsonml_print.proofs.Runs.{run_on, run_stops, run_whole}
use Rattle.jsonml_print.proofs.run.run_below_8.Goals as goal

pub returns-then-found-ne0 : goal.returns-then-found-ne0
returns-then-found-ne0 c =
    let found = c.stops_4-found.ensures in
    let run = run_stops c.args.bytes.now 0 4 (omega arith) (omega arith) (omega arith) (omega (arith, found)) in
    omega (arith, run, ap (count_trailing_zeros 64) found)

pub returns-then-behind-ne0 : goal.returns-then-behind-ne0
returns-then-behind-ne0 c =
    let found = c.stops_4-behind.ensures in
    let front = run_on c.args.bytes.now 0 4 (omega arith) (omega arith) (omega (arith, c.stops_4-found.ensures)) in
    let run = run_stops c.args.bytes.now (length c.args.bytes.now - 4) 4 (omega (arith, front)) (omega arith) (omega arith) (omega (arith, found)) in
    omega (arith, run, ap (count_trailing_zeros 64) found)

pub returns : goal.returns
returns c =
    let front = run_on c.args.bytes.now 0 4 (omega arith) (omega arith) (omega (arith, c.stops_4-found.ensures)) in
    run_whole c.args.bytes.now (length c.args.bytes.now - 4) 4 (omega (arith, front)) (omega arith) (omega (arith, c.stops_4-behind.ensures))
