use Rattle.std.proofs.Common.{arith}
use Rattle.jsonml_print.proofs.Runs.{mask_is}
use Rattle.jsonml_print.proofs.run.stops_16.Goals as goal

pub returns : goal.returns
returns c = mask_is c.args.v 16 c.fits-v.0 (omega arith) c.fits-v.1
