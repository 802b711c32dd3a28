use Rattle.std.proofs.Common.{drop, arith}
use Rattle.key_spec.specs.View.{spec_view}
use Rattle.archive_file.proofs.FrontLaws.{header-read}
use Rattle.archive_file.proofs.front.read_header.Goals as goal

pub returns-in-Ok-clause-spelled : goal.returns-in-Ok-clause-spelled
returns-in-Ok-clause-spelled c =
    let r = c.in-Ok.read in
    header-read c.args.bytes.now (spec_view r.0) r.1 (drop r.2 c.args.bytes.now) (λ i. omega (arith, c.type_inv.bytes i)) c.in-Ok.ensures.found
