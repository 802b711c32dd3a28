use Rattle.std.proofs.Common.{◌≡◌, ◌<◌, length, ap, arith}
use Rattle.xarch_run.specs.Feed.{pending}
use Rattle.xarch_run.proofs.FeedLemmas.{past_read}
use Rattle.xarch_run.proofs.feed.Feed.read_more.Goals as goal

pub returns-then-count-self-clause-fills : goal.returns-then-count-self-clause-fills
returns-then-count-self-clause-fills g c =
    let one : c.in-Ok.count ≡ 1 = omega (arith, c.in-Ok.ensures.bound) in
    let some : 0 < length c.read_front.new.buf = omega (arith, c.in-Ok.ensures.bound) in
    let read = past_read _ _ (pending c.args.self.now) c.read_front.new.buf c.in-Ok.count c.requires c.in-Ok.ensures.bytes.0 one some in
    (read.0, read.1, omega (arith, c.in-Ok.ensures.bound, ap length c.requires))
