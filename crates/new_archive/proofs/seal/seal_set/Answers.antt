use Rattle.std.proofs.Common.{sym}
use Rattle.version_set.specs.View.{pairs_of}
use Rattle.new_archive.proofs.Sets.{stamp_same, stamp_other}
use Rattle.new_archive.proofs.seal.seal_set.Goals as goal

pub returns-then-same : goal.returns-then-same
returns-then-same c = sym (stamp_same (pairs_of c.args.parent.now) (pairs_of c.args.set) (c.same.ensures.pairs.0 c.if-same.true))

pub returns-else-same : goal.returns-else-same
returns-else-same c = sym (stamp_other (pairs_of c.args.parent.now) (pairs_of c.args.set) (λ e. (let t = c.same.ensures.pairs.1 e in let f = c.if-same.false in cc)))
