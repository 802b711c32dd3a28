use Rattle.std.proofs.Common.{◌+◌, ◌≤◌, arith, rules}
use Rattle.xa_outside.proofs.BufferedLemmas.{waiting-dropped, waiting-none}
use Rattle.xa_outside.proofs.held.Held.drop_front.Goals as goal

pub returns-else-self-clause-bytes : goal.returns-else-self-clause-bytes
returns-else-self-clause-bytes c = waiting-dropped c.args.self.now.start c.args.self.now.end c.args.count c.args.self.now.bytes

pub returns-else-self-clause-room : goal.returns-else-self-clause-room
returns-else-self-clause-room c = λ none. let past : c.args.self.now.end ≤ c.args.self.now.start + c.args.count = waiting-none (c.args.self.now.start + c.args.count) c.args.self.now.end c.args.self.now.bytes (search rules) none in absurd (omega arith)
