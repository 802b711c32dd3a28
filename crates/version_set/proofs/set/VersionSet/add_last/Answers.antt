use Rattle.std.proofs.Common.{arith}
use Rattle.version_set.proofs.MembersLemmas.{members_added, pairs_added}
use Rattle.version_set.proofs.Ends.{start_within}
use Rattle.version_set.proofs.set.VersionSet.add_last.Goals as goal

pub put_last-requires-clause-behind : goal.put_last-requires-clause-behind
put_last-requires-clause-behind c = omega (arith, start_within 1 c.args.self.now.pairs.items c.args.self.now.canonical, c.requires.above)

pub returns-clause-members : goal.returns-clause-members
returns-clause-members c =
    let j = c.in-Ok.ensures.joins in
    members_added _ _ c.args.n c.args.self.now.canonical j.canonical c.requires.above j.numbers

pub returns-clause-pairs : goal.returns-clause-pairs
returns-clause-pairs c =
    let j = c.in-Ok.ensures.joins in
    pairs_added c.args.self.now.pairs.items _ c.args.n j.canonical (members_added _ _ c.args.n c.args.self.now.canonical j.canonical c.requires.above j.numbers)
