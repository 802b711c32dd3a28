use Rattle.std.proofs.Common.{◌&&◌, ◌∙◌}
use Rattle.version_set.specs.Members.{members, has}
use Rattle.version_set.proofs.SetLemmas.{members_both, pairs_common}
use Rattle.version_set.proofs.set.VersionSet.meet.Goals as goal

pub returns-clause-members : goal.returns-clause-members
returns-clause-members c = members_both c.args.self.now.pairs.items c.args.other.now.pairs.items _ c.args.self.now.canonical c.in_ok-pairs.ensures.canonical (λ n. c.in_ok-pairs.ensures.numbers n ∙ (λ i. has (members (c.pairs.ensures i)) n && has (members (c.pairs-2.ensures i)) n))

pub returns-clause-pairs : goal.returns-clause-pairs
returns-clause-pairs c =
    pairs_common c.args.self.now.pairs.items c.args.other.now.pairs.items _ c.in_ok-pairs.ensures.canonical
    (members_both c.args.self.now.pairs.items c.args.other.now.pairs.items _ c.args.self.now.canonical c.in_ok-pairs.ensures.canonical (λ n. c.in_ok-pairs.ensures.numbers n ∙ (λ i. has (members (c.pairs.ensures i)) n && has (members (c.pairs-2.ensures i)) n)))
