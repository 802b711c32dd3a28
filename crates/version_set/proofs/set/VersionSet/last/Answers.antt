use Rattle.std.proofs.Common.{ap, sym, ◌∙◌}
use Rattle.version_set.specs.Pairs.{last_of}
use Rattle.version_set.proofs.SetLemmas.{greatest-members}
use Rattle.version_set.proofs.set.VersionSet.last.Goals as goal

pub returns-clause-members : goal.returns-clause-members
returns-clause-members c = c.last_in.ensures ∙ ap last_of c.as_slice.ensures ∙ sym (greatest-members 1 c.args.self.now.pairs.items c.args.self.now.canonical)
