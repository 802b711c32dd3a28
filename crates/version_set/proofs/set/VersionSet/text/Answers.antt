use Rattle.std.proofs.Common.{◌∙◌, ap, sym}
use Rattle.std.proofs.lemmas.Result.{IfOk-weaker}
use Rattle.version_set.specs.Text.{set_text}
use Rattle.version_set.proofs.MembersLemmas.{intervals-members}
use Rattle.version_set.proofs.set.VersionSet.text.Goals as goal

pub returns-clause-members : goal.returns-clause-members
returns-clause-members c =
    IfOk-weaker c.text_of.result _ _ (λ text e. e ∙ ap set_text (c.pairs.ensures ∙ sym (intervals-members 1 c.args.self.now.pairs.items c.args.self.now.canonical))) c.text_of.ensures
