use Rattle.std.proofs.Common.{sym, subst}
use Rattle.std.proofs.lemmas.Result.{IfOk-weaker}
use Rattle.jsonml_tree.specs.WellFormed.{IsWellFormed}
use Rattle.keyed_tree.specs.View.{keyed_view}
use Rattle.keyed_tree.proofs.PlainLemmas.{plain_well_formed}
use Rattle.keyed_tree.proofs.keyed.Keyed.plain.Goals as goal

pub returns-clause-well_formed : goal.returns-clause-well_formed
returns-clause-well_formed c = λ h.
    let law = plain_well_formed (keyed_view c.args.self.now) c.requires.proper h in
    IfOk-weaker c.spell.result _ _ (λ t e. subst IsWellFormed (sym e) law) c.spell.ensures
