use Rattle.std.proofs.Common.{ap, ◌∙◌}
use Rattle.std.specs.Ordering.{is_eq}
use Rattle.keyed_tree.specs.LentView.{lent_val_view}
use Rattle.keyed_tree.specs.View.{key_view}
use Rattle.keyed_tree.proofs.LentVals.{is_eq-turned}
use Rattle.keyed_tree.proofs.lent.LentVal.same.Goals as goal

pub returns : goal.returns
returns c = c.is_eq.ensures ∙ ap is_eq c.order_own.ensures ∙ is_eq-turned (lent_val_view c.args.self) (key_view c.args.other.now)
