use Rattle.keyed_tree.specs.LentView.{lent_val_view}
use Rattle.record_parts.specs.ShownViews.{shown_body}
use Rattle.node_judge.proofs.BodyLaws.{same-turned}
use Rattle.node_judge.proofs.body.is_scalar_value.Goals as goal

pub returns : goal.returns
returns c = same-turned c.same_lent.result (shown_body c.args.value.now) (lent_val_view c.args.own) c.same_lent.ensures
