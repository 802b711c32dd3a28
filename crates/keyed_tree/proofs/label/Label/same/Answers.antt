use Rattle.keyed_tree.specs.Laws.{label_cmp-is_eq}
use Rattle.keyed_tree.specs.View.{label_view}
use Rattle.keyed_tree.proofs.label.Label.same.Goals as goal

pub returns-clause-equal : goal.returns-clause-equal
returns-clause-equal c = rw (c.is_eq.ensures, c.order.ensures) (label_cmp-is_eq (label_view c.args.self.now) (label_view c.args.other.now))
