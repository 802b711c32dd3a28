use Rattle.keyed_tree.specs.View.{label_view}
use Rattle.record_writer.proofs.spell.put_new_label.Goals as goal

pub put_label-requires : goal.put_label-requires
put_label-requires c = ((c.parts_are_of_shape_and_fit.ensures.labels (label_view c.args.label.now)).0 (c.is_label.ensures.is.0 c.if-not-is_label.false)).1
