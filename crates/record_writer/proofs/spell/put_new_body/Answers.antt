use Rattle.keyed_tree.specs.View.{key_view}
use Rattle.record_writer.proofs.spell.put_new_body.Goals as goal

pub put_value-requires : goal.put_value-requires
put_value-requires c = ((c.parts_are_of_shape_and_fit.ensures.values (key_view c.args.body.now)).0 (c.is_value.ensures.is.0 c.if-not-is_value.false)).1
