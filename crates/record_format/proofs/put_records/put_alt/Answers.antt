use Rattle.std.proofs.Common.{arith}
use Rattle.keyed_tree.specs.View.{key_view}
use Rattle.xa_fields.proofs.Combinators.{growth, grows_to}
use Rattle.record_format.proofs.Frames.{closed_both}
use Rattle.record_format.proofs.put_records.put_alt.Goals as goal

pub returns-in_err-put_stamp-clause-grows : goal.returns-in_err-put_stamp-clause-grows
returns-in_err-put_stamp-clause-grows c = grind (arith, growth)

pub returns-in_err-put_value-clause-grows : goal.returns-in_err-put_value-clause-grows
returns-in_err-put_value-clause-grows c = grind (arith, growth)

pub returns-clause-ok : goal.returns-clause-ok
returns-clause-ok c = closed_both _ _ _ _ _ _ _ 3 _ c.in_ok-at.ensures.ok c.in_ok-at.ensures.at c.in_ok-put_stamp.ensures.ok c.in_ok-put_value.ensures.ok c.close.ensures

pub returns-clause-grows : goal.returns-clause-grows
returns-clause-grows c = grows_to _ _ _ (closed_both _ _ _ _ _ _ _ 3 _ c.in_ok-at.ensures.ok c.in_ok-at.ensures.at c.in_ok-put_stamp.ensures.ok c.in_ok-put_value.ensures.ok c.close.ensures)

pub put_value-requires : goal.put_value-requires
put_value-requires c = ((c.parts_are_of_shape_and_fit.ensures.values (key_view c.args.body.now)).0 c.requires).1
