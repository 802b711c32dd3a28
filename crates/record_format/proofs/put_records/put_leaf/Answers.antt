use Rattle.std.proofs.Common.{arith}
use Rattle.keyed_tree.specs.View.{label_view}
use Rattle.xa_fields.proofs.Combinators.{growth, grows_to}
use Rattle.record_format.proofs.Frames.{closed_both}
use Rattle.record_format.proofs.put_records.put_leaf.Goals as goal

pub returns-in_err-put_label-clause-grows : goal.returns-in_err-put_label-clause-grows
returns-in_err-put_label-clause-grows c = grind (arith, growth)

pub returns-in_err-put_stamp-clause-grows : goal.returns-in_err-put_stamp-clause-grows
returns-in_err-put_stamp-clause-grows c = grind (arith, growth)

pub returns-clause-ok : goal.returns-clause-ok
returns-clause-ok c = closed_both _ _ _ _ _ _ _ 2 _ c.in_ok-at.ensures.ok c.in_ok-at.ensures.at c.in_ok-put_label.ensures.ok c.in_ok-put_stamp.ensures.ok c.close.ensures

pub returns-clause-grows : goal.returns-clause-grows
returns-clause-grows c = grows_to _ _ _ (closed_both _ _ _ _ _ _ _ 2 _ c.in_ok-at.ensures.ok c.in_ok-at.ensures.at c.in_ok-put_label.ensures.ok c.in_ok-put_stamp.ensures.ok c.close.ensures)

pub put_label-requires : goal.put_label-requires
put_label-requires c = ((c.parts_are_of_shape_and_fit.ensures.labels (label_view c.args.label.now)).0 c.requires).1
