use Rattle.std.proofs.Common.{rules, ◌∙◌}
use Rattle.keyed_tree.specs.LentView.{lent_val_view}
use Rattle.spelled_archive.proofs.Bodies.{appended_is, appended_valid}
use Rattle.spelled_archive.proofs.body.Spelled.of.Goals as goal

pub of_bytes-requires : goal.of_bytes-requires
of_bytes-requires c = (let k = lent_val_view c.args.body in appended_valid c.parts_are_read_as_spelled.ensures.values k _ _ ((c.parts_are_of_shape_and_fit.ensures.value_tests k).0 c.in-Ok.ensures.0) (search rules) c.in-Ok.ensures.1)

pub returns-in-Ok-clause-some : goal.returns-in-Ok-clause-some
returns-in-Ok-clause-some c = (let k = lent_val_view c.args.body in c.of_bytes.ensures ∙ appended_is c.parts_are_read_as_spelled.ensures.values k _ _ ((c.parts_are_of_shape_and_fit.ensures.value_tests k).0 c.in-Ok.ensures.0) (search rules) c.in-Ok.ensures.1)
