use Rattle.record_parts.specs.ShownViews.{shown_body}
use Rattle.record_writer.proofs.GivenLaws.{old-spelled}
use Rattle.record_writer.proofs.spell.put_body_from.Goals as goal

pub returns-in-Old : goal.returns-in-Old
returns-in-Old c = (let e = c.in-Old.is in rw e (old-spelled _ _ _ _ _ c.put_old.result (c.parts_are_of_shape_and_fit.ensures.value_tests (shown_body c.in-Old.view)) c.bytes.ensures.is c.bytes.ensures.spelled c.put_old.ensures))
