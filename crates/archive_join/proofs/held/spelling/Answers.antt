use Rattle.std.proofs.Common.{ap, subst, sym, ◌∙◌}
use Rattle.xa_fields.specs.Reading.{whole}
use Rattle.record_parts.specs.Reading.{value_at}
use Rattle.record_parts.specs.ShownViews.{value_in}
use Rattle.record_parts.specs.Spelling.{value_bytes}
use Rattle.record_parts.specs.Whole.{IsValueBytes}
use Rattle.archive_join.proofs.held.spelling.Goals as goal

pub body_spelled-requires : goal.body_spelled-requires
body_spelled-requires c = (let a = c.args.alternative.now in subst IsValueBytes (sym c.deref.ensures.value) a.valid)

pub returns-clause-spelled : goal.returns-clause-spelled
returns-clause-spelled c = c.body_spelled.ensures.spelled ∙ ap (λ z. value_bytes (value_in (whole value_at z))) c.deref.ensures.value
