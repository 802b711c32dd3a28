use Rattle.std.proofs.Common.{length, ap, ◌∙◌}
use Rattle.key_spec.specs.View.{names_view}
use Rattle.xarch_parts.specs.EndLaws.{Matches-passed, inside-passed}
use Rattle.xarch_tables.proofs.DocumentEnds.{rules-long, rules-short}
use Rattle.xarch_tables.proofs.keys.short_text.Goals as goal

pub returns-in_err-at_most-clause-cause : goal.returns-in_err-at_most-clause-cause
returns-in_err-at_most-clause-cause c = inside-passed c.from_residual-in_err-at_most.result _ c.from_residual-in_err-at_most.ensures.1 c.in_err-at_most.ensures.cause

pub returns-in_err-at_most-clause-told : goal.returns-in_err-at_most-clause-told
returns-in_err-at_most-clause-told c =
    Matches-passed _ _ c.from_residual-in_err-at_most.result _ c.from_residual-in_err-at_most.ensures.1
    (rules-long c.args.tag.now (names_view c.args.names.now) _ (ap length (c.as_str.ensures.value ∙ c.in_ok-text.ensures)) _ c.in_err-at_most.ensures.told)

pub returns-clause-told : goal.returns-clause-told
returns-clause-told c = rules-short c.args.tag.now (names_view c.args.names.now) _ _ (ap length (c.as_str.ensures.value ∙ c.in_ok-text.ensures)) c.in_ok-at_most.ensures.told
