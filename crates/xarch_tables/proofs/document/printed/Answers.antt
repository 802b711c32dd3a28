use Rattle.std.proofs.Common.{List, ℕ, Ok, sym, ap, ◌∙◌}
use Rattle.key_spec.specs.View.{names_view, spec_view}
use Rattle.csv_tables.specs.View.{table_view}
use Rattle.xarch_parts.specs.EndLaws.{Matches-passed, inside-passed}
use Rattle.xarch_tables.proofs.DocumentEnds.{badly-keyed, long-rules, no-column, too-long, well-keyed}
use Rattle.xarch_tables.proofs.document.printed.Goals as goal

pub returns-in_err-check_columns-clause-cause : goal.returns-in_err-check_columns-clause-cause
returns-in_err-check_columns-clause-cause c = inside-passed c.from_residual.result _ c.from_residual.ensures.1 c.in_err-check_columns.ensures.cause

pub returns-in_err-check_columns-clause-told : goal.returns-in_err-check_columns-clause-told
returns-in_err-check_columns-clause-told c = Matches-passed _ _ c.from_residual.result _ c.from_residual.ensures.1 (no-column c.args.tag.now (names_view c.args.names.now) (table_view c.args.table) _ c.in_err-check_columns.ensures.told)

pub returns-in_err-length-clause-cause : goal.returns-in_err-length-clause-cause
returns-in_err-length-clause-cause c = inside-passed c.from_residual-in_err-length.result _ c.from_residual-in_err-length.ensures.1 c.in_err-length.ensures.cause

pub returns-in_err-length-clause-told : goal.returns-in_err-length-clause-told
returns-in_err-length-clause-told c = Matches-passed _ _ c.from_residual-in_err-length.result _ c.from_residual-in_err-length.ensures.1 (too-long c.args.tag.now (names_view c.args.names.now) (table_view c.args.table) c.in_ok-check_columns.ensures.told _ c.in_err-length.ensures.told)

pub returns-in_err-spec-clause-cause : goal.returns-in_err-spec-clause-cause
returns-in_err-spec-clause-cause c = inside-passed c.from_residual-in_err-spec.result _ c.from_residual-in_err-spec.ensures.1 c.in_err-spec.ensures.cause

pub returns-in_err-spec-clause-told : goal.returns-in_err-spec-clause-told
returns-in_err-spec-clause-told c =
    Matches-passed _ _ c.from_residual-in_err-spec.result _ c.from_residual-in_err-spec.ensures.1
    (long-rules c.args.tag.now (names_view c.args.names.now) (table_view c.args.table) c.in_ok-check_columns.ensures.told c.in_ok-length.ensures.told _ c.in_err-spec.ensures.told)

pub returns-in_err-check_keys-clause-cause : goal.returns-in_err-check_keys-clause-cause
returns-in_err-check_keys-clause-cause c = inside-passed c.from_residual-in_err-check_keys.result _ c.from_residual-in_err-check_keys.ensures.1 c.in_err-check_keys.ensures.cause

pub returns-in_err-check_keys-clause-told : goal.returns-in_err-check_keys-clause-told
returns-in_err-check_keys-clause-told c =
    Matches-passed _ _ c.from_residual-in_err-check_keys.result _ c.from_residual-in_err-check_keys.ensures.1
    (badly-keyed c.args.tag.now (names_view c.args.names.now) (table_view c.args.table) c.in_ok-check_columns.ensures.told c.in_ok-length.ensures.told (spec_view c.in_ok-spec.spec) c.in_ok-spec.ensures.told _ c.in_err-check_keys.ensures.told)

pub returns-clause-told : goal.returns-clause-told
returns-clause-told c =
    well-keyed c.args.tag.now (names_view c.args.names.now) (table_view c.args.table) c.in_ok-check_columns.ensures.told c.in_ok-length.ensures.told (spec_view c.in_ok-spec.spec) c.in_ok-spec.ensures.told c.in_ok-check_keys.ensures.told
    ∙ ap (λ (b : List ℕ). Ok b) (sym c.in_ok-print.ensures)
