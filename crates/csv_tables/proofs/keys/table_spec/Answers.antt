use Rattle.std.proofs.Common.{◌∙◌}
use Rattle.key_spec.specs.View.{names_view, spec_view}
use Rattle.csv_tables.specs.Keys.{table_rules}
use Rattle.csv_tables.proofs.KeyLemmas.{rules-read, names-utf8, same-rules, never-refused}
use Rattle.csv_tables.proofs.keys.table_spec.Goals as goal

pub returns-in_err-text-clause-closed : goal.returns-in_err-text-clause-closed
returns-in_err-text-clause-closed c = rules-read c.args.tag.now (names_view c.args.keys.now) c.requires.tag c.requires.keys c.utf8.tag (names-utf8 c.args.keys.now) c.requires.short

pub returns-in-Ok-clause-rules : goal.returns-in-Ok-clause-rules
returns-in-Ok-clause-rules c =
    let read = rules-read c.args.tag.now (names_view c.args.keys.now) c.requires.tag c.requires.keys c.utf8.tag (names-utf8 c.args.keys.now) c.requires.short in
    same-rules (table_rules c.args.tag.now (names_view c.args.keys.now)) (spec_view c.in-Ok.spec) c.as_bytes.result.now read (c.as_bytes.ensures.value ∙ c.in_ok-text.ensures) c.in-Ok.ensures.found

pub returns-in-Ok-clause-closed : goal.returns-in-Ok-clause-closed
returns-in-Ok-clause-closed c = rules-read c.args.tag.now (names_view c.args.keys.now) c.requires.tag c.requires.keys c.utf8.tag (names-utf8 c.args.keys.now) c.requires.short

pub returns-in-Err-Memory-clause-closed : goal.returns-in-Err-Memory-clause-closed
returns-in-Err-Memory-clause-closed c = rules-read c.args.tag.now (names_view c.args.keys.now) c.requires.tag c.requires.keys c.utf8.tag (names-utf8 c.args.keys.now) c.requires.short

pub unreachable-requires : goal.unreachable-requires
unreachable-requires c =
    let read = rules-read c.args.tag.now (names_view c.args.keys.now) c.requires.tag c.requires.keys c.utf8.tag (names-utf8 c.args.keys.now) c.requires.short in
    never-refused (table_rules c.args.tag.now (names_view c.args.keys.now)) c.as_bytes.result.now c.in-Err-Bad.field-0 c.in-Err-Bad.field-0-0 c.in-Err-Bad.field-0-1 read (c.as_bytes.ensures.value ∙ c.in_ok-text.ensures) c.in-Err-Bad.field-0-is c.in-Err-Bad.ensures.fault
