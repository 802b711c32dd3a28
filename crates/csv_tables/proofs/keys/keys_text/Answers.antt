use Rattle.std.proofs.Common.{string_bytes}
use Rattle.key_spec.specs.View.{names_view}
use Rattle.csv_tables.proofs.KeyLemmas.{lines-are}
use Rattle.csv_tables.proofs.keys.keys_text.Goals as goal

pub returns : goal.returns
returns c =
    lines-are c.args.tag.now (names_view c.args.keys.now) (string_bytes c.new-text.result) (string_bytes c.push_root.new.text) (string_bytes c.push_rows.new.text) (string_bytes c.push_cells.new.text)
    c.new-text.ensures.bytes c.in_ok-push_root.ensures c.in_ok-push_rows.ensures c.in_ok-push_cells.ensures
