use Rattle.std.proofs.Common.{◌++◌, length, Some, refl, sym, ap, ◌∙◌}
use Rattle.std.specs.List.{flat_map}
use Rattle.std.proofs.lemmas.List.{drop_at}
use Rattle.record_format.specs.Files.{header_bytes, file_records, tail_bytes}
use Rattle.record_format.specs.Spelling.{rec_bytes}
use Rattle.record_format.proofs.HeaderLaws.{header_again}
use Rattle.record_cursor.proofs.Items.{file-gives}
use Rattle.record_cursor.proofs.laws.files_give_their_items.Goals as goal

pub returns-clause-header : goal.returns-clause-header
returns-clause-header c = λ rules a again has. (
    let rest = flat_map rec_bytes (file_records a) ++ tail_bytes a in
    header_again rules a.n rest again has.text has.count
    ∙ ap (λ bs. Some ((rules, a.n), bs)) (sym (drop_at (header_bytes rules a.n) rest (length (header_bytes rules a.n)) refl)))

pub returns-clause-items : goal.returns-clause-items
returns-clause-items c = file-gives
