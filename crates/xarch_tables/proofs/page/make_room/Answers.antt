use Rattle.std.proofs.Common.{◌≡◌, ◌++◌, [], sym, ap, ◌∙◌, subst, append-nil, rules}
use Rattle.std.specs.List.{flat_map}
use Rattle.csv_tables.specs.Records.{IsRegular}
use Rattle.csv_tables.specs.View.{rows_view, table_view}
use Rattle.xarch_tables.specs.Rows.{row_text}
use Rattle.xarch_tables.proofs.Pages.{regular-none}
use Rattle.xarch_tables.proofs.page.make_room.Goals as goal

pub returns-clause-regular : goal.returns-clause-regular
returns-clause-regular c =
    let none : c.clear.new.self.items ≡ [] = search rules in
    let heading = (table_view c.args.part.now).heading in
    subst (λ rows. IsRegular (record { heading = heading; rows = rows_view rows })) (sym none) (regular-none heading (table_view c.args.part.now).rows c.requires)

pub returns-clause-text : goal.returns-clause-text
returns-clause-text c =
    let none : c.clear.new.self.items ≡ [] = search rules in
    let put = c.put_part.new.page.bytes.items in
    ap (λ rows. put ++ flat_map (row_text (table_view c.args.part.now).heading) (rows_view rows)) none ∙ append-nil put ∙ c.in_ok-put_part.ensures
