use Rattle.std.proofs.Common.{◌≡◌, ◌==◌, true, ◌++◌, ◌∷◌, [], List, ℕ, length, sym, ap, ◌∙◌, subst}
use Rattle.std.specs.List.{flat_map}
use Rattle.std.proofs.lemmas.Iterator.Adapters.{YieldsList-from_vec}
use Rattle.std.proofs.lemmas.Iterator.Consumers.{YieldsList-turn}
use Rattle.key_spec.specs.View.{names_view}
use Rattle.csv_tables.specs.Records.{IsRegular}
use Rattle.csv_tables.specs.View.{rows_view, table_view}
use Rattle.xarch_tables.specs.Rows.{row_text}
use Rattle.xarch_tables.proofs.Pages.{regular-more, row-fits, rows-more, text-more}
use Rattle.xarch_tables.proofs.page.put_rows.Goals as goal

pub loop-row-preserved : goal.loop-row-preserved
loop-row-preserved c =
    let heading = (table_view c.args.table).heading in
    let room = c.in_ok-make_room.ensures in
    let part = c.make_room.new.part in
    let page = c.make_room.new.page in
    let row = c.in-Some.row in
    let old = c.args.page.now.bytes.items in
    let same : names_view part.heading.items ≡ heading = room.heading ∙ c.loop-row.invariant.heading in
    let given = c.into_iter-row-iterator.ensures.into_iter_gives in
    let yields = YieldsList-from_vec {s = c.into_iter-row-iterator.result} c.args.table.rows.items given.0 (given.1 ∙ c.args.table.rows.ok.0) in
    let turn = YieldsList-turn yields c.loop-row.yielded c.loop-row.row-iterator c.loop-row.yielded_by c.next.result c.next.new.self row c.in-Some.is c.next.ensures.steps in
    let fits = row-fits heading c.args.table.rows.items (length c.loop-row.yielded) row c.requires turn.0 turn.1 in
    let fits_part = subst (λ (h : List (List ℕ)). (length (names_view row.items) == length h) ≡ true) (sym same) fits in
    let pushed : rows_view c.push.new.self.items ≡ rows_view part.rows.items ++ names_view row.items ∷ [] = ap rows_view c.in_ok-push.ensures.items ∙ rows-more part.rows.items row in
    let text = subst (λ h. page.bytes.items ++ flat_map (row_text h) (rows_view part.rows.items) ≡ c.loop-row.page.bytes.items ++ flat_map (row_text h) (rows_view c.loop-row.part.rows.items)) c.loop-row.invariant.heading room.text in
    record {
      heading = same;
      regular = subst (λ rows. IsRegular (record { heading = names_view part.heading.items; rows = rows })) (sym pushed) (regular-more (names_view part.heading.items) (rows_view part.rows.items) (names_view row.items) room.regular fits_part);
      text = ap (λ rows. page.bytes.items ++ flat_map (row_text heading) rows) pushed ∙ text-more heading page.bytes.items old (rows_view part.rows.items) (rows_view c.loop-row.yielded) (names_view row.items) (text ∙ c.loop-row.invariant.text)
          ∙ ap (λ rows. old ++ flat_map (row_text heading) rows) (sym (rows-more c.loop-row.yielded row));
    }
