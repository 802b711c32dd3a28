use Rattle.std.proofs.Common.{◌∷◌, [], ◌++◌, refl, subst, sym}
use Rattle.jsonml_tree.specs.Data.{element}
use Rattle.jsonml_tree.specs.LentView.{lent_content_view}
use Rattle.jsonml_print.specs.Pen.{Pen}
use Rattle.jsonml_print.specs.Calls.{begin, end, AllMayCome, content_calls}
use Rattle.jsonml_print.proofs.TreeWalk.{calls_may_come}
use Rattle.jsonml_print.proofs.Walks.{AllMayCome-front, AllMayCome-back}
use Rattle.test_documents.proofs.asked.print_around.Goals as goal

pub print_lent_content-requires : goal.print_lent_content-requires
print_lent_content-requires c =
    let tag = c.args.tag.now in
    let held = lent_content_view c.args.content in
    let whole = subst (λ (p : Pen). AllMayCome p (begin tag ∷ (content_calls held ++ end ∷ []))) (sym c.new-printer.ensures) (calls_may_come (element tag held) refl) in
    AllMayCome-front c.begin_elem.new.self (content_calls held) (end ∷ []) (AllMayCome-back c.new-printer.result c.begin_elem.new.self (begin tag ∷ []) (content_calls held ++ end ∷ []) c.in_ok-begin_elem.ensures.prints.pen whole)

pub end_elem-requires : goal.end_elem-requires
end_elem-requires c =
    let tag = c.args.tag.now in
    let held = lent_content_view c.args.content in
    let whole = subst (λ (p : Pen). AllMayCome p (begin tag ∷ (content_calls held ++ end ∷ []))) (sym c.new-printer.ensures) (calls_may_come (element tag held) refl) in
    let inside = AllMayCome-back c.new-printer.result c.begin_elem.new.self (begin tag ∷ []) (content_calls held ++ end ∷ []) c.in_ok-begin_elem.ensures.prints.pen whole in
    (AllMayCome-back c.begin_elem.new.self c.print_lent_content.new.printer (content_calls held) (end ∷ []) c.in_ok-print_lent_content.ensures.prints.pen inside).0
