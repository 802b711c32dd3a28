use Rattle.std.proofs.Common.{◌≡◌, List, ℕ, [], ◌∷◌, ◌++◌, drop, sym, ap, subst, ◌∙◌}
use Rattle.xa_outside.specs.Taken.{Puts}
use Rattle.jsonml_tree.specs.View.{content_view}
use Rattle.jsonml_print.specs.Printed.{content_text}
use Rattle.jsonml_print.specs.Pen.{Pen}
use Rattle.jsonml_print.specs.Calls.{end, printed, AllMayCome, content_calls}
use Rattle.jsonml_print.proofs.Arrays.{array_may, array_printed}
use Rattle.jsonml_print.proofs.Walks.{AllMayCome-front, AllMayCome-back, Prints-after, Prints-failed}
use Rattle.jsonml_print.proofs.array.write_inside.Goals as goal

pub print_content-requires : goal.print_content-requires
print_content-requires g c =
    let k = content_view c.args.content.now in
    let may : AllMayCome c.opened-printer.result (content_calls k ++ end ∷ []) = subst (λ (p : Pen). AllMayCome p (content_calls k ++ end ∷ [])) (sym c.opened-printer.ensures) (array_may k) in
    AllMayCome-front c.opened-printer.result (content_calls k) (end ∷ []) may

pub end_elem-requires : goal.end_elem-requires
end_elem-requires g c =
    let k = content_view c.args.content.now in
    let may : AllMayCome c.opened-printer.result (content_calls k ++ end ∷ []) = subst (λ (p : Pen). AllMayCome p (content_calls k ++ end ∷ [])) (sym c.opened-printer.ensures) (array_may k) in
    (AllMayCome-back c.opened-printer.result c.print_content.new.printer (content_calls k) (end ∷ []) c.in_ok-print_content.ensures.prints.pen may).0

pub returns-in_err-print_content-clause-bytes : goal.returns-in_err-print_content-clause-bytes
returns-in_err-print_content-clause-bytes g c =
    let k = content_view c.args.content.now in
    let a = g.K.Sink.taken c.args.sink.now in
    let b = g.K.Sink.taken c.print_content.new.sink in
    let is : printed c.opened-printer.result (content_calls k ++ end ∷ []) ≡ drop 1 (content_text k) ++ 93 ∷ [] = ap (λ p. printed p (content_calls k ++ end ∷ [])) c.opened-printer.ensures ∙ array_printed k in
    subst (λ (l : List ℕ). Puts a b c.from_residual.result l) is
    (Prints-failed a b c.opened-printer.result c.print_content.new.printer (content_calls k) (end ∷ []) c.from_residual.result c.from_residual.ensures.0 c.in_err-print_content.ensures.prints.bytes).bytes

pub returns-clause-bytes : goal.returns-clause-bytes
returns-clause-bytes g c =
    let k = content_view c.args.content.now in
    let a = g.K.Sink.taken c.args.sink.now in
    let b = g.K.Sink.taken c.print_content.new.sink in
    let d = g.K.Sink.taken c.end_elem.new.sink in
    let is : printed c.opened-printer.result (content_calls k ++ end ∷ []) ≡ drop 1 (content_text k) ++ 93 ∷ [] = ap (λ p. printed p (content_calls k ++ end ∷ [])) c.opened-printer.ensures ∙ array_printed k in
    subst (λ (l : List ℕ). Puts a d c.end_elem.result l) is
    (Prints-after a b d c.opened-printer.result c.print_content.new.printer c.end_elem.new.self (content_calls k) (end ∷ []) c.end_elem.result c.in_ok-print_content.ensures.prints.bytes c.in_ok-print_content.ensures.prints.pen c.end_elem.ensures.prints).bytes
