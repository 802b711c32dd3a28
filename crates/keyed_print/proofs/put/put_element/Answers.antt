use Rattle.std.proofs.Common.{List, ℕ, subst, sym, ap, ◌∙◌}
use Rattle.xa_outside.specs.Taken.{Puts}
use Rattle.jsonml_print.specs.Pen.{Pen}
use Rattle.jsonml_print.specs.Calls.{AllMayCome, calls_of, printed}
use Rattle.jsonml_print.proofs.TreeWalk.{calls_may_come, calls_print}
use Rattle.keyed_tree.specs.Plain.{plain}
use Rattle.key_annotate.specs.LentView.{lent_view}
use Rattle.key_annotate.proofs.Insides.{plain-element}
use Rattle.keyed_print.proofs.put.put_element.Goals as goal

pub print_keyed-requires : goal.print_keyed-requires
print_keyed-requires g c =
    let t = plain (lent_view c.args.keyed.now) in
    subst (λ (p : Pen). AllMayCome p (calls_of t)) (sym c.new-printer.ensures) (calls_may_come t (plain-element (lent_view c.args.keyed.now)))

pub returns-clause-bytes : goal.returns-clause-bytes
returns-clause-bytes g c =
    let t = plain (lent_view c.args.keyed.now) in
    subst (λ (l : List ℕ). Puts (g.K.Sink.taken c.args.sink.now) (g.K.Sink.taken c.print_keyed.new.sink) c.print_keyed.result l)
    (ap (λ p. printed p (calls_of t)) c.new-printer.ensures ∙ calls_print t (plain-element (lent_view c.args.keyed.now))) c.print_keyed.ensures.prints.bytes
