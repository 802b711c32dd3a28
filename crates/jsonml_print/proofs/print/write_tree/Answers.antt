use Rattle.std.proofs.Common.{List, ℕ, subst, sym, ap, ◌∙◌}
use Rattle.xa_outside.specs.Taken.{Puts}
use Rattle.jsonml_tree.specs.View.{tree_view}
use Rattle.jsonml_print.specs.Pen.{Pen}
use Rattle.jsonml_print.specs.Calls.{AllMayCome, calls_of, printed}
use Rattle.jsonml_print.proofs.TreeWalk.{calls_may_come, calls_print}
use Rattle.jsonml_print.proofs.print.write_tree.Goals as goal

pub print_tree-requires : goal.print_tree-requires
print_tree-requires g c =
    let t = tree_view c.args.tree.now in
    subst (λ (p : Pen). AllMayCome p (calls_of t)) (sym c.new-printer.ensures) (calls_may_come t c.requires)

pub returns-clause-bytes : goal.returns-clause-bytes
returns-clause-bytes g c =
    let t = tree_view c.args.tree.now in
    subst (λ (l : List ℕ). Puts (g.K.Sink.taken c.args.sink.now) (g.K.Sink.taken c.print_tree.new.sink) c.print_tree.result l)
    (ap (λ p. printed p (calls_of t)) c.new-printer.ensures ∙ calls_print t c.requires) c.print_tree.ensures.prints.bytes
