use Rattle.std.proofs.Common.{List, take, sym, subst, arith}
use Rattle.std.proofs.lemmas.Grind.{common_steps}
use Rattle.key_spec.specs.Data.{PlainRule}
use Rattle.key_spec.specs.Marks.{HoldMarks}
use Rattle.key_spec.specs.View.{rules_view, rule_view}
use Rattle.key_spec.specs.declared.given.Given.{Given}
use Rattle.key_spec.proofs.MarkLemmas.{HoldMarks-more}
use Rattle.key_spec.proofs.Steps.{map-take}
use Rattle.key_spec.proofs.closing.read_marks.Goals as goal

pub loop-one-preserved : goal.loop-one-preserved
loop-one-preserved c =
    let given = c.args.given.now in
    let i = c.loop-one.one-index in
    let item = c.one-item.result in
    subst (λ (rules : List PlainRule). HoldMarks c.add_marks.new.marks rules) (sym (map-take (λ (g : Given). rule_view g.rule) given i item (omega arith) c.one-item.is))
    (HoldMarks-more c.loop-one.marks c.add_marks.new.marks (rules_view (take i given)) (rule_view item.rule) c.loop-one.invariant c.in_ok-add_marks.ensures)

pub returns : goal.returns
returns c = grind (arith, common_steps)

pub loop-one-init : goal.loop-one-init
loop-one-init c = grind (arith, common_steps)
