use Rattle.std.proofs.lemmas.Grind.{common_steps}
use Rattle.std.proofs.Common.{ap, arith}
use Rattle.record_format.specs.ShownViews.{shown}
use Rattle.record_format.specs.declared.views.View.{View}
use Rattle.record_cursor.specs.Items.{item_of}
use Rattle.record_cursor.proofs.Comes.{parts-is}
use Rattle.record_cursor.proofs.SpelledLaws.{parts-lent}
use Rattle.record_cursor.proofs.item.lend_parts.Goals as goal

pub returns-in-Inner-clause-is : goal.returns-in-Inner-clause-is
returns-in-Inner-clause-is c = (
    let r = shown c.in_ok-label.field-0 in
    let p = parts-is c.args.kind c.args.body.now r (λ i. omega (arith, c.type_inv.body i)) c.in_ok-label.ensures in
    (r, ap (λ (v : View). item_of (shown v)) c.in-Inner.is, p.0, p.1, p.2))

pub returns-in-Leaf-clause-is : goal.returns-in-Leaf-clause-is
returns-in-Leaf-clause-is c = (
    let r = shown c.in_ok-label.field-0 in
    let p = parts-is c.args.kind c.args.body.now r (λ i. omega (arith, c.type_inv.body i)) c.in_ok-label.ensures in
    (r, ap (λ (v : View). item_of (shown v)) c.in-Leaf.is, p.0, p.1, p.2))

pub returns-in-Alt-clause-is : goal.returns-in-Alt-clause-is
returns-in-Alt-clause-is c = (
    let r = shown c.in_ok-label.field-0 in
    let p = parts-is c.args.kind c.args.body.now r (λ i. omega (arith, c.type_inv.body i)) c.in_ok-label.ensures in
    (r, ap (λ (v : View). item_of (shown v)) c.in-Alt.is, p.0, p.1, p.2))

pub returns-in-Inner-clause-spelled : goal.returns-in-Inner-clause-spelled
returns-in-Inner-clause-spelled c =
    parts-lent c.args.kind c.args.body.now (shown c.in_ok-label.field-0) _ (λ i. omega (arith, c.type_inv.body i)) (omega arith) (ap (λ (v : View). item_of (shown v)) c.in-Inner.is) c.in_ok-label.ensures

pub returns-in-Leaf-clause-spelled : goal.returns-in-Leaf-clause-spelled
returns-in-Leaf-clause-spelled c =
    parts-lent c.args.kind c.args.body.now (shown c.in_ok-label.field-0) _ (λ i. omega (arith, c.type_inv.body i)) (omega arith) (ap (λ (v : View). item_of (shown v)) c.in-Leaf.is) c.in_ok-label.ensures

pub returns-in-Alt-clause-spelled : goal.returns-in-Alt-clause-spelled
returns-in-Alt-clause-spelled c =
    parts-lent c.args.kind c.args.body.now (shown c.in_ok-label.field-0) _ (λ i. omega (arith, c.type_inv.body i)) (omega arith) (ap (λ (v : View). item_of (shown v)) c.in-Alt.is) c.in_ok-label.ensures

pub returns-in-Inner-clause-found : goal.returns-in-Inner-clause-found
returns-in-Inner-clause-found c = grind (arith, common_steps)

pub returns-in-Leaf-clause-found : goal.returns-in-Leaf-clause-found
returns-in-Leaf-clause-found c = grind (arith, common_steps)

pub returns-in-Alt-clause-found : goal.returns-in-Alt-clause-found
returns-in-Alt-clause-found c = grind (arith, common_steps)
