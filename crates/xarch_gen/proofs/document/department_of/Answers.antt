use Rattle.std.proofs.Common.{◌≡◌, List, ◌++◌, ◌∷◌, [], map, codes, decimal, sym, ap, subst, ◌∙◌, IfOk, Vec, arith}
use Rattle.std.specs.declared.alloc.Global.{Global}
use Rattle.jsonml_tree.specs.declared.tree.Tree.{Tree}
use Rattle.jsonml_tree.specs.Data.{PlainTree}
use Rattle.jsonml_tree.specs.View.{tree_view}
use Rattle.xarch_gen.specs.Sample.{field}
use Rattle.xarch_gen.proofs.Made.{employees-none, employees-kept, employees-joined, department-whole, pushed}
use Rattle.xarch_gen.proofs.document.department_of.Goals as goal
use Rattle.xarch_gen.proofs.document.department_of.Goals.{then-is_present+in_ok-employee_of+in_ok-push, else-is_present}

pub loop-employee-init : goal.loop-employee-init
loop-employee-init c =
    let first = field (codes "name") (codes "D" ++ decimal c.args.department) in
    ap (map tree_view) c.in_ok-items.ensures.items
    ∙ ap (λ (t : PlainTree). t ∷ []) (c.in_ok-field.ensures ∙ ap (field (codes "name")) c.in_ok-name.ensures)
    ∙ ap (λ (ts : List PlainTree). first ∷ ts) (sym (employees-none c.args.seed c.args.document c.args.department))

pub loop-employee-preserved : goal.loop-employee-preserved
loop-employee-preserved c =
    let first = field (codes "name") (codes "D" ++ decimal c.args.department) in
    let old = c.loop-employee in
    let drawn = c.draw-drawn.ensures.draw in
    elim c.if-is_present.branch [
      | then-is_present+in_ok-employee_of+in_ok-push w ↦
          ap (λ (v : Vec Tree Global). map tree_view v.items) w.items-is
          ∙ pushed old.items.items w.push.new.self.items w.in_ok-employee_of.field-0 _ w.in_ok-push.ensures.items w.in_ok-employee_of.ensures
          ∙ employees-joined c.args.seed c.args.document c.args.department old.employee c.draw-drawn.result first (map tree_view old.items.items) drawn (sym c.is_present.ensures ∙ w.if-is_present.true) old.invariant
      | else-is_present w ↦
          ap (λ (v : Vec Tree Global). map tree_view v.items) w.items-is
          ∙ employees-kept c.args.seed c.args.document c.args.department old.employee c.draw-drawn.result first (map tree_view old.items.items) drawn (sym c.is_present.ensures ∙ w.if-is_present.false) old.invariant
    ]

pub returns : goal.returns
returns c =
    let last : c.loop-employee.employee ≡ 16 = omega arith in
    let whole = department-whole c.args.seed c.args.document c.args.department c.loop-employee.employee (map tree_view c.loop-employee.items.items) last c.loop-employee.invariant in
    subst (λ (s : PlainTree). IfOk c.element.result (λ t. tree_view t ≡ s)) whole c.element.ensures
