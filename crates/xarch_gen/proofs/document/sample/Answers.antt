use Rattle.std.proofs.Common.{◌≡◌, ◌≤◌, List, ◌++◌, ◌∷◌, [], map, sym, ap, subst, ◌∙◌, IfOk, arith}
use Rattle.jsonml_tree.specs.Data.{PlainTree, tree_depth}
use Rattle.jsonml_tree.specs.Fits.{IsElement, ItemsFit}
use Rattle.jsonml_tree.specs.View.{tree_view}
use Rattle.jsonml_tree.specs.WellFormed.{IsWellFormed}
use Rattle.jsonml_tree.specs.declared.limits.TheConstants.{GREATEST_DEPTH}
use Rattle.key_rules.specs.Satisfies.{Satisfies}
use Rattle.xarch_gen.specs.Company.{company_rules}
use Rattle.xarch_gen.specs.Sample.{department_of, sample_of}
use Rattle.xarch_gen.proofs.Made.{departments-none, departments-more, sample-whole, holds-of-view, pushed}
use Rattle.xarch_gen.proofs.Samples.{sample-satisfies, sample-element, sample-formed, sample-fits, sample-depth}
use Rattle.xarch_gen.proofs.document.sample.Goals as goal

pub loop-department-init : goal.loop-department-init
loop-department-init c = ap (map tree_view) c.in_ok-departments.ensures.items ∙ sym (departments-none c.args.seed c.args.document)

pub loop-department-preserved : goal.loop-department-preserved
loop-department-preserved c =
    let old = c.loop-department in
    let next = department_of c.args.seed c.args.document old.department in
    pushed old.departments.items c.push.new.self.items c.in_ok-department_of.field-0 next c.in_ok-push.ensures.items c.in_ok-department_of.ensures
    ∙ ap (λ (ts : List PlainTree). ts ++ next ∷ []) old.invariant
    ∙ sym (departments-more c.args.seed c.args.document old.department)

pub returns : goal.returns
returns c =
    let seed = c.args.seed in
    let k = c.args.document in
    let last : c.loop-department.department ≡ 4 = omega arith in
    let whole = sample-whole seed k c.loop-department.department (map tree_view c.loop-department.departments.items) last c.loop-department.invariant in
    let document : IfOk c.element.result (λ t. tree_view t ≡ sample_of seed k) = subst (λ (s : PlainTree). IfOk c.element.result (λ t. tree_view t ≡ s)) whole c.element.ensures in
    record {
      document = document;
      satisfies = holds-of-view (Satisfies company_rules) (sample_of seed k) c.element.result (sample-satisfies seed k) document;
      element = holds-of-view IsElement (sample_of seed k) c.element.result (sample-element seed k) document;
      items_fit = holds-of-view ItemsFit (sample_of seed k) c.element.result (sample-fits seed k) document;
      well_formed = holds-of-view IsWellFormed (sample_of seed k) c.element.result (sample-formed seed k) document;
      shallow = holds-of-view (λ t. tree_depth t ≤ GREATEST_DEPTH) (sample_of seed k) c.element.result (sample-depth seed k) document;
    }
