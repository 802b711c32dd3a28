-- The documents of the generator satisfy the company specification.
use Rattle.std.proofs.Common.{◌≡◌, ℕ, ◌+◌, ◌≤◌, Bool, true, false, List, [], ◌∷◌, ◌++◌, map, length, Some, refl, sym, ap, subst, ◌∙◌, arith, ◌*◌, lit<}
use Rattle.std.specs.Prelude.{IsTrue, codes, decimal, filter}
use Rattle.std.specs.List.{AllByRecursion, range_with_len}
use Rattle.std.proofs.lemmas.Bool.{le-leb}
use Rattle.std.proofs.lemmas.List.{length-map}
use Rattle.std.proofs.lemmas.List.Sums.{length-filter, count_by-le-length}
use Rattle.std.proofs.lemmas.List.FromFn.{length-range_with_len}
use Rattle.jsonml_tree.specs.Data.{PlainTree, text, element, content, PlainTrees, tree, trees_of, tree_depth}
use Rattle.jsonml_tree.specs.Fits.{IsElement, ItemsFit, content_items_fit}
use Rattle.jsonml_tree.specs.declared.limits.TheConstants.{GREATEST_DEPTH}
use Rattle.jsonml_tree.specs.WellFormed.{IsWellFormed}
use Rattle.jsonml_tree.proofs.Trees.{list_of-trees_of}
use Rattle.key_rules.specs.Reach.{children}
use Rattle.key_rules.specs.Satisfies.{ItemIsGood, item_label, TreeSatisfies, Satisfies}
use Rattle.xarch_gen.specs.Company.{company_rules, in_departments, in_employees}
use Rattle.xarch_gen.specs.Sample.{draw, is_present, salary, has_telephone, element_of, field, employees_of, department_of, sample_of}
use Rattle.xarch_gen.proofs.Rising.{rises-range}
use Rattle.xarch_gen.proofs.Items.{AllDiffer, HasOtherTag, apart, good, differ-tag, differ-made, each-made, satisfied, each-well_formed, each-fits, each-shallow}
use Rattle.xarch_gen.proofs.Labelled.{fn-label, ln-label, sal-label, tel-label, name-label, employee-label, employee-with, employee-labelled, department-label, no-names, one-employee, one-department}

-- ---- leaves are at the frontier

fn-ends : (s : List ℕ) → TreeSatisfies company_rules in_employees (field (codes "fn") s)
unfolding company_rules
fn-ends s = tt

ln-ends : (s : List ℕ) → TreeSatisfies company_rules in_employees (field (codes "ln") s)
unfolding company_rules
ln-ends s = tt

sal-ends : (s : List ℕ) → TreeSatisfies company_rules in_employees (field (codes "sal") s)
unfolding company_rules
sal-ends s = tt

tel-ends : (s : List ℕ) → TreeSatisfies company_rules in_employees (field (codes "tel") s)
unfolding company_rules
tel-ends s = tt

name-ends : (s : List ℕ) → TreeSatisfies company_rules in_departments (field (codes "name") s)
unfolding company_rules
name-ends s = tt

-- ---- employees

-- a field before items with other tags
differ-field : (t s : List ℕ) (us : List PlainTree) → AllByRecursion (HasOtherTag t) us → AllDiffer company_rules in_employees us → AllDiffer company_rules in_employees (field t s ∷ us)
differ-field t s us h d = differ-tag company_rules in_employees t (content [] (trees_of (text s ∷ []))) us h d

employee-fine : (e : ℕ) (pay : List ℕ) (has : Bool) (number : List ℕ) → TreeSatisfies company_rules in_departments (employee-with e pay has number)
employee-fine e pay true number =
    let a = codes "F" ++ decimal e in
    let b = codes "L" ++ decimal e in
    satisfied company_rules in_employees (field (codes "fn") a ∷ field (codes "ln") b ∷ field (codes "sal") pay ∷ field (codes "tel") number ∷ [])
    (good company_rules in_employees (field (codes "fn") a) _ (fn-label a), (good company_rules in_employees (field (codes "ln") b) _ (ln-label b), (good company_rules in_employees (field (codes "sal") pay) _ (sal-label pay), (good company_rules in_employees (field (codes "tel") number) _ (tel-label number), tt))))
    (differ-field (codes "fn") a (field (codes "ln") b ∷ field (codes "sal") pay ∷ field (codes "tel") number ∷ []) (refl, (refl, (refl, tt)))
    (differ-field (codes "ln") b (field (codes "sal") pay ∷ field (codes "tel") number ∷ []) (refl, (refl, tt))
    (differ-field (codes "sal") pay (field (codes "tel") number ∷ []) (refl, tt) (differ-field (codes "tel") number [] tt tt))))
    (fn-ends a, (ln-ends b, (sal-ends pay, (tel-ends number, tt))))
employee-fine e pay false number =
    let a = codes "F" ++ decimal e in
    let b = codes "L" ++ decimal e in
    satisfied company_rules in_employees (field (codes "fn") a ∷ field (codes "ln") b ∷ field (codes "sal") pay ∷ [])
    (good company_rules in_employees (field (codes "fn") a) _ (fn-label a), (good company_rules in_employees (field (codes "ln") b) _ (ln-label b), (good company_rules in_employees (field (codes "sal") pay) _ (sal-label pay), tt)))
    (differ-field (codes "fn") a (field (codes "ln") b ∷ field (codes "sal") pay ∷ []) (refl, (refl, tt))
    (differ-field (codes "ln") b (field (codes "sal") pay ∷ []) (refl, tt) (differ-field (codes "sal") pay [] tt tt)))
    (fn-ends a, (ln-ends b, (sal-ends pay, tt)))

employee-formed : (e : ℕ) (pay : List ℕ) (has : Bool) (number : List ℕ) → IsWellFormed (employee-with e pay has number)
employee-formed e pay true number = refl
employee-formed e pay false number = refl

employee-fits : (e : ℕ) (pay : List ℕ) (has : Bool) (number : List ℕ) → ItemsFit (employee-with e pay has number)
employee-fits e pay true number = refl
employee-fits e pay false number = refl

employee-depth : (e : ℕ) (pay : List ℕ) (has : Bool) (number : List ℕ) → tree_depth (employee-with e pay has number) ≤ 2
employee-depth e pay true number = omega arith
employee-depth e pay false number = omega arith

-- the employees of a department, in terms of their numbers
abbrev present : ℕ → ℕ → ℕ → List ℕ
present seed k d = filter (λ e. is_present k (draw seed d e)) (range_with_len 0 16)

abbrev made : ℕ → ℕ → ℕ → ℕ → PlainTree
made seed k d e = employee-with e (decimal (salary k (draw seed d e)) ++ codes "K") (has_telephone (draw seed d e)) (decimal (5550000 + 64 * d + e))

employees-made : (seed k d : ℕ) → employees_of seed k d ≡ map (made seed k d) (present seed k d)
unfolding employees_of
employees-made seed k d = refl

few-present : (seed k d : ℕ) → length (present seed k d) ≤ 16
few-present seed k d =
    let p = λ (e : ℕ). is_present k (draw seed d e) in
    omega (arith, length-filter p (range_with_len 0 16), count_by-le-length p (range_with_len 0 16), length-range_with_len 0 16)

-- ---- departments

-- a department with these employees
abbrev department-with : ℕ → List PlainTree → PlainTree
department-with d employees = element_of (codes "dept") (field (codes "name") (codes "D" ++ decimal d) ∷ employees)

department-made : (seed k d : ℕ) → department_of seed k d ≡ department-with d (map (made seed k d) (present seed k d))
unfolding department_of
department-made seed k d = ap (department-with d) (employees-made seed k d)

one-name : (d : ℕ) (ts : PlainTrees) → children (codes "name") ts ≡ []
    → item_label company_rules (codes "db" ∷ []) (element (codes "dept") (content [] (tree (field (codes "name") (codes "D" ++ decimal d)) ts))) ≡ Some (department-label d)
unfolding company_rules
one-name d ts e = rw e refl

department-labelled : (seed k d : ℕ) → item_label company_rules (codes "db" ∷ []) (department_of seed k d) ≡ Some (department-label d)
department-labelled seed k d =
    ap (item_label company_rules (codes "db" ∷ [])) (department-made seed k d)
    ∙ one-name d (trees_of (map (made seed k d) (present seed k d))) (no-names _ (present seed k d))

department-fine : (seed k d : ℕ) → TreeSatisfies company_rules (codes "db" ∷ []) (department_of seed k d)
department-fine seed k d =
    let es = present seed k d in
    let make = made seed k d in
    let name = codes "D" ++ decimal d in
    let a = λ (e : ℕ). draw seed d e in
    let labelled = λ (e : ℕ). employee-labelled e (decimal (salary k (a e)) ++ codes "K") (has_telephone (a e)) (decimal (5550000 + 64 * d + e)) in
    let fine = λ (e : ℕ). employee-fine e (decimal (salary k (a e)) ++ codes "K") (has_telephone (a e)) (decimal (5550000 + 64 * d + e)) in
    let differ : AllDiffer company_rules in_departments (map make es) =
    differ-made company_rules in_departments make employee-label labelled one-employee 0 es (rises-range (λ e. is_present k (a e)) 0 16 (lit< tt)) in
    subst (TreeSatisfies company_rules (codes "db" ∷ [])) (sym (department-made seed k d))
    (satisfied company_rules in_departments (field (codes "name") name ∷ map make es)
    (good company_rules in_departments (field (codes "name") name) _ (name-label name), each-made (ItemIsGood company_rules in_departments) make (λ e. good company_rules in_departments (make e) _ (labelled e)) es)
    (differ-tag company_rules in_departments (codes "name") (content [] (trees_of (text name ∷ []))) (map make es) (each-made (HasOtherTag (codes "name")) make (λ e. refl) es) differ)
    (name-ends name, each-made (TreeSatisfies company_rules in_departments) make fine es))

department-formed : (seed k d : ℕ) → IsWellFormed (department_of seed k d)
department-formed seed k d =
    let a = λ (e : ℕ). draw seed d e in
    let es = present seed k d in
    let formed = λ (e : ℕ). employee-formed e (decimal (salary k (a e)) ++ codes "K") (has_telephone (a e)) (decimal (5550000 + 64 * d + e)) in
    subst IsWellFormed (sym (department-made seed k d))
    (each-well_formed (field (codes "name") (codes "D" ++ decimal d) ∷ map (made seed k d) es) (refl, each-made IsWellFormed (made seed k d) formed es))

-- an element with few items
fits-with : (ts : List PlainTree) → length ts ≤ 4294967295 → AllByRecursion ItemsFit ts → IsTrue (content_items_fit (content [] (trees_of ts)))
fits-with ts few h =
    let count = le-leb (length ts) 4294967295 few in
    let all = each-fits ts h in
    rw (list_of-trees_of ts, count) all

department-fits : (seed k d : ℕ) → ItemsFit (department_of seed k d)
department-fits seed k d =
    let a = λ (e : ℕ). draw seed d e in
    let es = present seed k d in
    let fit = λ (e : ℕ). employee-fits e (decimal (salary k (a e)) ++ codes "K") (has_telephone (a e)) (decimal (5550000 + 64 * d + e)) in
    subst ItemsFit (sym (department-made seed k d))
    (fits-with (field (codes "name") (codes "D" ++ decimal d) ∷ map (made seed k d) es) (omega (arith, length-map es (made seed k d), few-present seed k d)) (refl, each-made ItemsFit (made seed k d) fit es))

department-depth : (seed k d : ℕ) → tree_depth (department_of seed k d) ≤ 3
department-depth seed k d =
    let a = λ (e : ℕ). draw seed d e in
    let es = present seed k d in
    let P : PlainTree → Type 0 = λ t. tree_depth t ≤ 2 in
    let Q : PlainTree → Type 0 = λ t. tree_depth t ≤ 3 in
    let shallow = λ (e : ℕ). employee-depth e (decimal (salary k (a e)) ++ codes "K") (has_telephone (a e)) (decimal (5550000 + 64 * d + e)) in
    let inside = each-shallow 2 (field (codes "name") (codes "D" ++ decimal d) ∷ map (made seed k d) es) (omega arith, each-made P (made seed k d) shallow es) in
    subst Q (sym (department-made seed k d)) (omega arith)

-- ---- documents

pub sample-satisfies : (seed k : ℕ) → Satisfies company_rules (sample_of seed k)
unfolding sample_of company_rules
sample-satisfies seed k =
    let rules = company_rules in
    let ds = range_with_len 0 4 in
    let make = department_of seed k in
    let differ : AllDiffer rules (codes "db" ∷ []) (map make ds) =
    differ-made rules (codes "db" ∷ []) make department-label (department-labelled seed k) one-department 0 ds (rises-range (λ _. true) 0 4 (lit< tt)) in
    record {
      good = (refl, tt);
      apart = apart rules [] (sample_of seed k ∷ []) (λ l e. tt, tt);
      inside = satisfied rules (codes "db" ∷ []) (map make ds)
          (each-made (ItemIsGood rules (codes "db" ∷ [])) make (λ d. good rules (codes "db" ∷ []) (make d) _ (department-labelled seed k d)) ds)
          differ
          (each-made (TreeSatisfies rules (codes "db" ∷ [])) make (department-fine seed k) ds);
    }

pub sample-element : (seed k : ℕ) → IsElement (sample_of seed k)
unfolding sample_of
sample-element seed k = refl

pub sample-formed : (seed k : ℕ) → IsWellFormed (sample_of seed k)
unfolding sample_of
sample-formed seed k = each-well_formed (map (department_of seed k) (range_with_len 0 4)) (each-made IsWellFormed (department_of seed k) (department-formed seed k) (range_with_len 0 4))

pub sample-fits : (seed k : ℕ) → ItemsFit (sample_of seed k)
unfolding sample_of
sample-fits seed k = fits-with (map (department_of seed k) (range_with_len 0 4)) (omega arith) (each-made ItemsFit (department_of seed k) (department-fits seed k) (range_with_len 0 4))

pub sample-depth : (seed k : ℕ) → tree_depth (sample_of seed k) ≤ GREATEST_DEPTH
unfolding sample_of
sample-depth seed k =
    let P : PlainTree → Type 0 = λ t. tree_depth t ≤ 3 in
    let inside = each-shallow 3 (map (department_of seed k) (range_with_len 0 4)) (each-made P (department_of seed k) (department-depth seed k) (range_with_len 0 4)) in
    omega arith
