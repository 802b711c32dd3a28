-- The labels of departments and employees under the company specification.
use Rattle.std.proofs.Common.{◌≡◌, ℕ, ◌<◌, ◌^◌, Bool, true, false, cond, List, [], ◌∷◌, ◌++◌, map, Some, refl, ap}
use Rattle.std.specs.Prelude.{codes, decimal}
use Rattle.std.proofs.lemmas.Fmt.{decimal_injective}
use Rattle.jsonml_tree.specs.Data.{PlainTree, text, element, PlainContent, content, no_trees, tree, trees_of}
use Rattle.keyed_tree.specs.Data.{PlainKey, inside, PlainLabel, tag}
use Rattle.key_rules.specs.Reach.{children}
use Rattle.key_rules.specs.Satisfies.{item_label}
use Rattle.xarch_gen.specs.Company.{company_rules, in_departments, in_employees}
use Rattle.xarch_gen.specs.Sample.{element_of, field}

-- the content of one text, as a key value
abbrev pub words : List ℕ → PlainKey
words s = inside (content [] (tree (text s) no_trees))

abbrev pub bare : List ℕ → PlainLabel
bare name = record { name = tag name; keys = [] }

-- ---- the items of an employee

pub fn-label : (s : List ℕ) → item_label company_rules in_employees (field (codes "fn") s) ≡ Some (bare (codes "fn"))
unfolding company_rules
fn-label s = refl

pub ln-label : (s : List ℕ) → item_label company_rules in_employees (field (codes "ln") s) ≡ Some (bare (codes "ln"))
unfolding company_rules
ln-label s = refl

pub sal-label : (s : List ℕ) → item_label company_rules in_employees (field (codes "sal") s) ≡ Some (bare (codes "sal"))
unfolding company_rules
sal-label s = refl

abbrev pub tel-of : List ℕ → PlainLabel
tel-of s = record { name = tag (codes "tel"); keys = words s ∷ [] }

pub tel-label : (s : List ℕ) → item_label company_rules in_employees (field (codes "tel") s) ≡ Some (tel-of s)
unfolding company_rules
tel-label s = refl

-- ---- the items of a department

pub name-label : (s : List ℕ) → item_label company_rules in_departments (field (codes "name") s) ≡ Some (bare (codes "name"))
unfolding company_rules
name-label s = refl

abbrev pub employee-label : ℕ → PlainLabel
employee-label e = record { name = tag (codes "emp"); keys = words (codes "F" ++ decimal e) ∷ words (codes "L" ++ decimal e) ∷ [] }

-- an employee with a telephone or without one
abbrev pub employee-with : ℕ → List ℕ → Bool → List ℕ → PlainTree
employee-with e pay has number =
    element_of (codes "emp") (field (codes "fn") (codes "F" ++ decimal e) ∷ field (codes "ln") (codes "L" ++ decimal e) ∷ field (codes "sal") pay ∷ cond has (field (codes "tel") number ∷ []) [])

pub employee-labelled : (e : ℕ) (pay : List ℕ) (has : Bool) (number : List ℕ) → item_label company_rules in_departments (employee-with e pay has number) ≡ Some (employee-label e)
unfolding company_rules
employee-labelled e pay true number = refl
employee-labelled e pay false number = refl

-- ---- departments

abbrev pub department-label : ℕ → PlainLabel
department-label d = record { name = tag (codes "dept"); keys = words (codes "D" ++ decimal d) ∷ [] }

-- employees have no name of their own
pub no-names : (inner : ℕ → PlainContent) (es : List ℕ) → children (codes "name") (trees_of (map (λ e. element (codes "emp") (inner e)) es)) ≡ []
no-names inner [] = refl
no-names inner (e ∷ es) = no-names inner es

-- ---- one number for one label

pub one-employee : (d e : ℕ) → d < 2 ^ 64 → e < 2 ^ 64 → employee-label d ≡ employee-label e → d ≡ e
one-employee d e small less p =
    let keys = ap (λ (l : PlainLabel). l.keys) p in
    let same : decimal d ≡ decimal e = cc in
    decimal_injective d e small less same

pub one-department : (d e : ℕ) → d < 2 ^ 64 → e < 2 ^ 64 → department-label d ≡ department-label e → d ≡ e
one-department d e small less p =
    let keys = ap (λ (l : PlainLabel). l.keys) p in
    let same : decimal d ≡ decimal e = cc in
    decimal_injective d e small less same
