-- The company specification: departments by their names, and in each its employees by first and last name.
use Rattle.std.specs.Prelude.{ℕ, List, [], ◌∷◌, ◌++◌, None, codes, flat_map}
use Rattle.key_spec.specs.Data.{PlainPath, PlainRule}

-- the key path of one tag
abbrev pub tag_path : List ℕ → PlainPath
tag_path tag = record { tags = tag ∷ []; attr = None }

-- the key path `.`
abbrev pub own_content : PlainPath
own_content = record { tags = []; attr = None }

abbrev pub rule_at : List (List ℕ) → List ℕ → List PlainPath → PlainRule
rule_at context tag paths = record { context = context; tag = tag; paths = paths }

abbrev pub in_departments : List (List ℕ)
in_departments = codes "db" ∷ codes "dept" ∷ []

abbrev pub in_employees : List (List ℕ)
in_employees = codes "db" ∷ codes "dept" ∷ codes "emp" ∷ []

-- a department has one name, an employee one first name, one last name and one salary, and any number of telephones
unfoldable pub company_rules : List PlainRule
company_rules =
    rule_at [] (codes "db") [] ∷
    rule_at (codes "db" ∷ []) (codes "dept") (tag_path (codes "name") ∷ []) ∷
    rule_at in_departments (codes "emp") (tag_path (codes "fn") ∷ tag_path (codes "ln") ∷ []) ∷
    rule_at in_departments (codes "name") [] ∷
    rule_at in_employees (codes "fn") [] ∷
    rule_at in_employees (codes "ln") [] ∷
    rule_at in_employees (codes "sal") [] ∷
    rule_at in_employees (codes "tel") (own_content ∷ []) ∷
    []

-- its canonical text
unfoldable pub company_text : List ℕ
company_text =
    flat_map (λ line. line ++ 10 ∷ [])
    (codes "(/, (db, {}))" ∷
    codes "(/db, (dept, {name}))" ∷
    codes "(/db/dept, (emp, {fn, ln}))" ∷
    codes "(/db/dept, (name, {}))" ∷
    codes "(/db/dept/emp, (fn, {}))" ∷
    codes "(/db/dept/emp, (ln, {}))" ∷
    codes "(/db/dept/emp, (sal, {}))" ∷
    codes "(/db/dept/emp, (tel, {.}))" ∷
    [])
