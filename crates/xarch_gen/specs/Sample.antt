-- The documents of the generator: in each some of 64 possible employees, drawn by a number.
use Rattle.std.specs.Prelude.{ℕ, ◌+◌, ◌*◌, ◌/◌, ◌%◌, ◌^◌, Bool, not, ◌==◌, List, [], ◌∷◌, ◌++◌, map, filter, if◌then◌else◌, codes, decimal}
use Rattle.std.specs.List.{range_with_len}
use Rattle.jsonml_tree.specs.Data.{PlainTree, text, element, content, trees_of}

-- ---- numbers

-- the number that follows
abbrev pub next : ℕ → ℕ
next x = (1103515245 * x + 12345) % 2 ^ 31

-- the number that is drawn for employee e of department d
unfoldable pub draw : ℕ → ℕ → ℕ → ℕ
draw seed d e = next (next ((seed + 64 * d + e) % 2 ^ 31))

-- what the drawn number a says of an employee: an employee is absent from each eighth document
abbrev pub phase : ℕ → ℕ
phase a = a / 65536 % 8

abbrev pub is_present : ℕ → ℕ → Bool
is_present k a = not ((k + phase a) % 8 == 0)

-- in thousands; it rises every 16 documents
abbrev pub salary : ℕ → ℕ → ℕ
salary k a = 30 + a / 1024 % 20 + (k + phase a) / 16

abbrev pub has_telephone : ℕ → Bool
has_telephone a = phase a % 2 == 0

-- ---- elements

-- an element without attributes
abbrev pub element_of : List ℕ → List PlainTree → PlainTree
element_of tag items = element tag (content [] (trees_of items))

-- an element with one text
abbrev pub field : List ℕ → List ℕ → PlainTree
field tag value = element_of tag (text value ∷ [])

abbrev pub telephone : ℕ → ℕ → ℕ → List PlainTree
telephone a d e = if has_telephone a then field (codes "tel") (decimal (5550000 + 64 * d + e)) ∷ [] else []

-- employee e of department d in document k, where a is the number drawn
abbrev pub employee_of : ℕ → ℕ → ℕ → ℕ → PlainTree
employee_of k a d e =
    element_of (codes "emp")
    (field (codes "fn") (codes "F" ++ decimal e) ∷ field (codes "ln") (codes "L" ++ decimal e) ∷ field (codes "sal") (decimal (salary k a) ++ codes "K") ∷ telephone a d e)

-- the employees of department d that are in document k, in the order of their numbers
unfoldable pub employees_of : ℕ → ℕ → ℕ → List PlainTree
employees_of seed k d = map (λ e. employee_of k (draw seed d e) d e) (filter (λ e. is_present k (draw seed d e)) (range_with_len 0 16))

unfoldable pub department_of : ℕ → ℕ → ℕ → PlainTree
department_of seed k d = element_of (codes "dept") (field (codes "name") (codes "D" ++ decimal d) ∷ employees_of seed k d)

-- document k of a seed
unfoldable pub sample_of : ℕ → ℕ → PlainTree
sample_of seed k = element_of (codes "db") (map (department_of seed k) (range_with_len 0 4))
