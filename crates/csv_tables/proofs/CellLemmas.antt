-- The attributes of a row by the names of its columns.
use Rattle.std.proofs.Common.{◌≡◌, ℕ, Bool, true, false, cond, ◌||◌, List, [], ◌∷◌, ◌++◌, length, Option, Some, None, find, option_map, refl, ap, sym, ◌∙◌, subst, arith, bytes_eq}
use Rattle.std.proofs.lemmas.Bool.{true≢false, or_parts, or_from}
use Rattle.std.proofs.lemmas.Cmp.{tied_itself, nat_list_cmp_total}
use Rattle.std.specs.List.{AllByRecursion}
use Rattle.std.specs.Option.{option_or}
use Rattle.std.specs.declared.cmp.Ordering.TheVariants.{Equal}
use Rattle.jsonml_tree.specs.Data.{PlainAttr, string}
use Rattle.jsonml_tree.specs.Order.{text_cmp}
use Rattle.key_rules.specs.Reach.{scalar_named}
use Rattle.csv_tables.specs.Documents.{cells, name_cmp, row_attrs}
use Rattle.csv_tables.specs.Keys.{cell}
use Rattle.csv_tables.specs.Records.{has_field, repeats}
use Rattle.csv_tables.proofs.PutLemmas.{IsTest, FewPass, find-put_all}
use Rattle.csv_tables.proofs.TextLemmas.{bytes-same, bytes-turn, cmp-same}

-- ---- names that are all different

abbrev pub Different : List (List ℕ) → Type 0
Different [] = Unit {0}
Different (x ∷ xs) = (has_field xs x ≡ false) × Different xs

has-last : (earlier : List (List ℕ)) (x y : List ℕ) → has_field (earlier ++ x ∷ []) y ≡ false → (has_field earlier y ≡ false) × (bytes_eq y x ≡ false)
has-last [] x y e = (refl, (or_parts (bytes_eq y x) false e).0)
has-last (z ∷ earlier) x y e =
    let p = or_parts (bytes_eq y z) (has_field (earlier ++ x ∷ []) y) e in
    let q = has-last earlier x y p.1 in
    (or_from (bytes_eq y z) (has_field earlier y) p.0 q.0, q.1)

none-is : (x : List ℕ) (xs : List (List ℕ)) → AllByRecursion (λ y. bytes_eq y x ≡ false) xs → has_field xs x ≡ false
none-is x [] h = refl
none-is x (y ∷ xs) h = or_from (bytes_eq x y) (has_field xs x) (bytes-turn x y ∙ h.0) (none-is x xs h.1)

record Apart (earlier xs : List (List ℕ)) : Type 0 where
  others : AllByRecursion (λ y. has_field earlier y ≡ false) xs
  different : Different xs

last-all : (earlier : List (List ℕ)) (x : List ℕ) (xs : List (List ℕ)) → AllByRecursion (λ y. has_field (earlier ++ x ∷ []) y ≡ false) xs
    → AllByRecursion (λ y. has_field earlier y ≡ false) xs × AllByRecursion (λ y. bytes_eq y x ≡ false) xs
last-all earlier x [] h = (tt, tt)
last-all earlier x (y ∷ xs) h = (let one = has-last earlier x y h.0 in let more = last-all earlier x xs h.1 in ((one.0, more.0), (one.1, more.1)))

apart : (earlier xs : List (List ℕ)) → repeats earlier xs ≡ false → Apart earlier xs
apart earlier [] e = record { others = tt; different = tt }
apart earlier (x ∷ xs) e =
    let p = or_parts (has_field earlier x) (repeats (earlier ++ x ∷ []) xs) e in
    let more = apart (earlier ++ x ∷ []) xs p.1 in
    let both = last-all earlier x xs more.others in
    record { others = (p.0, both.0); different = (none-is x xs both.1, more.different) }

pub all-different : (xs : List (List ℕ)) → repeats [] xs ≡ false → Different xs
all-different xs e = (apart [] xs e).different

-- ---- an attribute by its name

abbrev pub named : List ℕ → PlainAttr → Bool
named name a = bytes_eq a.name name

pub named-test : (name : List ℕ) → IsTest name_cmp (named name)
named-test name c x e = ap (λ n. bytes_eq n name) (sym (cmp-same c.name x.name e))

named-one : (name : List ℕ) (c x : PlainAttr) → named name c ≡ true → named name x ≡ true → name_cmp c x ≡ Equal
named-one name c x e f =
    let same : c.name ≡ x.name = bytes-same c.name name e ∙ sym (bytes-same x.name name f) in
    ap (λ n. text_cmp n x.name) same ∙ tied_itself nat_list_cmp_total x.name

none-named : (names fields : List (List ℕ)) (name : List ℕ) → has_field names name ≡ false → find (named name) (cells names fields) ≡ None
none-named [] fields name e = refl
none-named (x ∷ names) [] name e = refl
none-named (x ∷ names) (f ∷ fields) name e =
    let p = or_parts (bytes_eq name x) (has_field names name) e in
    rw (bytes-turn x name ∙ p.0) (none-named names fields name p.1)

few-named : (names fields : List (List ℕ)) (name : List ℕ) → Different names → FewPass name_cmp (named name) (named-test name) (named-one name) (cells names fields)
few-named [] fields name d = tt
few-named (x ∷ names) [] name d = tt
few-named (x ∷ names) (f ∷ fields) name d =
    ((λ e. none-named names fields name (subst (λ n. has_field names n ≡ false) (bytes-same x name e) d.0)), few-named names fields name d.1)

cell-named : (names fields : List (List ℕ)) (name : List ℕ) → length fields ≡ length names → has_field names name ≡ true
    → option_map (λ (a : PlainAttr). a.value) (find (named name) (cells names fields)) ≡ Some (string (cell names fields name))
cell-named [] fields name len e = absurd (true≢false (sym e))
cell-named (x ∷ names) [] name len e = absurd (omega (arith, len))
cell-named (x ∷ names) (f ∷ fields) name len e = at (bytes_eq x name) refl (cell-named names fields name (omega (arith, len)))
  where
    at : (b : Bool) → bytes_eq x name ≡ b → (has_field names name ≡ true → option_map (λ (a : PlainAttr). a.value) (find (named name) (cells names fields)) ≡ Some (string (cell names fields name)))
        → option_map (λ (a : PlainAttr). a.value) (cond b (Some (record { name = x; value = string f })) (find (named name) (cells names fields))) ≡ Some (string (cond b f (cell names fields name)))
    at true q more = refl
    at false q more = more (rest (bytes_eq name x) (has_field names name) (bytes-turn name x ∙ q) e)
      where
        rest : (a b : Bool) → a ≡ false → (a || b) ≡ true → b ≡ true
        rest true b g h = absurd (true≢false g)
        rest false b g h = h

-- the value of an attribute of a row is the field in its column
pub row-named : (names fields : List (List ℕ)) (name : List ℕ) → Different names → length fields ≡ length names → has_field names name ≡ true
    → scalar_named name (row_attrs names fields) ≡ Some (string (cell names fields name))
row-named names fields name d len e =
    ap (option_map (λ (a : PlainAttr). a.value)) (find-put_all name_cmp (named name) (named-test name) (named-one name) [] (cells names fields) (few-named names fields name d) ∙ no_more (find (named name) (cells names fields)))
    ∙ cell-named names fields name len e
  where
    no_more : (o : Option PlainAttr) → option_or o None ≡ o
    no_more None = refl
    no_more (Some a) = refl
