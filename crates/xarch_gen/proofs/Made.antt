-- How the generator's trees are made.
use Rattle.std.proofs.Common.{◌≡◌, ℕ, ◌+◌, cond, Bool, true, false, List, [], ◌∷◌, ◌++◌, map, Result, Ok, Err, refl, sym, ap, subst, ◌∙◌, arith}
use Rattle.std.specs.Prelude.{String, string_bytes, filter, codes, decimal, IfOk}
use Rattle.std.specs.List.{range_with_len}
use Rattle.std.specs.declared.alloc.Global.{Global}
use Rattle.std.specs.declared.alloc.AllocError.{AllocError}
use Rattle.std.proofs.lemmas.List.{append-nil, map-append, map-id}
use Rattle.std.proofs.lemmas.List.Elements.{filter-append}
use Rattle.std.proofs.lemmas.List.FromFn.{map-range_with_len_more}
use Rattle.jsonml_tree.specs.Data.{PlainTree, element, content, trees_of}
use Rattle.jsonml_tree.specs.View.{attr_view, tree_view}
use Rattle.jsonml_tree.specs.declared.tree.Content.{Content}
use Rattle.jsonml_tree.specs.declared.tree.Tree.{Tree}
use Rattle.jsonml_tree.specs.declared.tree.Tree.TheVariants.{Elem}
use Rattle.jsonml_tree.proofs.Trees.{tree_view-Elem, content_view-is}
use Rattle.xarch_gen.specs.Sample.{draw, is_present, element_of, field, employee_of, employees_of, department_of, sample_of}

pub element-made : (tag : String Global) (c : Content) (bytes : List ℕ) (items : List Tree) → string_bytes tag ≡ bytes → c.attrs.items ≡ [] → c.items.items ≡ items → tree_view (Elem tag c) ≡ element_of bytes (map tree_view items)
element-made tag c bytes items t a i =
    tree_view-Elem tag c ∙ ap (element (string_bytes tag)) (content_view-is c) ∙ (λ j. element (t j) (content (map attr_view (a j)) (trees_of (map tree_view (i j)))))

-- the first n of the numbers
numbers-more : (n : ℕ) → range_with_len 0 (n + 1) ≡ range_with_len 0 n ++ n ∷ []
numbers-more n = sym (map-id (range_with_len 0 (n + 1))) ∙ map-range_with_len_more (λ (e : ℕ). e) 0 n n (omega arith) ∙ ap (λ (es : List ℕ). es ++ n ∷ []) (map-id (range_with_len 0 n))

-- those of a department's first n employees that are in the document
unfoldable pub employees_below : ℕ → ℕ → ℕ → ℕ → List PlainTree
employees_below seed k d n = map (λ e. employee_of k (draw seed d e) d e) (filter (λ e. is_present k (draw seed d e)) (range_with_len 0 n))

pub employees-none : (seed k d : ℕ) → employees_below seed k d 0 ≡ []
unfolding employees_below
employees-none seed k d = refl

map-if : (f : ℕ → PlainTree) (b : Bool) (e : ℕ) → map f (cond b (e ∷ []) []) ≡ cond b (f e ∷ []) []
map-if f true e = refl
map-if f false e = refl

pub employees-more : (seed k d n : ℕ) → employees_below seed k d (n + 1) ≡ employees_below seed k d n ++ cond (is_present k (draw seed d n)) (employee_of k (draw seed d n) d n ∷ []) []
unfolding employees_below
employees-more seed k d n =
    let f = λ (e : ℕ). employee_of k (draw seed d e) d e in
    let p = λ (e : ℕ). is_present k (draw seed d e) in
    ap (λ (es : List ℕ). map f (filter p es)) (numbers-more n)
    ∙ ap (map f) (filter-append p (range_with_len 0 n) (n ∷ []))
    ∙ map-append f (filter p (range_with_len 0 n)) (cond (p n) (n ∷ []) [])
    ∙ ap (λ (ts : List PlainTree). map f (filter p (range_with_len 0 n)) ++ ts) (map-if f (p n) n)

pub employees-all : (seed k d : ℕ) → employees_below seed k d 16 ≡ employees_of seed k d
unfolding employees_below employees_of
employees-all seed k d = refl

unfoldable pub departments_below : ℕ → ℕ → ℕ → List PlainTree
departments_below seed k n = map (department_of seed k) (range_with_len 0 n)

pub departments-none : (seed k : ℕ) → departments_below seed k 0 ≡ []
unfolding departments_below
departments-none seed k = refl

pub departments-more : (seed k n : ℕ) → departments_below seed k (n + 1) ≡ departments_below seed k n ++ department_of seed k n ∷ []
unfolding departments_below
departments-more seed k n = map-range_with_len_more (department_of seed k) 0 n n (omega arith)

-- ---- the trees so far

-- an absent employee adds nothing
pub employees-kept : (seed k d n a : ℕ) (first : PlainTree) (ts : List PlainTree) → a ≡ draw seed d n → is_present k a ≡ false → ts ≡ first ∷ employees_below seed k d n → ts ≡ first ∷ employees_below seed k d (n + 1)
employees-kept seed k d n a first ts drawn absent e =
    let more = employees-more seed k d n in
    let p : is_present k (draw seed d n) ≡ false = ap (is_present k) (sym drawn) ∙ absent in
    let same : employees_below seed k d (n + 1) ≡ employees_below seed k d n = more ∙ ap (λ b. employees_below seed k d n ++ cond b (employee_of k (draw seed d n) d n ∷ []) []) p ∙ append-nil (employees_below seed k d n) in
    e ∙ ap (λ (us : List PlainTree). first ∷ us) (sym same)

pub employees-joined : (seed k d n a : ℕ) (first : PlainTree) (ts : List PlainTree) → a ≡ draw seed d n → is_present k a ≡ true → ts ≡ first ∷ employees_below seed k d n → ts ++ employee_of k a d n ∷ [] ≡ first ∷ employees_below seed k d (n + 1)
employees-joined seed k d n a first ts drawn present e =
    let more = employees-more seed k d n in
    let p : is_present k (draw seed d n) ≡ true = ap (is_present k) (sym drawn) ∙ present in
    let same : employees_below seed k d (n + 1) ≡ employees_below seed k d n ++ employee_of k (draw seed d n) d n ∷ [] = more ∙ ap (λ b. employees_below seed k d n ++ cond b (employee_of k (draw seed d n) d n ∷ []) []) p in
    (λ i. e i ++ employee_of k (drawn i) d n ∷ []) ∙ ap (λ (us : List PlainTree). first ∷ us) (sym same)

pub department-whole : (seed k d n : ℕ) (ts : List PlainTree) → n ≡ 16 → ts ≡ field (codes "name") (codes "D" ++ decimal d) ∷ employees_below seed k d n → element_of (codes "dept") ts ≡ department_of seed k d
unfolding department_of
department-whole seed k d n ts last e =
    ap (element_of (codes "dept")) (e ∙ ap (λ (es : List PlainTree). field (codes "name") (codes "D" ++ decimal d) ∷ es) (ap (employees_below seed k d) last ∙ employees-all seed k d))

pub sample-whole : (seed k n : ℕ) (ts : List PlainTree) → n ≡ 4 → ts ≡ departments_below seed k n → element_of (codes "db") ts ≡ sample_of seed k
unfolding sample_of departments_below
sample-whole seed k n ts last e = ap (element_of (codes "db")) (e ∙ ap (λ (m : ℕ). map (department_of seed k) (range_with_len 0 m)) last)

-- what holds of a tree holds of what has it as its view
pub holds-of-view : (P : PlainTree → Type 0) (s : PlainTree) (r : Result Tree AllocError) → P s → IfOk r (λ t. tree_view t ≡ s) → IfOk r (λ t. P (tree_view t))
holds-of-view P s (Ok t) h e = subst P (sym e) h
holds-of-view P s (Err f) h e = e

-- one more tree
pub pushed : (old new : List Tree) (t : Tree) (p : PlainTree) → new ≡ old ++ t ∷ [] → tree_view t ≡ p → map tree_view new ≡ map tree_view old ++ p ∷ []
pushed old new t p e is = ap (map tree_view) e ∙ map-append tree_view old (t ∷ []) ∙ ap (λ (q : PlainTree). map tree_view old ++ q ∷ []) is
