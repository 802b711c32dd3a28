-- What is read of scalars, attributes, contents and key values is spelled so, and what is spelled so is read.
use Rattle.std.proofs.Common.{◌≡◌, ℕ, zero, suc, ◌^◌, ◌<◌, ◌≤◌, ◌&&◌, pos, negsuc, Bool, true, false, cond, ltb, IsTrue, List, [], ◌∷◌, ◌++◌, length, Some, None, refl, sym, ap, subst, ◌∙◌, append_assoc, arith}
use Rattle.std.specs.List.{flat_map, AllByRecursion}
use Rattle.std.specs.Int.{w64}
use Rattle.std.specs.Ordering.{is_lt}
use Rattle.std.proofs.lemmas.Bool.{ltb-true, lt-ltb}
use Rattle.jsonml_tree.specs.Data.{PlainScalar, null, boolean, whole, string, PlainAttr, PlainTree, text, element, PlainContent, content, PlainTrees, no_trees, tree, trees_of, list_of, tree_depth, content_depth, trees_depth}
use Rattle.jsonml_tree.specs.Order.{text_cmp}
use Rattle.jsonml_tree.specs.WellFormed.{ascends, is_ascending}
use Rattle.jsonml_tree.proofs.Trees.{list_of-trees_of, trees_of-list_of}
use Rattle.keyed_tree.specs.Data.{PlainKey, scalar, inside}
use Rattle.xa_fields.specs.Spelling.{u32_bytes, u64_bytes, text_bytes, list_bytes}
use Rattle.xa_fields.specs.Reading.{Reader, ◌>>=◌, number_at, text_at, list_at}
use Rattle.xa_fields.specs.Laws.{IsBytes, Takes, Read, Reads}
use Rattle.xa_fields.proofs.Fields.{bind_some, some_is, Takes-then, Takes-none, u64_reads, text_reads}
use Rattle.xa_fields.proofs.Combinators.{IsList, list_reads}
use Rattle.record_parts.specs.Spelling.{scalar_bytes, attr_bytes, item_bytes, content_bytes, items_bytes, value_bytes}
use Rattle.record_parts.specs.Bounds.{IsScalar, IsAttr, AreAttrs, IsItem, IsInside, AreItems, IsContent, IsValue, deepest}
use Rattle.record_parts.specs.Reading.{scalar_of, scalar_at, attr_at, next_attr, attrs_at, content_by, item_of, item_by, content_below, item_at, content_at, value_of, value_at}
use Rattle.record_parts.specs.Readers.{Kind, behind_kind, passed_some, reads_as}
use Rattle.xa_fields.proofs.Chains.{on_some, follows, IsChain, chained_reads}

-- ---- scalars

scalar_kind : (k : ℕ) (rest : List ℕ) (x : PlainScalar × List ℕ) → IsBytes rest → scalar_of k rest ≡ Some x → Kind scalar_bytes IsScalar k rest x
unfolding scalar_of
scalar_kind zero rest x fits e =
    subst (λ (y : PlainScalar × List ℕ). Kind scalar_bytes IsScalar 0 rest y) (some_is (null, rest) x e) (record { front = []; spelled = refl; takes = Takes-none rest fits; fits = tt })
scalar_kind (suc zero) rest x fits e =
    subst (λ (y : PlainScalar × List ℕ). Kind scalar_bytes IsScalar 1 rest y) (some_is (boolean false, rest) x e) (record { front = []; spelled = refl; takes = Takes-none rest fits; fits = tt })
scalar_kind (suc (suc zero)) rest x fits e =
    subst (λ (y : PlainScalar × List ℕ). Kind scalar_bytes IsScalar 2 rest y) (some_is (boolean true, rest) x e) (record { front = []; spelled = refl; takes = Takes-none rest fits; fits = tt })
scalar_kind (suc (suc (suc zero))) rest x fits e =
    let b = bind_some (number_at w64 rest) (λ n. Some (whole (pos n.0), n.1)) x e in
    let t = u64_reads.takes rest b.0 fits b.1 in
    subst (λ (y : PlainScalar × List ℕ). Kind scalar_bytes IsScalar 3 rest y) (some_is (whole (pos b.0.0), b.0.1) x b.2) (record { front = u64_bytes b.0.0; spelled = refl; takes = t.takes; fits = t.fits })
scalar_kind (suc (suc (suc (suc zero)))) rest x fits e =
    let b = bind_some (number_at w64 rest) (λ n. cond (ltb n.0 (2 ^ 63)) (Some (whole (negsuc n.0), n.1)) None) x e in
    let t = u64_reads.takes rest b.0 fits b.1 in
    let g = passed_some (ltb b.0.0 (2 ^ 63)) (whole (negsuc b.0.0), b.0.1) x b.2 in
    subst (λ (y : PlainScalar × List ℕ). Kind scalar_bytes IsScalar 4 rest y) g.1 (record { front = u64_bytes b.0.0; spelled = refl; takes = t.takes; fits = ltb-true _ _ g.0 })
scalar_kind (suc (suc (suc (suc (suc zero))))) rest x fits e =
    let b = bind_some (text_at rest) (λ s. Some (string s.0, s.1)) x e in
    let t = text_reads.takes rest b.0 fits b.1 in
    subst (λ (y : PlainScalar × List ℕ). Kind scalar_bytes IsScalar 5 rest y) (some_is (string b.0.0, b.0.1) x b.2) (record { front = text_bytes b.0.0; spelled = refl; takes = t.takes; fits = t.fits })
scalar_kind (suc (suc (suc (suc (suc (suc k)))))) rest x fits e = absurd cc

scalar_read : (bytes : List ℕ) (x : PlainScalar × List ℕ) → IsBytes bytes → scalar_at bytes ≡ Some x → Read scalar_bytes IsScalar bytes x
unfolding scalar_at
scalar_read = behind_kind scalar_of scalar_bytes IsScalar scalar_kind

scalar_again : (v : PlainScalar) (rest : List ℕ) → IsScalar v → scalar_at (scalar_bytes v ++ rest) ≡ Some (v, rest)
unfolding scalar_at scalar_of
scalar_again null rest h = refl
scalar_again (boolean false) rest h = refl
scalar_again (boolean true) rest h = refl
scalar_again (whole (pos n)) rest h = rw (u64_reads.again n rest h) refl
scalar_again (whole (negsuc n)) rest h =
    let small : n < 2 ^ 64 = omega arith in
    rw (u64_reads.again n rest small, lt-ltb n (2 ^ 63) h) refl
scalar_again (string s) rest h = rw (text_reads.again s rest h) refl

pub scalar_reads : Reads scalar_at scalar_bytes IsScalar
scalar_reads = record { takes = scalar_read; again = scalar_again }

-- ---- attributes

attr_read : (bytes : List ℕ) (x : PlainAttr × List ℕ) → IsBytes bytes → attr_at bytes ≡ Some x → Read attr_bytes IsAttr bytes x
unfolding attr_at
attr_read bytes x fits e =
    let a = bind_some (text_at bytes) (λ name. scalar_at name.1 >>= λ value. Some (record { name = name.0; value = value.0 }, value.1)) x e in
    let b = bind_some (scalar_at a.0.1) (λ value. Some (record { name = a.0.0; value = value.0 }, value.1)) x a.2 in
    let t = text_reads.takes bytes a.0 fits a.1 in
    let s = scalar_reads.takes a.0.1 b.0 t.takes.rest_fits b.1 in
    let made : PlainAttr × List ℕ = (record { name = a.0.0; value = b.0.0 }, b.0.1) in
    subst (λ (y : PlainAttr × List ℕ). Read attr_bytes IsAttr bytes y) (some_is made x b.2)
    (record { takes = Takes-then bytes (text_bytes a.0.0) a.0.1 (scalar_bytes b.0.0) b.0.1 t.takes s.takes; fits = record { name = t.fits; value = s.fits } })

attr_again : (a : PlainAttr) (rest : List ℕ) → IsAttr a → attr_at (attr_bytes a ++ rest) ≡ Some (a, rest)
unfolding attr_at
attr_again a rest h =
    ap attr_at (append_assoc (text_bytes a.name) (scalar_bytes a.value) rest) ∙ rw (text_reads.again a.name (scalar_bytes a.value ++ rest) h.name, scalar_reads.again a.value rest h.value) refl

pub attr_reads : Reads attr_at attr_bytes IsAttr
attr_reads = record { takes = attr_read; again = attr_again }

above : (last : List ℕ) (a : PlainAttr) (xs : List PlainAttr) (b : Bool) → follows next_attr (Some a.name) xs ≡ ascends a.name xs
    → on_some (cond b (Some (Some a.name)) None) (λ t. follows next_attr t xs) ≡ (b && ascends a.name xs)
above last a xs true h = h
above last a xs false h = refl

follows_last : (last : List ℕ) (xs : List PlainAttr) → follows next_attr (Some last) xs ≡ ascends last xs
follows_last last [] = refl
follows_last last (a ∷ xs) = above last a xs (is_lt (text_cmp last a.name)) (follows_last a.name xs)

pub follows_names : (xs : List PlainAttr) → follows next_attr None xs ≡ is_ascending xs
follows_names [] = refl
follows_names (a ∷ xs) = follows_last a.name xs

pub attrs_reads : Reads attrs_at (list_bytes attr_bytes) AreAttrs
attrs_reads = reads_as attrs_at (list_bytes attr_bytes) (list_bytes attr_bytes) (IsChain IsAttr next_attr None) AreAttrs (λ a. refl)
    (λ xs h. record { few = h.few; each = h.each; ascending = subst IsTrue (follows_names xs) h.follow })
    (λ xs h. record { few = h.few; each = h.each; follow = subst IsTrue (sym (follows_names xs)) h.ascending })
    (chained_reads attr_at next_attr None attr_bytes IsAttr attr_reads)

-- ---- contents

-- an item whose elements nest at most so deep
pub record IsShallow (limit : ℕ) (t : PlainTree) : Type 0 where
  pub item : IsItem t
  pub depth : tree_depth t ≤ limit

-- a row of items is a list of them
pub items_bytes-is : (ts : PlainTrees) → items_bytes ts ≡ flat_map item_bytes (list_of ts)
items_bytes-is no_trees = refl
items_bytes-is (tree t ts) = ap (λ (x : List ℕ). item_bytes t ++ x) (items_bytes-is ts)

shallow_items : (limit : ℕ) (ts : List PlainTree) → AllByRecursion (IsShallow limit) ts → AreItems (trees_of ts) × (trees_depth (trees_of ts) ≤ limit)
shallow_items limit [] h = (tt, omega arith)
shallow_items limit (t ∷ ts) h = let rest = shallow_items limit ts h.1 in let first = h.0 in ((first.item, rest.0), omega (arith, first.depth, rest.1))

each_shallow : (limit : ℕ) (ts : PlainTrees) → AreItems ts → trees_depth ts ≤ limit → AllByRecursion (IsShallow limit) (list_of ts)
each_shallow limit no_trees h d = tt
each_shallow limit (tree t ts) h d = (record { item = h.0; depth = omega arith }, each_shallow limit ts h.1 (omega arith))

content_spelled : (xs : List PlainAttr) (ts : List PlainTree) → list_bytes attr_bytes xs ++ list_bytes item_bytes ts ≡ content_bytes (content xs (trees_of ts))
content_spelled xs ts =
    let same = list_of-trees_of ts in
    let items : flat_map item_bytes ts ≡ items_bytes (trees_of ts) = ap (flat_map item_bytes) (sym same) ∙ sym (items_bytes-is (trees_of ts)) in
    ap (λ (n : List PlainTree). list_bytes attr_bytes xs ++ (u32_bytes (length n) ++ flat_map item_bytes ts)) (sym same) ∙ ap (λ (x : List ℕ). list_bytes attr_bytes xs ++ (u32_bytes (length (list_of (trees_of ts))) ++ x)) items

content_read : (one : Reader PlainTree) (limit : ℕ) → Reads one item_bytes (IsShallow limit) → (bytes : List ℕ) (x : PlainContent × List ℕ) → IsBytes bytes → content_by one bytes ≡ Some x → Read content_bytes (IsContent limit) bytes x
unfolding content_by
content_read one limit h bytes x fits e =
    let a = bind_some (attrs_at bytes) (λ attrs. list_at one attrs.1 >>= λ items. Some (content attrs.0 (trees_of items.0), items.1)) x e in
    let b = bind_some (list_at one a.0.1) (λ items. Some (content a.0.0 (trees_of items.0), items.1)) x a.2 in
    let s = attrs_reads.takes bytes a.0 fits a.1 in
    let t = (list_reads one item_bytes (IsShallow limit) h).takes a.0.1 b.0 s.takes.rest_fits b.1 in
    let both = Takes-then bytes (list_bytes attr_bytes a.0.0) a.0.1 (list_bytes item_bytes b.0.0) b.0.1 s.takes t.takes in
    let rows = shallow_items limit b.0.0 t.fits.each in
    let few : length (list_of (trees_of b.0.0)) < 2 ^ 32 = subst (λ (ts : List PlainTree). length ts < 2 ^ 32) (sym (list_of-trees_of b.0.0)) t.fits.few in
    let made : PlainContent × List ℕ = (content a.0.0 (trees_of b.0.0), b.0.1) in
    subst (λ (y : PlainContent × List ℕ). Read content_bytes (IsContent limit) bytes y) (some_is made x b.2) (record {
      takes = subst (λ (front : List ℕ). Takes bytes front b.0.1) (content_spelled a.0.0 b.0.0) both;
      fits = record { inside = (s.fits, few, rows.0); depth = rows.1 };
    })

content_again : (one : Reader PlainTree) (limit : ℕ) → Reads one item_bytes (IsShallow limit) → (c : PlainContent) (rest : List ℕ) → IsContent limit c → content_by one (content_bytes c ++ rest) ≡ Some (c, rest)
unfolding content_by
content_again one limit h (content xs ts) rest s =
    let items : List PlainTree = list_of ts in
    let fits : IsList (IsShallow limit) items = record { few = s.inside.1; each = each_shallow limit ts s.inside.2 s.depth } in
    let spelled : content_bytes (content xs ts) ++ rest ≡ list_bytes attr_bytes xs ++ (list_bytes item_bytes items ++ rest) =
    append_assoc (list_bytes attr_bytes xs) (u32_bytes (length items) ++ items_bytes ts) rest ∙ ap (λ (x : List ℕ). list_bytes attr_bytes xs ++ ((u32_bytes (length items) ++ x) ++ rest)) (items_bytes-is ts) in
    let first = attrs_reads.again xs (list_bytes item_bytes items ++ rest) s.inside.0 in
    let second = (list_reads one item_bytes (IsShallow limit) h).again items rest fits in
    ap (content_by one) spelled ∙ rw (first, second, trees_of-list_of ts) refl

content_by_reads : (one : Reader PlainTree) (limit : ℕ) → Reads one item_bytes (IsShallow limit) → Reads (content_by one) content_bytes (IsContent limit)
content_by_reads one limit h = record { takes = content_read one limit h; again = content_again one limit h }

-- a content of an element that nests at most so deep
abbrev IsBelow : ℕ → PlainContent → Type 0
IsBelow limit c = IsInside c × (content_depth c < limit)

item_kind : (inner : Reader PlainContent) (limit : ℕ) → Reads inner content_bytes (IsBelow limit) → (k : ℕ) (rest : List ℕ) (x : PlainTree × List ℕ) → IsBytes rest → item_of inner k rest ≡ Some x → Kind item_bytes (IsShallow limit) k rest x
unfolding item_of
item_kind inner limit h zero rest x fits e =
    let a = bind_some (text_at rest) (λ s. Some (text s.0, s.1)) x e in
    let t = text_reads.takes rest a.0 fits a.1 in
    subst (λ (y : PlainTree × List ℕ). Kind item_bytes (IsShallow limit) 0 rest y) (some_is (text a.0.0, a.0.1) x a.2) (record { front = text_bytes a.0.0; spelled = refl; takes = t.takes; fits = record { item = t.fits; depth = omega arith } })
item_kind inner limit h (suc zero) rest x fits e =
    let a = bind_some (text_at rest) (λ t. inner t.1 >>= λ c. Some (element t.0 c.0, c.1)) x e in
    let b = bind_some (inner a.0.1) (λ c. Some (element a.0.0 c.0, c.1)) x a.2 in
    let t = text_reads.takes rest a.0 fits a.1 in
    let c = h.takes a.0.1 b.0 t.takes.rest_fits b.1 in
    let both = Takes-then rest (text_bytes a.0.0) a.0.1 (content_bytes b.0.0) b.0.1 t.takes c.takes in
    let less : content_depth b.0.0 < limit = c.fits.1 in
    subst (λ (y : PlainTree × List ℕ). Kind item_bytes (IsShallow limit) 1 rest y) (some_is (element a.0.0 b.0.0, b.0.1) x b.2)
    (record { front = text_bytes a.0.0 ++ content_bytes b.0.0; spelled = refl; takes = both; fits = record { item = (t.fits, c.fits.0); depth = omega arith } })
item_kind inner limit h (suc (suc k)) rest x fits e = absurd cc

item_again : (inner : Reader PlainContent) (limit : ℕ) → Reads inner content_bytes (IsBelow limit) → (t : PlainTree) (rest : List ℕ) → IsShallow limit t → item_by inner (item_bytes t ++ rest) ≡ Some (t, rest)
unfolding item_of
item_again inner limit h (text s) rest f = rw (text_reads.again s rest f.item) refl
item_again inner limit h (element t c) rest f =
    let deep : suc (content_depth c) ≤ limit = f.depth in
    let less : content_depth c < limit = omega arith in
    ap (λ (x : List ℕ). item_of inner 1 x) (append_assoc (text_bytes t) (content_bytes c) rest) ∙ rw (text_reads.again t (content_bytes c ++ rest) f.item.0, h.again c rest (f.item.1, less)) refl

item_by_reads : (inner : Reader PlainContent) (limit : ℕ) → Reads inner content_bytes (IsBelow limit) → Reads (item_by inner) item_bytes (IsShallow limit)
item_by_reads inner limit h = record { takes = behind_kind (item_of inner) item_bytes (IsShallow limit) (item_kind inner limit h); again = item_again inner limit h }

content_below_reads : (limit : ℕ) → Reads (content_below limit) content_bytes (IsBelow limit)
unfolding content_below
content_below_reads zero = record { takes = λ bytes x fits e. absurd cc; again = λ c rest f. absurd (omega (arith, f.1)) }
content_below_reads (suc d) = reads_as (content_by (item_by (content_below d))) content_bytes content_bytes (IsContent d) (IsBelow (suc d)) (λ c. refl)
    (λ c h. (h.inside, omega (arith, h.depth)))
    (λ c h. record { inside = h.0; depth = omega (arith, h.1) })
    (content_by_reads (item_by (content_below d)) d (item_by_reads (content_below d) d (content_below_reads d)))

pub item_reads : (limit : ℕ) → Reads (item_at limit) item_bytes (IsShallow limit)
item_reads limit = item_by_reads (content_below limit) limit (content_below_reads limit)

pub content_reads : (limit : ℕ) → Reads (content_at limit) content_bytes (IsContent limit)
content_reads limit = content_by_reads (item_at limit) limit (item_reads limit)

-- ---- key values

value_kind : (k : ℕ) (rest : List ℕ) (x : PlainKey × List ℕ) → IsBytes rest → value_of k rest ≡ Some x → Kind value_bytes IsValue k rest x
unfolding value_of
value_kind zero rest x fits e =
    let b = bind_some (scalar_at rest) (λ s. Some (scalar s.0, s.1)) x e in
    let t = scalar_reads.takes rest b.0 fits b.1 in
    subst (λ (y : PlainKey × List ℕ). Kind value_bytes IsValue 0 rest y) (some_is (scalar b.0.0, b.0.1) x b.2) (record { front = scalar_bytes b.0.0; spelled = refl; takes = t.takes; fits = t.fits })
value_kind (suc zero) rest x fits e =
    let b = bind_some (content_at deepest rest) (λ c. Some (inside c.0, c.1)) x e in
    let t = (content_reads deepest).takes rest b.0 fits b.1 in
    subst (λ (y : PlainKey × List ℕ). Kind value_bytes IsValue 1 rest y) (some_is (inside b.0.0, b.0.1) x b.2) (record { front = content_bytes b.0.0; spelled = refl; takes = t.takes; fits = t.fits })
value_kind (suc (suc k)) rest x fits e = absurd cc

value_read : (bytes : List ℕ) (x : PlainKey × List ℕ) → IsBytes bytes → value_at bytes ≡ Some x → Read value_bytes IsValue bytes x
unfolding value_at
value_read = behind_kind value_of value_bytes IsValue value_kind

value_again : (v : PlainKey) (rest : List ℕ) → IsValue v → value_at (value_bytes v ++ rest) ≡ Some (v, rest)
unfolding value_at value_of
value_again (scalar s) rest h = rw (scalar_reads.again s rest h) refl
value_again (inside c) rest h = rw ((content_reads deepest).again c rest h) refl

pub value_reads : Reads value_at value_bytes IsValue
value_reads = record { takes = value_read; again = value_again }
