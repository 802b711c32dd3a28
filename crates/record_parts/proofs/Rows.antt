-- The bytes of contents that are lent.
use Rattle.std.proofs.Common.{◌≡◌, ℕ, zero, suc, ◌-◌, ◌<◌, ◌≤◌, ◌^◌, ◌&&◌, Bool, true, false, ltb, List, [], ◌∷◌, ◌++◌, length, map, Result, refl, sym, ap, subst, ◌∙◌, arith}
use Rattle.std.proofs.lemmas.Bool.{lt-ltb}
use Rattle.std.proofs.lemmas.List.{append-nil, length-map}
use Rattle.jsonml_tree.specs.Data.{PlainAttr, PlainTree, element, PlainContent, only_text, trees_of, list_of}
use Rattle.jsonml_tree.specs.LentAttrs.{lent_attr_view}
use Rattle.jsonml_tree.specs.LentView.{lent_items_view, lent_row_view, lent_tree_view}
use Rattle.jsonml_tree.specs.declared.lent.LentRow.{LentRow}
use Rattle.jsonml_tree.specs.declared.lent.LentTree.{LentTree}
use Rattle.jsonml_tree.specs.declared.lent_attr.LentAttr.{LentAttr}
use Rattle.jsonml_tree.proofs.LentTrees.{lent_row_view-is}
use Rattle.jsonml_tree.proofs.Trees.{list_of-trees_of}
use Rattle.xa_fields.specs.Spelling.{u32_bytes, text_bytes, list_bytes}
use Rattle.record_parts.specs.Checks.{attrs_fit, content_fits, item_fits, items_fit, tag_fits, text_fits}
use Rattle.record_parts.specs.Spelling.{attr_bytes, item_bytes, items_bytes, content_bytes}
use Rattle.record_parts.specs.Spells.{Spells}
use Rattle.record_parts.specs.declared.fault.SpellFault.{SpellFault}
use Rattle.record_parts.proofs.Spelled.{and_first, and_second, long_false, spelled_counted, spelled_behind, spelled_both, spelled_as}

-- how many items there are
counted : (row : LentRow) → length (list_of (trees_of (map lent_tree_view row.items.items))) ≡ length row.items.items
counted row = ap length (list_of-trees_of (map lent_tree_view row.items.items)) ∙ length-map row.items.items lent_tree_view

-- the attributes, the number of items, and the items
row_written : {T : Type 0} (depth : ℕ) (row : LentRow) (o m k n : List ℕ) (count : ℕ) (r : Result T SpellFault) → count ≡ length row.items.items → count < 2 ^ 32 → attrs_fit (map lent_attr_view row.attrs.items) ≡ true
    → m ≡ o ++ list_bytes attr_bytes (map lent_attr_view row.attrs.items) → k ≡ m ++ u32_bytes count → Spells (items_fit depth (lent_items_view row.items.items)) k n (items_bytes (lent_items_view row.items.items)) r
    → Spells (content_fits depth (lent_row_view row)) o n (content_bytes (lent_row_view row)) r
row_written {T} depth row o m k n count r is few fit e f s =
    let xs : List PlainAttr = map lent_attr_view row.attrs.items in
    let ts : List PlainTree = map lent_tree_view row.items.items in
    let size : ℕ = length (list_of (trees_of ts)) in
    let same : count ≡ size = is ∙ sym (counted row) in
    let fits : ltb size (2 ^ 32) ≡ true = lt-ltb size (2 ^ 32) (subst (λ (j : ℕ). j < 2 ^ 32) same few) in
    subst (λ (c : PlainContent). Spells {T = T} (content_fits depth c) o n (content_bytes c) r) (sym (lent_row_view-is row))
    (spelled_counted (attrs_fit xs) (ltb size (2 ^ 32)) (items_fit depth (trees_of ts)) o m k n (list_bytes attr_bytes xs) (u32_bytes size) (items_bytes (trees_of ts)) r fit fits e (f ∙ ap (λ (j : ℕ). m ++ u32_bytes j) same) s)

-- the same, of the lists that are appended
pub row_spells : {T : Type 0} (depth : ℕ) (row : LentRow) (xs : List LentAttr) (ts : List LentTree) (o m k n : List ℕ) (count : ℕ) (r : Result T SpellFault) → xs ≡ row.attrs.items → ts ≡ row.items.items → count ≡ length row.items.items → count < 2 ^ 32
    → attrs_fit (map lent_attr_view xs) ≡ true → m ≡ o ++ list_bytes attr_bytes (map lent_attr_view xs) → k ≡ m ++ u32_bytes count → Spells (items_fit depth (lent_items_view ts)) k n (items_bytes (lent_items_view ts)) r
    → Spells (content_fits depth (lent_row_view row)) o n (content_bytes (lent_row_view row)) r
row_spells {T} depth row xs ts o m k n count r xs_are ts_are is few fit e f s =
    row_written depth row o m k n count r is few (subst (λ (zs : List LentAttr). attrs_fit (map lent_attr_view zs) ≡ true) xs_are fit) (subst (λ (zs : List LentAttr). m ≡ o ++ list_bytes attr_bytes (map lent_attr_view zs)) xs_are e) f
    (subst (λ (zs : List LentTree). Spells {T = T} (items_fit depth (lent_items_view zs)) k n (items_bytes (lent_items_view zs)) r) ts_are s)

-- a row that does not fit
pub row_long : (depth : ℕ) (row : LentRow) → 2 ^ 32 ≤ length row.items.items → content_fits depth (lent_row_view row) ≡ false
row_long depth row le =
    let xs : List PlainAttr = map lent_attr_view row.attrs.items in
    let ts : List PlainTree = map lent_tree_view row.items.items in
    let size : ℕ = length (list_of (trees_of ts)) in
    let many : 2 ^ 32 ≤ size = subst (λ (j : ℕ). 2 ^ 32 ≤ j) (sym (counted row)) le in
    ap (content_fits depth) (lent_row_view-is row) ∙ and_first (attrs_fit xs && ltb size (2 ^ 32)) (items_fit depth (trees_of ts)) (and_second (attrs_fit xs) (ltb size (2 ^ 32)) (long_false size many))

pub row_unfit : (depth : ℕ) (row : LentRow) → attrs_fit (map lent_attr_view row.attrs.items) ≡ false → content_fits depth (lent_row_view row) ≡ false
row_unfit depth row wrong =
    let xs : List PlainAttr = map lent_attr_view row.attrs.items in
    let ts : List PlainTree = map lent_tree_view row.items.items in
    let size : ℕ = length (list_of (trees_of ts)) in
    ap (content_fits depth) (lent_row_view-is row) ∙ and_first (attrs_fit xs && ltb size (2 ^ 32)) (items_fit depth (trees_of ts)) (and_first (attrs_fit xs) (ltb size (2 ^ 32)) wrong)

-- no attributes, one item, and that it is a text
abbrev pub only_front : List ℕ
only_front = 0 ∷ 0 ∷ 0 ∷ 0 ∷ 0 ∷ 0 ∷ 0 ∷ 1 ∷ 0 ∷ []

only_bytes : (s : List ℕ) → content_bytes (only_text s) ≡ only_front ++ text_bytes s
only_bytes s = ap (λ (z : List ℕ). 0 ∷ 0 ∷ 0 ∷ 0 ∷ 0 ∷ 0 ∷ 0 ∷ 1 ∷ z) (append-nil (0 ∷ text_bytes s))

pub only_spells : {T : Type 0} (s o m n : List ℕ) (r : Result T SpellFault) → m ≡ o ++ only_front → Spells (text_fits s) m n (text_bytes s) r → Spells (text_fits s) o n (content_bytes (only_text s)) r
only_spells s o m n r e h = spelled_as (text_fits s) (text_fits s) o n (only_front ++ text_bytes s) (content_bytes (only_text s)) r refl (sym (only_bytes s)) (spelled_behind (text_fits s) o m n only_front (text_bytes s) r e h)

-- a content of one text fits where the text does
pub only_fits : (depth : ℕ) (s : List ℕ) → text_fits s ≡ content_fits depth (only_text s)
only_fits depth s = last (text_fits s)
  where
    last : (b : Bool) → b ≡ (b && true)
    last true = refl
    last false = refl

-- ---- elements

pub element_spells : {T : Type 0} (depth : ℕ) (t : List ℕ) (c : PlainContent) (o m n : List ℕ) (r : Result T SpellFault) → tag_fits depth t ≡ true → m ≡ o ++ (1 ∷ text_bytes t) → Spells (content_fits (depth - 1) c) m n (content_bytes c) r
    → Spells (item_fits depth (element t c)) o n (item_bytes (element t c)) r
element_spells zero t c o m n r fit e h = absurd cc
element_spells {T} (suc d) t c o m n r fit e h =
    let less : suc d - 1 ≡ d = omega arith in
    spelled_both (text_fits t) (content_fits d c) o m n (1 ∷ text_bytes t) (content_bytes c) r fit e (subst (λ (k : ℕ). Spells {T = T} (content_fits k c) m n (content_bytes c) r) less h)

pub element_unfit : (depth : ℕ) (t : List ℕ) (c : PlainContent) → tag_fits depth t ≡ false → item_fits depth (element t c) ≡ false
element_unfit zero t c wrong = refl
element_unfit (suc d) t c wrong = and_first (text_fits t) (content_fits d c) wrong

pub tag_deep : (depth : ℕ) (t : List ℕ) → tag_fits depth t ≡ true → 1 ≤ depth
tag_deep zero t e = absurd cc
tag_deep (suc d) t e = omega arith

pub no_tag : (depth : ℕ) (t : List ℕ) → depth ≡ 0 → tag_fits depth t ≡ false
no_tag zero t e = refl
no_tag (suc d) t e = absurd (omega arith)

pub a_tag : (depth : ℕ) (t : List ℕ) → (depth ≡ 0 → ⊥) → text_fits t ≡ tag_fits depth t
a_tag zero t ne = absurd (ne refl)
a_tag (suc d) t ne = refl

pub items_step : (depth : ℕ) (a : PlainTree) (ts : List PlainTree) → items_fit depth (trees_of (a ∷ ts)) ≡ (item_fits depth a && items_fit depth (trees_of ts))
items_step depth a ts = refl
