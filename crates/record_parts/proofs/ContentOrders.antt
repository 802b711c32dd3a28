-- Comparing contents and items with values.
use Rattle.std.proofs.Common.{◌≡◌, ◌≢◌, ℕ, ◌-◌, ◌<◌, true, false, List, drop, map, Option, Some, None, String, Global, string_bytes, sym, ap, subst, ◌∙◌}
use Rattle.std.specs.Cow.{cow_str_bytes}
use Rattle.std.specs.Int.{w32}
use Rattle.std.specs.Ordering.{is_ne}
use Rattle.std.specs.declared.borrow.CowStr.{CowStr}
use Rattle.std.specs.declared.cmp.Ordering.{Ordering}
use Rattle.std.specs.declared.cmp.Ordering.TheVariants.{Less, Greater}
use Rattle.std.specs.Cmp.Lexicographic.{slice_cmp}
use Rattle.jsonml_tree.specs.Data.{PlainAttr, PlainTree, text, element, PlainContent, content, trees_of, only_text}
use Rattle.jsonml_tree.specs.LentView.{lent_row_view, lent_tree_view}
use Rattle.jsonml_tree.specs.Order.{text_cmp, attr_cmp, tree_cmp, content_cmp}
use Rattle.jsonml_tree.specs.View.{attr_view, tree_view, content_view}
use Rattle.jsonml_tree.specs.declared.lent.LentRow.{LentRow}
use Rattle.jsonml_tree.specs.declared.lent.LentTree.{LentTree}
use Rattle.jsonml_tree.specs.declared.lent.LentTree.TheVariants as lent
use Rattle.jsonml_tree.specs.declared.scalar.Attr.{Attr}
use Rattle.jsonml_tree.specs.declared.tree.Tree.{Tree, Text, Elem}
use Rattle.jsonml_tree.specs.declared.tree.Content.{Content}
use Rattle.jsonml_tree.proofs.LentTrees.{lent_tree_view-Text, lent_tree_view-Leaf, lent_tree_view-Elem}
use Rattle.jsonml_tree.proofs.Trees.{content_view-is, tree_view-Text, tree_view-Elem}
use Rattle.xa_fields.specs.Reading.{Reader, byte_at, number_at, text_at, many_at, list_at}
use Rattle.record_parts.specs.Compares.{Compares}
use Rattle.record_parts.specs.Reading.{attrs_at, content_by, content_at, item_at, item_of, content_below}
use Rattle.record_parts.proofs.Leads.{not_equal, is_equal}
use Rattle.record_parts.proofs.Compared.{nothing, same_read, Splits, first_fails, first_decides, second_decides, list_is, list_none, content_splits, element_splits, element_above, text_compare, text_below, item_is, item_none, no_item}
use Rattle.record_parts.specs.Deep.{none_below, one_below}

-- ---- contents

abbrev by_attrs : List PlainAttr → List PlainAttr → Ordering
by_attrs ys xs = slice_cmp attr_cmp xs ys

abbrev by_items : List PlainTree → List PlainTree → Ordering
by_items us ts = slice_cmp tree_cmp ts us

abbrev by_content : PlainContent → PlainContent → Ordering
by_content d x = content_cmp x d

abbrev pub made : List PlainAttr → List PlainTree → PlainContent
made xs ts = content xs (trees_of ts)

-- the attributes and the items of a content of its own
pub content_seen : (c : Content) (xs : List Attr) (us : List Tree) → xs ≡ c.attrs.items → us ≡ c.items.items → made (map attr_view xs) (map tree_view us) ≡ content_view c
content_seen c xs us e f = (λ i. content (map attr_view (e i)) (trees_of (map tree_view (f i)))) ∙ sym (content_view-is c)

splits : (one : Reader PlainTree) (b : List ℕ) (d : PlainContent) (ys : List PlainAttr) (us : List PlainTree) → made ys us ≡ d → Splits (content_by one b) (attrs_at b) (list_at one) made (by_content d) (by_attrs ys) (by_items us)
splits one b d ys us e = subst (λ (z : PlainContent). Splits (content_by one b) (attrs_at b) (list_at one) made (by_content z) (by_attrs ys) (by_items us)) e (content_splits one b ys us)

pub content_fails : (depth at : ℕ) (bytes : List ℕ) (d : PlainContent) (ys : List PlainAttr) (us : List PlainTree) → made ys us ≡ d → Compares (by_attrs ys) (attrs_at (drop at bytes)) bytes None → Compares (by_content d) (content_at depth (drop at bytes)) bytes None
content_fails depth at bytes d ys us e h =
    first_fails (content_at depth (drop at bytes)) (attrs_at (drop at bytes)) (list_at (item_at depth)) made (by_content d) (by_attrs ys) (by_items us) bytes (splits (item_at depth) (drop at bytes) d ys us e) h

pub content_decides : (depth at : ℕ) (bytes : List ℕ) (d : PlainContent) (ys : List PlainAttr) (us : List PlainTree) (o : Ordering) (n : ℕ) → made ys us ≡ d → is_ne o ≡ true → Compares (by_attrs ys) (attrs_at (drop at bytes)) bytes (Some (o, n)) → Compares (by_content d) (content_at depth (drop at bytes)) bytes (Some (o, n))
content_decides depth at bytes d ys us o n e ne h =
    first_decides (content_at depth (drop at bytes)) (attrs_at (drop at bytes)) (list_at (item_at depth)) made (by_content d) (by_attrs ys) (by_items us) bytes o n n (splits (item_at depth) (drop at bytes) d ys us e) h (not_equal o ne)

pub content_goes : (depth at : ℕ) (bytes : List ℕ) (d : PlainContent) (ys : List PlainAttr) (us : List PlainTree) (o : Ordering) (n : ℕ) (q : Option (Ordering × ℕ)) → made ys us ≡ d → is_ne o ≡ false → Compares (by_attrs ys) (attrs_at (drop at bytes)) bytes (Some (o, n))
    → Compares (by_items us) (list_at (item_at depth) (drop n bytes)) bytes q → Compares (by_content d) (content_at depth (drop at bytes)) bytes q
content_goes depth at bytes d ys us o n q e eq h k =
    second_decides (content_at depth (drop at bytes)) (attrs_at (drop at bytes)) (list_at (item_at depth)) made (by_content d) (by_attrs ys) (by_items us) bytes o n q (splits (item_at depth) (drop at bytes) d ys us e) h (is_equal o eq) k

pub items_none : (depth : ℕ) (bytes file : List ℕ) (us : List PlainTree) → None ≡ number_at w32 bytes → Compares (by_items us) (list_at (item_at depth) bytes) file None
items_none depth bytes file us e = nothing (by_items us) (list_at (item_at depth) bytes) file None (list_none (item_at depth) bytes e)

pub items_counted : (depth n : ℕ) (bytes after file : List ℕ) (us : List PlainTree) (q : Option (Ordering × ℕ)) → Some (n, after) ≡ number_at w32 bytes → Compares (by_items us) (many_at (item_at depth) n after) file q → Compares (by_items us) (list_at (item_at depth) bytes) file q
items_counted depth n bytes after file us q e h = same_read (by_items us) (list_at (item_at depth) bytes) (many_at (item_at depth) n after) file q (list_is (item_at depth) n bytes after e) h

pub below_none : (depth : ℕ) (bytes file : List ℕ) (d : PlainContent) → depth ≡ 0 → Compares (by_content d) (content_below depth bytes) file None
below_none depth bytes file d e = nothing (by_content d) (content_below depth bytes) file None (none_below depth bytes e)

pub below_goes : (depth : ℕ) (bytes file : List ℕ) (d : PlainContent) (q : Option (Ordering × ℕ)) → 0 < depth → Compares (by_content d) (content_at (depth - 1) bytes) file q → Compares (by_content d) (content_below depth bytes) file q
below_goes depth bytes file d q lt h = same_read (by_content d) (content_below depth bytes) (content_at (depth - 1) bytes) file q (one_below depth bytes lt) h

-- ---- items

abbrev by_item : PlainTree → PlainTree → Ordering
by_item u t = tree_cmp t u

-- an item of its own, and one that is lent
pub text_seen : (t : Tree) (u : String Global) → t ≡ Text u → text (string_bytes u) ≡ tree_view t
text_seen t u is = sym (ap tree_view is ∙ tree_view-Text u)

pub element_seen : (t : Tree) (u : String Global) (d : Content) → t ≡ Elem u d → element (string_bytes u) (content_view d) ≡ tree_view t
element_seen t u d is = sym (ap tree_view is ∙ tree_view-Elem u d)

pub lent_text_seen : (t : LentTree) (u : CowStr Global) → t ≡ lent.Text u → text (cow_str_bytes u) ≡ lent_tree_view t
lent_text_seen t u is = sym (ap lent_tree_view is ∙ lent_tree_view-Text u)

pub lent_leaf_seen : (t : LentTree) (u s : CowStr Global) → t ≡ lent.Leaf u s → element (cow_str_bytes u) (only_text (cow_str_bytes s)) ≡ lent_tree_view t
lent_leaf_seen t u s is = sym (ap lent_tree_view is ∙ lent_tree_view-Leaf u s)

pub lent_element_seen : (t : LentTree) (u : CowStr Global) (row : LentRow) → t ≡ lent.Elem u row → element (cow_str_bytes u) (lent_row_view row) ≡ lent_tree_view t
lent_element_seen t u row is = sym (ap lent_tree_view is ∙ lent_tree_view-Elem u row)

pub no_kind_byte : (depth : ℕ) (bytes file : List ℕ) (t : PlainTree) → None ≡ byte_at bytes → Compares (by_item t) (item_at depth bytes) file None
no_kind_byte depth bytes file t e = nothing (by_item t) (item_at depth bytes) file None (item_none depth bytes e)

pub of_kind : (depth kind : ℕ) (bytes after file : List ℕ) (t : PlainTree) (q : Option (Ordering × ℕ)) → Some (kind, after) ≡ byte_at bytes → Compares (by_item t) (item_of (content_below depth) kind after) file q → Compares (by_item t) (item_at depth bytes) file q
of_kind depth kind bytes after file t q e h = same_read (by_item t) (item_at depth bytes) (item_of (content_below depth) kind after) file q (item_is depth kind bytes after e) h

pub of_no_kind : (depth kind : ℕ) (bytes file : List ℕ) (t : PlainTree) → kind ≢ 0 → kind ≢ 1 → Compares (by_item t) (item_of (content_below depth) kind bytes) file None
of_no_kind depth kind bytes file t f g = nothing (by_item t) (item_of (content_below depth) kind bytes) file None (no_item (content_below depth) kind bytes f g)

pub text_text : (inner : Reader PlainContent) (bytes file : List ℕ) (t : PlainTree) (u : List ℕ) (q : Option (Ordering × ℕ)) → text u ≡ t → Compares (λ s. text_cmp s u) (text_at bytes) file q → Compares (by_item t) (item_of inner 0 bytes) file q
text_text inner bytes file t u q is h = subst (λ (x : PlainTree). Compares (by_item x) (item_of inner 0 bytes) file q) is (text_compare inner bytes file u q h)

pub text_element : (inner : Reader PlainContent) (bytes file : List ℕ) (n : ℕ) (t : PlainTree) (u : List ℕ) (d : PlainContent) → element u d ≡ t → Compares (by_item t) (item_of inner 0 bytes) file (Some (Less, n))
text_element inner bytes file n t u d is = subst (λ (x : PlainTree). Compares (by_item x) (item_of inner 0 bytes) file (Some (Less, n))) is (text_below inner bytes file u d n)

element_parts : (depth : ℕ) (bytes : List ℕ) (t : PlainTree) (u : List ℕ) (d : PlainContent) → element u d ≡ t
    → Splits (item_of (content_below depth) 1 bytes) (text_at bytes) (content_below depth) element (by_item t) (λ s. text_cmp s u) (by_content d)
element_parts depth bytes t u d is =
    subst (λ (x : PlainTree). Splits (item_of (content_below depth) 1 bytes) (text_at bytes) (content_below depth) element (by_item x) (λ s. text_cmp s u) (by_content d)) is (element_splits (content_below depth) bytes u d)

pub element_fails : (depth : ℕ) (bytes file : List ℕ) (t : PlainTree) (u : List ℕ) (d : PlainContent) → element u d ≡ t → Compares (λ s. text_cmp s u) (text_at bytes) file None → Compares (by_item t) (item_of (content_below depth) 1 bytes) file None
element_fails depth bytes file t u d is h =
    first_fails (item_of (content_below depth) 1 bytes) (text_at bytes) (content_below depth) element (by_item t) (λ s. text_cmp s u) (by_content d) file (element_parts depth bytes t u d is) h

pub element_text : (depth : ℕ) (bytes file : List ℕ) (n : ℕ) (t : PlainTree) (u : List ℕ) → text u ≡ t → Compares (by_item t) (item_of (content_below depth) 1 bytes) file (Some (Greater, n))
element_text depth bytes file n t u is = subst (λ (x : PlainTree). Compares (by_item x) (item_of (content_below depth) 1 bytes) file (Some (Greater, n))) is (element_above (content_below depth) bytes file u n)

pub element_decides : (depth : ℕ) (bytes file : List ℕ) (n : ℕ) (t : PlainTree) (u : List ℕ) (d : PlainContent) (o : Ordering) → element u d ≡ t → is_ne o ≡ true → Compares (λ s. text_cmp s u) (text_at bytes) file (Some (o, n))
    → Compares (by_item t) (item_of (content_below depth) 1 bytes) file (Some (o, n))
element_decides depth bytes file n t u d o is ne h =
    first_decides (item_of (content_below depth) 1 bytes) (text_at bytes) (content_below depth) element (by_item t) (λ s. text_cmp s u) (by_content d) file o n n (element_parts depth bytes t u d is) h (not_equal o ne)

pub element_goes : (depth : ℕ) (bytes file : List ℕ) (n : ℕ) (t : PlainTree) (u : List ℕ) (d : PlainContent) (o : Ordering) (q : Option (Ordering × ℕ)) → element u d ≡ t → is_ne o ≡ false → Compares (λ s. text_cmp s u) (text_at bytes) file (Some (o, n))
    → Compares (by_content d) (content_below depth (drop n file)) file q → Compares (by_item t) (item_of (content_below depth) 1 bytes) file q
element_goes depth bytes file n t u d o q is eq h k =
    second_decides (item_of (content_below depth) 1 bytes) (text_at bytes) (content_below depth) element (by_item t) (λ s. text_cmp s u) (by_content d) file o n q (element_parts depth bytes t u d is) h (is_equal o eq) k
