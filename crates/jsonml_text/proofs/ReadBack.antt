-- The text of a document reads back as it.
use Rattle.std.proofs.Common.{◌≡◌, ℕ, ◌+◌, ◌<◌, ◌≤◌, ◌^◌, ◌&&◌, ℤ, pos, negsuc, Bool, true, false, not, IsTrue, List, [], ◌∷◌, ◌++◌, drop, map, Some, option_map, option_and_then, refl, sym, ap, ap₂, ◌∙◌, arith, append_assoc, append-nil}
use Rattle.std.specs.Prelude.{⊤}
use Rattle.std.specs.List.{flat_map, join_with_byte}
use Rattle.std.specs.Ordering.{is_lt, ordering_reverse, match_ordering}
use Rattle.std.specs.Cmp.Lexicographic.{nat_list_cmp_total}
use Rattle.std.specs.declared.cmp.Ordering.{Ordering}
use Rattle.std.specs.declared.cmp.Ordering.TheVariants.{Less, Equal, Greater}
use Rattle.std.proofs.lemmas.Bool.{and_parts, ltb-false}
use Rattle.json.specs.Json.{value, if_last}
use Rattle.json.specs.Lex.{tokens}
use Rattle.json.specs.Print.{quoted, IsNumber}
use Rattle.json.specs.Tree as outlined
use Rattle.json.proofs.Printed.Tokens.{tokens-print}
use Rattle.json.proofs.Printed.Trees.{value-json_tokens, ArePrintable-json_tokens}
use Rattle.json.proofs.Printed.Decimals.{IsNumber-decimal, IsNumber-signed_decimal}
use Rattle.serde_json.specs.Data.{Data, null, boolean, number, string, array, object, Items, no_items, item, Members, no_members, member, put}
use Rattle.serde_json.specs.Find.{of_integer}
use Rattle.serde_json.specs.Read.{read, max_depth, number_of, of_json, of_items, of_members}
use Rattle.serde_json.specs.Written as written
use Rattle.serde_json.specs.Written.{compact_text, outline, items_outline, members_outline, number_text}
use Rattle.serde_json.proofs.Numbers.{number_of-decimal, number_of-negative}
use Rattle.serde_json.proofs.Texts.{print-outline}
use Rattle.jsonml_tree.specs.Data as plain
use Rattle.jsonml_tree.specs.Data.{PlainScalar, PlainAttr, PlainTree, text, element, PlainContent, content, PlainTrees, no_trees, tree, tree_depth, content_depth, trees_depth}
use Rattle.jsonml_tree.specs.Order.{text_cmp}
use Rattle.jsonml_tree.specs.WellFormed.{is_in_range, ascends, is_ascending, are_in_range, is_well_formed, is_content_well_formed, are_well_formed}
use Rattle.jsonml_tree.specs.declared.limits.TheConstants.{GREATEST_DEPTH}
use Rattle.jsonml_print.proofs.TreeWalk.{joined}
use Rattle.jsonml_print.specs.Printed.{scalar_text, attr_text, tree_text, content_text, items_text, array_text}

-- ---- the value that spells a tree

abbrev pub scalar_data : PlainScalar → Data
scalar_data plain.null = null
scalar_data (plain.boolean b) = boolean b
scalar_data (plain.whole n) = number (of_integer n)
scalar_data (plain.string s) = string s

abbrev pub attrs_data : List PlainAttr → Members
attrs_data [] = no_members
attrs_data (x ∷ xs) = member x.name (scalar_data x.value) (attrs_data xs)

abbrev mutual
  pub tree_data : PlainTree → Data
  tree_data (text s) = string s
  tree_data (element tag c) = array (item (string tag) (content_data c))

  pub content_data : PlainContent → Items
  content_data (content [] ts) = items_data ts
  content_data (content (x ∷ xs) ts) = item (object (attrs_data (x ∷ xs))) (items_data ts)

  pub items_data : PlainTrees → Items
  items_data no_trees = no_items
  items_data (tree t ts) = item (tree_data t) (items_data ts)

-- ---- what is printed for the tree is what is printed for that value

pub whole_text : (n : ℤ) → scalar_text (plain.whole n) ≡ number_text (of_integer n)
whole_text (pos n) = refl
whole_text (negsuc n) = refl

pub scalar_text-is : (s : PlainScalar) → scalar_text s ≡ compact_text (scalar_data s)
scalar_text-is plain.null = refl
scalar_text-is (plain.boolean true) = refl
scalar_text-is (plain.boolean false) = refl
scalar_text-is (plain.whole n) = whole_text n
scalar_text-is (plain.string s) = refl

regroup : (q s f e : List ℕ) → ((q ++ (58 ∷ s)) ++ f) ++ e ≡ q ++ (58 ∷ (s ++ (f ++ e)))
regroup q s f e = simp append_assoc

more_attrs : (xs : List PlainAttr) → flat_map (λ y. 44 ∷ attr_text y) xs ++ 125 ∷ [] ≡ written.members_text true (attrs_data xs)
more_attrs [] = refl
more_attrs (x ∷ xs) =
    ap (λ l. 44 ∷ l) (regroup (quoted x.name) (scalar_text x.value) (flat_map (λ y. 44 ∷ attr_text y) xs) (125 ∷ [])
    ∙ ap (λ l. quoted x.name ++ (58 ∷ (l ++ (flat_map (λ y. 44 ∷ attr_text y) xs ++ 125 ∷ [])))) (scalar_text-is x.value)
    ∙ ap (λ l. quoted x.name ++ (58 ∷ (compact_text (scalar_data x.value) ++ l))) (more_attrs xs))

first_attrs : (x : PlainAttr) (xs : List PlainAttr) → join_with_byte 44 (map attr_text (x ∷ xs)) ++ 125 ∷ [] ≡ written.members_text false (attrs_data (x ∷ xs))
first_attrs x xs =
    ap (λ l. l ++ 125 ∷ []) (joined x xs) ∙ regroup (quoted x.name) (scalar_text x.value) (flat_map (λ y. 44 ∷ attr_text y) xs) (125 ∷ [])
    ∙ ap (λ l. quoted x.name ++ (58 ∷ (l ++ (flat_map (λ y. 44 ∷ attr_text y) xs ++ 125 ∷ [])))) (scalar_text-is x.value)
    ∙ ap (λ l. quoted x.name ++ (58 ∷ (compact_text (scalar_data x.value) ++ l))) (more_attrs xs)

mutual
  pub tree_text-is : (t : PlainTree) → tree_text t ≡ compact_text (tree_data t)
  tree_text-is (text s) = refl
  tree_text-is (element tag c) = ap (λ l. 91 ∷ (quoted tag ++ l)) (content_text-is c)

  pub content_text-is : (c : PlainContent) → content_text c ++ 93 ∷ [] ≡ written.items_text true (content_data c)
  content_text-is (content [] ts) = items_text-is ts
  content_text-is (content (x ∷ xs) ts) =
      ap (λ l. 44 ∷ 123 ∷ l) (append_assoc (join_with_byte 44 (map attr_text (x ∷ xs)) ++ 125 ∷ []) (items_text ts) (93 ∷ []) ∙ ap₂ (λ l m. l ++ m) (first_attrs x xs) (items_text-is ts))

  items_text-is : (ts : PlainTrees) → items_text ts ++ 93 ∷ [] ≡ written.items_text true (items_data ts)
  items_text-is no_trees = refl
  items_text-is (tree t ts) = ap (λ l. 44 ∷ l) (append_assoc (tree_text t) (items_text ts) (93 ∷ []) ∙ ap₂ (λ l m. l ++ m) (tree_text-is t) (items_text-is ts))

pub array_text-is : (c : PlainContent) → array_text c ≡ compact_text (array (content_data c))
array_text-is (content [] no_trees) = refl
array_text-is (content [] (tree t ts)) = ap (λ l. 91 ∷ drop 1 l) (content_text-is (content [] (tree t ts)))
array_text-is (content (x ∷ xs) ts) = ap (λ l. 91 ∷ drop 1 l) (content_text-is (content (x ∷ xs) ts))

-- ---- the value is read from its outline

false_from_not : (b : Bool) → not b ≡ true → b ≡ false
false_from_not true e = sym e
false_from_not false e = refl

pub natural_small : (n : ℕ) → IsTrue (is_in_range (plain.whole (pos n))) → n < 2 ^ 64
natural_small n e = let least : n ≤ 18446744073709551615 = ltb-false 18446744073709551615 n (false_from_not _ e) in omega arith

pub negative_small : (n : ℕ) → IsTrue (is_in_range (plain.whole (negsuc n))) → n < 2 ^ 63
negative_small n e = let least : n ≤ 9223372036854775807 = ltb-false 9223372036854775807 n (false_from_not _ (and_parts _ true e).0) in omega arith

pub whole_read : (n : ℤ) → IsTrue (is_in_range (plain.whole n)) → (number_of (number_text (of_integer n)) ≡ Some (of_integer n)) × IsNumber (number_text (of_integer n))
whole_read (pos n) e = let small = natural_small n e in (number_of-decimal n small, IsNumber-decimal n small)
whole_read (negsuc n) e = let small = negative_small n e in (number_of-negative n small, IsNumber-signed_decimal (negsuc n) small)

pub scalar_read : (s : PlainScalar) → IsTrue (is_in_range s) → of_json (outline (scalar_data s)) ≡ Some (scalar_data s)
scalar_read plain.null e = refl
scalar_read (plain.boolean b) e = refl
scalar_read (plain.whole n) e = ap (option_map number) (whole_read n e).0
scalar_read (plain.string s) e = refl

-- members that come in order go to the end

abbrev AllBelow : Members → List ℕ → Type 0
AllBelow no_members k = ⊤
AllBelow (member l d ms) k = (text_cmp l k ≡ Less) × AllBelow ms k

abbrev onto : Members → Members → Members
onto no_members ms = ms
onto (member k d done) ms = member k d (onto done ms)

below_greater : (l k : List ℕ) → text_cmp l k ≡ Less → text_cmp k l ≡ Greater
below_greater l k e = nat_list_cmp_total.antisymm k l ∙ ap ordering_reverse e

put_last : (done : Members) (k : List ℕ) (d : Data) → AllBelow done k → put k d done ≡ onto done (member k d no_members)
put_last no_members k d below = refl
put_last (member l e done) k d below =
    ap (λ o. match_ordering o (member k d (member l e done)) (member l d done) (member l e (put k d done))) (below_greater l k below.0) ∙ ap (member l e) (put_last done k d below.1)

onto-onto : (done : Members) (k : List ℕ) (d : Data) (ms : Members) → onto (onto done (member k d no_members)) ms ≡ onto done (member k d ms)
onto-onto no_members k d ms = refl
onto-onto (member l e done) k d ms = ap (member l e) (onto-onto done k d ms)

below_next : (done : Members) (k n : List ℕ) (d : Data) → AllBelow done k → text_cmp k n ≡ Less → AllBelow (onto done (member k d no_members)) n
below_next no_members k n d below e = (e, tt)
below_next (member l c done) k n d below e = (nat_list_cmp_total.trans l k n below.0 e, below_next done k n d below.1 e)

Less-from_is_lt : (o : Ordering) → is_lt o ≡ true → o ≡ Less
Less-from_is_lt Less e = refl
Less-from_is_lt Equal e = absurd (cc)
Less-from_is_lt Greater e = absurd (cc)

members_read : (done : Members) (last : List ℕ) (d : Data) (xs : List PlainAttr) → AllBelow done last → IsTrue (ascends last xs) → IsTrue (are_in_range xs)
    → of_members (members_outline (attrs_data xs)) (onto done (member last d no_members)) ≡ Some (onto done (member last d (attrs_data xs)))
members_read done last d [] below up fit = refl
members_read done last d (x ∷ xs) below up fit =
    let ups = and_parts (is_lt (text_cmp last x.name)) (ascends x.name xs) up in
    let fits = and_parts (is_in_range x.value) (are_in_range xs) fit in
    let now = onto done (member last d no_members) in
    let next : AllBelow now x.name = below_next done last x.name d below (Less-from_is_lt _ ups.0) in
    ap (option_and_then (λ e. of_members (members_outline (attrs_data xs)) (put x.name e now))) (scalar_read x.value fits.0)
    ∙ ap (of_members (members_outline (attrs_data xs))) (put_last now x.name (scalar_data x.value) next)
    ∙ members_read now x.name (scalar_data x.value) xs next ups.1 fits.1
    ∙ ap Some (onto-onto done last d (attrs_data (x ∷ xs)))

attrs_read : (x : PlainAttr) (xs : List PlainAttr) → IsTrue (is_ascending (x ∷ xs)) → IsTrue (are_in_range (x ∷ xs)) → of_members (members_outline (attrs_data (x ∷ xs))) no_members ≡ Some (attrs_data (x ∷ xs))
attrs_read x xs up fit =
    let fits = and_parts (is_in_range x.value) (are_in_range xs) fit in
    ap (option_and_then (λ e. of_members (members_outline (attrs_data xs)) (put x.name e no_members))) (scalar_read x.value fits.0) ∙ members_read no_members x.name (scalar_data x.value) xs tt up fits.1

mutual
  tree_read : (t : PlainTree) → IsTrue (is_well_formed t) → of_json (outline (tree_data t)) ≡ Some (tree_data t)
  tree_read (text s) e = refl
  tree_read (element tag c) e = ap (λ o. option_map array (option_map (item (string tag)) o)) (content_read c e)

  pub content_read : (c : PlainContent) → IsTrue (is_content_well_formed c) → of_items (items_outline (content_data c)) ≡ Some (content_data c)
  content_read (content [] ts) e = items_read ts (and_parts (is_ascending [] && are_in_range []) (are_well_formed ts) e).1
  content_read (content (x ∷ xs) ts) e =
      let outer = and_parts (is_ascending (x ∷ xs) && are_in_range (x ∷ xs)) (are_well_formed ts) e in
      let inner = and_parts (is_ascending (x ∷ xs)) (are_in_range (x ∷ xs)) outer.0 in
      ap (λ o. option_and_then (λ d. option_map (item d) (of_items (items_outline (items_data ts)))) (option_map object o)) (attrs_read x xs inner.0 inner.1)
      ∙ ap (option_map (item (object (attrs_data (x ∷ xs))))) (items_read ts outer.1)

  items_read : (ts : PlainTrees) → IsTrue (are_well_formed ts) → of_items (items_outline (items_data ts)) ≡ Some (items_data ts)
  items_read no_trees e = refl
  items_read (tree t ts) e =
      let both = and_parts (is_well_formed t) (are_well_formed ts) e in
      ap (option_and_then (λ d. option_map (item d) (of_items (items_outline (items_data ts))))) (tree_read t both.0) ∙ ap (option_map (item (tree_data t))) (items_read ts both.1)

-- ---- its numbers, and how deep it nests

pub scalar_numbers : (s : PlainScalar) → IsTrue (is_in_range s) → outlined.HasNumbers (outline (scalar_data s))
scalar_numbers plain.null e = tt
scalar_numbers (plain.boolean b) e = tt
scalar_numbers (plain.whole n) e = (whole_read n e).1
scalar_numbers (plain.string s) e = tt

attrs_numbers : (xs : List PlainAttr) → IsTrue (are_in_range xs) → outlined.MembersHaveNumbers (members_outline (attrs_data xs))
attrs_numbers [] e = tt
attrs_numbers (x ∷ xs) e = let both = and_parts (is_in_range x.value) (are_in_range xs) e in (scalar_numbers x.value both.0, attrs_numbers xs both.1)

mutual
  tree_numbers : (t : PlainTree) → IsTrue (is_well_formed t) → outlined.HasNumbers (outline (tree_data t))
  tree_numbers (text s) e = tt
  tree_numbers (element tag c) e = (tt, content_numbers c e)

  pub content_numbers : (c : PlainContent) → IsTrue (is_content_well_formed c) → outlined.ItemsHaveNumbers (items_outline (content_data c))
  content_numbers (content [] ts) e = items_numbers ts (and_parts (is_ascending [] && are_in_range []) (are_well_formed ts) e).1
  content_numbers (content (x ∷ xs) ts) e =
      let outer = and_parts (is_ascending (x ∷ xs) && are_in_range (x ∷ xs)) (are_well_formed ts) e in
      let inner = and_parts (is_ascending (x ∷ xs)) (are_in_range (x ∷ xs)) outer.0 in (attrs_numbers (x ∷ xs) inner.1, items_numbers ts outer.1)

  items_numbers : (ts : PlainTrees) → IsTrue (are_well_formed ts) → outlined.ItemsHaveNumbers (items_outline (items_data ts))
  items_numbers no_trees e = tt
  items_numbers (tree t ts) e = let both = and_parts (is_well_formed t) (are_well_formed ts) e in (tree_numbers t both.0, items_numbers ts both.1)

pub scalar_flat : (s : PlainScalar) → outlined.depth (outline (scalar_data s)) ≡ 0
scalar_flat plain.null = refl
scalar_flat (plain.boolean b) = refl
scalar_flat (plain.whole n) = refl
scalar_flat (plain.string s) = refl

attrs_flat : (xs : List PlainAttr) → outlined.members_depth (members_outline (attrs_data xs)) ≡ 0
attrs_flat [] = refl
attrs_flat (x ∷ xs) = omega (arith, scalar_flat x.value, attrs_flat xs)

mutual
  tree_nests : (t : PlainTree) → outlined.depth (outline (tree_data t)) ≤ tree_depth t + 1
  tree_nests (text s) = omega arith
  tree_nests (element tag c) = omega (arith, content_nests c)

  pub content_nests : (c : PlainContent) → outlined.items_depth (items_outline (content_data c)) ≤ content_depth c + 1
  content_nests (content [] ts) = items_nest ts
  content_nests (content (x ∷ xs) ts) = omega (arith, attrs_flat (x ∷ xs), items_nest ts)

  items_nest : (ts : PlainTrees) → outlined.items_depth (items_outline (items_data ts)) ≤ trees_depth ts + 1
  items_nest no_trees = omega arith
  items_nest (tree t ts) = omega (arith, tree_nests t, items_nest ts)

-- ---- what is read from the text of a value is what is read from its outline

pub reads_outline : (bytes : List ℕ) (d : Data) → bytes ≡ compact_text d → outlined.HasNumbers (outline d) → outlined.depth (outline d) ≤ 127 → read bytes ≡ of_json (outline d)
reads_outline bytes d is numbers shallow =
    let j = outline d in
    let tokens_of : tokens bytes ≡ outlined.json_tokens j ++ [] =
    ap tokens (is ∙ sym (print-outline d)) ∙ tokens-print (outlined.json_tokens j) (ArePrintable-json_tokens j numbers) ∙ sym (append-nil (outlined.json_tokens j)) in
    ap (option_and_then of_json) (ap (option_and_then (λ p. if_last p.0 p.1)) (ap (value max_depth) tokens_of ∙ value-json_tokens j max_depth [] shallow))

pub reads_value : (t : PlainTree) → IsTrue (is_well_formed t) → tree_depth t ≤ GREATEST_DEPTH → read (tree_text t) ≡ Some (tree_data t)
reads_value t well shallow = reads_outline (tree_text t) (tree_data t) (tree_text-is t) (tree_numbers t well) (omega (arith, tree_nests t)) ∙ tree_read t well

-- the same of a scalar on its own
pub reads_scalar : (s : PlainScalar) → IsTrue (is_in_range s) → read (scalar_text s) ≡ Some (scalar_data s)
reads_scalar s fit = reads_outline (scalar_text s) (scalar_data s) (scalar_text-is s) (scalar_numbers s fit) (omega (arith, scalar_flat s)) ∙ scalar_read s fit

-- and of a content as an array
pub reads_array : (c : PlainContent) → IsTrue (is_content_well_formed c) → content_depth c ≤ GREATEST_DEPTH → read (array_text c) ≡ Some (array (content_data c))
reads_array c well shallow = reads_outline (array_text c) (array (content_data c)) (array_text-is c) (content_numbers c well) (omega (arith, content_nests c)) ∙ ap (option_map array) (content_read c well)
