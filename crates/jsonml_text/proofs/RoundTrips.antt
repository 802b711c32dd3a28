-- The document of what is printed for a document.
use Rattle.std.proofs.Common.{◌≡◌, ℕ, ◌+◌, ◌-◌, ◌≤◌, ◌^◌, ◌&&◌, ◌==◌, pos, negsuc, ℤ, option_and_then, Bool, true, false, cond, IsTrue, List, [], ◌∷◌, ◌++◌, length, map, take, drop, Some, None, Ok, refl, sym, ap, ◌∙◌, subst, arith, append_assoc, length-append, decimal, le_refl}
use Rattle.std.specs.Prelude.{nat_lt, slice_index}
use Rattle.std.specs.List.{flat_map, join_with_byte}
use Rattle.std.specs.Str.{IsUtf8}
use Rattle.std.specs.Fmt.{signed_decimal}
use Rattle.std.proofs.lemmas.Bool.{and_parts, lt-ltb}
use Rattle.std.proofs.lemmas.List.{get_or_push, take-append-le}
use Rattle.std.proofs.Math.Seq.{take-length}
use Rattle.std.proofs.lemmas.Str.{IsUtf8-append, IsUtf8-nil, IsUtf8-from_ascii}
use Rattle.std.proofs.lemmas.Fmt.{IsAscii-decimal, IsAscii-signed}
use Rattle.std.specs.Option.{option_or}
use Rattle.std.specs.Result.{result_ok}
use Rattle.json.proofs.Printed.Utf8.{IsUtf8-are_ascii, IsUtf8-quoted}
use Rattle.json.specs.Print.{quoted}
use Rattle.serde_json.specs.Read.{read}
use Rattle.serde_json.specs.Find.{of_integer}
use Rattle.jsonml_tree.specs.Data as plain
use Rattle.jsonml_tree.specs.Data.{PlainScalar, PlainAttr, PlainTree, text, element, PlainContent, content, PlainTrees, no_trees, tree, tree_depth}
use Rattle.jsonml_tree.specs.WellFormed.{is_in_range, is_ascending, are_in_range, is_well_formed, is_content_well_formed, are_well_formed}
use Rattle.jsonml_tree.specs.declared.limits.TheConstants.{GREATEST_DEPTH}
use Rattle.jsonml_text.specs.Reading.{reading, less_lf, ends_with_lf}
use Rattle.jsonml_text.specs.Spelled.{and_then, mapped, whole_of, whole_at, scalar_at, scalar_in, content_of_data, attrs_at, item_at, content_at, items_at, root_of}
use Rattle.jsonml_text.specs.Document.{doc, of_value, of_shape, unless_too_deep}
use Rattle.jsonml_tree.specs.Fits.{IsElement}
use Rattle.jsonml_text.specs.Texts.{IsScalarText, AreAttrTexts, AreTexts, AreContentTexts, AreItemTexts}
use Rattle.jsonml_print.specs.Printed.{scalar_text, attr_text, attrs_text, tree_text, content_text, items_text, array_text, document_text}
use Rattle.jsonml_text.specs.RoundTrip.{TextReadsBack, DocumentReadsBack, ScalarReadsBack, ContentReadsBack}
use Rattle.jsonml_text.proofs.Levels.{found_at}
use Rattle.jsonml_text.proofs.Readings.{reading-Some}
use Rattle.jsonml_text.proofs.ReadBack.{scalar_data, attrs_data, tree_data, content_data, items_data, reads_value, reads_scalar, reads_array, natural_small, negative_small}
use Rattle.jsonml_print.proofs.TreeWalk.{joined}

-- ---- the value spells the tree

either : (n : ℕ) (b : Bool) → option_or (cond b (Some (pos n)) None) (Some (pos n)) ≡ Some (pos n)
either n true = refl
either n false = refl

whole_back : (n : ℤ) → whole_of (of_integer n) ≡ Some n
whole_back (pos n) = either n (nat_lt n (2 ^ 63))
whole_back (negsuc n) = refl

pub scalar_back : (place : List ℕ) (s : PlainScalar) → scalar_at place (scalar_data s) ≡ Ok s
scalar_back place plain.null = refl
scalar_back place (plain.boolean b) = refl
scalar_back place (plain.whole n) = ap (whole_at place) (whole_back n)
scalar_back place (plain.string s) = refl

attrs_back : (place : List ℕ) (xs : List PlainAttr) → attrs_at place (attrs_data xs) ≡ Ok xs
attrs_back place [] = refl
attrs_back place (x ∷ xs) =
    ap (λ r. and_then r (λ value. mapped (λ xs. record { name = x.name; value = value } ∷ xs) (attrs_at place (attrs_data xs)))) (scalar_back place x.value)
    ∙ ap (mapped (λ xs. x ∷ xs)) (attrs_back place xs)

mutual
  item_back : (place : List ℕ) (t : PlainTree) → item_at place (tree_data t) ≡ Ok t
  item_back place (text s) = refl
  item_back place (element tag c) = ap (mapped (element tag)) (content_back place c)

  pub content_back : (place : List ℕ) (c : PlainContent) → content_at place (content_data c) ≡ Ok c
  content_back place (content [] no_trees) = refl
  content_back place (content [] (tree (text s) ts)) = ap (mapped (λ us. content [] (tree (text s) us))) (items_back place 2 ts)
  content_back place (content [] (tree (element tag c) ts)) =
      ap (λ r. and_then r (λ t. mapped (λ us. content [] (tree t us)) (items_at place 2 (items_data ts)))) (ap (mapped (element tag)) (content_back (place ++ 1 ∷ []) c))
      ∙ ap (mapped (λ us. content [] (tree (element tag c) us))) (items_back place 2 ts)
  content_back place (content (x ∷ xs) ts) =
      ap (λ r. and_then r (λ ys. mapped (content ys) (items_at place 1 (items_data ts)))) (attrs_back place (x ∷ xs)) ∙ ap (mapped (content (x ∷ xs))) (items_back place 1 ts)

  items_back : (place : List ℕ) (n : ℕ) (ts : PlainTrees) → items_at place n (items_data ts) ≡ Ok ts
  items_back place n no_trees = refl
  items_back place n (tree t ts) =
      ap (λ r. and_then r (λ u. mapped (tree u) (items_at place (n + 1) (items_data ts)))) (item_back (place ++ n ∷ []) t) ∙ ap (mapped (tree t)) (items_back place (n + 1) ts)

root_back : (t : PlainTree) → IsElement t → root_of (tree_data t) ≡ Ok t
root_back (text s) e = absurd (cc)
root_back (element tag c) e = item_back [] (element tag c)

-- ---- the text is UTF-8

pub byte : (b : ℕ) (xs : List ℕ) → IsUtf8 (b ∷ []) → IsUtf8 xs → IsUtf8 (b ∷ xs)
byte b xs p q = IsUtf8-append (b ∷ []) xs p q

pub scalar_utf8 : (s : PlainScalar) → IsTrue (is_in_range s) → IsScalarText s → IsUtf8 (scalar_text s)
scalar_utf8 plain.null e h = IsUtf8-are_ascii _ refl
scalar_utf8 (plain.boolean true) e h = IsUtf8-are_ascii _ refl
scalar_utf8 (plain.boolean false) e h = IsUtf8-are_ascii _ refl
scalar_utf8 (plain.whole (pos n)) e h = IsUtf8-from_ascii (decimal n) (IsAscii-decimal n (natural_small n e))
scalar_utf8 (plain.whole (negsuc n)) e h = IsUtf8-from_ascii (signed_decimal (negsuc n)) (IsAscii-signed (negsuc n) (negative_small n e))
scalar_utf8 (plain.string s) e h = IsUtf8-quoted s h

attr_utf8 : (x : PlainAttr) → IsTrue (is_in_range x.value) → IsUtf8 x.name → IsScalarText x.value → IsUtf8 (attr_text x)
attr_utf8 x e h k = IsUtf8-append (quoted x.name) (58 ∷ scalar_text x.value) (IsUtf8-quoted x.name h) (byte 58 _ (IsUtf8-are_ascii _ refl) (scalar_utf8 x.value e k))

more_utf8 : (xs : List PlainAttr) → IsTrue (are_in_range xs) → AreAttrTexts xs → IsUtf8 (flat_map (λ y. 44 ∷ attr_text y) xs)
more_utf8 [] e h = IsUtf8-nil
more_utf8 (x ∷ xs) e h =
    let fits = and_parts (is_in_range x.value) (are_in_range xs) e in
    byte 44 _ (IsUtf8-are_ascii _ refl) (IsUtf8-append (attr_text x) _ (attr_utf8 x fits.0 h.0 h.1) (more_utf8 xs fits.1 h.2))

object_utf8 : (x : PlainAttr) (xs : List PlainAttr) → IsTrue (are_in_range (x ∷ xs)) → AreAttrTexts (x ∷ xs) → IsUtf8 (123 ∷ (join_with_byte 44 (map attr_text (x ∷ xs)) ++ 125 ∷ []))
object_utf8 x xs e h =
    let fits = and_parts (is_in_range x.value) (are_in_range xs) e in
    let pairs : IsUtf8 (join_with_byte 44 (map attr_text (x ∷ xs))) = subst IsUtf8 (sym (joined x xs)) (IsUtf8-append (attr_text x) _ (attr_utf8 x fits.0 h.0 h.1) (more_utf8 xs fits.1 h.2)) in
    byte 123 _ (IsUtf8-are_ascii _ refl) (IsUtf8-append _ (125 ∷ []) pairs (IsUtf8-are_ascii _ refl))

attrs_utf8 : (xs : List PlainAttr) → IsTrue (are_in_range xs) → AreAttrTexts xs → IsUtf8 (attrs_text xs)
attrs_utf8 [] e h = IsUtf8-nil
attrs_utf8 (x ∷ xs) e h = byte 44 _ (IsUtf8-are_ascii _ refl) (object_utf8 x xs e h)

mutual
  tree_utf8 : (t : PlainTree) → IsTrue (is_well_formed t) → AreTexts t → IsUtf8 (tree_text t)
  tree_utf8 (text s) e h = IsUtf8-quoted s h
  tree_utf8 (element tag c) e h =
      byte 91 _ (IsUtf8-are_ascii _ refl) (IsUtf8-append (quoted tag) _ (IsUtf8-quoted tag h.0) (IsUtf8-append (content_text c) (93 ∷ []) (content_utf8 c e h.1) (IsUtf8-are_ascii _ refl)))

  content_utf8 : (c : PlainContent) → IsTrue (is_content_well_formed c) → AreContentTexts c → IsUtf8 (content_text c)
  content_utf8 (content xs ts) e h =
      let outer = and_parts (is_ascending xs && are_in_range xs) (are_well_formed ts) e in
      let inner = and_parts (is_ascending xs) (are_in_range xs) outer.0 in
      IsUtf8-append (attrs_text xs) (items_text ts) (attrs_utf8 xs inner.1 h.0) (items_utf8 ts outer.1 h.1)

  items_utf8 : (ts : PlainTrees) → IsTrue (are_well_formed ts) → AreItemTexts ts → IsUtf8 (items_text ts)
  items_utf8 no_trees e h = IsUtf8-nil
  items_utf8 (tree t ts) e h =
      let both = and_parts (is_well_formed t) (are_well_formed ts) e in
      byte 44 _ (IsUtf8-are_ascii _ refl) (IsUtf8-append (tree_text t) (items_text ts) (tree_utf8 t both.0 h.0) (items_utf8 ts both.1 h.1))

-- a content as an array
row_utf8 : (ts : PlainTrees) → IsTrue (are_well_formed ts) → AreItemTexts ts → IsUtf8 (drop 1 (items_text ts))
row_utf8 no_trees e h = IsUtf8-nil
row_utf8 (tree t ts) e h = let both = and_parts (is_well_formed t) (are_well_formed ts) e in IsUtf8-append (tree_text t) (items_text ts) (tree_utf8 t both.0 h.0) (items_utf8 ts both.1 h.1)

inside_utf8 : (c : PlainContent) → IsTrue (is_content_well_formed c) → AreContentTexts c → IsUtf8 (drop 1 (content_text c))
inside_utf8 (content [] ts) e h = row_utf8 ts (and_parts (is_ascending [] && are_in_range []) (are_well_formed ts) e).1 h.1
inside_utf8 (content (x ∷ xs) ts) e h =
    let outer = and_parts (is_ascending (x ∷ xs) && are_in_range (x ∷ xs)) (are_well_formed ts) e in
    let inner = and_parts (is_ascending (x ∷ xs)) (are_in_range (x ∷ xs)) outer.0 in
    IsUtf8-append (123 ∷ (join_with_byte 44 (map attr_text (x ∷ xs)) ++ 125 ∷ [])) (items_text ts) (object_utf8 x xs inner.1 h.0) (items_utf8 ts outer.1 h.1)

pub array_utf8 : (c : PlainContent) → IsTrue (is_content_well_formed c) → AreContentTexts c → IsUtf8 (array_text c)
array_utf8 c e h = byte 91 _ (IsUtf8-are_ascii _ refl) (IsUtf8-append (drop 1 (content_text c)) (93 ∷ []) (inside_utf8 c e h) (IsUtf8-are_ascii _ refl))

-- ---- with or without the line feed

last_of : (xs : List ℕ) (b : ℕ) → slice_index (xs ++ b ∷ []) (length (xs ++ b ∷ []) - 1) ≡ b
last_of xs b = get_or_push xs b 0 (length (xs ++ b ∷ []) - 1) (omega (arith, length-append xs (b ∷ [])))

ends : (xs : List ℕ) (b : ℕ) (e : Bool) → (b == 10) ≡ e → ends_with_lf (xs ++ b ∷ []) ≡ e
ends xs b e is =
    let some : nat_lt 0 (length (xs ++ b ∷ [])) ≡ true = lt-ltb _ _ (omega (arith, length-append xs (b ∷ []))) in
    ap (λ c. c && slice_index (xs ++ b ∷ []) (length (xs ++ b ∷ []) - 1) == 10) some ∙ ap (λ c. c == 10) (last_of xs b) ∙ is

lf_left_out : (xs : List ℕ) → less_lf (xs ++ 10 ∷ []) ≡ xs
lf_left_out xs =
    let long : length (xs ++ 10 ∷ []) - 1 ≡ length xs = omega (arith, length-append xs (10 ∷ [])) in
    ap (λ c. cond c (take (length (xs ++ 10 ∷ []) - 1) (xs ++ 10 ∷ [])) (xs ++ 10 ∷ [])) (ends xs 10 true refl)
    ∙ ap (λ n. take n (xs ++ 10 ∷ [])) long ∙ take-append-le (length xs) xs (10 ∷ []) (le_refl (length xs)) ∙ take-length xs

none_left_out : (xs : List ℕ) → less_lf (xs ++ 93 ∷ []) ≡ xs ++ 93 ∷ []
none_left_out xs = ap (λ c. cond c (take (length (xs ++ 93 ∷ []) - 1) (xs ++ 93 ∷ [])) (xs ++ 93 ∷ [])) (ends xs 93 false refl)

bracket_last : (t : PlainTree) → IsElement t → less_lf (tree_text t) ≡ tree_text t
bracket_last (text s) e = absurd (cc)
bracket_last (element tag c) e =
    let split : tree_text (element tag c) ≡ (91 ∷ (quoted tag ++ content_text c)) ++ 93 ∷ [] = ap (λ l. 91 ∷ l) (sym (append_assoc (quoted tag) (content_text c) (93 ∷ []))) in
    ap less_lf split ∙ none_left_out (91 ∷ (quoted tag ++ content_text c)) ∙ sym split

-- ---- the document

doc_from : (bytes : List ℕ) (t : PlainTree) → IsElement t → IsTrue (is_well_formed t) → AreTexts t → tree_depth t ≤ GREATEST_DEPTH → less_lf bytes ≡ tree_text t → doc bytes ≡ Ok t
doc_from bytes t elem well texts shallow is =
    let some : reading bytes ≡ Some (tree_data t) =
    reading-Some bytes (tree_data t) (subst IsUtf8 (sym is) (tree_utf8 t well texts)) (ap read is ∙ reads_value t well shallow) in
    ap of_value some ∙ ap of_shape (root_back t elem) ∙ ap (unless_too_deep t) (found_at [] t (omega arith))

pub text_reads_back : (t : PlainTree) → TextReadsBack t
text_reads_back t elem well texts shallow = doc_from (tree_text t) t elem well texts shallow (bracket_last t elem)

pub document_reads_back : (t : PlainTree) → DocumentReadsBack t
document_reads_back t elem well texts shallow = doc_from (document_text t) t elem well texts shallow (lf_left_out (tree_text t))

pub scalar_reads_back : (s : PlainScalar) → ScalarReadsBack s
scalar_reads_back s fit = ap (option_and_then scalar_in) (reads_scalar s fit) ∙ ap result_ok (scalar_back [] s)

pub content_reads_back : (c : PlainContent) → ContentReadsBack c
content_reads_back c well shallow = ap (option_and_then content_of_data) (reads_array c well shallow) ∙ ap result_ok (content_back [] c)
