-- What is printed has no line feed.
use Rattle.std.proofs.Common.{◌≡◌, ◌≢◌, ℕ, zero, suc, ◌+◌, ◌%◌, ◌<◌, ◌^◌, ◌&&◌, ◌==◌, not, pos, negsuc, Bool, true, false, IsTrue, List, [], ◌∷◌, ◌++◌, decimal, inl, inr, refl, ap, ap₂, ◌∙◌, arith}
use Rattle.std.specs.Fmt.{signed_decimal}
use Rattle.std.proofs.lemmas.Bool.{and_parts, cases_lt, cases_eq}
use Rattle.std.proofs.lemmas.Bool.Decides.{eqb_tells}
use Rattle.std.proofs.lemmas.List.Folds.{list_all-append}
use Rattle.std.proofs.lemmas.Fmt.{decimal_by_steps}
use Rattle.json.specs.Print.{escape_byte, escape, quoted}
use Rattle.json.proofs.Printed.Strings.{escape_byte_plain}
use Rattle.serde_json.specs.Written.{compact_text, comma_if, items_text, members_text}
use Rattle.jsonml_tree.specs.Data as plain
use Rattle.jsonml_tree.specs.Data.{PlainScalar, PlainAttr, PlainTree, text, element, PlainContent, content, PlainTrees, no_trees, tree}
use Rattle.jsonml_tree.specs.WellFormed.{is_in_range, is_ascending, are_in_range, is_well_formed, is_content_well_formed, are_well_formed}
use Rattle.jsonml_text.proofs.ReadBack.{scalar_data, attrs_data, tree_data, content_data, items_data, natural_small, negative_small}
use Rattle.jsonml_lines.specs.RoundTrip.{is_unbroken}

pub record Unbroken (t : List ℕ) : Type 0 where
  pub is : IsTrue (is_unbroken t)

pub sure : (t : List ℕ) → IsTrue (is_unbroken t) → Unbroken t
sure t e = record { is = e }

append : (xs ys : List ℕ) → IsTrue (is_unbroken xs) → IsTrue (is_unbroken ys) → IsTrue (is_unbroken (xs ++ ys))
append xs ys p q = list_all-append (λ b. not (b == 10)) xs ys ∙ ap₂ (λ a b. a && b) p q

pub joined : (xs ys : List ℕ) → Unbroken xs → Unbroken ys → Unbroken (xs ++ ys)
joined xs ys p q = record { is = append xs ys p.is q.is }

pub behind : (b : ℕ) (xs : List ℕ) → IsTrue (is_unbroken (b ∷ [])) → Unbroken xs → Unbroken (b ∷ xs)
behind b xs p q = record { is = append (b ∷ []) xs p q.is }

-- ---- strings

abbrev escapes_below : ℕ → Bool
escapes_below zero = true
escapes_below (suc n) = is_unbroken (escape_byte n) && escapes_below n

escape_below : (n : ℕ) → escapes_below n ≡ true → (x : ℕ) → x < n → is_unbroken (escape_byte x) ≡ true
escape_below zero e x h = absurd (omega arith)
escape_below (suc n) e x h =
    let p = and_parts _ _ e in
    elim (cases_eq x n) [ inl same ↦ rw same p.0 | inr other ↦ escape_below n p.1 x (omega arith) ]

all_low : escapes_below 128 ≡ true
unfolding escape_byte
all_low = refl

no_feed : (b : ℕ) → b ≢ 10 → is_unbroken (b ∷ []) ≡ true
no_feed b ne = elim (eqb_tells b 10) [ inl p ↦ absurd (ne p.1) | inr p ↦ ap (λ c. not c && true) p.0 ]

escape_unbroken : (x : ℕ) → is_unbroken (escape_byte x) ≡ true
escape_unbroken x = elim (cases_lt x 128) [
  | inl small ↦ escape_below 128 all_low x small
  | inr big ↦ ap is_unbroken (escape_byte_plain x (λ e. omega arith) (λ e. omega arith) (omega arith)) ∙ no_feed x (λ e. omega arith)
]

escaped_unbroken : (s : List ℕ) → is_unbroken (escape s) ≡ true
escaped_unbroken [] = refl
escaped_unbroken (x ∷ xs) = append (escape_byte x) (escape xs) (escape_unbroken x) (escaped_unbroken xs)

pub whole_string : (s : List ℕ) → Unbroken (quoted s)
whole_string s = sure (quoted s) (append (34 ∷ []) (escape s ++ 34 ∷ []) refl (append (escape s) (34 ∷ []) (escaped_unbroken s) refl))

-- ---- numbers

digit_unbroken : (d : ℕ) → is_unbroken ((48 + d) ∷ []) ≡ true
digit_unbroken d = no_feed (48 + d) (λ e. omega arith)

decimal_unbroken : (n : ℕ) → n < 2 ^ 64 → is_unbroken (decimal n) ≡ true
decimal_unbroken n small =
    decimal_by_steps (λ _ ds. is_unbroken ds ≡ true) (λ d h. digit_unbroken d) (λ m ds h before. append ds ((48 + m % 10) ∷ []) before (digit_unbroken (m % 10))) n small

signed_unbroken : (n : ℕ) → n < 2 ^ 63 → is_unbroken (signed_decimal (negsuc n)) ≡ true
signed_unbroken n small = append (45 ∷ []) (decimal (suc n)) refl (decimal_unbroken (suc n) (omega arith))

pub whole_scalar : (s : PlainScalar) → IsTrue (is_in_range s) → Unbroken (compact_text (scalar_data s))
whole_scalar plain.null e = sure _ refl
whole_scalar (plain.boolean true) e = sure _ refl
whole_scalar (plain.boolean false) e = sure _ refl
whole_scalar (plain.whole (pos n)) e = sure (decimal n) (decimal_unbroken n (natural_small n e))
whole_scalar (plain.whole (negsuc n)) e = sure (signed_decimal (negsuc n)) (signed_unbroken n (negative_small n e))
whole_scalar (plain.string s) e = whole_string s

-- ---- trees

pub comma : (later : Bool) (xs : List ℕ) → Unbroken xs → Unbroken (comma_if later ++ xs)
comma true xs g = behind 44 xs refl g
comma false xs g = g

whole_attrs : (later : Bool) (xs : List PlainAttr) → IsTrue (are_in_range xs) → Unbroken (members_text later (attrs_data xs))
whole_attrs later [] e = sure (125 ∷ []) refl
whole_attrs later (x ∷ xs) e =
    let fits = and_parts (is_in_range x.value) (are_in_range xs) e in
    comma later _ (joined (quoted x.name) _ (whole_string x.name) (behind 58 _ refl (joined (compact_text (scalar_data x.value)) _ (whole_scalar x.value fits.0) (whole_attrs true xs fits.1))))

mutual
  whole_tree : (t : PlainTree) → IsTrue (is_well_formed t) → Unbroken (compact_text (tree_data t))
  whole_tree (text s) e = whole_string s
  whole_tree (element tag c) e = behind 91 _ refl (joined (quoted tag) _ (whole_string tag) (whole_content true c e))

  pub whole_content : (later : Bool) (c : PlainContent) → IsTrue (is_content_well_formed c) → Unbroken (items_text later (content_data c))
  whole_content later (content [] ts) e = whole_items later ts (and_parts (is_ascending [] && are_in_range []) (are_well_formed ts) e).1
  whole_content later (content (x ∷ xs) ts) e =
      let outer = and_parts (is_ascending (x ∷ xs) && are_in_range (x ∷ xs)) (are_well_formed ts) e in
      let inner = and_parts (is_ascending (x ∷ xs)) (are_in_range (x ∷ xs)) outer.0 in
      comma later _ (joined (123 ∷ members_text false (attrs_data (x ∷ xs))) _ (behind 123 _ refl (whole_attrs false (x ∷ xs) inner.1)) (whole_items true ts outer.1))

  whole_items : (later : Bool) (ts : PlainTrees) → IsTrue (are_well_formed ts) → Unbroken (items_text later (items_data ts))
  whole_items later no_trees e = sure (93 ∷ []) refl
  whole_items later (tree t ts) e =
      let both = and_parts (is_well_formed t) (are_well_formed ts) e in
      comma later _ (joined (compact_text (tree_data t)) _ (whole_tree t both.0) (whole_items true ts both.1))
