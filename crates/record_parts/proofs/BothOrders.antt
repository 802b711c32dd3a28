-- Comparing texts, scalars, names, attributes, contents, items, key values and labels where both stand in bytes.
use Rattle.std.proofs.Common.{◌≡◌, ◌≢◌, ℕ, zero, suc, ◌-◌, ◌<◌, cond, ltb, ◌^◌, true, false, pos, negsuc, List, [], drop, Option, Some, None, refl, sym, ap, subst, ◌∙◌}
use Rattle.std.specs.Int.{w32, w64}
use Rattle.std.specs.declared.cmp.Ordering.{Ordering}
use Rattle.std.specs.declared.cmp.Ordering.TheVariants.{Less, Equal, Greater}
use Rattle.std.specs.Cmp.Lexicographic.{slice_cmp}
use Rattle.jsonml_tree.specs.Data.{PlainScalar, null, boolean, whole, string, PlainAttr, PlainTree, text, element, PlainContent, content, trees_of}
use Rattle.jsonml_tree.specs.Order.{text_cmp, scalar_cmp, attr_cmp, tree_cmp, content_cmp}
use Rattle.keyed_tree.specs.Data.{PlainName, attr, tag, PlainKey, scalar, inside, PlainLabel}
use Rattle.keyed_tree.specs.Order.{name_cmp, key_cmp, label_cmp}
use Rattle.xa_fields.specs.Reading.{Reader, byte_at, number_at, text_at, many_at, list_at}
use Rattle.xa_fields.proofs.Fields.{bind_some, some_is}
use Rattle.record_parts.specs.Bounds.{deepest}
use Rattle.record_parts.specs.Compares.{Compares, ComparesBoth}
use Rattle.record_parts.specs.Reading.{scalar_of, scalar_at, attr_at, next_attr, attrs_at, content_by, content_at, item_at, item_of, content_below, value_of, value_at, name_of, name_at, label_at}
use Rattle.record_parts.proofs.Both.{no_ours, no_theirs, both_weaker, both_read_as, both_lent, both_lent_none, Halves, both_wrapped, both_always}
use Rattle.record_parts.proofs.Compared.{list_is, list_none, attrs_is, unchained, content_splits, element_splits, label_splits, element_above, text_below, item_is, no_item, value_is, no_kind, scalar_below, content_above}
use Rattle.record_parts.specs.Deep.{none_below, one_below}
use Rattle.record_parts.specs.Readers.{passed_some}
use Rattle.record_parts.proofs.TextOrders.{text_compared, no_text_there, is_text, attr_splits, scalar_is, name_is, no_name_of}

-- an answer other than Equal, whatever is read of the other
unequal : {A : Type 0} (order : A → A → Ordering) (r s : Option (A × List ℕ)) (xs ys : List ℕ) (o : Ordering) (n m : ℕ) → (o ≡ Equal → ⊥) → ((y : A × List ℕ) → s ≡ Some y → Compares (λ x. order x y.0) r xs (Some (o, n))) → ComparesBoth order r s xs ys (Some (o, n, m))
unequal order r s xs ys o n m ne h = λ y e. (h y e, λ t. absurd (ne t))

-- ---- texts

pub both_texts : (mine theirs xs ys s u : List ℕ) (o : Ordering) (n m : ℕ) → ((x : List ℕ × List ℕ) → text_at mine ≡ Some x → Some (s, drop n xs) ≡ Some x) → ((x : List ℕ × List ℕ) → text_at theirs ≡ Some x → Some (u, drop m ys) ≡ Some x) → o ≡ text_cmp s u
    → ComparesBoth text_cmp (text_at mine) (text_at theirs) xs ys (Some (o, n, m))
both_texts mine theirs xs ys s u o n m sliced other is = λ y e.
    let same : (u, drop m ys) ≡ y = some_is (u, drop m ys) y (other y e) in
    (subst (λ (z : List ℕ × List ℕ). Compares (λ x. text_cmp x z.0) (text_at mine) xs (Some (o, n))) same (text_compared mine xs s u o n sliced is), λ t. ap (λ (z : List ℕ × List ℕ). z.1) same)

pub both_no_text : (mine theirs xs ys : List ℕ) → ((x : List ℕ × List ℕ) → text_at mine ≡ Some x → None ≡ Some x) → ComparesBoth text_cmp (text_at mine) (text_at theirs) xs ys None
both_no_text mine theirs xs ys none = λ y e. (no_text_there mine xs y.0 none, tt)

pub both_no_other : (mine theirs xs ys : List ℕ) → ((x : List ℕ × List ℕ) → text_at theirs ≡ Some x → None ≡ Some x) → ComparesBoth text_cmp (text_at mine) (text_at theirs) xs ys None
both_no_other mine theirs xs ys none = λ y e. absurd (missing y (none y e))
  where
    missing : (x : List ℕ × List ℕ) → None ≡ Some x → ⊥
    missing x e = absurd cc

-- ---- scalars

-- behind any other byte than that of texts stands no text
not_text_kind : (k : ℕ) (rest : List ℕ) (x : PlainScalar × List ℕ) → k ≢ 5 → scalar_of k rest ≡ Some x → is_text x.0 ≡ false
unfolding scalar_of
not_text_kind zero rest x ne e = subst (λ (y : PlainScalar × List ℕ). is_text y.0 ≡ false) (some_is (null, rest) x e) refl
not_text_kind (suc zero) rest x ne e = subst (λ (y : PlainScalar × List ℕ). is_text y.0 ≡ false) (some_is (boolean false, rest) x e) refl
not_text_kind (suc (suc zero)) rest x ne e = subst (λ (y : PlainScalar × List ℕ). is_text y.0 ≡ false) (some_is (boolean true, rest) x e) refl
not_text_kind (suc (suc (suc zero))) rest x ne e =
    let b = bind_some (number_at w64 rest) (λ n. Some (whole (pos n.0), n.1)) x e in
    subst (λ (y : PlainScalar × List ℕ). is_text y.0 ≡ false) (some_is (whole (pos b.0.0), b.0.1) x b.2) refl
not_text_kind (suc (suc (suc (suc zero)))) rest x ne e =
    let b = bind_some (number_at w64 rest) (λ n. cond (ltb n.0 (2 ^ 63)) (Some (whole (negsuc n.0), n.1)) None) x e in
    subst (λ (y : PlainScalar × List ℕ). is_text y.0 ≡ false) (passed_some (ltb b.0.0 (2 ^ 63)) (whole (negsuc b.0.0), b.0.1) x b.2).1 refl
not_text_kind (suc (suc (suc (suc (suc zero))))) rest x ne e = absurd (ne refl)
not_text_kind (suc (suc (suc (suc (suc (suc k)))))) rest x ne e = absurd cc

below_text : (u : PlainScalar) (t : List ℕ) → is_text u ≡ false → Less ≡ scalar_cmp u (string t)
below_text null t e = refl
below_text (boolean b) t e = refl
below_text (whole n) t e = refl
below_text (string s) t e = absurd cc

-- a text against a text
pub both_text_scalars : (mine after theirs xs ys : List ℕ) (q : Option (Ordering × ℕ × ℕ)) → Some (5, after) ≡ byte_at mine → ComparesBoth text_cmp (text_at after) (text_at theirs) xs ys q → ComparesBoth scalar_cmp (scalar_at mine) (scalar_of 5 theirs) xs ys q
unfolding scalar_of
both_text_scalars mine after theirs xs ys q e c =
    both_read_as scalar_cmp (scalar_at mine) (scalar_of 5 theirs) (scalar_of 5 after) (scalar_of 5 theirs) xs ys q (scalar_is 5 mine after e) refl
    (both_wrapped (text_at after) (text_at theirs) string scalar_cmp text_cmp xs ys q (λ a b. refl) c)

-- any other scalar is below a text
pub both_below_text : (k : ℕ) (mine after theirs xs ys : List ℕ) (n m : ℕ) → Some (k, after) ≡ byte_at mine → k ≢ 5 → ComparesBoth scalar_cmp (scalar_at mine) (scalar_of 5 theirs) xs ys (Some (Less, n, m))
unfolding scalar_of
both_below_text k mine after theirs xs ys n m e ne =
    unequal scalar_cmp (scalar_at mine) (scalar_of 5 theirs) xs ys Less n m (λ t. absurd cc) (λ y f.
    (let b = bind_some (text_at theirs) (λ s. Some (string s.0, s.1)) y f in
    subst (λ (z : PlainScalar × List ℕ). Compares (λ x. scalar_cmp x z.0) (scalar_at mine) xs (Some (Less, n))) (some_is (string b.0.0, b.0.1) y b.2)
    (λ x g. (below_text x.0 b.0.0 (not_text_kind k after x ne (sym (scalar_is k mine after e) ∙ g)), λ t. absurd cc))))

-- the other one is lent, where it is no text
pub both_scalar_lent : (mine theirs after xs ys : List ℕ) (k : ℕ) (u : PlainScalar) (o : Ordering) (n m : ℕ) → Some (k, after) ≡ byte_at theirs → Some (u, drop m ys) ≡ scalar_of k after → Compares (λ s. scalar_cmp s u) (scalar_at mine) xs (Some (o, n)) → ComparesBoth scalar_cmp (scalar_at mine) (scalar_at theirs) xs ys (Some (o, n, m))
both_scalar_lent mine theirs after xs ys k u o n m e is c = both_lent scalar_cmp (scalar_at mine) (scalar_at theirs) xs ys u m o n (is ∙ sym (scalar_is k theirs after e)) c

pub both_scalar_lent_none : (mine theirs after rest xs ys : List ℕ) (k : ℕ) (u : PlainScalar) → Some (k, after) ≡ byte_at theirs → Some (u, rest) ≡ scalar_of k after → Compares (λ s. scalar_cmp s u) (scalar_at mine) xs None → ComparesBoth scalar_cmp (scalar_at mine) (scalar_at theirs) xs ys None
both_scalar_lent_none mine theirs after rest xs ys k u e is c = both_lent_none scalar_cmp (scalar_at mine) (scalar_at theirs) xs ys u rest (is ∙ sym (scalar_is k theirs after e)) c

pub both_no_scalar_kind : (mine theirs after xs ys : List ℕ) (k : ℕ) (q : Option (Ordering × ℕ × ℕ)) → Some (k, after) ≡ byte_at theirs → None ≡ scalar_of k after → ComparesBoth scalar_cmp (scalar_at mine) (scalar_at theirs) xs ys q
both_no_scalar_kind mine theirs after xs ys k q e none = no_theirs scalar_cmp (scalar_at mine) (scalar_at theirs) xs ys q (scalar_is k theirs after e ∙ sym none)

pub both_scalar_of_text : (mine theirs after xs ys : List ℕ) (q : Option (Ordering × ℕ × ℕ)) → Some (5, after) ≡ byte_at theirs → ComparesBoth scalar_cmp (scalar_at mine) (scalar_of 5 after) xs ys q → ComparesBoth scalar_cmp (scalar_at mine) (scalar_at theirs) xs ys q
both_scalar_of_text mine theirs after xs ys q e c = both_read_as scalar_cmp (scalar_at mine) (scalar_at theirs) (scalar_at mine) (scalar_of 5 after) xs ys q refl (scalar_is 5 theirs after e) c

-- ---- attributes

abbrev pub an_attr : List ℕ → PlainScalar → PlainAttr
an_attr name value = record { name = name; value = value }

pub attr_halves : (mine theirs : List ℕ) → Halves (attr_at mine) (attr_at theirs) (text_at mine) (text_at theirs) scalar_at an_attr attr_cmp text_cmp scalar_cmp
attr_halves mine theirs = record { mine = λ a b. attr_splits mine (an_attr a b); theirs = (attr_splits theirs (an_attr theirs null)).parts }

pub both_attr_rows : (mine theirs after behind xs ys : List ℕ) (n m : ℕ) (q : Option (Ordering × ℕ × ℕ)) → Some (n, after) ≡ number_at w32 mine → Some (m, behind) ≡ number_at w32 theirs
    → ComparesBoth (slice_cmp attr_cmp) (many_at attr_at n after) (many_at attr_at m behind) xs ys q → ComparesBoth (slice_cmp attr_cmp) (attrs_at mine) (attrs_at theirs) xs ys q
both_attr_rows mine theirs after behind xs ys n m q e f c =
    both_weaker (slice_cmp attr_cmp) (attrs_at mine) (attrs_at theirs) (many_at attr_at n after) (many_at attr_at m behind) xs ys q
    (λ x g. unchained attr_at next_attr None n after x (sym (attrs_is n mine after e) ∙ g)) (λ x g. unchained attr_at next_attr None m behind x (sym (attrs_is m theirs behind f) ∙ g)) c

-- ---- contents

abbrev pub a_content : List PlainAttr → List PlainTree → PlainContent
a_content xs ts = content xs (trees_of ts)

pub content_halves : (one : Reader PlainTree) (mine theirs : List ℕ) → Halves (content_by one mine) (content_by one theirs) (attrs_at mine) (attrs_at theirs) (list_at one) a_content content_cmp (slice_cmp attr_cmp) (slice_cmp tree_cmp)
content_halves one mine theirs = record { mine = λ a b. content_splits one mine a b; theirs = (content_splits one theirs [] []).parts }

-- counted rows
pub both_rows : {A : Type 0} (one : Reader A) (cmp : A → A → Ordering) (mine theirs after behind xs ys : List ℕ) (n m : ℕ) (q : Option (Ordering × ℕ × ℕ)) → Some (n, after) ≡ number_at w32 mine → Some (m, behind) ≡ number_at w32 theirs
    → ComparesBoth (slice_cmp cmp) (many_at one n after) (many_at one m behind) xs ys q → ComparesBoth (slice_cmp cmp) (list_at one mine) (list_at one theirs) xs ys q
both_rows one cmp mine theirs after behind xs ys n m q e f c = both_read_as (slice_cmp cmp) (list_at one mine) (list_at one theirs) (many_at one n after) (many_at one m behind) xs ys q (list_is one n mine after e) (list_is one m theirs behind f) c

pub no_row : {A : Type 0} (one : Reader A) (cmp : A → A → Ordering) (mine theirs xs ys : List ℕ) → None ≡ number_at w32 mine → ComparesBoth (slice_cmp cmp) (list_at one mine) (list_at one theirs) xs ys None
no_row one cmp mine theirs xs ys e = no_ours (slice_cmp cmp) (list_at one mine) (list_at one theirs) xs ys (list_none one mine e)

pub no_other_row : {A : Type 0} (one : Reader A) (cmp : A → A → Ordering) (mine theirs xs ys : List ℕ) → None ≡ number_at w32 theirs → ComparesBoth (slice_cmp cmp) (list_at one mine) (list_at one theirs) xs ys None
no_other_row one cmp mine theirs xs ys e = no_theirs (slice_cmp cmp) (list_at one mine) (list_at one theirs) xs ys None (list_none one theirs e)

pub both_below_none : (depth : ℕ) (mine theirs xs ys : List ℕ) → depth ≡ 0 → ComparesBoth content_cmp (content_below depth mine) (content_below depth theirs) xs ys None
both_below_none depth mine theirs xs ys e = no_ours content_cmp (content_below depth mine) (content_below depth theirs) xs ys (none_below depth mine e)

pub both_below_goes : (depth : ℕ) (mine theirs xs ys : List ℕ) (q : Option (Ordering × ℕ × ℕ)) → 0 < depth → ComparesBoth content_cmp (content_at (depth - 1) mine) (content_at (depth - 1) theirs) xs ys q → ComparesBoth content_cmp (content_below depth mine) (content_below depth theirs) xs ys q
both_below_goes depth mine theirs xs ys q lt c = both_read_as content_cmp (content_below depth mine) (content_below depth theirs) (content_at (depth - 1) mine) (content_at (depth - 1) theirs) xs ys q (one_below depth mine lt) (one_below depth theirs lt) c

-- ---- items

pub element_halves : (inner : Reader PlainContent) (mine theirs : List ℕ) → Halves (item_of inner 1 mine) (item_of inner 1 theirs) (text_at mine) (text_at theirs) inner element tree_cmp text_cmp content_cmp
element_halves inner mine theirs = record { mine = λ a b. element_splits inner mine a b; theirs = (element_splits inner theirs [] (content [] (trees_of []))).parts }

pub both_item_kinds : (depth j k : ℕ) (mine theirs after behind xs ys : List ℕ) (q : Option (Ordering × ℕ × ℕ)) → Some (j, after) ≡ byte_at mine → Some (k, behind) ≡ byte_at theirs
    → ComparesBoth tree_cmp (item_of (content_below depth) j after) (item_of (content_below depth) k behind) xs ys q → ComparesBoth tree_cmp (item_at depth mine) (item_at depth theirs) xs ys q
both_item_kinds depth j k mine theirs after behind xs ys q e f c =
    both_read_as tree_cmp (item_at depth mine) (item_at depth theirs) (item_of (content_below depth) j after) (item_of (content_below depth) k behind) xs ys q (item_is depth j mine after e) (item_is depth k theirs behind f) c

pub both_text_items : (inner : Reader PlainContent) (mine theirs xs ys : List ℕ) (q : Option (Ordering × ℕ × ℕ)) → ComparesBoth text_cmp (text_at mine) (text_at theirs) xs ys q → ComparesBoth tree_cmp (item_of inner 0 mine) (item_of inner 0 theirs) xs ys q
unfolding item_of
both_text_items inner mine theirs xs ys q c = both_wrapped (text_at mine) (text_at theirs) text tree_cmp text_cmp xs ys q (λ a b. refl) c

pub both_text_element : (inner : Reader PlainContent) (mine theirs xs ys : List ℕ) (n m : ℕ) → ComparesBoth tree_cmp (item_of inner 0 mine) (item_of inner 1 theirs) xs ys (Some (Less, n, m))
both_text_element inner mine theirs xs ys n m =
    unequal tree_cmp (item_of inner 0 mine) (item_of inner 1 theirs) xs ys Less n m (λ t. absurd cc) (λ y f.
    (let p = (element_splits inner theirs [] (content [] (trees_of []))).parts y f in
    subst (λ (z : PlainTree × List ℕ). Compares (λ x. tree_cmp x z.0) (item_of inner 0 mine) xs (Some (Less, n))) p.x_is (text_below inner mine xs p.a.0 p.b.0 n)))

pub both_element_text : (inner : Reader PlainContent) (mine theirs xs ys : List ℕ) (n m : ℕ) → ComparesBoth tree_cmp (item_of inner 1 mine) (item_of inner 0 theirs) xs ys (Some (Greater, n, m))
unfolding item_of
both_element_text inner mine theirs xs ys n m =
    unequal tree_cmp (item_of inner 1 mine) (item_of inner 0 theirs) xs ys Greater n m (λ t. absurd cc) (λ y f.
    (let b = bind_some (text_at theirs) (λ s. Some (text s.0, s.1)) y f in
    subst (λ (z : PlainTree × List ℕ). Compares (λ x. tree_cmp x z.0) (item_of inner 1 mine) xs (Some (Greater, n))) (some_is (text b.0.0, b.0.1) y b.2) (element_above inner mine xs b.0.0 n)))

pub both_no_item : (depth j : ℕ) (mine theirs after xs ys : List ℕ) → Some (j, after) ≡ byte_at mine → j ≢ 0 → j ≢ 1 → ComparesBoth tree_cmp (item_at depth mine) (item_at depth theirs) xs ys None
both_no_item depth j mine theirs after xs ys e f g = no_ours tree_cmp (item_at depth mine) (item_at depth theirs) xs ys (item_is depth j mine after e ∙ no_item (content_below depth) j after f g)

pub both_no_other_item : (depth j : ℕ) (mine theirs after xs ys : List ℕ) → Some (j, after) ≡ byte_at theirs → j ≢ 0 → j ≢ 1 → ComparesBoth tree_cmp (item_at depth mine) (item_at depth theirs) xs ys None
both_no_other_item depth j mine theirs after xs ys e f g = no_theirs tree_cmp (item_at depth mine) (item_at depth theirs) xs ys None (item_is depth j theirs after e ∙ no_item (content_below depth) j after f g)

-- ---- key values

pub both_value_kinds : (j k : ℕ) (mine theirs after behind xs ys : List ℕ) (q : Option (Ordering × ℕ × ℕ)) → Some (j, after) ≡ byte_at mine → Some (k, behind) ≡ byte_at theirs
    → ComparesBoth key_cmp (value_of j after) (value_of k behind) xs ys q → ComparesBoth key_cmp (value_at mine) (value_at theirs) xs ys q
both_value_kinds j k mine theirs after behind xs ys q e f c = both_read_as key_cmp (value_at mine) (value_at theirs) (value_of j after) (value_of k behind) xs ys q (value_is j mine after e) (value_is k theirs behind f) c

pub both_scalar_values : (mine theirs xs ys : List ℕ) (q : Option (Ordering × ℕ × ℕ)) → ComparesBoth scalar_cmp (scalar_at mine) (scalar_at theirs) xs ys q → ComparesBoth key_cmp (value_of 0 mine) (value_of 0 theirs) xs ys q
unfolding value_of
both_scalar_values mine theirs xs ys q c = both_wrapped (scalar_at mine) (scalar_at theirs) scalar key_cmp scalar_cmp xs ys q (λ a b. refl) c

pub both_content_values : (mine theirs xs ys : List ℕ) (q : Option (Ordering × ℕ × ℕ)) → ComparesBoth content_cmp (content_at deepest mine) (content_at deepest theirs) xs ys q → ComparesBoth key_cmp (value_of 1 mine) (value_of 1 theirs) xs ys q
unfolding value_of
both_content_values mine theirs xs ys q c = both_wrapped (content_at deepest mine) (content_at deepest theirs) inside key_cmp content_cmp xs ys q (λ a b. refl) c

pub both_scalar_content : (mine theirs xs ys : List ℕ) (n m : ℕ) → ComparesBoth key_cmp (value_of 0 mine) (value_of 1 theirs) xs ys (Some (Less, n, m))
unfolding value_of
both_scalar_content mine theirs xs ys n m =
    unequal key_cmp (value_of 0 mine) (value_of 1 theirs) xs ys Less n m (λ t. absurd cc) (λ y f.
    (let b = bind_some (content_at deepest theirs) (λ c. Some (inside c.0, c.1)) y f in
    subst (λ (z : PlainKey × List ℕ). Compares (λ x. key_cmp x z.0) (value_of 0 mine) xs (Some (Less, n))) (some_is (inside b.0.0, b.0.1) y b.2) (scalar_below mine xs b.0.0 n)))

pub both_content_scalar : (mine theirs xs ys : List ℕ) (n m : ℕ) → ComparesBoth key_cmp (value_of 1 mine) (value_of 0 theirs) xs ys (Some (Greater, n, m))
unfolding value_of
both_content_scalar mine theirs xs ys n m =
    unequal key_cmp (value_of 1 mine) (value_of 0 theirs) xs ys Greater n m (λ t. absurd cc) (λ y f.
    (let b = bind_some (scalar_at theirs) (λ s. Some (scalar s.0, s.1)) y f in
    subst (λ (z : PlainKey × List ℕ). Compares (λ x. key_cmp x z.0) (value_of 1 mine) xs (Some (Greater, n))) (some_is (scalar b.0.0, b.0.1) y b.2) (content_above mine xs b.0.0 n)))

pub both_no_value : (j : ℕ) (mine theirs after xs ys : List ℕ) → Some (j, after) ≡ byte_at mine → j ≢ 0 → j ≢ 1 → ComparesBoth key_cmp (value_at mine) (value_at theirs) xs ys None
both_no_value j mine theirs after xs ys e f g = no_ours key_cmp (value_at mine) (value_at theirs) xs ys (value_is j mine after e ∙ no_kind j after f g)

pub both_no_other_value : (j : ℕ) (mine theirs after xs ys : List ℕ) → Some (j, after) ≡ byte_at theirs → j ≢ 0 → j ≢ 1 → ComparesBoth key_cmp (value_at mine) (value_at theirs) xs ys None
both_no_other_value j mine theirs after xs ys e f g = no_theirs key_cmp (value_at mine) (value_at theirs) xs ys None (value_is j theirs after e ∙ no_kind j after f g)

-- ---- names and labels

pub both_name_kinds : (j k : ℕ) (mine theirs after behind xs ys : List ℕ) (q : Option (Ordering × ℕ × ℕ)) → Some (j, after) ≡ byte_at mine → Some (k, behind) ≡ byte_at theirs
    → ComparesBoth name_cmp (name_of j after) (name_of k behind) xs ys q → ComparesBoth name_cmp (name_at mine) (name_at theirs) xs ys q
both_name_kinds j k mine theirs after behind xs ys q e f c = both_read_as name_cmp (name_at mine) (name_at theirs) (name_of j after) (name_of k behind) xs ys q (name_is j mine after e) (name_is k theirs behind f) c

pub both_attr_names : (mine theirs xs ys : List ℕ) (q : Option (Ordering × ℕ × ℕ)) → ComparesBoth text_cmp (text_at mine) (text_at theirs) xs ys q → ComparesBoth name_cmp (name_of 0 mine) (name_of 0 theirs) xs ys q
unfolding name_of
both_attr_names mine theirs xs ys q c = both_wrapped (text_at mine) (text_at theirs) attr name_cmp text_cmp xs ys q (λ a b. refl) c

pub both_tag_names : (mine theirs xs ys : List ℕ) (q : Option (Ordering × ℕ × ℕ)) → ComparesBoth text_cmp (text_at mine) (text_at theirs) xs ys q → ComparesBoth name_cmp (name_of 1 mine) (name_of 1 theirs) xs ys q
unfolding name_of
both_tag_names mine theirs xs ys q c = both_wrapped (text_at mine) (text_at theirs) tag name_cmp text_cmp xs ys q (λ a b. refl) c

pub both_attr_tag : (mine theirs xs ys : List ℕ) (n m : ℕ) → ComparesBoth name_cmp (name_of 0 mine) (name_of 1 theirs) xs ys (Some (Less, n, m))
unfolding name_of
both_attr_tag mine theirs xs ys n m = both_always (text_at mine) (text_at theirs) attr tag name_cmp Less xs ys n m (λ a b. refl) (λ t. absurd cc)

pub both_tag_attr : (mine theirs xs ys : List ℕ) (n m : ℕ) → ComparesBoth name_cmp (name_of 1 mine) (name_of 0 theirs) xs ys (Some (Greater, n, m))
unfolding name_of
both_tag_attr mine theirs xs ys n m = both_always (text_at mine) (text_at theirs) tag attr name_cmp Greater xs ys n m (λ a b. refl) (λ t. absurd cc)

pub both_no_name : (j : ℕ) (mine theirs after xs ys : List ℕ) → Some (j, after) ≡ byte_at mine → j ≢ 0 → j ≢ 1 → ComparesBoth name_cmp (name_at mine) (name_at theirs) xs ys None
both_no_name j mine theirs after xs ys e f g = no_ours name_cmp (name_at mine) (name_at theirs) xs ys (name_is j mine after e ∙ no_name_of j after f g)

pub both_no_other_name : (j : ℕ) (mine theirs after xs ys : List ℕ) → Some (j, after) ≡ byte_at theirs → j ≢ 0 → j ≢ 1 → ComparesBoth name_cmp (name_at mine) (name_at theirs) xs ys None
both_no_other_name j mine theirs after xs ys e f g = no_theirs name_cmp (name_at mine) (name_at theirs) xs ys None (name_is j theirs after e ∙ no_name_of j after f g)

abbrev pub a_label : PlainName → List PlainKey → PlainLabel
a_label n ks = record { name = n; keys = ks }

pub label_halves : (mine theirs : List ℕ) → Halves (label_at mine) (label_at theirs) (name_at mine) (name_at theirs) (list_at value_at) a_label label_cmp name_cmp (slice_cmp key_cmp)
label_halves mine theirs = record { mine = λ a b. label_splits mine (a_label a b); theirs = (label_splits theirs (a_label (tag []) [])).parts }
