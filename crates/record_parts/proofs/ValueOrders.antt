-- Comparing key values and labels with values.
use Rattle.std.proofs.Common.{◌≡◌, ◌≢◌, ℕ, true, false, List, Option, Some, None, drop, subst}
use Rattle.std.specs.Int.{w32}
use Rattle.std.specs.Ordering.{is_ne}
use Rattle.std.specs.declared.cmp.Ordering.{Ordering}
use Rattle.std.specs.declared.cmp.Ordering.TheVariants.{Less, Greater}
use Rattle.std.specs.Cmp.Lexicographic.{slice_cmp}
use Rattle.jsonml_tree.specs.Data.{PlainScalar, PlainContent}
use Rattle.jsonml_tree.specs.Order.{scalar_cmp, content_cmp}
use Rattle.keyed_tree.specs.Data.{PlainName, PlainKey, scalar, inside, PlainLabel}
use Rattle.keyed_tree.specs.Order.{name_cmp, key_cmp, label_cmp}
use Rattle.xa_fields.specs.Reading.{byte_at, number_at, many_at, list_at}
use Rattle.record_parts.specs.Bounds.{deepest}
use Rattle.record_parts.specs.Compares.{Compares}
use Rattle.record_parts.specs.Reading.{scalar_at, content_at, value_of, value_at, name_at, label_at}
use Rattle.record_parts.proofs.Leads.{not_equal, is_equal}
use Rattle.record_parts.proofs.Compared.{nothing, same_read, first_fails, first_decides, second_decides, list_is, list_none, label_splits, value_is, value_none, no_kind, scalar_compare, scalar_below, content_above, content_compare}

-- ---- key values

abbrev by_value : PlainKey → PlainKey → Ordering
by_value k x = key_cmp x k

pub scalar_scalar : (bytes file : List ℕ) (k : PlainKey) (u : PlainScalar) (q : Option (Ordering × ℕ)) → scalar u ≡ k → Compares (λ s. scalar_cmp s u) (scalar_at bytes) file q → Compares (by_value k) (value_of 0 bytes) file q
scalar_scalar bytes file k u q is h = subst (λ (x : PlainKey). Compares (by_value x) (value_of 0 bytes) file q) is (scalar_compare bytes file u q h)

pub scalar_content : (bytes file : List ℕ) (n : ℕ) (k : PlainKey) (d : PlainContent) → inside d ≡ k → Compares (by_value k) (value_of 0 bytes) file (Some (Less, n))
scalar_content bytes file n k d is = subst (λ (x : PlainKey). Compares (by_value x) (value_of 0 bytes) file (Some (Less, n))) is (scalar_below bytes file d n)

pub content_scalar : (bytes file : List ℕ) (n : ℕ) (k : PlainKey) (u : PlainScalar) → scalar u ≡ k → Compares (by_value k) (value_of 1 bytes) file (Some (Greater, n))
content_scalar bytes file n k u is = subst (λ (x : PlainKey). Compares (by_value x) (value_of 1 bytes) file (Some (Greater, n))) is (content_above bytes file u n)

pub content_content : (bytes file : List ℕ) (k : PlainKey) (d : PlainContent) (q : Option (Ordering × ℕ)) → inside d ≡ k → Compares (λ c. content_cmp c d) (content_at deepest bytes) file q → Compares (by_value k) (value_of 1 bytes) file q
content_content bytes file k d q is h = subst (λ (x : PlainKey). Compares (by_value x) (value_of 1 bytes) file q) is (content_compare bytes file d q h)

pub no_value_byte : (bytes file : List ℕ) (k : PlainKey) → None ≡ byte_at bytes → Compares (by_value k) (value_at bytes) file None
no_value_byte bytes file k e = nothing (by_value k) (value_at bytes) file None (value_none bytes e)

pub of_value_kind : (kind : ℕ) (bytes after file : List ℕ) (k : PlainKey) (q : Option (Ordering × ℕ)) → Some (kind, after) ≡ byte_at bytes → Compares (by_value k) (value_of kind after) file q → Compares (by_value k) (value_at bytes) file q
of_value_kind kind bytes after file k q e h = same_read (by_value k) (value_at bytes) (value_of kind after) file q (value_is kind bytes after e) h

pub of_no_value_kind : (kind : ℕ) (bytes file : List ℕ) (k : PlainKey) → kind ≢ 0 → kind ≢ 1 → Compares (by_value k) (value_of kind bytes) file None
of_no_value_kind kind bytes file k f g = nothing (by_value k) (value_of kind bytes) file None (no_kind kind bytes f g)

-- ---- labels

abbrev by_label : PlainLabel → PlainLabel → Ordering
by_label m x = label_cmp x m

abbrev by_keys : List PlainKey → List PlainKey → Ordering
by_keys us ks = slice_cmp key_cmp ks us

abbrev by_name : PlainName → PlainName → Ordering
by_name m n = name_cmp n m

abbrev made : PlainName → List PlainKey → PlainLabel
made n ks = record { name = n; keys = ks }

pub label_fails : (bytes file : List ℕ) (m : PlainLabel) → Compares (by_name m.name) (name_at bytes) file None → Compares (by_label m) (label_at bytes) file None
label_fails bytes file m h =
    first_fails (label_at bytes) (name_at bytes) (list_at value_at) made (by_label m) (by_name m.name) (by_keys m.keys) file (label_splits bytes m) h

pub label_decides : (bytes file : List ℕ) (m : PlainLabel) (o : Ordering) (n : ℕ) → is_ne o ≡ true → Compares (by_name m.name) (name_at bytes) file (Some (o, n)) → Compares (by_label m) (label_at bytes) file (Some (o, n))
label_decides bytes file m o n ne h =
    first_decides (label_at bytes) (name_at bytes) (list_at value_at) made (by_label m) (by_name m.name) (by_keys m.keys) file o n n (label_splits bytes m) h (not_equal o ne)

pub label_goes : (bytes file : List ℕ) (m : PlainLabel) (us : List PlainKey) (o : Ordering) (n : ℕ) (q : Option (Ordering × ℕ)) → us ≡ m.keys → is_ne o ≡ false → Compares (by_name m.name) (name_at bytes) file (Some (o, n))
    → Compares (by_keys us) (list_at value_at (drop n file)) file q → Compares (by_label m) (label_at bytes) file q
label_goes bytes file m us o n q same eq h k =
    second_decides (label_at bytes) (name_at bytes) (list_at value_at) made (by_label m) (by_name m.name) (by_keys m.keys) file o n q (label_splits bytes m) h (is_equal o eq)
    (subst (λ (ks : List PlainKey). Compares (by_keys ks) (list_at value_at (drop n file)) file q) same k)

pub keys_none : (bytes file : List ℕ) (us : List PlainKey) → None ≡ number_at w32 bytes → Compares (by_keys us) (list_at value_at bytes) file None
keys_none bytes file us e = nothing (by_keys us) (list_at value_at bytes) file None (list_none value_at bytes e)

pub keys_counted : (n : ℕ) (bytes after file : List ℕ) (us : List PlainKey) (q : Option (Ordering × ℕ)) → Some (n, after) ≡ number_at w32 bytes → Compares (by_keys us) (many_at value_at n after) file q → Compares (by_keys us) (list_at value_at bytes) file q
keys_counted n bytes after file us q e h = same_read (by_keys us) (list_at value_at bytes) (many_at value_at n after) file q (list_is value_at n bytes after e) h
