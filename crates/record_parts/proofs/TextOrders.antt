-- Comparing texts, scalars, names and attributes with values. What a text's bytes are is not looked at.
use Rattle.std.proofs.Common.{◌≡◌, ◌≢◌, ℕ, zero, suc, ◌+◌, ◌<◌, ◌≤◌, Bool, true, false, cond, ltb, Bor, ◌||◌, not, List, length, take, drop, Option, Some, None, refl, sym, ap, subst, ◌∙◌, arith}
use Rattle.std.specs.Int.{w32}
use Rattle.std.specs.Ordering.{is_ne}
use Rattle.std.specs.Str.{is_utf8}
use Rattle.std.specs.declared.cmp.Ordering.{Ordering}
use Rattle.std.specs.declared.cmp.Ordering.TheVariants.{Less, Greater}
use Rattle.std.proofs.lemmas.Bool.{ltb-false}
use Rattle.std.proofs.lemmas.List.{drop-drop}
use Rattle.jsonml_tree.specs.Data.{PlainScalar, null, boolean, whole, string, PlainAttr}
use Rattle.jsonml_tree.specs.LentAttrs.{lent_scalar_view}
use Rattle.jsonml_tree.specs.declared.lent_attr.LentScalar.{LentScalar}
use Rattle.jsonml_tree.specs.declared.lent_attr.LentScalar.TheVariants as lent
use Rattle.jsonml_tree.specs.Order.{text_cmp, scalar_cmp, attr_cmp}
use Rattle.keyed_tree.specs.Data.{PlainName, attr, tag}
use Rattle.keyed_tree.specs.Order.{name_cmp}
use Rattle.xa_fields.specs.Reading.{◌>>=◌, byte_at, number_at, text_at}
use Rattle.xa_fields.proofs.Fields.{bind_some, guard_some, some_is}
use Rattle.record_parts.specs.Compares.{Compares}
use Rattle.record_parts.specs.Reading.{scalar_of, scalar_at, attr_at, name_of, name_at}
use Rattle.record_parts.proofs.Leads.{not_equal, is_equal}
use Rattle.record_parts.proofs.Compared.{nothing, same_read, Splits, first_fails, first_decides, second_decides, wrapped, held, always}

-- ---- texts

abbrev by_text : List ℕ → List ℕ → Ordering
by_text u s = text_cmp s u

or_false : (a b : Bool) → (a || b) ≡ false → a ≡ false
or_false true b e = absurd cc
or_false false b e = refl

-- a text that is read has its bytes behind its length
text_parts : (n : ℕ) (bytes after : List ℕ) (x : List ℕ × List ℕ) → Some (n, after) ≡ number_at w32 bytes → text_at bytes ≡ Some x → (n ≤ length after) × ((take n after, drop n after) ≡ x)
unfolding text_at
text_parts n bytes after x e f =
    let b = bind_some (number_at w32 bytes) (λ n. cond (ltb (length n.1) n.0 || not (is_utf8 (take n.0 n.1))) None (Some (take n.0 n.1, drop n.0 n.1))) x f in
    let same : (n, after) ≡ b.0 = some_is (n, after) b.0 (e ∙ b.1) in
    let here = subst (λ (p : ℕ × List ℕ). cond (ltb (length p.1) p.0 || not (is_utf8 (take p.0 p.1))) None (Some (take p.0 p.1, drop p.0 p.1)) ≡ Some x) (sym same) b.2 in
    let g = guard_some (ltb (length after) n || not (is_utf8 (take n after))) (Some (take n after, drop n after)) x here in
    (ltb-false _ _ (or_false _ _ g.0), some_is (take n after, drop n after) x g.1)

no_length : (bytes : List ℕ) → None ≡ number_at w32 bytes → text_at bytes ≡ None
unfolding text_at
no_length bytes e = (let f = sym e in rw f refl)

-- no text is read where no length is, or where it is cut
pub text_none : (bytes : List ℕ) (x : List ℕ × List ℕ) → None ≡ number_at w32 bytes → text_at bytes ≡ Some x → ⊥
text_none bytes x e f = no_text (text_at bytes) x (no_length bytes e) f
  where
    no_text : (r : Option (List ℕ × List ℕ)) (x : List ℕ × List ℕ) → r ≡ None → r ≡ Some x → ⊥
    no_text (Some y) x e f = absurd cc
    no_text None x e f = absurd cc

pub text_cut : (n : ℕ) (bytes after : List ℕ) (x : List ℕ × List ℕ) → Some (n, after) ≡ number_at w32 bytes → length after < n → text_at bytes ≡ Some x → ⊥
text_cut n bytes after x e lt f = let p = text_parts n bytes after x e f in let le = p.0 in absurd (omega (arith, le))

pub text_sliced : (n start : ℕ) (bytes file : List ℕ) (s : List ℕ) (x : List ℕ × List ℕ) → Some (n, drop start file) ≡ number_at w32 bytes → s ≡ take n (drop start file) → text_at bytes ≡ Some x → Some (s, drop (start + n) file) ≡ Some x
text_sliced n start bytes file s x e is f =
    let p = text_parts n bytes (drop start file) x e f in
    (λ i. Some (is i, sym (drop-drop n start file) i)) ∙ ap Some p.1

-- the bytes of a text, compared
pub text_compared : (bytes file s u : List ℕ) (o : Ordering) (n : ℕ) → ((x : List ℕ × List ℕ) → text_at bytes ≡ Some x → Some (s, drop n file) ≡ Some x) → o ≡ text_cmp s u → Compares (by_text u) (text_at bytes) file (Some (o, n))
text_compared bytes file s u o n sliced is = λ x f.
    let same : (s, drop n file) ≡ x = some_is (s, drop n file) x (sliced x f) in
    (is ∙ ap (λ (y : List ℕ × List ℕ). text_cmp y.0 u) same, λ t. ap (λ (y : List ℕ × List ℕ). y.1) same)

pub no_text_there : (bytes file u : List ℕ) → ((x : List ℕ × List ℕ) → text_at bytes ≡ Some x → None ≡ Some x) → Compares (by_text u) (text_at bytes) file None
no_text_there bytes file u none = λ x f. missing x (none x f)
  where
    missing : (x : List ℕ × List ℕ) → None ≡ Some x → ⊥
    missing x e = absurd cc

-- ---- scalars

abbrev pub by_scalar : PlainScalar → PlainScalar → Ordering
by_scalar u s = scalar_cmp s u

pub scalar_is : (kind : ℕ) (bytes after : List ℕ) → Some (kind, after) ≡ byte_at bytes → scalar_at bytes ≡ scalar_of kind after
unfolding scalar_at
scalar_is kind bytes after e = (let f = sym e in rw f refl)

pub no_scalar : (bytes : List ℕ) → None ≡ byte_at bytes → scalar_at bytes ≡ None
unfolding scalar_at
no_scalar bytes e = (let f = sym e in rw f refl)

pub scalar_fails : (bytes file : List ℕ) (u : PlainScalar) → None ≡ byte_at bytes → Compares (by_scalar u) (scalar_at bytes) file None
scalar_fails bytes file u e = nothing (by_scalar u) (scalar_at bytes) file None (no_scalar bytes e)

pub of_scalar_kind : (kind : ℕ) (bytes after file : List ℕ) (u : PlainScalar) (q : Option (Ordering × ℕ)) → Some (kind, after) ≡ byte_at bytes → Compares (by_scalar u) (scalar_of kind after) file q → Compares (by_scalar u) (scalar_at bytes) file q
of_scalar_kind kind bytes after file u q e h = same_read (by_scalar u) (scalar_at bytes) (scalar_of kind after) file q (scalar_is kind bytes after e) h

-- a text against a text
pub text_in_scalar : (bytes file u : List ℕ) (q : Option (Ordering × ℕ)) → Compares (by_text u) (text_at bytes) file q → Compares (by_scalar (string u)) (scalar_of 5 bytes) file q
unfolding scalar_of
text_in_scalar bytes file u q h = wrapped (scalar_of 5 bytes) (text_at bytes) (by_scalar (string u)) (by_text u) file q (λ x e. held (text_at bytes) string (by_scalar (string u)) (by_text u) x (λ s. refl) e) h

abbrev pub is_text : PlainScalar → Bool
is_text (string s) = true
is_text other = false

text_above : (s : List ℕ) (u : PlainScalar) → is_text u ≡ false → scalar_cmp (string s) u ≡ Greater
text_above s null e = refl
text_above s (boolean b) e = refl
text_above s (whole n) e = refl
text_above s (string t) e = absurd cc

pub not_text : (v : LentScalar) → ((x : Bor (List ℕ)) → v ≡ lent.Text x → ⊥) → is_text (lent_scalar_view v) ≡ false
not_text lent.Null h = refl
not_text (lent.Bool b) h = refl
not_text (lent.Whole n) h = refl
not_text (lent.Text s) h = absurd (h s refl)

-- a text is above all else
pub text_above_scalar : (bytes file : List ℕ) (n : ℕ) (u : PlainScalar) → is_text u ≡ false → Compares (by_scalar u) (scalar_of 5 bytes) file (Some (Greater, n))
unfolding scalar_of
text_above_scalar bytes file n u e = always (text_at bytes) string (by_scalar u) Greater file n (λ s. text_above s u e) (λ t. absurd cc)

-- ---- names

abbrev by_name : PlainName → PlainName → Ordering
by_name u n = name_cmp n u

pub name_is : (kind : ℕ) (bytes after : List ℕ) → Some (kind, after) ≡ byte_at bytes → name_at bytes ≡ name_of kind after
unfolding name_at
name_is kind bytes after e = (let f = sym e in rw f refl)

pub no_name : (bytes : List ℕ) → None ≡ byte_at bytes → name_at bytes ≡ None
unfolding name_at
no_name bytes e = (let f = sym e in rw f refl)

pub no_name_of : (kind : ℕ) (bytes : List ℕ) → kind ≢ 0 → kind ≢ 1 → name_of kind bytes ≡ None
unfolding name_of
no_name_of zero bytes f g = absurd (f refl)
no_name_of (suc zero) bytes f g = absurd (g refl)
no_name_of (suc (suc k)) bytes f g = refl

pub name_fails : (bytes file : List ℕ) (u : PlainName) → None ≡ byte_at bytes → Compares (by_name u) (name_at bytes) file None
name_fails bytes file u e = nothing (by_name u) (name_at bytes) file None (no_name bytes e)

of_name_kind : (kind : ℕ) (bytes after file : List ℕ) (u : PlainName) (q : Option (Ordering × ℕ)) → Some (kind, after) ≡ byte_at bytes → Compares (by_name u) (name_of kind after) file q → Compares (by_name u) (name_at bytes) file q
of_name_kind kind bytes after file u q e h = same_read (by_name u) (name_at bytes) (name_of kind after) file q (name_is kind bytes after e) h

pub of_no_name_kind : (kind : ℕ) (bytes after file : List ℕ) (u : PlainName) → Some (kind, after) ≡ byte_at bytes → kind ≢ 0 → kind ≢ 1 → Compares (by_name u) (name_at bytes) file None
of_no_name_kind kind bytes after file u e f g = of_name_kind kind bytes after file u None e (nothing (by_name u) (name_of kind after) file None (no_name_of kind after f g))

pub attr_attr : (bytes after file u : List ℕ) (q : Option (Ordering × ℕ)) → Some (0, after) ≡ byte_at bytes → Compares (by_text u) (text_at after) file q → Compares (by_name (attr u)) (name_at bytes) file q
unfolding name_of
attr_attr bytes after file u q e h = of_name_kind 0 bytes after file (attr u) q e (wrapped (name_of 0 after) (text_at after) (by_name (attr u)) (by_text u) file q (λ x f. held (text_at after) attr (by_name (attr u)) (by_text u) x (λ s. refl) f) h)

pub attr_tag : (bytes after file u : List ℕ) (n : ℕ) → Some (0, after) ≡ byte_at bytes → Compares (by_name (tag u)) (name_at bytes) file (Some (Less, n))
unfolding name_of
attr_tag bytes after file u n e = of_name_kind 0 bytes after file (tag u) (Some (Less, n)) e (always (text_at after) attr (by_name (tag u)) Less file n (λ s. refl) (λ t. absurd cc))

pub tag_attr : (bytes after file u : List ℕ) (n : ℕ) → Some (1, after) ≡ byte_at bytes → Compares (by_name (attr u)) (name_at bytes) file (Some (Greater, n))
unfolding name_of
tag_attr bytes after file u n e = of_name_kind 1 bytes after file (attr u) (Some (Greater, n)) e (always (text_at after) tag (by_name (attr u)) Greater file n (λ s. refl) (λ t. absurd cc))

pub tag_tag : (bytes after file u : List ℕ) (q : Option (Ordering × ℕ)) → Some (1, after) ≡ byte_at bytes → Compares (by_text u) (text_at after) file q → Compares (by_name (tag u)) (name_at bytes) file q
unfolding name_of
tag_tag bytes after file u q e h = of_name_kind 1 bytes after file (tag u) q e (wrapped (name_of 1 after) (text_at after) (by_name (tag u)) (by_text u) file q (λ x f. held (text_at after) tag (by_name (tag u)) (by_text u) x (λ s. refl) f) h)

-- ---- attributes

abbrev by_attr : PlainAttr → PlainAttr → Ordering
by_attr u a = attr_cmp a u

abbrev made : List ℕ → PlainScalar → PlainAttr
made name value = record { name = name; value = value }

pub attr_splits : (bytes : List ℕ) (u : PlainAttr) → Splits (attr_at bytes) (text_at bytes) scalar_at made (by_attr u) (by_text u.name) (by_scalar u.value)
unfolding attr_at
attr_splits bytes u = record {
  parts = λ x e.
      let a = bind_some (text_at bytes) (λ name. scalar_at name.1 >>= λ value. Some (record { name = name.0; value = value.0 }, value.1)) x e in
      let b = bind_some (scalar_at a.0.1) (λ value. Some (record { name = a.0.0; value = value.0 }, value.1)) x a.2 in
      record { a = a.0; b = b.0; a_is = a.1; b_is = b.1; x_is = some_is (record { name = a.0.0; value = b.0.0 }, b.0.1) x b.2 };
  then = λ n v. refl;
}

pub attr_fails : (bytes file : List ℕ) (u : PlainAttr) → Compares (by_text u.name) (text_at bytes) file None → Compares (by_attr u) (attr_at bytes) file None
attr_fails bytes file u h = first_fails (attr_at bytes) (text_at bytes) scalar_at made (by_attr u) (by_text u.name) (by_scalar u.value) file (attr_splits bytes u) h

pub attr_decides : (bytes file : List ℕ) (u : PlainAttr) (o : Ordering) (n : ℕ) → is_ne o ≡ true → Compares (by_text u.name) (text_at bytes) file (Some (o, n)) → Compares (by_attr u) (attr_at bytes) file (Some (o, n))
attr_decides bytes file u o n ne h = first_decides (attr_at bytes) (text_at bytes) scalar_at made (by_attr u) (by_text u.name) (by_scalar u.value) file o n n (attr_splits bytes u) h (not_equal o ne)

pub attr_goes : (bytes file : List ℕ) (u : PlainAttr) (o : Ordering) (n : ℕ) (q : Option (Ordering × ℕ)) → is_ne o ≡ false → Compares (by_text u.name) (text_at bytes) file (Some (o, n)) → Compares (by_scalar u.value) (scalar_at (drop n file)) file q → Compares (by_attr u) (attr_at bytes) file q
attr_goes bytes file u o n q eq h k = second_decides (attr_at bytes) (text_at bytes) scalar_at made (by_attr u) (by_text u.name) (by_scalar u.value) file o n q (attr_splits bytes u) h (is_equal o eq) k

-- an attribute that is seen by its name and its value
pub attr_seen : (bytes file : List ℕ) (u : PlainAttr) (n : List ℕ) (v : PlainScalar) (q : Option (Ordering × ℕ)) → n ≡ u.name → v ≡ u.value → Compares (by_attr (made n v)) (attr_at bytes) file q → Compares (by_attr u) (attr_at bytes) file q
attr_seen bytes file u n v q e f h =
    subst (λ (w : PlainScalar). Compares (by_attr (made u.name w)) (attr_at bytes) file q) f
    (subst (λ (m : List ℕ). Compares (by_attr (made m v)) (attr_at bytes) file q) e h)
