-- Comparing by readers that are made of readers.
use Rattle.std.proofs.Common.{◌≡◌, ◌≢◌, ℕ, zero, suc, List, ◌∷◌, drop, Option, Some, None, refl, sym, ap, ◌∙◌}
use Rattle.std.specs.Int.{w32}
use Rattle.std.specs.Ordering.{ordering_then}
use Rattle.std.specs.declared.cmp.Ordering.{Ordering}
use Rattle.std.specs.declared.cmp.Ordering.TheVariants.{Less, Equal, Greater}
use Rattle.std.specs.Cmp.Lexicographic.{slice_cmp}
use Rattle.jsonml_tree.specs.Data.{PlainScalar, PlainAttr, PlainTree, text, element, PlainContent, content, trees_of}
use Rattle.jsonml_tree.specs.Order.{text_cmp, scalar_cmp, attr_cmp, tree_cmp, content_cmp}
use Rattle.jsonml_tree.proofs.Trees.{trees_cmp-trees_of}
use Rattle.keyed_tree.specs.Data.{scalar, inside, PlainLabel}
use Rattle.keyed_tree.specs.Order.{name_cmp, key_cmp, label_cmp}
use Rattle.xa_fields.specs.Reading.{Reader, ◌>>=◌, byte_at, number_at, text_at, many_at, list_at, chain_at, chained_at}
use Rattle.xa_fields.proofs.Fields.{bind_some, some_is}
use Rattle.record_parts.specs.Compares.{Compares}
use Rattle.record_parts.specs.Reading.{attr_at, next_attr, attrs_at, scalar_at, content_by, content_at, item_at, item_of, content_below, value_of, value_at, name_at, label_at}
use Rattle.record_parts.specs.Bounds.{deepest}
use Rattle.record_parts.proofs.Leads.{decides}

-- ---- what is compared

-- a value that was read and compared
pub exactly : {A : Type 0} (f : A → Ordering) (r : Option (A × List ℕ)) (bytes : List ℕ) (a : A) (n : ℕ) (o : Ordering) → Some (a, drop n bytes) ≡ r → o ≡ f a → Compares f r bytes (Some (o, n))
exactly {A} f r bytes a n o e is = λ x g.
    let same : (a, drop n bytes) ≡ x = some_is (a, drop n bytes) x (e ∙ g) in
    (is ∙ ap (λ (y : A × List ℕ). f y.0) same, λ t. ap (λ (y : A × List ℕ). y.1) same)

no_value : {A : Type 0} (r : Option A) (x : A) → r ≡ None → r ≡ Some x → ⊥
no_value (Some y) x e f = absurd cc
no_value None x e f = absurd cc

pub nothing : {A : Type 0} (f : A → Ordering) (r : Option (A × List ℕ)) (bytes : List ℕ) (q : Option (Ordering × ℕ)) → r ≡ None → Compares f r bytes q
nothing f r bytes (Some q) e = λ x g. absurd (no_value r x e g)
nothing f r bytes None e = λ x g. no_value r x e g

-- where one reader gives what the other gives
pub weaker : {A : Type 0} (f : A → Ordering) (r s : Option (A × List ℕ)) (bytes : List ℕ) (q : Option (Ordering × ℕ)) → ((x : A × List ℕ) → r ≡ Some x → s ≡ Some x) → Compares f s bytes q → Compares f r bytes q
weaker f r s bytes (Some q) h c = λ x e. c x (h x e)
weaker f r s bytes None h c = λ x e. c x (h x e)

pub same_read : {A : Type 0} (f : A → Ordering) (r s : Option (A × List ℕ)) (bytes : List ℕ) (q : Option (Ordering × ℕ)) → r ≡ s → Compares f s bytes q → Compares f r bytes q
same_read f r s bytes q e c = weaker f r s bytes q (λ x g. sym e ∙ g) c

-- ---- two parts

pub record Part {A B C : Type 0} (first : Option (A × List ℕ)) (second : Reader B) (make : A → B → C) (x : C × List ℕ) : Type 0 where
  pub a : A × List ℕ
  pub b : B × List ℕ
  pub a_is : first ≡ Some a
  pub b_is : second a.1 ≡ Some b
  pub x_is : (make a.0 b.0, b.1) ≡ x

-- what is read is made of a first part and of a second one behind it, and the first one decides unless it is equal
pub record Splits {A B C : Type 0} (whole : Option (C × List ℕ)) (first : Option (A × List ℕ)) (second : Reader B) (make : A → B → C) (order : C → Ordering) (oa : A → Ordering) (ob : B → Ordering) : Type 0 where
  pub parts : (x : C × List ℕ) → whole ≡ Some x → Part first second make x
  pub then : (a : A) (b : B) → order (make a b) ≡ ordering_then (oa a) (ob b)

pub first_fails : {A B C : Type 0} (whole : Option (C × List ℕ)) (first : Option (A × List ℕ)) (second : Reader B) (make : A → B → C) (order : C → Ordering) (oa : A → Ordering) (ob : B → Ordering) (bytes : List ℕ)
    → Splits whole first second make order oa ob → Compares oa first bytes None → Compares order whole bytes None
first_fails whole first second make order oa ob bytes s h = λ x e. (let p = s.parts x e in h p.a p.a_is)

pub first_decides : {A B C : Type 0} (whole : Option (C × List ℕ)) (first : Option (A × List ℕ)) (second : Reader B) (make : A → B → C) (order : C → Ordering) (oa : A → Ordering) (ob : B → Ordering) (bytes : List ℕ) (o : Ordering) (n m : ℕ)
    → Splits whole first second make order oa ob → Compares oa first bytes (Some (o, n)) → (o ≡ Equal → ⊥) → Compares order whole bytes (Some (o, m))
first_decides {A} {B} {C} whole first second make order oa ob bytes o n m s h ne = λ x e.
    let p = s.parts x e in
    let w = h p.a p.a_is in
    let seen : o ≡ oa p.a.0 = w.0 in
    let made : order (make p.a.0 p.b.0) ≡ oa p.a.0 = s.then p.a.0 p.b.0 ∙ decides (oa p.a.0) (ob p.b.0) (λ t. ne (seen ∙ t)) in
    (seen ∙ sym made ∙ ap (λ (y : C × List ℕ). order y.0) p.x_is, λ t. absurd (ne t))

pub second_decides : {A B C : Type 0} (whole : Option (C × List ℕ)) (first : Option (A × List ℕ)) (second : Reader B) (make : A → B → C) (order : C → Ordering) (oa : A → Ordering) (ob : B → Ordering) (bytes : List ℕ) (o : Ordering) (n : ℕ) (q : Option (Ordering × ℕ))
    → Splits whole first second make order oa ob → Compares oa first bytes (Some (o, n)) → o ≡ Equal → Compares ob (second (drop n bytes)) bytes q → Compares order whole bytes q
second_decides {A} {B} {C} whole first second make order oa ob bytes o n (Some q) s h eq k = λ x e.
    let p = s.parts x e in
    let w = h p.a p.a_is in
    let v = k p.b (ap second (w.1 eq) ∙ p.b_is) in
    let tie : oa p.a.0 ≡ Equal = sym w.0 ∙ eq in
    let made : order (make p.a.0 p.b.0) ≡ ob p.b.0 = s.then p.a.0 p.b.0 ∙ ap (λ (c : Ordering). ordering_then c (ob p.b.0)) tie in
    (v.0 ∙ sym made ∙ ap (λ (y : C × List ℕ). order y.0) p.x_is, λ t. v.1 t ∙ ap (λ (y : C × List ℕ). y.1) p.x_is)
second_decides whole first second make order oa ob bytes o n None s h eq k = λ x e.
    let p = s.parts x e in
    let w = h p.a p.a_is in
    k p.b (ap second (w.1 eq) ∙ p.b_is)

-- ---- one part

-- what is read is made of one value that is read, which decides
pub record Wrapped {A C : Type 0} (inner : Option (A × List ℕ)) (order : C → Ordering) (oa : A → Ordering) (x : C × List ℕ) : Type 0 where
  pub a : A × List ℕ
  pub a_is : inner ≡ Some a
  pub rest : a.1 ≡ x.1
  pub same : oa a.0 ≡ order x.0

pub wrapped : {A C : Type 0} (whole : Option (C × List ℕ)) (inner : Option (A × List ℕ)) (order : C → Ordering) (oa : A → Ordering) (bytes : List ℕ) (q : Option (Ordering × ℕ)) → ((x : C × List ℕ) → whole ≡ Some x → Wrapped inner order oa x) → Compares oa inner bytes q → Compares order whole bytes q
wrapped whole inner order oa bytes (Some q) s h = λ x e. (let p = s x e in let w = h p.a p.a_is in (w.0 ∙ p.same, λ t. w.1 t ∙ p.rest))
wrapped whole inner order oa bytes None s h = λ x e. (let p = s x e in h p.a p.a_is)

pub held : {A C : Type 0} (r : Option (A × List ℕ)) (make : A → C) (order : C → Ordering) (oa : A → Ordering) (x : C × List ℕ) → ((a : A) → oa a ≡ order (make a)) → (r >>= λ s. Some (make s.0, s.1)) ≡ Some x → Wrapped r order oa x
held {A} {C} r make order oa x same e =
    let b = bind_some r (λ s. Some (make s.0, s.1)) x e in
    let is : (make b.0.0, b.0.1) ≡ x = some_is (make b.0.0, b.0.1) x b.2 in
    record { a = b.0; a_is = b.1; rest = ap (λ (y : C × List ℕ). y.1) is; same = same b.0.0 ∙ ap (λ (y : C × List ℕ). order y.0) is }

-- whatever value is read, the order is one that is not equal
pub always : {A C : Type 0} (r : Option (A × List ℕ)) (make : A → C) (order : C → Ordering) (o : Ordering) (bytes : List ℕ) (n : ℕ) → ((a : A) → order (make a) ≡ o) → (o ≡ Equal → ⊥) → Compares order (r >>= λ s. Some (make s.0, s.1)) bytes (Some (o, n))
always {A} {C} r make order o bytes n is ne = λ x e.
    let b = bind_some r (λ s. Some (make s.0, s.1)) x e in
    (sym (is b.0.0) ∙ ap (λ (y : C × List ℕ). order y.0) (some_is (make b.0.0, b.0.1) x b.2), λ t. absurd (ne t))

-- ---- counted lists

pub list_is : {A : Type 0} (one : Reader A) (n : ℕ) (bytes after : List ℕ) → Some (n, after) ≡ number_at w32 bytes → list_at one bytes ≡ many_at one n after
unfolding list_at
list_is one n bytes after e = (let f = sym e in rw f refl)

pub list_none : {A : Type 0} (one : Reader A) (bytes : List ℕ) → None ≡ number_at w32 bytes → list_at one bytes ≡ None
unfolding list_at
list_none one bytes e = (let f = sym e in rw f refl)

-- values that follow one another are values
pub unchained : {A S : Type 0} (one : Reader A) (next : S → A → Option S) (s : S) (n : ℕ) (bytes : List ℕ) (x : List A × List ℕ) → chain_at one next s n bytes ≡ Some x → many_at one n bytes ≡ Some x
unfolding chain_at many_at
unchained one next s zero bytes x e = e
unchained {A} {S} one next s (suc n) bytes x e =
    let a = bind_some (one bytes) (λ first. next s first.0 >>= λ t. chain_at one next t n first.1 >>= λ others. Some (first.0 ∷ others.0, others.1)) x e in
    let t = bind_some (next s a.0.0) (λ t. chain_at one next t n a.0.1 >>= λ others. Some (a.0.0 ∷ others.0, others.1)) x a.2 in
    let b = bind_some (chain_at one next t.0 n a.0.1) (λ others. Some (a.0.0 ∷ others.0, others.1)) x t.2 in
    let rest = unchained one next t.0 n a.0.1 b.0 b.1 in
    made (one bytes) a.0 b.0 a.1 rest b.2
  where
    made : (r : Option (A × List ℕ)) (a : A × List ℕ) (b : List A × List ℕ) → r ≡ Some a → many_at one n a.1 ≡ Some b → Some (a.0 ∷ b.0, b.1) ≡ Some x → (r >>= λ first. many_at one n first.1 >>= λ others. Some (first.0 ∷ others.0, others.1)) ≡ Some x
    made r a b f g h = rw f (rw g h)

pub attrs_is : (n : ℕ) (bytes after : List ℕ) → Some (n, after) ≡ number_at w32 bytes → attrs_at bytes ≡ chain_at attr_at next_attr None n after
unfolding chained_at
attrs_is n bytes after e = (let f = sym e in rw f refl)

pub attrs_none : (bytes : List ℕ) → None ≡ number_at w32 bytes → attrs_at bytes ≡ None
unfolding chained_at
attrs_none bytes e = (let f = sym e in rw f refl)

pub attrs_compare : (f : List PlainAttr → Ordering) (n : ℕ) (bytes after file : List ℕ) (q : Option (Ordering × ℕ)) → Some (n, after) ≡ number_at w32 bytes → Compares f (many_at attr_at n after) file q → Compares f (attrs_at bytes) file q
attrs_compare f n bytes after file q e h = weaker f (attrs_at bytes) (many_at attr_at n after) file q (λ x g. unchained attr_at next_attr None n after x (sym (attrs_is n bytes after e) ∙ g)) h

-- ---- contents, items and key values

pub content_splits : (one : Reader PlainTree) (bytes : List ℕ) (ys : List PlainAttr) (us : List PlainTree)
    → Splits (content_by one bytes) (attrs_at bytes) (list_at one) (λ xs ts. content xs (trees_of ts)) (λ c. content_cmp c (content ys (trees_of us))) (λ xs. slice_cmp attr_cmp xs ys) (λ ts. slice_cmp tree_cmp ts us)
unfolding content_by
content_splits one bytes ys us = record {
  parts = λ x e.
      let a = bind_some (attrs_at bytes) (λ attrs. list_at one attrs.1 >>= λ items. Some (content attrs.0 (trees_of items.0), items.1)) x e in
      let b = bind_some (list_at one a.0.1) (λ items. Some (content a.0.0 (trees_of items.0), items.1)) x a.2 in
      record { a = a.0; b = b.0; a_is = a.1; b_is = b.1; x_is = some_is (content a.0.0 (trees_of b.0.0), b.0.1) x b.2 };
  then = λ xs ts. ap (λ (o : Ordering). ordering_then (slice_cmp attr_cmp xs ys) o) (trees_cmp-trees_of ts us);
}

pub element_splits : (inner : Reader PlainContent) (bytes : List ℕ) (u : List ℕ) (d : PlainContent) → Splits (item_of inner 1 bytes) (text_at bytes) inner element (λ t. tree_cmp t (element u d)) (λ t. text_cmp t u) (λ c. content_cmp c d)
unfolding item_of
element_splits inner bytes u d = record {
  parts = λ x e.
      let a = bind_some (text_at bytes) (λ t. inner t.1 >>= λ c. Some (element t.0 c.0, c.1)) x e in
      let b = bind_some (inner a.0.1) (λ c. Some (element a.0.0 c.0, c.1)) x a.2 in
      record { a = a.0; b = b.0; a_is = a.1; b_is = b.1; x_is = some_is (element a.0.0 b.0.0, b.0.1) x b.2 };
  then = λ t c. refl;
}

pub label_splits : (bytes : List ℕ) (m : PlainLabel) → Splits (label_at bytes) (name_at bytes) (list_at value_at) (λ n ks. record { name = n; keys = ks }) (λ l. label_cmp l m) (λ n. name_cmp n m.name) (λ ks. slice_cmp key_cmp ks m.keys)
unfolding label_at
label_splits bytes m = record {
  parts = λ x e.
      let a = bind_some (name_at bytes) (λ name. list_at value_at name.1 >>= λ keys. Some (record { name = name.0; keys = keys.0 }, keys.1)) x e in
      let b = bind_some (list_at value_at a.0.1) (λ keys. Some (record { name = a.0.0; keys = keys.0 }, keys.1)) x a.2 in
      record { a = a.0; b = b.0; a_is = a.1; b_is = b.1; x_is = some_is (record { name = a.0.0; keys = b.0.0 }, b.0.1) x b.2 };
  then = λ n ks. refl;
}

-- an element is above a text
pub element_above : (inner : Reader PlainContent) (bytes file s : List ℕ) (n : ℕ) → Compares (λ t. tree_cmp t (text s)) (item_of inner 1 bytes) file (Some (Greater, n))
unfolding item_of
element_above inner bytes file s n = λ x e.
    let a = bind_some (text_at bytes) (λ t. inner t.1 >>= λ c. Some (element t.0 c.0, c.1)) x e in
    let b = bind_some (inner a.0.1) (λ c. Some (element a.0.0 c.0, c.1)) x a.2 in
    (ap (λ (y : PlainTree × List ℕ). tree_cmp y.0 (text s)) (some_is (element a.0.0 b.0.0, b.0.1) x b.2), λ t. absurd cc)

-- a text against a text
pub text_compare : (inner : Reader PlainContent) (bytes file u : List ℕ) (q : Option (Ordering × ℕ)) → Compares (λ s. text_cmp s u) (text_at bytes) file q → Compares (λ t. tree_cmp t (text u)) (item_of inner 0 bytes) file q
unfolding item_of
text_compare inner bytes file u q h = wrapped (item_of inner 0 bytes) (text_at bytes) (λ t. tree_cmp t (text u)) (λ s. text_cmp s u) file q (λ x e. held (text_at bytes) text (λ t. tree_cmp t (text u)) (λ s. text_cmp s u) x (λ s. refl) e) h

-- a text is below an element
pub text_below : (inner : Reader PlainContent) (bytes file u : List ℕ) (d : PlainContent) (n : ℕ) → Compares (λ t. tree_cmp t (element u d)) (item_of inner 0 bytes) file (Some (Less, n))
unfolding item_of
text_below inner bytes file u d n = always (text_at bytes) text (λ t. tree_cmp t (element u d)) Less file n (λ s. refl) (λ t. absurd cc)

pub item_is : (depth kind : ℕ) (bytes after : List ℕ) → Some (kind, after) ≡ byte_at bytes → item_at depth bytes ≡ item_of (content_below depth) kind after
item_is depth kind bytes after e = (let f = sym e in rw f refl)

pub item_none : (depth : ℕ) (bytes : List ℕ) → None ≡ byte_at bytes → item_at depth bytes ≡ None
item_none depth bytes e = (let f = sym e in rw f refl)

pub no_item : (inner : Reader PlainContent) (k : ℕ) (bytes : List ℕ) → k ≢ 0 → k ≢ 1 → item_of inner k bytes ≡ None
unfolding item_of
no_item inner zero bytes f g = absurd (f refl)
no_item inner (suc zero) bytes f g = absurd (g refl)
no_item inner (suc (suc k)) bytes f g = refl

pub value_is : (kind : ℕ) (bytes after : List ℕ) → Some (kind, after) ≡ byte_at bytes → value_at bytes ≡ value_of kind after
unfolding value_at
value_is kind bytes after e = (let f = sym e in rw f refl)

pub value_none : (bytes : List ℕ) → None ≡ byte_at bytes → value_at bytes ≡ None
unfolding value_at
value_none bytes e = (let f = sym e in rw f refl)

pub no_kind : (k : ℕ) (bytes : List ℕ) → k ≢ 0 → k ≢ 1 → value_of k bytes ≡ None
unfolding value_of
no_kind zero bytes f g = absurd (f refl)
no_kind (suc zero) bytes f g = absurd (g refl)
no_kind (suc (suc k)) bytes f g = refl

-- a scalar against a scalar
pub scalar_compare : (bytes file : List ℕ) (u : PlainScalar) (q : Option (Ordering × ℕ)) → Compares (λ s. scalar_cmp s u) (scalar_at bytes) file q → Compares (λ k. key_cmp k (scalar u)) (value_of 0 bytes) file q
unfolding value_of
scalar_compare bytes file u q h = wrapped (value_of 0 bytes) (scalar_at bytes) (λ k. key_cmp k (scalar u)) (λ s. scalar_cmp s u) file q (λ x e. held (scalar_at bytes) scalar (λ k. key_cmp k (scalar u)) (λ s. scalar_cmp s u) x (λ s. refl) e) h

-- a scalar is below a content
pub scalar_below : (bytes file : List ℕ) (d : PlainContent) (n : ℕ) → Compares (λ k. key_cmp k (inside d)) (value_of 0 bytes) file (Some (Less, n))
unfolding value_of
scalar_below bytes file d n = always (scalar_at bytes) scalar (λ k. key_cmp k (inside d)) Less file n (λ s. refl) (λ t. absurd cc)

-- a content is above a scalar
pub content_above : (bytes file : List ℕ) (s : PlainScalar) (n : ℕ) → Compares (λ k. key_cmp k (scalar s)) (value_of 1 bytes) file (Some (Greater, n))
unfolding value_of
content_above bytes file s n = always (content_at deepest bytes) inside (λ k. key_cmp k (scalar s)) Greater file n (λ c. refl) (λ t. absurd cc)

-- a content against a content
pub content_compare : (bytes file : List ℕ) (d : PlainContent) (q : Option (Ordering × ℕ)) → Compares (λ c. content_cmp c d) (content_at deepest bytes) file q → Compares (λ k. key_cmp k (inside d)) (value_of 1 bytes) file q
unfolding value_of
content_compare bytes file d q h = wrapped (value_of 1 bytes) (content_at deepest bytes) (λ k. key_cmp k (inside d)) (λ c. content_cmp c d) file q (λ x e. held (content_at deepest bytes) inside (λ k. key_cmp k (inside d)) (λ c. content_cmp c d) x (λ c. refl) e) h
