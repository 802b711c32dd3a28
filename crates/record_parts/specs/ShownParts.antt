-- What the bytes of a lent part show.
use Rattle.std.proofs.Common.{◌≡◌, ℕ, cond, ◌==◌, List, length, Option, Some, None, refl, sym, ap, subst, ◌∙◌}
use Rattle.std.specs.Prelude.{IsSome}
use Rattle.std.specs.declared.cmp.Ordering.{Ordering}
use Rattle.keyed_tree.specs.Data.{PlainKey, PlainLabel, PlainName}
use Rattle.keyed_tree.specs.Order.{label_cmp}
use Rattle.archive_tree.specs.Data.{Stamp}
use Rattle.xa_fields.specs.Reading.{Reader, ◌>>=◌, list_at, whole}
use Rattle.xa_fields.specs.Laws.{IsBytes}
use Rattle.xa_fields.proofs.Fields.{bind_some, some_is}
use Rattle.xa_fields.proofs.Combinators.{whole_again, whole_takes}
use Rattle.record_parts.specs.Bounds.{IsLabel, IsStamp, IsValue}
use Rattle.record_parts.specs.Compares.{Compares, ComparesBoth}
use Rattle.record_parts.specs.Reading.{label_at, name_at, stamp_at, value_at}
use Rattle.record_parts.specs.ShownViews.{label_in, stamp_in, value_in}
use Rattle.record_parts.specs.Spelling.{label_bytes, stamp_bytes, value_bytes}
use Rattle.record_parts.specs.Whole.{IsLabelBytes, IsStampBytes, IsValueBytes}
use Rattle.record_parts.specs.Parts.{label_reads, stamp_reads}
use Rattle.record_parts.specs.Readers.{passed_some}
use Rattle.record_parts.specs.Values.{value_reads}

some_value : {A : Type 0} (o : Option A) → IsSome o → (a : A) × (o ≡ Some a)
some_value (Some a) h = (a, refl)
some_value None h = absurd cc

-- the value that stands at the front of the whole
record Front {A : Type 0} (read : Reader A) (bytes : List ℕ) : Type 0 where
  value : A
  rest : List ℕ
  whole_is : whole read bytes ≡ Some value
  read_is : read bytes ≡ Some (value, rest)

front_of : {A : Type 0} (read : Reader A) (bytes : List ℕ) → IsSome (whole read bytes) → Front read bytes
unfolding whole
front_of {A} read bytes h =
    let w = some_value (whole read bytes) h in
    let a = bind_some (read bytes) (λ x. cond (length x.1 == 0) (Some x.0) None) w.0 w.1 in
    let p = passed_some (length a.0.1 == 0) a.0.0 w.0 a.2 in
    record { value = w.0; rest = a.0.1; whole_is = w.1; read_is = a.1 ∙ ap (λ (v : A). Some (v, a.0.1)) p.1 }

pub label_spelled : (bytes : List ℕ) → IsBytes bytes → IsLabelBytes bytes → bytes ≡ label_bytes (label_in (whole label_at bytes))
label_spelled bytes fits h =
    let w = some_value (whole label_at bytes) h in
    (whole_takes label_at label_bytes IsLabel label_reads bytes w.0 fits w.1).0 ∙ ap (λ (o : Option PlainLabel). label_bytes (label_in o)) (sym w.1)

pub label_is : (bytes : List ℕ) → IsBytes bytes → IsLabelBytes bytes → IsLabel (label_in (whole label_at bytes))
label_is bytes fits h =
    let w = some_value (whole label_at bytes) h in
    subst (λ (o : Option PlainLabel). IsLabel (label_in o)) (sym w.1) (whole_takes label_at label_bytes IsLabel label_reads bytes w.0 fits w.1).1

pub stamp_spelled : (bytes : List ℕ) → IsBytes bytes → IsStampBytes bytes → bytes ≡ stamp_bytes (stamp_in (whole stamp_at bytes))
stamp_spelled bytes fits h =
    let w = some_value (whole stamp_at bytes) h in
    (whole_takes stamp_at stamp_bytes IsStamp stamp_reads bytes w.0 fits w.1).0 ∙ ap (λ (o : Option Stamp). stamp_bytes (stamp_in o)) (sym w.1)

pub stamp_is : (bytes : List ℕ) → IsBytes bytes → IsStampBytes bytes → IsStamp (stamp_in (whole stamp_at bytes))
stamp_is bytes fits h =
    let w = some_value (whole stamp_at bytes) h in
    subst (λ (o : Option Stamp). IsStamp (stamp_in o)) (sym w.1) (whole_takes stamp_at stamp_bytes IsStamp stamp_reads bytes w.0 fits w.1).1

pub value_spelled : (bytes : List ℕ) → IsBytes bytes → IsValueBytes bytes → bytes ≡ value_bytes (value_in (whole value_at bytes))
value_spelled bytes fits h =
    let w = some_value (whole value_at bytes) h in
    (whole_takes value_at value_bytes IsValue value_reads bytes w.0 fits w.1).0 ∙ ap (λ (o : Option PlainKey). value_bytes (value_in o)) (sym w.1)

pub value_is : (bytes : List ℕ) → IsBytes bytes → IsValueBytes bytes → IsValue (value_in (whole value_at bytes))
value_is bytes fits h =
    let w = some_value (whole value_at bytes) h in
    subst (λ (o : Option PlainKey). IsValue (value_in o)) (sym w.1) (whole_takes value_at value_bytes IsValue value_reads bytes w.0 fits w.1).1

-- the value that the whole has
pub label_there : (bytes : List ℕ) → IsLabelBytes bytes → Some (label_in (whole label_at bytes)) ≡ whole label_at bytes
label_there bytes h = (let w = some_value (whole label_at bytes) h in ap (λ (o : Option PlainLabel). Some (label_in o)) w.1 ∙ sym w.1)

pub value_there : (bytes : List ℕ) → IsValueBytes bytes → Some (value_in (whole value_at bytes)) ≡ whole value_at bytes
value_there bytes h = (let w = some_value (whole value_at bytes) h in ap (λ (o : Option PlainKey). Some (value_in o)) w.1 ∙ sym w.1)

-- ---- what was spelled is lent

no_some : {A : Type 0} (a : A) → None ≡ Some a → ⊥
no_some a e = absurd cc

is_there : {A : Type 0} (o : Option A) (a : A) → o ≡ Some a → IsSome o
is_there o a e = rw e refl

pub spelled_label : (l : PlainLabel) (bytes : List ℕ) → IsLabel l → bytes ≡ label_bytes l → whole label_at bytes ≡ Some l
spelled_label l bytes h e = ap (whole label_at) e ∙ whole_again label_at label_bytes IsLabel label_reads l h

pub spelled_value : (k : PlainKey) (bytes : List ℕ) → IsValue k → bytes ≡ value_bytes k → whole value_at bytes ≡ Some k
spelled_value k bytes h e = ap (whole value_at) e ∙ whole_again value_at value_bytes IsValue value_reads k h

pub spelling_of_label : (l : PlainLabel) (bytes : List ℕ) → IsLabel l → bytes ≡ label_bytes l → IsLabelBytes bytes
spelling_of_label l bytes h e = is_there (whole label_at bytes) l (spelled_label l bytes h e)

pub spelling_of_value : (k : PlainKey) (bytes : List ℕ) → IsValue k → bytes ≡ value_bytes k → IsValueBytes bytes
spelling_of_value k bytes h e = is_there (whole value_at bytes) k (spelled_value k bytes h e)

-- ---- the same bytes

pub same_values : (a b : PlainKey) → IsValue a → IsValue b → value_bytes a ≡ value_bytes b → a ≡ b
same_values a b h g e = some_is a b (sym (spelled_value a (value_bytes a) h refl) ∙ spelled_value b (value_bytes a) g e)

-- ---- orders

pub label_answer : (bytes : List ℕ) (f : PlainLabel → Ordering) (o : Ordering) (n : ℕ) → IsLabelBytes bytes → Compares f (label_at bytes) bytes (Some (o, n)) → o ≡ f (label_in (whole label_at bytes))
label_answer bytes f o n h c = (let a = front_of label_at bytes h in (c (a.value, a.rest) a.read_is).0 ∙ ap (λ (x : Option PlainLabel). f (label_in x)) (sym a.whole_is))

pub label_answered : (bytes : List ℕ) (f : PlainLabel → Ordering) → IsLabelBytes bytes → Compares f (label_at bytes) bytes None → ⊥
label_answered bytes f h c = (let a = front_of label_at bytes h in c (a.value, a.rest) a.read_is)

pub labels_answer : (mine theirs : List ℕ) (o : Ordering) (n m : ℕ) → IsLabelBytes mine → IsLabelBytes theirs → ComparesBoth label_cmp (label_at mine) (label_at theirs) mine theirs (Some (o, n, m)) → o ≡ label_cmp (label_in (whole label_at mine)) (label_in (whole label_at theirs))
labels_answer mine theirs o n m h g c =
    let b = front_of label_at theirs g in
    label_answer mine (λ (l : PlainLabel). label_cmp l b.value) o n h (c (b.value, b.rest) b.read_is).0 ∙ ap (λ (x : Option PlainLabel). label_cmp (label_in (whole label_at mine)) (label_in x)) (sym b.whole_is)

pub labels_answered : (mine theirs : List ℕ) → IsLabelBytes mine → IsLabelBytes theirs → ComparesBoth label_cmp (label_at mine) (label_at theirs) mine theirs None → ⊥
labels_answered mine theirs h g c = (let b = front_of label_at theirs g in label_answered mine (λ (l : PlainLabel). label_cmp l b.value) h (c (b.value, b.rest) b.read_is).0)

pub value_answer : (bytes : List ℕ) (f : PlainKey → Ordering) (o : Ordering) (n : ℕ) → IsValueBytes bytes → Compares f (value_at bytes) bytes (Some (o, n)) → o ≡ f (value_in (whole value_at bytes))
value_answer bytes f o n h c = (let a = front_of value_at bytes h in (c (a.value, a.rest) a.read_is).0 ∙ ap (λ (x : Option PlainKey). f (value_in x)) (sym a.whole_is))

pub value_answered : (bytes : List ℕ) (f : PlainKey → Ordering) → IsValueBytes bytes → Compares f (value_at bytes) bytes None → ⊥
value_answered bytes f h c = (let a = front_of value_at bytes h in c (a.value, a.rest) a.read_is)

-- ---- names

-- the name that is read at the front is that of the label
pub label_named : (bytes : List ℕ) (n : PlainName) (rest : List ℕ) → IsLabelBytes bytes → Some (n, rest) ≡ name_at bytes → n ≡ (label_in (whole label_at bytes)).name
unfolding label_at
label_named bytes n rest h e =
    let f = front_of label_at bytes h in
    let a = bind_some (name_at bytes) (λ x. list_at value_at x.1 >>= (λ ks. Some (record { name = x.0; keys = ks.0 }, ks.1))) (f.value, f.rest) f.read_is in
    let b = bind_some (list_at value_at a.0.1) (λ ks. Some (record { name = a.0.0; keys = ks.0 }, ks.1)) (f.value, f.rest) a.2 in
    ap (λ (x : PlainName × List ℕ). x.0) (some_is (n, rest) a.0 (e ∙ a.1))
    ∙ ap (λ (x : PlainLabel × List ℕ). x.0.name) (some_is (record { name = a.0.0; keys = b.0.0 }, b.0.1) (f.value, f.rest) b.2)
    ∙ ap (λ (o : Option PlainLabel). (label_in o).name) (sym f.whole_is)

pub label_has_name : (bytes : List ℕ) → IsLabelBytes bytes → None ≡ name_at bytes → ⊥
unfolding label_at
label_has_name bytes h e =
    let f = front_of label_at bytes h in
    let a = bind_some (name_at bytes) (λ x. list_at value_at x.1 >>= (λ ks. Some (record { name = x.0; keys = ks.0 }, ks.1))) (f.value, f.rest) f.read_is in
    no_some a.0 (e ∙ a.1)

-- what was read at the front is what is shown
found_in : {A : Type 0} (read : Reader A) (from : Option A → A) (same : (a : A) → from (Some a) ≡ a) (bytes : List ℕ) (a : A) (rest : List ℕ) → IsSome (whole read bytes) → read bytes ≡ Some (a, rest) → a ≡ from (whole read bytes)
found_in {A} read from same bytes a rest h e =
    let f = front_of read bytes h in
    ap (λ (x : A × List ℕ). x.0) (some_is (a, rest) (f.value, f.rest) (sym e ∙ f.read_is)) ∙ sym (same f.value) ∙ ap from (sym f.whole_is)

pub label_found : (bytes : List ℕ) (l : PlainLabel) (rest : List ℕ) → IsLabelBytes bytes → label_at bytes ≡ Some (l, rest) → l ≡ label_in (whole label_at bytes)
label_found = found_in label_at label_in (λ l. refl)

pub stamp_found : (bytes : List ℕ) (s : Stamp) (rest : List ℕ) → IsStampBytes bytes → stamp_at bytes ≡ Some (s, rest) → s ≡ stamp_in (whole stamp_at bytes)
stamp_found = found_in stamp_at stamp_in (λ s. refl)

pub value_found : (bytes : List ℕ) (k : PlainKey) (rest : List ℕ) → IsValueBytes bytes → value_at bytes ≡ Some (k, rest) → k ≡ value_in (whole value_at bytes)
value_found = found_in value_at value_in (λ k. refl)
