-- How many bytes are read for the item that comes next.
use Rattle.std.proofs.Common.{◌≡◌, ◌≢◌, ℕ, zero, suc, ◌+◌, ◌≤◌, ◌==◌, Bool, true, false, cond, List, ◌++◌, length, take, drop, Option, Some, None, refl, sym, ap, subst, ◌∙◌, arith, length-take-le}
use Rattle.std.specs.Option.{option_map}
use Rattle.std.proofs.lemmas.Bool.{eqb-true}
use Rattle.keyed_tree.specs.Data.{PlainKey, PlainLabel}
use Rattle.archive_tree.specs.Data.{Stamp}
use Rattle.xa_fields.specs.Reading.{◌>>=◌, both_at, whole}
use Rattle.xa_fields.proofs.Fields.{bind_some, some_is}
use Rattle.xa_outside.specs.Numbers.{Numbers, PullsAtMost, after_pull}
use Rattle.xa_outside.specs.NumberLaws.{PullsAtMost-of, PullsAtMost-more, PullsAtMost-trans}
use Rattle.record_parts.specs.Reading.{label_at, stamp_at, value_at}
use Rattle.record_parts.specs.Spelling.{value_bytes, label_bytes, stamp_bytes}
use Rattle.record_format.specs.Data.{PlainRec, inner_rec, leaf_rec, alt_rec, leaf_end}
use Rattle.record_format.specs.Reading.{record_of}
use Rattle.record_cursor.specs.Items.{PlainItem, inner_item, leaf_item, alt_item, leaf_end_item, end_item, finish, item_of}
use Rattle.record_cursor.specs.Places.{Standing, among_nodes, in_leaf, behind_root, finished, after_item}
use Rattle.record_cursor.specs.Next.{item_in, item_at, next_of, size_of, read_for}
use Rattle.record_cursor.specs.Steps.{IsFrame, IsInside, body_size}
use Rattle.record_cursor.proofs.Comes.{framed-next, with_item, past-end}
use Rattle.record_cursor.proofs.Sizes.{whole-sized, opening-sized, alternative-sized}

-- ---- for any item

pub read-within : (s : Standing) (i : PlainItem) → read_for s i ≤ size_of s i
read-within s (inner_item l t) = omega arith
read-within s (leaf_item l t) = omega arith
read-within s (alt_item t b) = omega arith
read-within s leaf_end_item = omega arith
read-within s (end_item n) = omega arith
read-within s finish = omega arith

-- the kind and the length of each record are read
read-least : (s : Standing) (i : PlainItem) → i ≢ finish → 9 ≤ read_for s i
read-least s (inner_item l t) h = omega arith
read-least s (leaf_item l t) h = omega arith
read-least s (alt_item t b) h = omega arith
read-least s leaf_end_item h = omega arith
read-least s (end_item n) h = omega arith
read-least s finish h = absurd (h refl)

pub size-least : (s : Standing) (i : PlainItem) → i ≢ finish → 9 ≤ size_of s i
size-least s i h = omega (arith, read-least s i h, read-within s i)

-- ---- what comes next

not-finish : (s t : Standing) (i : PlainItem) → IsInside s → after_item s i ≡ Some t → i ≢ finish
not-finish (among_nodes depth) t i h may e = (let f : None ≡ Some t = sym (ap (after_item (among_nodes depth)) e) ∙ may in absurd cc)
not-finish (in_leaf depth) t i h may e = (let f : None ≡ Some t = sym (ap (after_item (in_leaf depth)) e) ∙ may in absurd cc)
not-finish (behind_root n) t i h may e = absurd h
not-finish finished t i h may e = absurd h

-- what comes next may come
next-may : (s t : Standing) (bytes rest : List ℕ) (i : PlainItem) → next_of s bytes ≡ Some (i, (t, rest)) → after_item s i ≡ Some t
unfolding next_of
next-may s t bytes rest i e =
    let x = bind_some (item_at s bytes) (λ x. after_item s x.0 >>= λ u. Some (x.0, (u, x.1))) (i, (t, rest)) e in
    let u = bind_some (after_item s x.0.0) (λ u. Some (x.0.0, (u, x.0.1))) (i, (t, rest)) x.2 in
    let same = some_is (x.0.0, (u.0, x.0.1)) (i, (t, rest)) u.2 in
    ap (after_item s) (sym (ap (λ (y : PlainItem × (Standing × List ℕ)). y.0) same)) ∙ u.1 ∙ ap (λ (y : PlainItem × (Standing × List ℕ)). Some y.1.0) same

pub next-least : (s t : Standing) (bytes rest : List ℕ) (i : PlainItem) → IsInside s → next_of s bytes ≡ Some (i, (t, rest)) → 9 ≤ read_for s i
next-least s t bytes rest i h e = read-least s i (not-finish s t i h (next-may s t bytes rest i e))

-- the end of the file is eight bytes
tail-read : (n : ℕ) (t : Standing) (bytes rest : List ℕ) (i : PlainItem) → next_of (behind_root n) bytes ≡ Some (i, (t, rest)) → read_for (behind_root n) i ≡ 8
tail-read n t bytes rest i e = last i (next-may (behind_root n) t bytes rest i e)
  where
    last : (j : PlainItem) → after_item (behind_root n) j ≡ Some t → read_for (behind_root n) j ≡ 8
    last (inner_item l s) may = absurd cc
    last (leaf_item l s) may = absurd cc
    last (alt_item s b) may = absurd cc
    last leaf_end_item may = absurd cc
    last (end_item m) may = absurd cc
    last finish may = refl

pub tail-most : (s t : Standing) (n : ℕ) (bytes rest : List ℕ) (i : PlainItem) → s ≡ behind_root n → next_of s bytes ≡ Some (i, (t, rest)) → 8 ≤ read_for s i
tail-most s t n bytes rest i is = subst (λ (u : Standing). next_of u bytes ≡ Some (i, (t, rest)) → 8 ≤ read_for u i) (sym is) (λ e. omega (arith, tail-read n t bytes rest i e))

-- ---- bodies

twice : {X : Type 0} (f : X → PlainRec) (o : Option X) (i : PlainItem) → option_map item_of (option_map f o) ≡ Some i → (x : X) × (o ≡ Some x) × (item_of (f x) ≡ i)
twice f (Some x) i e = (x, refl, some_is (item_of (f x)) i e)
twice f None i e = absurd cc

ended : (b : Bool) (i : PlainItem) → option_map item_of (cond b (Some leaf_end) None) ≡ Some i → (b ≡ true) × (leaf_end_item ≡ i)
ended true i e = (refl, some_is leaf_end_item i e)
ended false i e = absurd cc

-- a body that is read is as long as the item's is
body-read : (s : Standing) (kind : ℕ) (body : List ℕ) (i : PlainItem) → item_in kind body ≡ Some i → 9 + body_size kind (length body) ≤ read_for s i
unfolding record_of
body-read s zero body i e = absurd cc
body-read s (suc zero) body i e =
    let m = twice (λ (x : PlainLabel × Stamp). inner_rec x.0 x.1) (whole (both_at label_at stamp_at) body) i e in
    let size = whole-sized (both_at label_at stamp_at) (λ p. label_bytes p.0 ++ stamp_bytes p.1) opening-sized body m.0 m.1 in
    subst (λ (j : PlainItem). 9 + length body ≤ read_for s j) m.2 (omega (arith, size))
body-read s (suc (suc zero)) body i e =
    let m = twice (λ (x : PlainLabel × Stamp). leaf_rec x.0 x.1) (whole (both_at label_at stamp_at) body) i e in
    let size = whole-sized (both_at label_at stamp_at) (λ p. label_bytes p.0 ++ stamp_bytes p.1) opening-sized body m.0 m.1 in
    subst (λ (j : PlainItem). 9 + length body ≤ read_for s j) m.2 (omega (arith, size))
body-read s (suc (suc (suc zero))) body i e =
    let m = twice (λ (x : Stamp × PlainKey). alt_rec x.0 x.1) (whole (both_at stamp_at value_at) body) i e in
    let size = whole-sized (both_at stamp_at value_at) (λ p. stamp_bytes p.0 ++ value_bytes p.1) alternative-sized body m.0 m.1 in
    subst (λ (j : PlainItem). 9 + length body ≤ read_for s j) m.2 (omega (arith, size))
body-read s (suc (suc (suc (suc zero)))) body i e = subst (λ (j : PlainItem). 9 ≤ read_for s j) (some_is (end_item (length body)) i e) (omega arith)
body-read s (suc (suc (suc (suc (suc zero))))) body i e =
    let p = ended (length body == 0) i e in
    subst (λ (j : PlainItem). 9 + length body ≤ read_for s j) p.1 (omega (arith, eqb-true (length body) 0 p.0))
body-read s (suc (suc (suc (suc (suc (suc k)))))) body i e =
    let none : ◌≡◌ {A = Option PlainItem} None (Some i) = sym (ap (λ (b : Bool). cond b (Some (end_item (length body))) None) (past-end k)) ∙ e in
    absurd cc

pub framed-read : (s t : Standing) (bytes rest : List ℕ) (kind size : ℕ) (i : PlainItem) → IsInside s → IsFrame bytes (kind, size) → size ≤ length (drop 9 bytes) → next_of s bytes ≡ Some (i, (t, rest)) → 9 + body_size kind size ≤ read_for s i
framed-read s t bytes rest kind size i h f fits e =
    let body = take size (drop 9 bytes) in
    let behind = drop size (drop 9 bytes) in
    let x = bind_some (item_in kind body) (with_item s behind) (i, (t, rest)) (sym (framed-next s bytes kind size h f fits) ∙ e) in
    let u = bind_some (after_item s x.0) (λ u. Some (x.0, (u, behind))) (i, (t, rest)) x.2 in
    let same : x.0 ≡ i = ap (λ (y : PlainItem × (Standing × List ℕ)). y.0) (some_is (x.0, (u.0, behind)) (i, (t, rest)) u.2) in
    let len : length body ≡ size = length-take-le size (drop 9 bytes) fits in
    subst (λ (n : ℕ). 9 + body_size kind n ≤ read_for s i) len (subst (λ (j : PlainItem). 9 + body_size kind (length body) ≤ read_for s j) same (body-read s kind body x.0 x.1))

-- ---- what is pulled

pub body_size-most : (kind size : ℕ) → body_size kind size ≤ size
body_size-most kind size = elim (kind == 4) as (λ b. cond b 0 size ≤ size) [ true ↦ omega arith | false ↦ omega arith ]

-- of each body but that of an END
pub body_size-all : (kind size : ℕ) → ¬ (kind ≡ 4) → body_size kind size ≡ size
body_size-all kind size not = elim (kind == 4) as (λ b. (kind == 4) ≡ b → cond b 0 size ≡ size) [ true ↦ λ e. absurd (not (eqb-true kind 4 e)) | false ↦ λ e. refl ] refl

-- the kind and the length, and then of the body
pub pulled-both : (limit kind size : ℕ) (a b d : Numbers) → 9 + body_size kind size ≤ limit → b ≡ after_pull a 9 → PullsAtMost (body_size kind size) b d → PullsAtMost limit a d
pulled-both limit kind size a b d fits first second =
    PullsAtMost-more (9 + body_size kind size) limit a d fits (PullsAtMost-trans 9 (body_size kind size) a b d (PullsAtMost-of 9 9 a b (omega arith) first) second)
