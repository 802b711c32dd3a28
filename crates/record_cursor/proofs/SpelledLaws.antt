-- What was read is what is spelled there.
use Rattle.std.proofs.Common.{◌≡◌, ℕ, ◌+◌, ◌<◌, ◌≤◌, ◌^◌, IsTrue, List, [], ◌∷◌, ◌++◌, length, take, drop, Some, refl, sym, ap, subst, ◌∙◌, append_assoc, arith, drop-drop, length-drop, length-take-le}
use Rattle.std.specs.Prelude.{bytes_eq}
use Rattle.std.proofs.lemmas.List.{nil_from_length, take-append-drop}
use Rattle.std.proofs.lemmas.Slice.Eq.{bytes_eq-Decides}
use Rattle.xa_fields.specs.FieldLaws.{bind_some, some_is, passed_some}
use Rattle.xa_fields.specs.Laws.{IsBytes}
use Rattle.xa_fields.specs.Reading.{◌>>=◌}
use Rattle.xa_fields.specs.Spelling.{u64_bytes}
use Rattle.record_format.specs.Bounds.{IsRec}
use Rattle.record_format.specs.Data.{PlainRec, inner_rec, leaf_rec, alt_rec, end_rec, leaf_end}
use Rattle.record_format.specs.Reading.{record_of}
use Rattle.record_format.specs.Spelling.{framed, rec_bytes}
use Rattle.record_format.specs.Whole.{has_parts, with_parts}
use Rattle.record_cursor.specs.Items.{PlainItem, finish, item_of}
use Rattle.record_cursor.specs.Places.{Standing, among_nodes, in_leaf, behind_root, finished, after_item}
use Rattle.record_cursor.specs.Next.{tail_at, next_of}
use Rattle.record_cursor.specs.Spelled.{IsSpelled, IsTailAt}
use Rattle.record_cursor.specs.Steps.{after_kind, IsReadOf, HasBody, IsReadAt, IsLent}
use Rattle.record_cursor.specs.declared.item.Read.{Read}
use Rattle.record_cursor.specs.declared.item.Read.TheVariants as read
use Rattle.record_cursor.proofs.Comes.{no-body, parts-found}

-- ---- the frame

framed-front : (now : List ℕ) (kind size : ℕ) → now ≡ kind ∷ (u64_bytes size ++ drop 9 now) → size ≤ length (drop 9 now) → now ≡ framed kind (take size (drop 9 now)) ++ drop size (drop 9 now)
framed-front now kind size e fits =
    let body = take size (drop 9 now) in
    let rest = drop size (drop 9 now) in
    let len : size ≡ length body = sym (length-take-le size (drop 9 now) fits) in
    e ∙ ap (λ (z : List ℕ). kind ∷ (u64_bytes size ++ z)) (sym (take-append-drop size (drop 9 now)))
    ∙ ap (λ (n : ℕ). kind ∷ (u64_bytes n ++ (body ++ rest))) len
    ∙ ap (λ (z : List ℕ). kind ∷ z) (sym (append_assoc (u64_bytes (length body)) body rest))

-- a record of a kind that may come
read-at : (s t : Standing) (kind size : ℕ) (step : Read) (buffer body now rest : List ℕ) → after_kind s kind size ≡ Some t → IsReadOf kind size step (length buffer) → length body ≡ size → HasBody step buffer body → now ≡ framed kind body ++ rest → IsReadAt step buffer now rest
read-at s t kind size (read.Parts k) buffer body now rest may of len is e = e ∙ (λ i. framed (sym of.0 i) (sym is i) ++ rest)
read-at s t kind size read.LeafEnd buffer body now rest may of len is e =
    let none : body ≡ [] = nil_from_length body (len ∙ no-body s t size (ap (λ (k : ℕ). after_kind s k size) (sym of) ∙ may)) in
    e ∙ (λ i. framed (of i) (none i) ++ rest)
read-at s t kind size (read.End n) buffer body now rest may of len is e = (body, len ∙ sym of.1, e ∙ ap (λ (k : ℕ). framed k body ++ rest) of.0)
read-at s t kind size read.Finish buffer body now rest may of len is e = tt

pub step-read-at : (s t : Standing) (bytes : List ℕ) (at kind size : ℕ) (step : Read) (buffer : List ℕ) → after_kind s kind size ≡ Some t → at + 9 + size ≤ length bytes → drop at bytes ≡ kind ∷ (u64_bytes size ++ drop (at + 9) bytes)
    → IsReadOf kind size step (length buffer) → HasBody step buffer (take size (drop (at + 9) bytes)) → IsReadAt step buffer (drop at bytes) (drop (at + 9 + size) bytes)
step-read-at s t bytes at kind size step buffer may fits e of is =
    let now = drop at bytes in
    let behind : drop 9 now ≡ drop (at + 9) bytes = drop-drop 9 at bytes in
    let room : size ≤ length (drop (at + 9) bytes) = omega (arith, length-drop (at + 9) bytes) in
    let there : now ≡ framed kind (take size (drop 9 now)) ++ drop size (drop 9 now) = framed-front now kind size (e ∙ ap (λ (z : List ℕ). kind ∷ (u64_bytes size ++ z)) (sym behind)) (omega (arith, ap length behind, room)) in
    let front : now ≡ framed kind (take size (drop (at + 9) bytes)) ++ drop (at + 9 + size) bytes = there ∙ (λ i. framed kind (take size (behind i)) ++ drop size (behind i)) ∙ ap (λ (z : List ℕ). framed kind (take size (drop (at + 9) bytes)) ++ z) (drop-drop size (at + 9) bytes) in
    read-at s t kind size step buffer (take size (drop (at + 9) bytes)) now (drop (at + 9 + size) bytes) may of (length-take-le size (drop (at + 9) bytes) room) is front

-- ---- the item

-- the parts that are shown are those of a record that has an encoding, with this body
pub parts-lent : (kind : ℕ) (body : List ℕ) (r : PlainRec) (i : PlainItem) → IsBytes body → length body < 2 ^ 64 → item_of r ≡ i → Some r ≡ with_parts (record_of kind body) → IsLent (read.Parts kind) body i
parts-lent kind body r i fits short is e =
    let p = parts-found kind body r fits e in
    let b = p.1 in
    let spelled = b.spelled in
    (r, record { body = b.is; short = omega (arith, short, ap length spelled) }, p.0, is, (λ j. framed (b.kind_is j) (sym spelled j)))

-- a record that has parts
parts-spelled : (s : Standing) (r : PlainRec) (now rest : List ℕ) → IsTrue (has_parts r) → IsRec r → now ≡ rec_bytes r ++ rest → IsSpelled s (item_of r) now rest
parts-spelled s (inner_rec l t) now rest h is e = (inner_rec l t, is, refl, e)
parts-spelled s (leaf_rec l t) now rest h is e = (leaf_rec l t, is, refl, e)
parts-spelled s (alt_rec t b) now rest h is e = (alt_rec t b, is, refl, e)
parts-spelled s (end_rec d) now rest h is e = absurd cc
parts-spelled s leaf_end now rest h is e = absurd cc

tail-is : (n : ℕ) (now : List ℕ) (x : PlainItem × List ℕ) → tail_at n now ≡ Some x → (now ≡ u64_bytes n) × (x.1 ≡ [])
tail-is n now x e = (let p = passed_some (bytes_eq now (u64_bytes n)) (finish, []) x e in ((bytes_eq-Decides now (u64_bytes n)).0 p.0, sym (ap (λ (y : PlainItem × List ℕ). y.1) p.1)))

-- what comes where the file ends
tail-spelled : (s t : Standing) (now rest : List ℕ) → next_of s now ≡ Some (finish, (t, rest)) → IsTailAt s now rest
unfolding next_of
tail-spelled (among_nodes depth) t now rest e = tt
tail-spelled (in_leaf depth) t now rest e = tt
tail-spelled (behind_root n) t now rest e =
    let x = bind_some (tail_at n now) (λ x. after_item (behind_root n) x.0 >>= λ u. Some (x.0, (u, x.1))) (finish, (t, rest)) e in
    let u = bind_some (after_item (behind_root n) x.0.0) (λ u. Some (x.0.0, (u, x.0.1))) (finish, (t, rest)) x.2 in
    let same = some_is (x.0.0, (u.0, x.0.1)) (finish, (t, rest)) u.2 in
    let is = tail-is n now x.0 x.1 in
    (is.0, sym (ap (λ (y : PlainItem × (Standing × List ℕ)). y.1.1) same) ∙ is.1)
tail-spelled finished t now rest e = tt

pub item-spelled : (s t : Standing) (step : Read) (buffer : List ℕ) (i : PlainItem) (now rest : List ℕ) → IsLent step buffer i → IsReadAt step buffer now rest → next_of s now ≡ Some (i, (t, rest)) → IsSpelled s i now rest
item-spelled s t (read.Parts kind) buffer i now rest (r, is, parts, of, spelled) there e =
    subst (λ (j : PlainItem). IsSpelled s j now rest) of (parts-spelled s r now rest parts is (there ∙ ap (λ (z : List ℕ). z ++ rest) (sym spelled)))
item-spelled s t read.LeafEnd buffer i now rest is there e =
    subst (λ (j : PlainItem). IsSpelled s j now rest) (sym is) (leaf_end, record { body = tt; short = omega arith }, refl, there)
item-spelled s t (read.End n) buffer i now rest is there e = subst (λ (j : PlainItem). IsSpelled s j now rest) (sym is) there
item-spelled s t read.Finish buffer i now rest is there e =
    subst (λ (j : PlainItem). IsSpelled s j now rest) (sym is) (tail-spelled s t now rest (e ∙ ap (λ (j : PlainItem). Some (j, (t, rest))) is))
