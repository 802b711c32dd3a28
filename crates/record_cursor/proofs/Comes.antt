-- Which item comes next, from the frame of a record and its body.
use Rattle.std.proofs.Common.{◌≡◌, ℕ, zero, suc, ◌+◌, ◌<◌, ◌≤◌, ◌==◌, Bool, true, false, cond, ltb, eqb, IsTrue, List, [], ◌∷◌, length, take, drop, Option, Some, None, refl, sym, ap, subst, ◌∙◌, arith, length-take-le, length-drop, drop-drop, take_all}
use Rattle.std.specs.Option.{option_map}
use Rattle.std.specs.Prelude.{bytes_eq}
use Rattle.std.proofs.lemmas.Bool.{le-ltb, eqb-true}
use Rattle.std.proofs.lemmas.Bool.Decides.{nat_tests}
use Rattle.keyed_tree.specs.Data.{PlainKey, PlainLabel}
use Rattle.archive_tree.specs.Data.{Stamp}
use Rattle.xa_fields.specs.Reading.{◌>>=◌, both_at, whole}
use Rattle.xa_fields.specs.Spelling.{u64_bytes}
use Rattle.record_parts.specs.Bounds.{deepest}
use Rattle.record_parts.specs.Reading.{label_at, stamp_at, value_at}
use Rattle.record_format.specs.Data.{PlainRec, inner_rec, leaf_rec, alt_rec, end_rec, leaf_end}
use Rattle.record_format.specs.Spelling.{kind_of, body_bytes, rec_bytes}
use Rattle.record_format.specs.Reading.{record_of, frame_at}
use Rattle.record_format.specs.Whole.{has_parts, with_parts}
use Rattle.record_format.proofs.Records.{Body, body_found}
use Rattle.xa_fields.specs.FieldLaws.{passed_some}
use Rattle.xa_fields.specs.Laws.{IsBytes}
use Rattle.record_cursor.specs.Items.{PlainItem, leaf_end_item, end_item, finish, item_of}
use Rattle.record_cursor.specs.Places.{Standing, among_nodes, in_leaf, behind_root, finished, after_item}
use Rattle.record_cursor.specs.Next.{item_in, record_item_at, tail_at, next_of, size_of, read_for}
use Rattle.record_cursor.specs.Steps.{IsFrame, IsInside, MayCome, after_kind, IsRead, IsReadOf, body_read}
use Rattle.record_cursor.specs.declared.item.Read.{Read}
use Rattle.record_cursor.specs.declared.item.Read.TheVariants as read
use Rattle.record_format.proofs.Pieces.{rec-length}

-- ---- items and kinds

-- where the item leads that a body of the kind is, if it is one
abbrev after_found : Standing → Option PlainItem → Option Standing → Type 0
after_found s None t = Unit {0}
after_found s (Some i) t = after_item s i ≡ t

found-map : {X : Type 0} (s : Standing) (t : Option Standing) (f : X → PlainItem) → ((x : X) → after_item s (f x) ≡ t) → (o : Option X) → after_found s (option_map f o) t
found-map s t f all (Some x) = all x
found-map s t f all None = tt

both_found : {X : Type 0} (s : Standing) (t : Option Standing) (f : X → PlainRec) → ((x : X) → after_item s (item_of (f x)) ≡ t) → (o : Option X) → after_found s (option_map item_of (option_map f o)) t
both_found s t f all (Some x) = all x
both_found s t f all None = tt

leaf-ended : (depth : ℕ) (b : Bool) → after_found (in_leaf depth) (option_map item_of (cond b (Some leaf_end) None)) (cond b (Some (among_nodes depth)) None)
leaf-ended depth true = refl
leaf-ended depth false = tt

not-ended : (depth : ℕ) (b : Bool) → after_found (among_nodes depth) (option_map item_of (cond b (Some leaf_end) None)) None
not-ended depth true = refl
not-ended depth false = tt

pub past-end : (k : ℕ) → eqb (suc (suc (suc (suc (suc (suc k)))))) 4 ≡ false
past-end k = grind (arith, nat_tests)

in-nodes : (depth kind : ℕ) (body : List ℕ) → after_found (among_nodes depth) (item_in kind body) (after_kind (among_nodes depth) kind (length body))
unfolding record_of
in-nodes depth zero body = tt
in-nodes depth (suc zero) body =
    let t : Option Standing = cond (ltb depth deepest) (Some (among_nodes (suc depth))) None in
    both_found (among_nodes depth) t (λ (x : PlainLabel × Stamp). inner_rec x.0 x.1) (λ x. refl) (whole (both_at label_at stamp_at) body)
in-nodes depth (suc (suc zero)) body = both_found (among_nodes depth) (Some (in_leaf depth)) (λ (x : PlainLabel × Stamp). leaf_rec x.0 x.1) (λ x. refl) (whole (both_at label_at stamp_at) body)
in-nodes depth (suc (suc (suc zero))) body = both_found (among_nodes depth) None (λ (x : Stamp × PlainKey). alt_rec x.0 x.1) (λ x. refl) (whole (both_at stamp_at value_at) body)
in-nodes depth (suc (suc (suc (suc zero)))) body = refl
in-nodes depth (suc (suc (suc (suc (suc zero))))) body = not-ended depth (length body == 0)
in-nodes depth (suc (suc (suc (suc (suc (suc k)))))) body = (let other = past-end k in rw other tt)

in-leaf : (depth kind : ℕ) (body : List ℕ) → after_found (in_leaf depth) (item_in kind body) (after_kind (in_leaf depth) kind (length body))
unfolding record_of
in-leaf depth zero body = tt
in-leaf depth (suc zero) body = both_found (in_leaf depth) None (λ (x : PlainLabel × Stamp). inner_rec x.0 x.1) (λ x. refl) (whole (both_at label_at stamp_at) body)
in-leaf depth (suc (suc zero)) body = both_found (in_leaf depth) None (λ (x : PlainLabel × Stamp). leaf_rec x.0 x.1) (λ x. refl) (whole (both_at label_at stamp_at) body)
in-leaf depth (suc (suc (suc zero))) body = both_found (in_leaf depth) (Some (in_leaf depth)) (λ (x : Stamp × PlainKey). alt_rec x.0 x.1) (λ x. refl) (whole (both_at stamp_at value_at) body)
in-leaf depth (suc (suc (suc (suc zero)))) body = refl
in-leaf depth (suc (suc (suc (suc (suc zero))))) body = leaf-ended depth (length body == 0)
in-leaf depth (suc (suc (suc (suc (suc (suc k)))))) body = (let other = past-end k in rw other tt)

-- an item leads where its kind and the length of its body lead
found-leads : (s : Standing) → IsInside s → (kind : ℕ) (body : List ℕ) → after_found s (item_in kind body) (after_kind s kind (length body))
found-leads (among_nodes depth) h kind body = in-nodes depth kind body
found-leads (in_leaf depth) h kind body = in-leaf depth kind body
found-leads (behind_root n) h kind body = absurd h
found-leads finished h kind body = absurd h

-- ---- what comes next

-- the item comes, where it may, before the rest
abbrev pub with_item : Standing → List ℕ → PlainItem → Option (PlainItem × (Standing × List ℕ))
with_item s rest i = after_item s i >>= λ t. Some (i, (t, rest))

abbrev with_rest : List ℕ → PlainItem → Option (PlainItem × List ℕ)
with_rest rest i = Some (i, rest)

abbrev with_read : Standing → PlainItem × List ℕ → Option (PlainItem × (Standing × List ℕ))
with_read s x = after_item s x.0 >>= λ t. Some (x.0, (t, x.1))

read-with : (s : Standing) (o : Option PlainItem) (rest : List ℕ) → ((o >>= with_rest rest) >>= with_read s) ≡ (o >>= with_item s rest)
read-with s (Some i) rest = refl
read-with s None rest = refl

record-read : (rest : List ℕ) (kind size : ℕ) → IsFrame rest (kind, size) → size ≤ length (drop 9 rest) → record_item_at rest ≡ (item_in kind (take size (drop 9 rest)) >>= with_rest (drop size (drop 9 rest)))
unfolding record_item_at frame_at
record-read rest kind size f fits =
    let long : ltb (length (drop 9 rest)) size ≡ false = le-ltb _ _ fits in
    rw (f.kind, f.size, long) refl

-- a record stands there whose body is so long
pub framed-next : (s : Standing) (rest : List ℕ) (kind size : ℕ) → IsInside s → IsFrame rest (kind, size) → size ≤ length (drop 9 rest) → next_of s rest ≡ (item_in kind (take size (drop 9 rest)) >>= with_item s (drop size (drop 9 rest)))
unfolding next_of
framed-next (among_nodes depth) rest kind size h f fits = ap (λ (o : Option (PlainItem × List ℕ)). o >>= with_read (among_nodes depth)) (record-read rest kind size f fits) ∙ read-with (among_nodes depth) (item_in kind (take size (drop 9 rest))) (drop size (drop 9 rest))
framed-next (in_leaf depth) rest kind size h f fits = ap (λ (o : Option (PlainItem × List ℕ)). o >>= with_read (in_leaf depth)) (record-read rest kind size f fits) ∙ read-with (in_leaf depth) (item_in kind (take size (drop 9 rest))) (drop size (drop 9 rest))
framed-next (behind_root n) rest kind size h f fits = absurd h
framed-next finished rest kind size h f fits = absurd h

leads-some : (s t : Standing) (o : Option PlainItem) (rest : List ℕ) → after_found s o (Some t) → (o >>= with_item s rest) ≡ option_map (λ i. (i, (t, rest))) o
leads-some s t (Some i) rest h = ap (λ (u : Option Standing). u >>= λ v. Some (i, (v, rest))) h
leads-some s t None rest h = refl

leads-none : (s : Standing) (o : Option PlainItem) (rest : List ℕ) → after_found s o None → (o >>= with_item s rest) ≡ None
leads-none s (Some i) rest h = ap (λ (u : Option Standing). u >>= λ v. Some (i, (v, rest))) h
leads-none s None rest h = refl

-- a record of a kind that may come
pub comes : (s t : Standing) (rest : List ℕ) (kind size : ℕ) → IsInside s → IsFrame rest (kind, size) → size ≤ length (drop 9 rest) → after_kind s kind size ≡ Some t
    → next_of s rest ≡ option_map (λ i. (i, (t, drop size (drop 9 rest)))) (item_in kind (take size (drop 9 rest)))
comes s t rest kind size h f fits may =
    let body = take size (drop 9 rest) in
    let len : length body ≡ size = length-take-le _ _ fits in
    let leads : after_found s (item_in kind body) (Some t) = subst (after_found s (item_in kind body)) (ap (after_kind s kind) len ∙ may) (found-leads s h kind body) in
    framed-next s rest kind size h f fits ∙ leads-some s t (item_in kind body) (drop size (drop 9 rest)) leads

-- a record of a kind that may not come
pub comes-not : (s : Standing) (rest : List ℕ) (kind size : ℕ) → IsInside s → IsFrame rest (kind, size) → size ≤ length (drop 9 rest) → after_kind s kind size ≡ None → next_of s rest ≡ None
comes-not s rest kind size h f fits nowhere =
    let body = take size (drop 9 rest) in
    let len : length body ≡ size = length-take-le _ _ fits in
    let leads : after_found s (item_in kind body) None = subst (after_found s (item_in kind body)) (ap (after_kind s kind) len ∙ nowhere) (found-leads s h kind body) in
    framed-next s rest kind size h f fits ∙ leads-none s (item_in kind body) (drop size (drop 9 rest)) leads

no-item : (s : Standing) (rest : List ℕ) → IsInside s → frame_at rest ≡ None → next_of s rest ≡ None
unfolding next_of record_item_at
no-item (among_nodes depth) rest h e = rw e refl
no-item (in_leaf depth) rest h e = rw e refl
no-item (behind_root n) rest h e = absurd h
no-item finished rest h e = absurd h

no-frame-long : (rest : List ℕ) (kind size : ℕ) → IsFrame rest (kind, size) → length (drop 9 rest) < size → frame_at rest ≡ None
unfolding frame_at
no-frame-long rest kind size f long = (let short : ltb (length (drop 9 rest)) size ≡ true = grind (arith, nat_tests) in rw (f.kind, f.size, short) refl)

-- a record that does not end within the bytes
pub comes-long : (s : Standing) (rest : List ℕ) (kind size : ℕ) → IsInside s → IsFrame rest (kind, size) → length (drop 9 rest) < size → next_of s rest ≡ None
comes-long s rest kind size h f long = no-item s rest h (no-frame-long rest kind size f long)

no-frame-short : (rest : List ℕ) → length rest < 9 → frame_at rest ≡ None
unfolding frame_at
no-frame-short [] few = refl
no-frame-short (b ∷ rest) few = (let short : ltb (length rest) 8 ≡ true = grind (arith, nat_tests) in rw short refl)

-- too few bytes for a kind and a length
pub comes-short : (s : Standing) (rest : List ℕ) → IsInside s → length rest < 9 → next_of s rest ≡ None
comes-short s rest h few = no-item s rest h (no-frame-short rest few)

-- ---- the end of the file

same-tail : (rest out : List ℕ) → out ≡ take 8 rest → length rest ≡ 8 → rest ≡ out
same-tail rest out e len = sym (take_all 8 rest (omega (arith, len))) ∙ sym e

pub tail-there : (n : ℕ) (rest out : List ℕ) (b : Bool) → out ≡ take 8 rest → length rest ≡ 8 → b ≡ bytes_eq out (u64_bytes n) → b ≡ true → tail_at n rest ≡ Some (finish, [])
tail-there n rest out b e len is holds = ap (λ (c : Bool). cond c (Some (finish, [])) None) (ap (λ (bs : List ℕ). bytes_eq bs (u64_bytes n)) (same-tail rest out e len) ∙ sym is ∙ holds)

pub tail-other : (n : ℕ) (rest out : List ℕ) (b : Bool) → out ≡ take 8 rest → length rest ≡ 8 → b ≡ bytes_eq out (u64_bytes n) → b ≡ false → tail_at n rest ≡ None
tail-other n rest out b e len is fails = ap (λ (c : Bool). cond c (Some (finish, [])) None) (ap (λ (bs : List ℕ). bytes_eq bs (u64_bytes n)) (same-tail rest out e len) ∙ sym is ∙ fails)

-- behind the END of the root stands the end of the file
pub ends : (n : ℕ) (rest : List ℕ) → tail_at n rest ≡ Some (finish, []) → next_of (behind_root n) rest ≡ Some (finish, (finished, []))
unfolding next_of
ends n rest e = rw e refl

pub ends-not : (n : ℕ) (rest : List ℕ) → tail_at n rest ≡ None → next_of (behind_root n) rest ≡ None
unfolding next_of
ends-not n rest e = rw e refl

pub ended : (rest : List ℕ) → next_of finished rest ≡ Some (finish, (finished, rest))
unfolding next_of
ended rest = refl

-- ---- what was read

size-of-record : (s : Standing) (r : PlainRec) → size_of s (item_of r) ≡ length (rec_bytes r)
size-of-record s (inner_rec l t) = refl
size-of-record s (leaf_rec l t) = refl
size-of-record s (alt_rec t b) = refl
size-of-record s (end_rec d) = omega arith
size-of-record s leaf_end = refl

read-of-parts : (s : Standing) (r : PlainRec) → IsTrue (has_parts r) → read_for s (item_of r) ≡ length (rec_bytes r)
read-of-parts s (inner_rec l t) h = refl
read-of-parts s (leaf_rec l t) h = refl
read-of-parts s (alt_rec t b) h = refl
read-of-parts s (end_rec d) h = absurd cc
read-of-parts s leaf_end h = absurd cc

-- a record leads where its kind and the length of its body lead
kind-leads : (s : Standing) → IsInside s → (r : PlainRec) → after_item s (item_of r) ≡ after_kind s (kind_of r) (length (body_bytes r))
kind-leads (among_nodes depth) h (inner_rec l t) = refl
kind-leads (among_nodes depth) h (leaf_rec l t) = refl
kind-leads (among_nodes depth) h (alt_rec t b) = refl
kind-leads (among_nodes depth) h (end_rec d) = refl
kind-leads (among_nodes depth) h leaf_end = refl
kind-leads (in_leaf depth) h (inner_rec l t) = refl
kind-leads (in_leaf depth) h (leaf_rec l t) = refl
kind-leads (in_leaf depth) h (alt_rec t b) = refl
kind-leads (in_leaf depth) h (end_rec d) = refl
kind-leads (in_leaf depth) h leaf_end = refl
kind-leads (behind_root n) h r = absurd h
kind-leads finished h r = absurd h

-- where an item leads that was read, and by how many bytes
pub record Led (s t : Standing) (size : ℕ) (step : Read) (held : ℕ) (i : PlainItem) : Type 0 where
  pub may_come : after_item s i ≡ Some t
  pub moved : size_of s i ≡ 9 + size
  pub pulled : read_for s i ≡ 9 + body_read step held

led-parts : (s t : Standing) (kind size held : ℕ) (r : PlainRec) (i : PlainItem) → IsInside s → after_kind s kind size ≡ Some t → held ≡ size → item_of r ≡ i → IsTrue (has_parts r) → kind_of r ≡ kind → length (rec_bytes r) ≡ 9 + held → Led s t size (read.Parts kind) held i
led-parts s t kind size held r i h may same is parts of long =
    let body : length (body_bytes r) ≡ size = omega (arith, rec-length r) in
    subst (Led s t size (read.Parts kind) held) is (record {
      may_come = kind-leads s h r ∙ (λ j. after_kind s (of j) (body j)) ∙ may;
      moved = size-of-record s r ∙ omega arith;
      pulled = read-of-parts s r parts ∙ long;
    })

end-leads : (s t : Standing) (size : ℕ) → IsInside s → after_kind s 4 size ≡ Some t → after_item s (end_item size) ≡ Some t
end-leads (among_nodes depth) t size h may = may
end-leads (in_leaf depth) t size h may = absurd cc
end-leads (behind_root n) t size h may = absurd h
end-leads finished t size h may = absurd h

-- the end of a leaf has no body
leaf-end-leads : (s t : Standing) (size : ℕ) → IsInside s → after_kind s 5 size ≡ Some t → (after_item s leaf_end_item ≡ Some t) × (size ≡ 0)
leaf-end-leads (among_nodes depth) t size h may = absurd cc
leaf-end-leads (in_leaf depth) t size h may = (let p = passed_some (size == 0) (among_nodes depth) t may in (ap Some p.1, eqb-true _ _ p.0))
leaf-end-leads (behind_root n) t size h may = absurd h
leaf-end-leads finished t size h may = absurd h

pub led : (s t : Standing) (kind size : ℕ) (step : Read) (held : ℕ) (i : PlainItem) → IsInside s → after_kind s kind size ≡ Some t → IsReadOf kind size step held → IsRead step held i → Led s t size step held i
led s t kind size (read.Parts k) held i h may (k_is, n_is) (r, is, parts, of, long) =
    subst (λ (x : ℕ). Led s t size (read.Parts x) held i) (sym k_is) (led-parts s t kind size held r i h may n_is is parts (of ∙ k_is) long)
led s t kind size read.LeafEnd held i h may five is =
    let l = leaf-end-leads s t size h (ap (λ (x : ℕ). after_kind s x size) (sym five) ∙ may) in
    subst (Led s t size read.LeafEnd held) (sym is) (record { may_come = l.0; moved = omega (arith, l.1); pulled = refl })
led s t kind size (read.End n) held i h may (four, n_is) is =
    let e = end-leads s t size h (ap (λ (x : ℕ). after_kind s x size) (sym four) ∙ may) in
    subst (Led s t size (read.End n) held) (sym (is ∙ ap end_item n_is)) (record { may_come = e; moved = refl; pulled = refl })
led s t kind size read.Finish held i h may none is = absurd none

-- ---- what is in the buffer

is-true : (b : Bool) → b ≡ true → IsTrue b
is-true true e = refl
is-true false e = absurd cc

parted : {X : Type 0} (f : X → PlainRec) → ((x : X) → has_parts (f x) ≡ true) → (o : Option X) → option_map item_of (option_map f o) ≡ option_map item_of (with_parts (option_map f o))
parted f all (Some x) = rw (all x) refl
parted f all None = refl

-- a record that closes no node has parts
pub parts-of : (kind : ℕ) (body : List ℕ) → ¬ (kind ≡ 4) → ¬ (kind ≡ 5) → item_in kind body ≡ option_map item_of (with_parts (record_of kind body))
unfolding record_of
parts-of zero body no_end no_leaf_end = refl
parts-of (suc zero) body no_end no_leaf_end = parted (λ (x : PlainLabel × Stamp). inner_rec x.0 x.1) (λ x. refl) (whole (both_at label_at stamp_at) body)
parts-of (suc (suc zero)) body no_end no_leaf_end = parted (λ (x : PlainLabel × Stamp). leaf_rec x.0 x.1) (λ x. refl) (whole (both_at label_at stamp_at) body)
parts-of (suc (suc (suc zero))) body no_end no_leaf_end = parted (λ (x : Stamp × PlainKey). alt_rec x.0 x.1) (λ x. refl) (whole (both_at stamp_at value_at) body)
parts-of (suc (suc (suc (suc zero)))) body no_end no_leaf_end = absurd (no_end refl)
parts-of (suc (suc (suc (suc (suc zero))))) body no_end no_leaf_end = absurd (no_leaf_end refl)
parts-of (suc (suc (suc (suc (suc (suc k)))))) body no_end no_leaf_end = (let other = past-end k in rw other refl)

-- the end of a leaf that may come has no body
pub no-body : (s t : Standing) (size : ℕ) → after_kind s 5 size ≡ Some t → size ≡ 0
no-body (among_nodes depth) t size may = absurd cc
no-body (in_leaf depth) t size may = eqb-true _ _ (passed_some (size == 0) (among_nodes depth) t may).0
no-body (behind_root n) t size may = absurd cc
no-body finished t size may = absurd cc

leaf-end-five : (size : ℕ) (body : List ℕ) → MayCome 5 size → length body ≡ size → item_in 5 body ≡ Some leaf_end_item
unfolding record_of
leaf-end-five size [] may len = refl
leaf-end-five size (b ∷ body) (s, t, may) len = absurd (omega (arith, len, no-body s t size may))

pub leaf-end-of : (kind size : ℕ) (body : List ℕ) → kind ≡ 5 → MayCome kind size → length body ≡ size → item_in kind body ≡ Some leaf_end_item
leaf-end-of kind size body five may len = subst (λ (k : ℕ). MayCome k size → item_in k body ≡ Some leaf_end_item) (sym five) (λ m. leaf-end-five size body m len) may

-- the parts that are shown are those of a record of this kind, with this body
pub parts-found : (kind : ℕ) (body : List ℕ) (r : PlainRec) → IsBytes body → Some r ≡ with_parts (record_of kind body) → IsTrue (has_parts r) × Body kind body r
parts-found kind body r fits e = found (record_of kind body) (λ x. body_found kind body x fits) e
  where
    found : (o : Option PlainRec) → ((x : PlainRec) → o ≡ Some x → Body kind body x) → Some r ≡ with_parts o → IsTrue (has_parts r) × Body kind body r
    found (Some x) all h =
        let p = passed_some (has_parts x) x r (sym h) in
        subst (λ (y : PlainRec). IsTrue (has_parts y) × Body kind body y) p.1 (is-true (has_parts x) p.0, all x refl)
    found None all h = absurd cc

pub parts-is : (kind : ℕ) (body : List ℕ) (r : PlainRec) → IsBytes body → Some r ≡ with_parts (record_of kind body) → IsTrue (has_parts r) × (kind_of r ≡ kind) × (length (rec_bytes r) ≡ 9 + length body)
parts-is kind body r fits e =
    let p = parts-found kind body r fits e in
    let spelled = p.1.spelled in
    (p.0, p.1.kind_is, omega (arith, rec-length r, ap length spelled))

-- ---- a step

pub stepped : (s t : Standing) (bytes : List ℕ) (at kind size : ℕ) (found : Option PlainItem) → IsInside s → IsFrame (drop at bytes) (kind, size) → at + 9 + size ≤ length bytes → after_kind s kind size ≡ Some t
    → item_in kind (take size (drop (at + 9) bytes)) ≡ found → next_of s (drop at bytes) ≡ option_map (λ i. (i, (t, drop (at + 9 + size) bytes))) found
stepped s t bytes at kind size found h f fits may is =
    let behind : drop 9 (drop at bytes) ≡ drop (at + 9) bytes = drop-drop 9 at bytes in
    let room : size ≤ length (drop 9 (drop at bytes)) = omega (arith, ap length behind, length-drop (at + 9) bytes) in
    comes s t (drop at bytes) kind size h f room may
    ∙ (λ i. option_map (λ x. (x, (t, drop size (behind i)))) (item_in kind (take size (behind i))))
    ∙ (λ i. option_map (λ x. (x, (t, drop-drop size (at + 9) bytes i))) (is i))
