-- What is read of records is spelled so, and what is spelled so is read.
use Rattle.std.proofs.Common.{◌≡◌, ◌≢◌, ℕ, zero, suc, ◌<◌, ◌≤◌, ◌^◌, ◌==◌, false, cond, ltb, List, [], ◌∷◌, ◌++◌, length, take, drop, Option, Some, None, Result, Ok, Err, refl, sym, ap, subst, ◌∙◌, append_assoc, arith}
use Rattle.std.specs.Prelude.{IfOk}
use Rattle.std.specs.Option.{option_map}
use Rattle.std.specs.Int.{w64}
use Rattle.std.proofs.lemmas.Bool.{ltb-false, le-ltb, eqb-true}
use Rattle.std.proofs.lemmas.List.{nil_from_length, take_at, drop_at, length-append, length-take, take-append-drop}
use Rattle.keyed_tree.specs.Data.{PlainKey, PlainLabel}
use Rattle.archive_tree.specs.Data.{Stamp}
use Rattle.xa_fields.specs.Spelling.{u64_bytes}
use Rattle.xa_fields.specs.Reading.{◌>>=◌, byte_at, number_at, both_at, whole}
use Rattle.xa_fields.specs.Laws.{IsBytes, Takes, Read, Reads}
use Rattle.xa_fields.proofs.Fields.{IsBytes-drop, IsBytes-take, bind_some, guard_some, some_is, Takes-then, byte_reads, u64_reads}
use Rattle.xa_fields.proofs.Combinators.{both_reads, whole_takes, whole_again}
use Rattle.record_format.specs.Data.{PlainRec, inner_rec, leaf_rec, alt_rec, end_rec, leaf_end}
use Rattle.record_parts.specs.Spelling.{value_bytes, label_bytes, stamp_bytes}
use Rattle.record_format.specs.Spelling.{kind_of, body_bytes, framed, rec_bytes}
use Rattle.record_parts.specs.Bounds.{IsValue, IsLabel, IsStamp}
use Rattle.record_format.specs.Bounds.{IsBody, IsRec}
use Rattle.record_format.specs.View.{rec_view}
use Rattle.record_format.specs.declared.rec.Rec.{Rec}
use Rattle.record_parts.specs.declared.fault.RecFault.{RecFault}
use Rattle.record_parts.specs.declared.fault.RecFault.TheVariants.{Damage}
use Rattle.record_parts.specs.Reading.{Gives, value_at, label_at, stamp_at}
use Rattle.record_format.specs.Reading.{whole_dir, record_of, frame_at, record_at, whole_record}
use Rattle.xa_fields.specs.FieldLaws.{passed_some}
use Rattle.record_parts.specs.Values.{value_reads}
use Rattle.record_parts.specs.Parts.{label_reads, stamp_reads}
use Rattle.record_format.proofs.WholeDirectories.{whole_dir_found, whole_dir_only}

-- ---- bodies

opening_reads : Reads (both_at label_at stamp_at) (λ p. label_bytes p.0 ++ stamp_bytes p.1) (λ p. IsLabel p.0 × IsStamp p.1)
opening_reads = both_reads label_at stamp_at label_bytes stamp_bytes IsLabel IsStamp label_reads stamp_reads

alternative_reads : Reads (both_at stamp_at value_at) (λ p. stamp_bytes p.0 ++ value_bytes p.1) (λ p. IsStamp p.0 × IsValue p.1)
alternative_reads = both_reads stamp_at value_at stamp_bytes value_bytes IsStamp IsValue stamp_reads value_reads

mapped : {A B : Type 0} (f : A → B) (r : Option A) (y : B) → option_map f r ≡ Some y → (x : A) × (r ≡ Some x) × (f x ≡ y)
mapped f (Some x) y e = (x, refl, some_is (f x) y e)
mapped f None y e = absurd cc

-- a body of this kind
pub record Body (kind : ℕ) (body : List ℕ) (r : PlainRec) : Type 0 where
  pub kind_is : kind_of r ≡ kind
  pub spelled : body ≡ body_bytes r
  pub is : IsBody r

pub body_found : (kind : ℕ) (body : List ℕ) (r : PlainRec) → IsBytes body → record_of kind body ≡ Some r → Body kind body r
unfolding record_of
body_found zero body r fits e = absurd cc
body_found (suc zero) body r fits e =
    let m = mapped (λ (x : PlainLabel × Stamp). inner_rec x.0 x.1) (whole (both_at label_at stamp_at) body) r e in
    let t = whole_takes (both_at label_at stamp_at) (λ p. label_bytes p.0 ++ stamp_bytes p.1) (λ p. IsLabel p.0 × IsStamp p.1) opening_reads body m.0 fits m.1 in
    subst (λ (y : PlainRec). Body 1 body y) m.2 (record { kind_is = refl; spelled = t.0; is = t.1 })
body_found (suc (suc zero)) body r fits e =
    let m = mapped (λ (x : PlainLabel × Stamp). leaf_rec x.0 x.1) (whole (both_at label_at stamp_at) body) r e in
    let t = whole_takes (both_at label_at stamp_at) (λ p. label_bytes p.0 ++ stamp_bytes p.1) (λ p. IsLabel p.0 × IsStamp p.1) opening_reads body m.0 fits m.1 in
    subst (λ (y : PlainRec). Body 2 body y) m.2 (record { kind_is = refl; spelled = t.0; is = t.1 })
body_found (suc (suc (suc zero))) body r fits e =
    let m = mapped (λ (x : Stamp × PlainKey). alt_rec x.0 x.1) (whole (both_at stamp_at value_at) body) r e in
    let t = whole_takes (both_at stamp_at value_at) (λ p. stamp_bytes p.0 ++ value_bytes p.1) (λ p. IsStamp p.0 × IsValue p.1) alternative_reads body m.0 fits m.1 in
    subst (λ (y : PlainRec). Body 3 body y) m.2 (record { kind_is = refl; spelled = t.0; is = t.1 })
body_found (suc (suc (suc (suc zero)))) body r fits e =
    let m = mapped end_rec (whole_dir body) r e in
    let t = whole_dir_found body m.0 fits m.1 in
    subst (λ (y : PlainRec). Body 4 body y) m.2 (record { kind_is = refl; spelled = t.1; is = t.0 })
body_found (suc (suc (suc (suc (suc zero))))) body r fits e =
    let p = passed_some (length body == 0) leaf_end r e in
    subst (λ (y : PlainRec). Body 5 body y) p.1 (record { kind_is = refl; spelled = nil_from_length body (eqb-true _ _ p.0); is = tt })
body_found (suc (suc (suc (suc (suc (suc k)))))) body r fits e = absurd cc

pub body_only : (r : PlainRec) → IsRec r → record_of (kind_of r) (body_bytes r) ≡ Some r
unfolding record_of
body_only (inner_rec l s) h = ap (option_map (λ (x : PlainLabel × Stamp). inner_rec x.0 x.1)) (whole_again (both_at label_at stamp_at) (λ p. label_bytes p.0 ++ stamp_bytes p.1) (λ p. IsLabel p.0 × IsStamp p.1) opening_reads (l, s) h.body)
body_only (leaf_rec l s) h = ap (option_map (λ (x : PlainLabel × Stamp). leaf_rec x.0 x.1)) (whole_again (both_at label_at stamp_at) (λ p. label_bytes p.0 ++ stamp_bytes p.1) (λ p. IsLabel p.0 × IsStamp p.1) opening_reads (l, s) h.body)
body_only (alt_rec s b) h = ap (option_map (λ (x : Stamp × PlainKey). alt_rec x.0 x.1)) (whole_again (both_at stamp_at value_at) (λ p. stamp_bytes p.0 ++ value_bytes p.1) (λ p. IsStamp p.0 × IsValue p.1) alternative_reads (s, b) h.body)
body_only (end_rec d) h = ap (option_map end_rec) (whole_dir_only d h.body h.short)
body_only leaf_end h = refl

-- ---- frames

pub frame_found : (bytes : List ℕ) (x : (ℕ × List ℕ) × List ℕ) → IsBytes bytes → frame_at bytes ≡ Some x → Read (λ p. framed p.0 p.1) (λ p. IsBytes p.1 × (length p.1 < 2 ^ 64)) bytes x
unfolding frame_at
frame_found bytes x fits e =
    let a = bind_some (byte_at bytes) (λ kind. number_at w64 kind.1 >>= λ n. cond (ltb (length n.1) n.0) None (Some ((kind.0, take n.0 n.1), drop n.0 n.1))) x e in
    let b = bind_some (number_at w64 a.0.1) (λ n. cond (ltb (length n.1) n.0) None (Some ((a.0.0, take n.0 n.1), drop n.0 n.1))) x a.2 in
    let g = guard_some (ltb (length b.0.1) b.0.0) (Some ((a.0.0, take b.0.0 b.0.1), drop b.0.0 b.0.1)) x b.2 in
    let s = byte_reads.takes bytes a.0 fits a.1 in
    let t = u64_reads.takes a.0.1 b.0 s.takes.rest_fits b.1 in
    let long : b.0.0 ≤ length b.0.1 = ltb-false _ _ g.0 in
    let len : length (take b.0.0 b.0.1) ≡ b.0.0 = omega (arith, length-take b.0.0 b.0.1) in
    let body : Takes b.0.1 (take b.0.0 b.0.1) (drop b.0.0 b.0.1) = record { parts = sym (take-append-drop b.0.0 b.0.1); rest_fits = IsBytes-drop b.0.0 b.0.1 t.takes.rest_fits } in
    let both = Takes-then a.0.1 (u64_bytes b.0.0) b.0.1 (take b.0.0 b.0.1) (drop b.0.0 b.0.1) t.takes body in
    let all = Takes-then bytes (a.0.0 ∷ []) a.0.1 (u64_bytes b.0.0 ++ take b.0.0 b.0.1) (drop b.0.0 b.0.1) s.takes both in
    let sized : Takes bytes (framed a.0.0 (take b.0.0 b.0.1)) (drop b.0.0 b.0.1) = subst (λ (n : ℕ). Takes bytes (a.0.0 ∷ (u64_bytes n ++ take b.0.0 b.0.1)) (drop b.0.0 b.0.1)) (sym len) all in
    subst (λ (y : (ℕ × List ℕ) × List ℕ). Read (λ (p : ℕ × List ℕ). framed p.0 p.1) (λ (p : ℕ × List ℕ). IsBytes p.1 × (length p.1 < 2 ^ 64)) bytes y) (some_is ((a.0.0, take b.0.0 b.0.1), drop b.0.0 b.0.1) x g.1)
    (record { takes = sized; fits = (IsBytes-take b.0.0 b.0.1 t.takes.rest_fits, omega (arith, t.fits)) })

pub frame_only : (kind : ℕ) (body rest : List ℕ) → length body < 2 ^ 64 → frame_at (framed kind body ++ rest) ≡ Some ((kind, body), rest)
unfolding frame_at
frame_only kind body rest short =
    let n = u64_reads.again (length body) (body ++ rest) short in
    let long : ltb (length (body ++ rest)) (length body) ≡ false = le-ltb _ _ (omega (arith, length-append body rest)) in
    let front : take (length body) (body ++ rest) ≡ body = take_at body rest (length body) refl in
    let behind : drop (length body) (body ++ rest) ≡ rest = drop_at body rest (length body) refl in
    ap (λ (b : List ℕ). frame_at (kind ∷ b)) (append_assoc (u64_bytes (length body)) body rest) ∙ rw n (rw (long, front, behind) refl)

pub frame_reads : Reads frame_at (λ p. framed p.0 p.1) (λ p. IsBytes p.1 × (length p.1 < 2 ^ 64))
frame_reads = record { takes = frame_found; again = λ p rest fits. frame_only p.0 p.1 rest fits.1 }

-- ---- records

record_found : (bytes : List ℕ) (x : PlainRec × List ℕ) → IsBytes bytes → record_at bytes ≡ Some x → Read rec_bytes IsRec bytes x
unfolding record_at
record_found bytes x fits e =
    let a = bind_some (frame_at bytes) (λ f. record_of f.0.0 f.0.1 >>= λ r. Some (r, f.1)) x e in
    let b = bind_some (record_of a.0.0.0 a.0.0.1) (λ r. Some (r, a.0.1)) x a.2 in
    let f = frame_found bytes a.0 fits a.1 in
    let t = body_found a.0.0.0 a.0.0.1 b.0 f.fits.0 b.1 in
    let same : framed a.0.0.0 a.0.0.1 ≡ rec_bytes b.0 = (λ i. framed (sym t.kind_is i) (t.spelled i)) in
    let short : length (body_bytes b.0) < 2 ^ 64 = subst (λ (y : List ℕ). length y < 2 ^ 64) t.spelled f.fits.1 in
    subst (λ (y : PlainRec × List ℕ). Read rec_bytes IsRec bytes y) (some_is (b.0, a.0.1) x b.2)
    (record { takes = subst (λ (front : List ℕ). Takes bytes front a.0.1) same f.takes; fits = record { body = t.is; short = short } })

record_only : (r : PlainRec) (rest : List ℕ) → IsRec r → record_at (rec_bytes r ++ rest) ≡ Some (r, rest)
unfolding record_at
record_only r rest h =
    let f = frame_only (kind_of r) (body_bytes r) rest h.short in
    let b = body_only r h in
    rw f (rw b refl)

pub record_reads : Reads record_at rec_bytes IsRec
record_reads = record { takes = record_found; again = record_only }

pub whole_record_found : (bytes : List ℕ) (r : PlainRec) → IsBytes bytes → whole_record bytes ≡ Some r → (bytes ≡ rec_bytes r) × IsRec r
whole_record_found = whole_takes record_at rec_bytes IsRec record_reads

pub whole_record_only : (r : PlainRec) → IsRec r → whole_record (rec_bytes r) ≡ Some r
whole_record_only = whole_again record_at rec_bytes IsRec record_reads

-- ---- what a call returned

pub is_found : (bytes : List ℕ) (r : Result Rec RecFault) → IsBytes bytes → Gives rec_view r (whole_record bytes) → IfOk r (λ x. IsRec (rec_view x) × (bytes ≡ rec_bytes (rec_view x)))
is_found bytes (Ok x) fits given = (let t = whole_record_found bytes (rec_view x) fits given in (t.1, t.0))
is_found bytes (Err e) fits given = tt

pub is_damage : (bytes : List ℕ) (result : Result Rec RecFault) → Gives rec_view result (whole_record bytes) → result ≡ Err Damage → (r : PlainRec) → IsRec r → bytes ≢ rec_bytes r
is_damage bytes result given e r is spelled =
    let none : whole_record bytes ≡ None = subst (λ (x : Result Rec RecFault). Gives rec_view x (whole_record bytes)) e given in
    let some : whole_record bytes ≡ Some r = ap whole_record spelled ∙ whole_record_only r is in
    no_some (whole_record bytes) r none some
  where
    no_some : (o : Option PlainRec) (r : PlainRec) → o ≡ None → o ≡ Some r → ⊥
    no_some (Some x) r e f = absurd cc
    no_some None r e f = absurd cc
