-- What fills a buffer from the first bytes of a file.
use Rattle.std.proofs.Common.{◌≡◌, ℕ, suc, ◌+◌, ◌-◌, ◌≤◌, ◌<◌, ◌^◌, true, leb, List, [], ◌∷◌, ◌++◌, length, take, drop, Option, Some, Result, Ok, Err, sym, ap, ◌∙◌, arith, length-take-le, length-drop, take_all}
use Rattle.std.specs.Prelude.{slice_index_or, OnOk, IfErr}
use Rattle.std.specs.Int.{w64}
use Rattle.std.specs.FinMap as map
use Rattle.std.proofs.lemmas.Bool.Decides.{nat_tests}
use Rattle.std.proofs.lemmas.List.{append-nil, length-append, drop-take, drop_all, take-take, take_at, take-append-drop, take-append-le}
use Rattle.std.proofs.Math.Seq.{take-add}
use Rattle.xa_fields.specs.Laws.{IsBytes}
use Rattle.xa_fields.specs.Reading.{byte_at, number_at}
use Rattle.xa_fields.specs.Spelling.{u64_bytes}
use Rattle.xa_fields.proofs.Fields.{u64_reads}
use Rattle.xa_outside.specs.Folder.{Files, bytes_or_none, front}
use Rattle.xa_fields.specs.FieldLaws.{passed_some}
use Rattle.record_cursor.specs.Moves.{TellsFront}
use Rattle.record_cursor.specs.Faults.{IfDamage}
use Rattle.record_cursor.specs.Steps.{IsFrame, Filled}
use Rattle.record_cursor.specs.declared.fault.CursorFault.{CursorFault}
use Rattle.record_cursor.specs.declared.fault.CursorFault.TheVariants.{Damage, Folder, Memory}

-- the first bytes of a file, and that it has so many
record Fronted (file : List ℕ) (end : ℕ) (bytes : List ℕ) : Type 0 where
  is : bytes ≡ take end file
  within : end ≤ length file

pub le-of : (m n : ℕ) → leb m n ≡ true → m ≤ n
le-of m n h = grind (arith, nat_tests)

fronted : (file bytes : List ℕ) (end : ℕ) → front end file ≡ Some bytes → Fronted file end bytes
fronted file bytes end e = (let p = passed_some (leb end (length file)) (take end file) bytes e in record { is = sym p.1; within = le-of _ _ p.0 })

pub front-length : (told : Option Files) (name bytes : List ℕ) (end : ℕ) → TellsFront told name end bytes → length bytes ≡ end
front-length told name bytes end h =
    let f = fronted (bytes_or_none (map.get h.0 name)) bytes end h.2 in
    ap length f.is ∙ length-take-le _ _ f.within

-- and the file has so many
pub front-within : (told : Option Files) (name bytes : List ℕ) (end : ℕ) → (h : TellsFront told name end bytes) → end ≤ length (bytes_or_none (map.get h.0 name))
front-within told name bytes end h = (fronted (bytes_or_none (map.get h.0 name)) bytes end h.2).within

-- damage is not answered
pub no-damage : (e : CursorFault) (Q : Type 0) → IfDamage e ⊥ → IfDamage e Q
no-damage Damage Q h = absurd h
no-damage Folder Q h = tt
no-damage Memory Q h = tt

pub damage-map : (e : CursorFault) (P Q : Type 0) → (P → Q) → IfDamage e P → IfDamage e Q
damage-map Damage P Q f h = f h
damage-map Folder P Q f h = tt
damage-map Memory P Q f h = tt

-- ---- so many bytes of a file

-- those that were read are those of its front
pub filled-from : (told : Option Files) (name bytes : List ℕ) (end at n : ℕ) (out : List ℕ) → (h : TellsFront told name end bytes) → at + n ≤ end → out ≡ take n (drop at (bytes_or_none (map.get h.0 name))) → out ≡ take n (drop at bytes)
filled-from told name bytes end at n out h fits read =
    let file = bytes_or_none (map.get h.0 name) in
    let f = fronted file bytes end h.2 in
    let rest : at + (end - at) ≡ end = omega (arith, fits) in
    let piece : drop at bytes ≡ take (end - at) (drop at file) = ap (drop at) f.is ∙ ap (λ (k : ℕ). drop at (take k file)) (sym rest) ∙ drop-take at (end - at) file in
    read ∙ sym (ap (take n) piece ∙ take-take n (end - at) (drop at file) (omega (arith, fits)))

-- and it does not have fewer
pub never-short : (told : Option Files) (name bytes : List ℕ) (end at n : ℕ) (e : CursorFault) → (h : TellsFront told name end bytes) → at + n ≤ end → IfDamage e (length (bytes_or_none (map.get h.0 name)) < at + n) → IfDamage e ⊥
never-short told name bytes end at n e h fits few =
    let within = front-within told name bytes end h in
    damage-map e (length (bytes_or_none (map.get h.0 name)) < at + n) ⊥ (λ short. omega (arith, short, within, fits)) few

pub filled-by : {T : Type 0} (r : Result T CursorFault) (P Q S : Type 0) → (P → Q) → (S → ⊥) → OnOk r P → IfErr r (λ e. IfDamage e S) → Filled r (λ x. Q)
filled-by (Ok x) P Q S f none there few = f there
filled-by (Err e) P Q S f none there few = damage-map e S ⊥ none few

pub take-front : (n m : ℕ) (xs : List ℕ) → n + m ≤ length xs → take n (take (n + m) xs) ≡ take n xs
take-front n m xs fits =
    let len : length (take n xs) ≡ n = length-take-le n xs (omega arith) in
    ap (take n) (take-add n m xs) ∙ take-append-le n (take n xs) (take m (drop n xs)) (omega (arith, len)) ∙ take_all n (take n xs) (omega (arith, len))

-- ---- frames

-- nine bytes that are a kind and a length
pub frame-is : (frame : List ℕ) (size next : ℕ) → length frame ≡ 9 → IsBytes frame → Some (size, drop next frame) ≡ number_at w64 (drop 1 frame) → next ≡ 9 → (frame ≡ slice_index_or frame 0 0 ∷ u64_bytes size) × (size < 2 ^ 64)
frame-is [] size next long fits e behind = absurd (omega (arith, long))
frame-is (kind ∷ more) size next long fits e behind =
    let read = u64_reads.takes more (size, drop next (kind ∷ more)) (λ i. fits (suc i)) (sym e) in
    let none : drop next (kind ∷ more) ≡ [] = drop_all next (kind ∷ more) (omega (arith, long, behind)) in
    (ap (λ (z : List ℕ). kind ∷ z) (read.takes.parts ∙ ap (λ (z : List ℕ). u64_bytes size ++ z) none ∙ append-nil (u64_bytes size)), read.fits)

-- they stand at the front of the bytes that they were read of
pub frame-there : (rest out : List ℕ) (kind size : ℕ) → out ≡ take 9 rest → out ≡ kind ∷ u64_bytes size → rest ≡ kind ∷ (u64_bytes size ++ drop 9 rest)
frame-there rest out kind size e is = sym (take-append-drop 9 rest) ∙ ap (λ (z : List ℕ). z ++ drop 9 rest) (sym e ∙ is)

-- and are the frame of a record there
pub frame-of : (rest : List ℕ) (kind size : ℕ) → size < 2 ^ 64 → rest ≡ kind ∷ (u64_bytes size ++ drop 9 rest) → IsFrame rest (kind, size)
frame-of rest kind size fits e =
    let more = u64_bytes size ++ drop 9 rest in
    let behind : drop 1 rest ≡ more = ap (drop 1) e in
    record {
      kind = ap byte_at e ∙ ap (λ (z : List ℕ). Some (kind, z)) (sym behind);
      size = ap (number_at w64) behind ∙ u64_reads.again size (drop 9 rest) fits;
    }

-- the front of a buffer that was filled
pub whole-front : (len : ℕ) (out rest : List ℕ) → length out ≡ len → take len (out ++ rest) ≡ out
whole-front len out rest is = take_at out rest len is

-- the same, of longer room
pub room-front : (n m : ℕ) (out rest : List ℕ) → n ≤ m → n ≤ length out → take n (take m (out ++ rest)) ≡ take n out
room-front n m out rest fits within = take-take n m (out ++ rest) fits ∙ take-append-le n out rest within

-- a file from which the last eight bytes of so many were read has as many
pub tail-whole : (out file tail : List ℕ) (at size : ℕ) → out ≡ tail → length tail ≡ 8 → out ≡ take 8 (drop at file) → size - at ≡ 8 → size ≤ length file
tail-whole out file tail at size same eight read fits =
    let rest = drop at file in
    let parts = ap length (take-append-drop 8 rest) in
    let both = length-append (take 8 rest) (drop 8 rest) in
    let left = length-drop at file in
    let long = ap length read in
    let is = ap length same in
    omega (arith, parts, both, left, long, is, eight, fits)
