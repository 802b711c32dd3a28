-- A field that is read is the field that was written, and what was written is read again.
use Rattle.std.proofs.Common.{◌≡◌, ℕ, suc, ◌+◌, ◌^◌, ◌<◌, ◌≤◌, Bool, true, false, cond, ltb, ◌||◌, not, List, [], ◌∷◌, ◌++◌, length, take, drop, Option, Some, None, refl, sym, ap, subst, ◌∙◌, append_assoc, arith, inl, inr}
use Rattle.std.specs.Int.{Width, w32, w64, byte_len, from_be_bytes, to_be_bytes}
use Rattle.std.specs.Str.{is_utf8}
use Rattle.std.specs.Array.{IsFirstChunk}
use Rattle.std.proofs.lemmas.Str.{is_utf8-from_IsUtf8, IsUtf8-from_is_utf8}
use Rattle.std.proofs.lemmas.Bool.{cases_lt, ltb-false, le-ltb}
use Rattle.std.proofs.lemmas.List.{take_at, drop_at, drop-drop, take-append-drop, length-append, length-take, get_or-drop, get_or-take, get_or_past}
use Rattle.std.proofs.lemmas.Nat.{be_bytes_4, be_bytes_8, from_be_bytes-to_be_bytes_4, from_be_bytes-to_be_bytes_8}
use Rattle.xa_fields.specs.Spelling.{u32_bytes, u64_bytes, text_bytes, IsText}
use Rattle.xa_fields.specs.Reading.{byte_at, number_at, text_at}
use Rattle.xa_fields.specs.Laws.{IsBytes, Takes, Read, Reads}
pub use Rattle.xa_fields.specs.FieldLaws.{bind_some, guard_some, some_is}

pub IsBytes-drop : (n : ℕ) (bytes : List ℕ) → IsBytes bytes → IsBytes (drop n bytes)
IsBytes-drop n bytes h i = rw get_or-drop (h (n + i))

pub IsBytes-take : (n : ℕ) (bytes : List ℕ) → IsBytes bytes → IsBytes (take n bytes)
IsBytes-take n bytes h i =
    elim (cases_lt i n) [
      | inl lt ↦ rw (get_or-take n bytes i 0 lt) (h i)
      | inr le ↦ rw (get_or_past (take n bytes) i 0 (omega (arith, length-take n bytes))) (omega arith)
    ]

abbrev done : {A : Type 0} → A → Option A
done x = Some x

neither : (a b : Bool) → (a || not b) ≡ false → (a ≡ false) × (b ≡ true)
neither true b e = absurd cc
neither false true e = (refl, refl)
neither false false e = absurd cc

pub Takes-then : (a x b y c : List ℕ) → Takes a x b → Takes b y c → Takes a (x ++ y) c
Takes-then a x b y c p q = record { parts = p.parts ∙ ap (λ (t : List ℕ). x ++ t) q.parts ∙ sym (append_assoc x y c); rest_fits = q.rest_fits }

pub Takes-none : (a : List ℕ) → IsBytes a → Takes a [] a
Takes-none a h = record { parts = refl; rest_fits = h }

-- ---- bytes

-- one byte
abbrev pub IsByte : ℕ → Type 0
IsByte n = n < 2 ^ 8

byte_read : (bytes : List ℕ) (x : ℕ × List ℕ) → IsBytes bytes → byte_at bytes ≡ Some x → Read (λ b. b ∷ []) IsByte bytes x
byte_read [] x fits e = absurd cc
byte_read (b ∷ bytes) x fits e =
    subst (λ (y : ℕ × List ℕ). Read (λ b. b ∷ []) IsByte (b ∷ bytes) y) (some_is (b, bytes) x e)
    (record { takes = record { parts = refl; rest_fits = λ i. fits (suc i) }; fits = omega (arith, fits 0) })

pub byte_reads : Reads byte_at (λ b. b ∷ []) IsByte
byte_reads = record { takes = byte_read; again = λ a rest h. refl }

-- ---- numbers

record IsWide (w : Width) (limit : ℕ) : Type 0 where
  len : (n : ℕ) → length (to_be_bytes w n) ≡ byte_len w
  back : (bytes : List ℕ) → length bytes ≡ byte_len w → IsBytes bytes → to_be_bytes w (from_be_bytes w bytes) ≡ bytes
  again : (n : ℕ) → n < limit → from_be_bytes w (to_be_bytes w n) ≡ n
  below : (bytes : List ℕ) → IsBytes bytes → from_be_bytes w bytes < limit

wide32 : IsWide w32 (2 ^ 32)
wide32 = record {
  len = λ n. refl;
  back = λ bytes len fits. be_bytes_4 bytes _ len fits refl;
  again = λ n lt. from_be_bytes-to_be_bytes_4 n lt;
  below = λ bytes fits. omega (arith, fits 0, fits 1, fits 2, fits 3);
}

wide64 : IsWide w64 (2 ^ 64)
wide64 = record {
  len = λ n. refl;
  back = λ bytes len fits. be_bytes_8 bytes _ len fits refl;
  again = λ n lt. from_be_bytes-to_be_bytes_8 n lt;
  below = λ bytes fits. omega (arith, fits 0, fits 1, fits 2, fits 3, fits 4, fits 5, fits 6, fits 7);
}

number_read : (w : Width) (limit : ℕ) (wide : IsWide w limit) (bytes : List ℕ) (x : ℕ × List ℕ) → IsBytes bytes → number_at w bytes ≡ Some x → Read (to_be_bytes w) (λ n. n < limit) bytes x
number_read w limit wide bytes x fits e =
    let g = guard_some (ltb (length bytes) (byte_len w)) (Some (from_be_bytes w (take (byte_len w) bytes), drop (byte_len w) bytes)) x e in
    let long : byte_len w ≤ length bytes = ltb-false _ _ g.0 in
    let front : to_be_bytes w (from_be_bytes w (take (byte_len w) bytes)) ≡ take (byte_len w) bytes = wide.back (take (byte_len w) bytes) (omega (arith, length-take (byte_len w) bytes)) (IsBytes-take (byte_len w) bytes fits) in
    subst (λ (y : ℕ × List ℕ). Read (to_be_bytes w) (λ n. n < limit) bytes y) (some_is (from_be_bytes w (take (byte_len w) bytes), drop (byte_len w) bytes) x g.1) (record {
      takes = record { parts = sym (take-append-drop (byte_len w) bytes) ∙ ap (λ (t : List ℕ). t ++ drop (byte_len w) bytes) (sym front); rest_fits = IsBytes-drop (byte_len w) bytes fits };
      fits = wide.below (take (byte_len w) bytes) (IsBytes-take (byte_len w) bytes fits);
    })

number_again : (w : Width) (limit : ℕ) (wide : IsWide w limit) (n : ℕ) (rest : List ℕ) → n < limit → number_at w (to_be_bytes w n ++ rest) ≡ Some (n, rest)
number_again w limit wide n rest lt =
    let len = wide.len n in
    let long : ltb (length (to_be_bytes w n ++ rest)) (byte_len w) ≡ false = le-ltb _ _ (omega (arith, length-append (to_be_bytes w n) rest)) in
    rw (long, take_at (to_be_bytes w n) rest (byte_len w) len, drop_at (to_be_bytes w n) rest (byte_len w) len, wide.again n lt) refl

pub u32_reads : Reads (number_at w32) u32_bytes (λ n. n < 2 ^ 32)
u32_reads = record { takes = number_read w32 (2 ^ 32) wide32; again = number_again w32 (2 ^ 32) wide32 }

pub u64_reads : Reads (number_at w64) u64_bytes (λ n. n < 2 ^ 64)
u64_reads = record { takes = number_read w64 (2 ^ 64) wide64; again = number_again w64 (2 ^ 64) wide64 }

-- the number that the eight bytes at the offset make
pub number_stands : (bytes rest front : List ℕ) (at n : ℕ) → rest ≡ drop at bytes → IsFirstChunk rest front 8 → n ≡ from_be_bytes w64 front → done (n, drop (at + 8) bytes) ≡ number_at w64 (drop at bytes)
number_stands bytes rest front at n e chunk is =
    let long : ltb (length (drop at bytes)) 8 ≡ false = le-ltb _ _ (omega (arith, chunk.enough, ap length e)) in
    let number : n ≡ from_be_bytes w64 (take 8 (drop at bytes)) = is ∙ ap (from_be_bytes w64) (chunk.same ∙ ap (take 8) e) in
    rw long (λ i. Some (number i, sym (drop-drop 8 at bytes) i))

-- ---- texts

text_read : (bytes : List ℕ) (x : List ℕ × List ℕ) → IsBytes bytes → text_at bytes ≡ Some x → Read text_bytes IsText bytes x
unfolding text_at
text_read bytes x fits e =
    let b = bind_some (number_at w32 bytes) (λ n. cond (ltb (length n.1) n.0 || not (is_utf8 (take n.0 n.1))) None (Some (take n.0 n.1, drop n.0 n.1))) x e in
    let n = b.0 in
    let t = u32_reads.takes bytes n fits b.1 in
    let g = guard_some (ltb (length n.1) n.0 || not (is_utf8 (take n.0 n.1))) (Some (take n.0 n.1, drop n.0 n.1)) x b.2 in
    let tests = neither (ltb (length n.1) n.0) (is_utf8 (take n.0 n.1)) g.0 in
    let long : n.0 ≤ length n.1 = ltb-false _ _ tests.0 in
    let len : length (take n.0 n.1) ≡ n.0 = omega (arith, length-take n.0 n.1) in
    let second : Takes n.1 (take n.0 n.1) (drop n.0 n.1) = record { parts = sym (take-append-drop n.0 n.1); rest_fits = IsBytes-drop n.0 n.1 t.takes.rest_fits } in
    let both = Takes-then bytes (u32_bytes n.0) n.1 (take n.0 n.1) (drop n.0 n.1) t.takes second in
    let whole : Takes bytes (text_bytes (take n.0 n.1)) (drop n.0 n.1) = subst (λ (k : ℕ). Takes bytes (u32_bytes k ++ take n.0 n.1) (drop n.0 n.1)) (sym len) both in
    subst (λ (p : List ℕ × List ℕ). Read text_bytes IsText bytes p) (some_is (take n.0 n.1, drop n.0 n.1) x g.1) (record { takes = whole; fits = record { short = omega (arith, t.fits); utf8 = IsUtf8-from_is_utf8 _ tests.1 } })

text_again : (text rest : List ℕ) → IsText text → text_at (text_bytes text ++ rest) ≡ Some (text, rest)
unfolding text_at
text_again text rest h =
    let long : ltb (length (text ++ rest)) (length text) ≡ false = le-ltb _ _ (omega (arith, length-append text rest)) in
    let front : take (length text) (text ++ rest) ≡ text = take_at text rest (length text) refl in
    let behind : drop (length text) (text ++ rest) ≡ rest = drop_at text rest (length text) refl in
    rw (u32_reads.again (length text) (text ++ rest) h.short) (rw (long, front, behind, is_utf8-from_IsUtf8 text h.utf8) refl)

pub text_reads : Reads text_at text_bytes IsText
text_reads = record { takes = text_read; again = text_again }

-- the bytes of a text are UTF-8 where they stand
pub text_stands : (bytes text rest : List ℕ) (at len start : ℕ) → IsText text → drop at bytes ≡ u32_bytes (length text) ++ (text ++ rest) → done {A = ℕ × ℕ} (len, start) ≡ done (length text, at + 4) → is_utf8 (take len (drop start bytes)) ≡ true
text_stands bytes text rest at len start h e s =
    let same = some_is (len, start) (length text, at + 4) s in
    let from : drop start bytes ≡ text ++ rest = (λ i. drop ((same i).1) bytes) ∙ sym (drop-drop 4 at bytes) ∙ ap (drop 4) e in
    ap is_utf8 ((λ i. take ((same i).0) (from i)) ∙ take_at text rest (length text) refl) ∙ is_utf8-from_IsUtf8 text h.utf8

-- a test that passes gives a value
pub not_none : {A : Type 0} (b : Bool) (a : A) → b ≡ true → ◌≡◌ {A = Option A} None (cond b (Some a) None) → ⊥
not_none true a e f = cc
not_none false a e f = cc
