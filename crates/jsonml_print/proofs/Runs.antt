-- Runs of bytes without escapes, seen a vector at a time through the mask of those that have one.
use Rattle.std.proofs.Common.{◌≡◌, ℕ, zero, suc, ◌+◌, ◌*◌, ◌%◌, ◌^◌, ◌<◌, ◌≤◌, eqb, ltb, Bool, true, false, not, cond, List, [], ◌∷◌, map, length, take, drop, get_or, replicate, bit_or, Fits, w8, refl, sym, ap, ap₂, ◌∙◌, arith, get_or-take, length-take-le}
use Rattle.std.proofs.lemmas.Bool.{true≢false, eq-eqb, ne_eqb, agree_below_at}
use Rattle.std.proofs.lemmas.Simd.{chunk-drop, length-chunk, leading_from_mask_l, trailing_mask_l, mask_l-mod, zip2_splat, zip2_of_maps}
use Rattle.std.proofs.lemmas.List.{length-map}
use Rattle.std.proofs.lemmas.List.Folds.{prefix_len-append}
use Rattle.std.proofs.lemmas.List.Sums.{prefix_len-le-length, prefix_len_passes, prefix_len_stops}
use Rattle.std.specs.List.{prefix_len}
use lib.Lanes.{chunk, zip2, mask_l, top, Each1}
use lib.Count.{count_trailing_zeros}
use Rattle.json.specs.Print.{escape, escape_byte}
use Rattle.json.specs.Run.{is_plain, is_stop}
use Rattle.json.proofs.Printed.Plain.{escape_on_plain}

-- ---- the mask of a load

abbrev hit : ℕ → ℕ → ℕ
hit a b = cond (eqb a b) 255 0

abbrev below : ℕ → ℕ → ℕ
below a b = cond (ltb a b) 255 0

abbrev lane : ℕ → ℕ
lane x = bit_or (bit_or (hit x 34) (hit x 92)) (below x 32)

lanes : (v : List ℕ) (n : ℕ) → length v ≡ n → zip2 bit_or (zip2 bit_or (zip2 hit v (replicate n 34)) (zip2 hit v (replicate n 92))) (zip2 below v (replicate n 32)) ≡ map lane v
lanes v n long =
    zip2_of_maps bit_or (λ x. bit_or (hit x 34) (hit x 92)) (λ x. below x 32) v (zip2_of_maps bit_or (λ x. hit x 34) (λ x. hit x 92) v (zip2_splat hit v n 34 long) (zip2_splat hit v n 92 long)) (zip2_splat below v n 32 long)

each_lane : (v : List ℕ) → Each1 (Fits w8) v → map (top 7) (map lane v) ≡ map is_stop v
each_lane [] fits = refl
each_lane (x ∷ xs) fits = ap₂ (λ a b. a ∷ b) (agree_below_at (λ y. top 7 (lane y)) is_stop 256 x refl fits.0.fits) (each_lane xs fits.1)

-- the three tests of a vector of n lanes, as the code makes them
pub mask_is : (v : List ℕ) (n : ℕ) → length v ≡ n → n ≤ 64 → Each1 (Fits w8) v
    → mask_l (map (top 7) (zip2 bit_or (zip2 bit_or (zip2 hit v (replicate n 34)) (zip2 hit v (replicate n 92))) (zip2 below v (replicate n 32)))) % 2 ^ 64 ≡ mask_l (map is_stop v)
mask_is v n long few fits =
    ap (λ l. mask_l (map (top 7) l) % 2 ^ 64) (lanes v n long) ∙ ap (λ l. mask_l l % 2 ^ 64) (each_lane v fits) ∙ mask_l-mod (map is_stop v) 64 (omega (arith, length-map v is_stop, long))

-- ---- a run, from the mask of a load

none_set : (b : Bool) (n l m : ℕ) → n ≤ l → cond (not b) (1 + n) 0 ≡ suc l → (n ≡ l → m ≡ 0) → cond b 1 0 + 2 * m ≡ 0
none_set true n l m le e rest = absurd (omega arith)
none_set false n l m le e rest = omega (arith, rest (omega arith))

none_stops : (xs : List ℕ) → prefix_len is_plain xs ≡ length xs → mask_l (map is_stop xs) ≡ 0
none_stops [] e = refl
none_stops (x ∷ xs) e = none_set (is_stop x) (prefix_len is_plain xs) (length xs) _ (prefix_len-le-length is_plain xs) e (none_stops xs)

run_from : (d : List ℕ) (i : ℕ) → i ≤ prefix_len is_plain d → prefix_len is_plain d ≡ i + prefix_len is_plain (drop i d)
run_from [] zero h = omega arith
run_from [] (suc i) h = absurd (omega arith)
run_from (x ∷ xs) zero h = omega arith
run_from (x ∷ xs) (suc i) h = further (is_plain x) (prefix_len is_plain xs) (prefix_len is_plain (drop i xs)) h (run_from xs i)
  where
    further : (b : Bool) (n m : ℕ) → suc i ≤ cond b (1 + n) 0 → (i ≤ n → n ≡ i + m) → cond b (1 + n) 0 ≡ suc i + m
    further true n m le rest = omega (arith, rest (omega arith))
    further false n m le rest = absurd (omega arith)

split : (d : List ℕ) (i n : ℕ) → prefix_len is_plain (drop i d) ≡ cond (eqb (prefix_len is_plain (chunk i n d)) (length (chunk i n d))) (length (chunk i n d) + prefix_len is_plain (drop (i + n) d)) (prefix_len is_plain (chunk i n d))
split d i n = ap (prefix_len is_plain) (chunk-drop i n d) ∙ prefix_len-append is_plain (chunk i n d) (drop (i + n) d)

-- no byte of a load has an escape
pub run_on : (d : List ℕ) (i n : ℕ) → i ≤ prefix_len is_plain d → i + n ≤ length d → mask_l (map is_stop (chunk i n d)) ≡ 0 → i + n ≤ prefix_len is_plain d
run_on d i n before room none =
    let c = chunk i n d in
    let whole = split d i n ∙ ap (λ b. cond b (length c + prefix_len is_plain (drop (i + n) d)) (prefix_len is_plain c)) (eq-eqb _ _ (leading_from_mask_l is_stop c none)) in
    omega (arith, run_from d i before, whole, length-chunk i n d room)

-- the first one that has an escape
pub run_stops : (d : List ℕ) (i n : ℕ) → i ≤ prefix_len is_plain d → i + n ≤ length d → n ≤ 64 → 0 < mask_l (map is_stop (chunk i n d))
    → prefix_len is_plain d ≡ i + count_trailing_zeros 64 (mask_l (map is_stop (chunk i n d)))
run_stops d i n before room few some =
    let c = chunk i n d in
    let part = split d i n ∙ ap (λ b. cond b (length c + prefix_len is_plain (drop (i + n) d)) (prefix_len is_plain c)) (ne_eqb _ _ (λ (e : prefix_len is_plain c ≡ length c). omega (arith, none_stops c e))) in
    omega (arith, run_from d i before, part, trailing_mask_l is_stop 64 c (omega (arith, length-chunk i n d room)) some)

-- a load that reaches the end, and has no such byte
pub run_whole : (d : List ℕ) (i n : ℕ) → i ≤ prefix_len is_plain d → i + n ≡ length d → mask_l (map is_stop (chunk i n d)) ≡ 0 → length d ≡ prefix_len is_plain d
run_whole d i n before room none = omega (arith, run_on d i n before (omega arith) none, prefix_len-le-length is_plain d)

-- ---- what a run says of escapes

pub run_within : (d : List ℕ) (n : ℕ) → n ≡ prefix_len is_plain d → n ≤ length d
run_within d n e = omega (arith, prefix_len-le-length is_plain d)

pub run_plain : (d : List ℕ) (n : ℕ) → n ≡ prefix_len is_plain d → escape (take n d) ≡ take n d
run_plain d n e =
    let long = length-take-le n d (run_within d n e) in
    escape_on_plain true (take n d) (λ k from to. ap is_plain (get_or-take n d k 0 (omega (arith, long))) ∙ prefix_len_passes is_plain d k 0 (omega (arith, long)))

escaped_longer : (x : ℕ) → Fits w8 x → is_plain x ≡ false → escape_byte x ≡ x ∷ [] → ⊥
unfolding escape_byte
escaped_longer x fits stop e =
    true≢false (sym (ap (λ l. eqb (length l) 1) e) ∙ agree_below_at (λ y. eqb (length (escape_byte y)) 1) is_plain 256 x refl fits.fits ∙ stop)

pub run_ends : (d : List ℕ) (n : ℕ) → ((k : ℕ) → Fits w8 (get_or d k 0)) → n ≡ prefix_len is_plain d → n < length d → escape_byte (get_or d n 0) ≡ get_or d n 0 ∷ [] → ⊥
run_ends d n fits e short =
    escaped_longer (get_or d n 0) (fits n) (ap (λ k. is_plain (get_or d k 0)) e ∙ prefix_len_stops is_plain d 0 (omega arith))
