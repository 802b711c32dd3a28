-- What is left of a set, interval by interval.
use Rattle.std.proofs.Common.{◌≡◌, ℕ, zero, suc, ◌+◌, ◌-◌, ◌≤◌, ◌<◌, true, false, cond, List, [], ◌∷◌, ◌++◌, map, filter, take, length, get_or, max, min, refl, ap, sym, subst, ◌∙◌, append_assoc, arith, inl, inr}
use Rattle.std.specs.List.{flat_map, range_with_len}
use Rattle.std.specs.Prelude.{nat_le}
use Rattle.std.proofs.lemmas.Bool.{cases_lt}
use Rattle.std.proofs.lemmas.Bool.Decides.{nat_tests}
use Rattle.std.proofs.lemmas.List.{append-nil, take_more, take_all}
use Rattle.std.proofs.lemmas.Grind.{flat_map-append}
use Rattle.version_set.specs.Pairs.{IsFrom, IsCanonical}
use Rattle.version_set.specs.Members.{members, numbers, intervals}
use Rattle.version_set.proofs.MembersLemmas.{intervals-members}
use Rattle.archive_cut.specs.Sliced.{is_between, clipped, cut_set}
use Rattle.archive_cut.specs.Windows.{cut_pair}
use Rattle.archive_cut.proofs.Clips.{between, not_between}

members-append : (ps qs : List (ℕ × ℕ)) → members (ps ++ qs) ≡ members ps ++ members qs
members-append [] qs = refl
members-append (p ∷ ps) qs = ap (λ z. numbers p ++ z) (members-append ps qs) ∙ simp append_assoc

module _ (i j : ℕ) where
  clipped-append : (ns ms : List ℕ) → clipped i j (ns ++ ms) ≡ clipped i j ns ++ clipped i j ms
  clipped-append [] ms = refl
  clipped-append (n ∷ ns) ms =
      let rest = clipped-append ns ms in
      elim (is_between i j n) as (λ b. map (λ m. m + 1 - i) (cond b (n ∷ filter (is_between i j) (ns ++ ms)) (filter (is_between i j) (ns ++ ms))) ≡ map (λ m. m + 1 - i) (cond b (n ∷ filter (is_between i j) ns) (filter (is_between i j) ns)) ++ clipped i j ms) [
        | true ↦ ap (λ z. (n + 1 - i) ∷ z) rest
        | false ↦ rest
      ]

  -- of numbers in a row those in a row are left
  clipped-range : (n a : ℕ) → clipped i j (range_with_len a n) ≡ range_with_len (max a i + 1 - i) (min (a + n) (j + 1) - max a i)
  clipped-range zero a =
      let none : min (a + 0) (j + 1) - max a i ≡ 0 = omega arith in
      ap (λ (k : ℕ). range_with_len (max a i + 1 - i) k) (sym none)
  clipped-range (suc n) a =
      let rest = clipped-range n (a + 1) in
      elim (is_between i j a) as (λ b. is_between i j a ≡ b → map (λ m. m + 1 - i) (cond b (a ∷ filter (is_between i j) (range_with_len (a + 1) n)) (filter (is_between i j) (range_with_len (a + 1) n))) ≡ range_with_len (max a i + 1 - i) (min (a + suc n) (j + 1) - max a i)) [
        | true ↦ λ e. (
            let two = between i j a e in
            let low = two.0 in
            let high = two.1 in
            let count : min (a + suc n) (j + 1) - max a i ≡ suc (min (a + 1 + n) (j + 1) - max (a + 1) i) = omega arith in
            let start : max a i + 1 - i ≡ a + 1 - i = omega arith in
            let next : max (a + 1) i + 1 - i ≡ a + 1 - i + 1 = omega arith in
            ap (λ z. (a + 1 - i) ∷ z) (rest ∙ ap (λ (k : ℕ). range_with_len k (min (a + 1 + n) (j + 1) - max (a + 1) i)) next)
            ∙ (λ x. range_with_len (sym start x) (sym count x)))
        | false ↦ λ e. rest ∙ beside e
      ] refl
    where
      beside : is_between i j a ≡ false → range_with_len (max (a + 1) i + 1 - i) (min (a + 1 + n) (j + 1) - max (a + 1) i) ≡ range_with_len (max a i + 1 - i) (min (a + suc n) (j + 1) - max a i)
      beside e = elim (cases_lt a i) [
        | inl lt ↦
            let start : max (a + 1) i + 1 - i ≡ max a i + 1 - i = omega arith in
            let count : min (a + 1 + n) (j + 1) - max (a + 1) i ≡ min (a + suc n) (j + 1) - max a i = omega arith in
            λ x. range_with_len (start x) (count x)
        | inr le ↦
            let past = not_between i j a le e in
            let none : min (a + 1 + n) (j + 1) - max (a + 1) i ≡ 0 = omega arith in
            let none' : min (a + suc n) (j + 1) - max a i ≡ 0 = omega arith in
            ap (λ (k : ℕ). range_with_len (max (a + 1) i + 1 - i) k) none ∙ ap (λ (k : ℕ). range_with_len (max a i + 1 - i) k) (sym none')
      ]

  clipped-numbers : (p : ℕ × ℕ) → p.0 ≤ p.1 → members (cut_pair i j p) ≡ clipped i j (numbers p)
  clipped-numbers p h =
      elim (nat_le (max p.0 i) (min p.1 j)) as (λ b. nat_le (max p.0 i) (min p.1 j) ≡ b → members (cond b ((max p.0 i + 1 - i, min p.1 j + 1 - i) ∷ []) []) ≡ clipped i j (numbers p)) [
        | true ↦ λ e. (
            let some : max p.0 i ≤ min p.1 j = grind (arith, nat_tests) in
            let count : min p.1 j + 1 - i + 1 - (max p.0 i + 1 - i) ≡ min (p.0 + (p.1 + 1 - p.0)) (j + 1) - max p.0 i = omega arith in
            append-nil (numbers (max p.0 i + 1 - i, min p.1 j + 1 - i)) ∙ ap (range_with_len (max p.0 i + 1 - i)) count ∙ sym (clipped-range (p.1 + 1 - p.0) p.0))
        | false ↦ λ e. (
            let none : min p.1 j < max p.0 i = grind (arith, nat_tests) in
            let count : min (p.0 + (p.1 + 1 - p.0)) (j + 1) - max p.0 i ≡ 0 = omega arith in
            sym (clipped-range (p.1 + 1 - p.0) p.0 ∙ ap (range_with_len (max p.0 i + 1 - i)) count))
      ] refl

  pub members-pieces : (low : ℕ) (q : List (ℕ × ℕ)) → IsFrom low q → members (flat_map (cut_pair i j) q) ≡ clipped i j (members q)
  members-pieces low [] c = refl
  members-pieces low (p ∷ q) c =
      members-append (cut_pair i j p) (flat_map (cut_pair i j) q)
      ∙ (λ x. clipped-numbers p c.1 x ++ members-pieces (p.1 + 2) q c.2 x)
      ∙ sym (clipped-append (numbers p) (members q))

  -- they ascend, and none touch
  pieces-from : (low high : ℕ) (q : List (ℕ × ℕ)) → high + i ≤ max low i + 1 → IsFrom low q → IsFrom high (flat_map (cut_pair i j) q)
  pieces-from low high [] le c = tt
  pieces-from low high (p ∷ q) le c =
      let above : low ≤ p.0 = c.0 in
      let order : p.0 ≤ p.1 = c.1 in
      elim (nat_le (max p.0 i) (min p.1 j)) as (λ b. nat_le (max p.0 i) (min p.1 j) ≡ b → IsFrom high (cond b ((max p.0 i + 1 - i, min p.1 j + 1 - i) ∷ []) [] ++ flat_map (cut_pair i j) q)) [
        | true ↦ λ e. (
            let some : max p.0 i ≤ min p.1 j = grind (arith, nat_tests) in
            (omega arith, omega arith, pieces-from (p.1 + 2) (min p.1 j + 1 - i + 2) q (omega arith) c.2))
        | false ↦ λ e. pieces-from (p.1 + 2) high q (omega arith) c.2
      ] refl

take-from : (low k : ℕ) (q : List (ℕ × ℕ)) → IsFrom low q → IsFrom low (take k q)
take-from low zero q c = tt
take-from low (suc k) [] c = tt
take-from low (suc k) (p ∷ q) c = (c.0, c.1, take-from (p.1 + 2) k q c.2)

-- ---- interval by interval, of a set that is read as items

-- one interval more
pub piece_more : (i j k : ℕ) (items q left : List (ℕ × ℕ)) (d : ℕ × ℕ) → items ≡ q → k < length items → left ≡ flat_map (cut_pair i j) (take k q) → left ++ cut_pair i j (get_or items k d) ≡ flat_map (cut_pair i j) (take (k + 1) q)
piece_more i j k items q left d same low is =
    ap (λ z. left ++ cut_pair i j (get_or z k d)) same
    ∙ ap (λ z. z ++ cut_pair i j (get_or q k d)) is
    ∙ ap (λ z. flat_map (cut_pair i j) (take k q) ++ z) (sym (append-nil (cut_pair i j (get_or q k d))))
    ∙ sym (ap (flat_map (cut_pair i j)) (take_more q k d (subst (λ z. k < length z) same low)) ∙ flat_map-append (cut_pair i j) (take k q) (get_or q k d ∷ []))

pub may_push : (i j k : ℕ) (items q left : List (ℕ × ℕ)) (d : ℕ × ℕ) → 1 ≤ i → IsCanonical q → items ≡ q → k < length items → left ≡ flat_map (cut_pair i j) (take k q) → IsCanonical (left ++ cut_pair i j (get_or items k d))
may_push i j k items q left d from c same low is =
    subst IsCanonical (sym (piece_more i j k items q left d same low is)) (pieces-from i j 1 1 (take (k + 1) q) (omega arith) (take-from 1 (k + 1) q c))

-- what is left of the intervals is the set that is left
pieces-cut : (i j : ℕ) (q : List (ℕ × ℕ)) → 1 ≤ i → IsCanonical q → flat_map (cut_pair i j) q ≡ cut_set i j q
pieces-cut i j q from c =
    sym (intervals-members 1 (flat_map (cut_pair i j) q) (pieces-from i j 1 1 q (omega arith) c)) ∙ ap intervals (members-pieces i j 1 q c)

pub all_pieces : (i j k : ℕ) (items q left : List (ℕ × ℕ)) → 1 ≤ i → IsCanonical q → items ≡ q → length items ≤ k → left ≡ flat_map (cut_pair i j) (take k q) → left ≡ cut_set i j q
all_pieces i j k items q left from c same end is = is ∙ ap (flat_map (cut_pair i j)) (take_all k q (subst (λ z. length z ≤ k) same end)) ∙ pieces-cut i j q from c
