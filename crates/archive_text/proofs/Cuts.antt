-- Texts that a byte ends, which they do not have themselves, and the texts of sets.
use Rattle.std.proofs.Common.{◌≡◌, ◌≢◌, ℕ, ◌+◌, ◌%◌, ◌<◌, ◌≤◌, ◌^◌, ◌&&◌, ◌==◌, not, cond, Bool, true, false, IsTrue, List, [], ◌∷◌, ◌++◌, length, codes, decimal, inl, inr, refl, sym, ap, ap₂, ◌∙◌, subst, arith, append_assoc, append-nil, length-append}
use Rattle.std.specs.List.{AllByRecursion, flat_map, list_all}
use Rattle.std.proofs.lemmas.Bool.{and_parts}
use Rattle.std.proofs.lemmas.Bool.Decides.{eqb_tells}
use Rattle.std.proofs.lemmas.List.Folds.{list_all-append}
use Rattle.std.proofs.lemmas.Fmt.{decimal_by_steps, decimal_injective, decimal_nonempty}
use Rattle.version_set.specs.Pairs.{IsFrom}
use Rattle.version_set.specs.Text.{pair_text}
use Rattle.archive_tree.specs.Data.{Stamp}
use Rattle.record_parts.specs.Bounds.{most, IsStamp}
use Rattle.archive_text.specs.Export.{stamp_text}
use Rattle.std.proofs.Common.{Some, None}

-- the byte is not among these
pub record Free (d : ℕ) (xs : List ℕ) : Type 0 where
  pub is : IsTrue (list_all (λ b. not (b == d)) xs)

free-append : (d : ℕ) (xs ys : List ℕ) → Free d xs → Free d ys → Free d (xs ++ ys)
free-append d xs ys p q = record { is = list_all-append (λ b. not (b == d)) xs ys ∙ ap₂ (λ a b. a && b) p.is q.is }

free_head : (d x : ℕ) (xs : List ℕ) → Free d (x ∷ xs) → x ≢ d
free_head d x xs f e =
    let both = and_parts (not (x == d)) (list_all (λ b. not (b == d)) xs) f.is in
    elim (eqb_tells x d) [
      | inl p ↦ (let wrong : false ≡ true = sym (ap not p.0) ∙ both.0 in cc)
      | inr p ↦ p.1 e
    ]

free_tail : (d x : ℕ) (xs : List ℕ) → Free d (x ∷ xs) → Free d xs
free_tail d x xs f = record { is = (and_parts (not (x == d)) (list_all (λ b. not (b == d)) xs) f.is).1 }

pub cut : (d : ℕ) (xs ys r s : List ℕ) → Free d xs → Free d ys → xs ++ d ∷ r ≡ ys ++ d ∷ s → (xs ≡ ys) × (r ≡ s)
cut d [] [] r s f g e = let same : r ≡ s = cc in (refl, same)
cut d [] (y ∷ ys) r s f g e = let same : y ≡ d = cc in absurd (free_head d y ys g same)
cut d (x ∷ xs) [] r s f g e = let same : x ≡ d = cc in absurd (free_head d x xs f same)
cut d (x ∷ xs) (y ∷ ys) r s f g e =
    let head : x ≡ y = cc in
    let tail : xs ++ d ∷ r ≡ ys ++ d ∷ s = cc in
    let rest = cut d xs ys r s (free_tail d x xs f) (free_tail d y ys g) tail in
    (ap₂ (λ a b. a ∷ b) head rest.0, rest.1)

pub not_cut : (d : ℕ) (xs ys s : List ℕ) → Free d xs → xs ≡ ys ++ d ∷ s → ⊥
not_cut d [] [] s f e = cc
not_cut d [] (y ∷ ys) s f e = cc
not_cut d (x ∷ xs) [] s f e = let same : x ≡ d = cc in free_head d x xs f same
not_cut d (x ∷ xs) (y ∷ ys) s f e = let tail : xs ≡ ys ++ d ∷ s = cc in not_cut d xs ys s (free_tail d x xs f) tail

-- ---- numbers

digit_free : (d k : ℕ) → d < 48 → list_all (λ b. not (b == d)) ((48 + k) ∷ []) ≡ true
digit_free d k low = elim (eqb_tells (48 + k) d) [ inl p ↦ absurd (omega (arith, p.1)) | inr p ↦ ap (λ c. not c && true) p.0 ]

pub decimal_free : (d n : ℕ) → d < 48 → n < 2 ^ 64 → Free d (decimal n)
decimal_free d n low small =
    record {
      is = decimal_by_steps (λ _ ds. list_all (λ b. not (b == d)) ds ≡ true) (λ k h. digit_free d k low)
          (λ m ds h before. list_all-append (λ b. not (b == d)) ds ((48 + m % 10) ∷ []) ∙ ap₂ (λ a b. a && b) before (digit_free d (m % 10) low)) n small;
    }

-- ---- intervals

pub record IsSmall (p : ℕ × ℕ) : Type 0 where
  pub from : p.0 < 2 ^ 64
  pub to : p.1 < 2 ^ 64

abbrev pub span : ℕ × ℕ → List ℕ
span p = decimal p.0 ++ codes "-" ++ decimal p.1

pub span_is : (p : ℕ × ℕ) → span p ≡ decimal p.0 ++ 45 ∷ decimal p.1
span_is p = append_assoc (decimal p.0) (codes "-") (decimal p.1)

either_free : (d : ℕ) (c : Bool) (xs ys : List ℕ) → Free d xs → Free d ys → Free d (cond c xs ys)
either_free d true xs ys f g = f
either_free d false xs ys f g = g

pub pair_free : (p : ℕ × ℕ) → IsSmall p → Free 44 (pair_text p)
pair_free p h =
    let from = decimal_free 44 p.0 (omega arith) h.from in
    let to = decimal_free 44 p.1 (omega arith) h.to in
    either_free 44 (p.0 == p.1) (decimal p.0) (span p) from (free-append 44 (decimal p.0 ++ codes "-") (decimal p.1) (free-append 44 (decimal p.0) (codes "-") from (record { is = refl })) to)

alone_text : (p : ℕ × ℕ) → (p.0 == p.1) ≡ true → pair_text p ≡ decimal p.0
alone_text p e = ap (λ c. cond c (decimal p.0) (span p)) e

span_text : (p : ℕ × ℕ) → (p.0 == p.1) ≡ false → pair_text p ≡ decimal p.0 ++ 45 ∷ decimal p.1
span_text p e = ap (λ c. cond c (decimal p.0) (span p)) e ∙ span_is p

pair_is : (p q : ℕ × ℕ) → p.0 ≡ q.0 → p.1 ≡ q.1 → p ≡ q
pair_is p q e f = λ i. (e i, f i)

pub pair_one : (p q : ℕ × ℕ) → IsSmall p → IsSmall q → pair_text p ≡ pair_text q → p ≡ q
pair_one p q h k e =
    elim (eqb_tells p.0 p.1) [
      | inl a ↦ elim (eqb_tells q.0 q.1) [
        | inl b ↦ (let first = decimal_injective p.0 q.0 h.from k.from (sym (alone_text p a.0) ∙ e ∙ alone_text q b.0) in pair_is p q first (sym a.1 ∙ first ∙ b.1))
        | inr b ↦ absurd (not_cut 45 (decimal p.0) (decimal q.0) (decimal q.1) (decimal_free 45 p.0 (omega arith) h.from) (sym (alone_text p a.0) ∙ e ∙ span_text q b.0))
      ]
      | inr a ↦ elim (eqb_tells q.0 q.1) [
        | inl b ↦ absurd (not_cut 45 (decimal q.0) (decimal p.0) (decimal p.1) (decimal_free 45 q.0 (omega arith) k.from) (sym (alone_text q b.0) ∙ sym e ∙ span_text p a.0))
        | inr b ↦ (let parts = cut 45 (decimal p.0) (decimal q.0) (decimal p.1) (decimal q.1) (decimal_free 45 p.0 (omega arith) h.from) (decimal_free 45 q.0 (omega arith) k.from) (sym (span_text p a.0) ∙ e ∙ span_text q b.0) in
            pair_is p q (decimal_injective p.0 q.0 h.from k.from parts.0) (decimal_injective p.1 q.1 h.to k.to parts.1))
      ]
    ]

either_some : (c : Bool) (xs ys : List ℕ) → 0 < length xs → 0 < length ys → 0 < length (cond c xs ys)
either_some true xs ys f g = f
either_some false xs ys f g = g

pair_some : (p : ℕ × ℕ) → IsSmall p → 0 < length (pair_text p)
pair_some p h =
    let some = decimal_nonempty p.0 h.from in
    either_some (p.0 == p.1) (decimal p.0) (span p) some (subst (λ (l : List ℕ). 0 < length l) (sym (span_is p)) (omega (arith, some, length-append (decimal p.0) (45 ∷ decimal p.1))))

-- ---- sets

abbrev pub behind : List (ℕ × ℕ) → List ℕ
behind ps = flat_map (λ y. codes "," ++ pair_text y) ps

pub set_one : (p q : ℕ × ℕ) (ps qs : List (ℕ × ℕ)) → AllByRecursion IsSmall (p ∷ ps) → AllByRecursion IsSmall (q ∷ qs) → pair_text p ++ behind ps ≡ pair_text q ++ behind qs → p ∷ ps ≡ q ∷ qs
set_one p q [] [] h k e = ap (λ x. x ∷ []) (pair_one p q h.0 k.0 (sym (append-nil (pair_text p)) ∙ e ∙ append-nil (pair_text q)))
set_one p q [] (y ∷ ys) h k e = absurd (not_cut 44 (pair_text p) (pair_text q) (pair_text y ++ behind ys) (pair_free p h.0) (sym (append-nil (pair_text p)) ∙ e))
set_one p q (x ∷ xs) [] h k e = absurd (not_cut 44 (pair_text q) (pair_text p) (pair_text x ++ behind xs) (pair_free q k.0) (sym (append-nil (pair_text q)) ∙ sym e))
set_one p q (x ∷ xs) (y ∷ ys) h k e =
    let parts = cut 44 (pair_text p) (pair_text q) (pair_text x ++ behind xs) (pair_text y ++ behind ys) (pair_free p h.0) (pair_free q k.0) e in
    ap₂ (λ a l. a ∷ l) (pair_one p q h.0 k.0 parts.0) (set_one x y xs ys h.1 k.1 parts.1)

pub small_set : (low : ℕ) (ps : List (ℕ × ℕ)) → IsFrom low ps → AllByRecursion (λ (p : ℕ × ℕ). p.1 ≤ most) ps → AllByRecursion IsSmall ps
small_set low [] f w = tt
small_set low (p ∷ ps) f w = (record { from = omega (arith, f.1, w.0); to = omega (arith, w.0) }, small_set (p.1 + 2) ps f.2 w.1)

pub stamp_one : (s t : Stamp) → IsStamp s → IsStamp t → stamp_text s ≡ stamp_text t → s ≡ t
stamp_one None None h k e = refl
stamp_one None (Some []) h k e = absurd (k.1 refl)
stamp_one None (Some (q ∷ qs)) h k e =
    let small = small_set 1 (q ∷ qs) k.0.canonical k.0.within in
    absurd (omega (arith, ap length e, length-append (pair_text q) (behind qs), pair_some q small.0))
stamp_one (Some []) t h k e = absurd (h.1 refl)
stamp_one (Some (p ∷ ps)) None h k e =
    let small = small_set 1 (p ∷ ps) h.0.canonical h.0.within in
    absurd (omega (arith, ap length e, length-append (pair_text p) (behind ps), pair_some p small.0))
stamp_one (Some (p ∷ ps)) (Some []) h k e = absurd (k.1 refl)
stamp_one (Some (p ∷ ps)) (Some (q ∷ qs)) h k e =
    ap (λ x. Some x) (set_one p q ps qs (small_set 1 (p ∷ ps) h.0.canonical h.0.within) (small_set 1 (q ∷ qs) k.0.canonical k.0.within) e)
