-- Whether the numbers of an interval, and of a set, are all in another set.
use Rattle.std.proofs.Common.{◌≡◌, ◌↔◌, ℕ, zero, suc, ◌+◌, ◌<◌, ◌≤◌, ◌&&◌, ◌||◌, Bool, true, false, IsTrue, List, [], ◌∷◌, length, get_or, drop, refl, sym, ap, subst, ◌∙◌, arith, leb, le-leb, inl, inr, true≢false}
use Rattle.std.proofs.lemmas.Bool.{cases_lt}
use Rattle.std.proofs.lemmas.List.{drop_all}
use Rattle.std.proofs.lemmas.Bool.Decides.{nat_tests}
use Rattle.version_set.specs.Pairs.{IsFrom, IsCanonical}
use Rattle.version_set.specs.Members.{members, has, numbers}
use Rattle.version_set.proofs.MembersLemmas.{covers, has-members, has-append, has-numbers, not_below, members_ascend}
use Rattle.version_set.proofs.Walks.{covers_at, covers_past, drop_at}

-- all numbers from the first to the last are in the intervals
abbrev pub AllBetween : ℕ → ℕ → List (ℕ × ℕ) → Type 0
AllBetween from to ps = (n : ℕ) → from ≤ n → n ≤ to → IsTrue (has (members ps) n)

-- all numbers of the first intervals are in the others
abbrev pub AllIn : List (ℕ × ℕ) → List (ℕ × ℕ) → Type 0
AllIn ps qs = (n : ℕ) → IsTrue (has (members ps) n) → IsTrue (has (members qs) n)

or_true : (a : Bool) → (a || true) ≡ true
or_true true = refl
or_true false = refl

-- a number of the interval at k
covers_there : (ps : List (ℕ × ℕ)) (n k : ℕ) (d : ℕ × ℕ) → k < length ps → (get_or ps k d).0 ≤ n → n ≤ (get_or ps k d).1 → covers ps n ≡ true
covers_there [] n k d lt from to = absurd (omega arith)
covers_there (p ∷ ps) n zero d lt from to = (let e : (leb p.0 n && leb n p.1) ≡ true = grind (arith, nat_tests) in rw e refl)
covers_there (p ∷ ps) n (suc k) d lt from to = (let rest = covers_there ps n k d (omega arith) from to in rw rest (or_true (leb p.0 n && leb n p.1)))

-- the number behind an interval is in none
gap : (low : ℕ) (ps : List (ℕ × ℕ)) (k : ℕ) (d : ℕ × ℕ) → IsFrom low ps → k < length ps → covers ps ((get_or ps k d).1 + 1) ≡ false
gap low [] k d c lt = absurd (omega arith)
gap low (p ∷ ps) zero d c lt =
    let here : (leb p.0 (p.1 + 1) && leb (p.1 + 1) p.1) ≡ false = grind (arith, nat_tests) in
    let later : covers ps (p.1 + 1) ≡ false = sym (has-members ps (p.1 + 1)) ∙ not_below (p.1 + 2) (members ps) (p.1 + 1) (members_ascend (p.1 + 2) ps c.2) (omega arith) in
    rw (here, later) refl
gap low (p ∷ ps) (suc k) d c lt =
    let behind = later_end (p.1 + 2) ps k c.2 (omega arith) in
    let n = (get_or ps k d).1 + 1 in
    let here : (leb p.0 n && leb n p.1) ≡ false = grind (arith, nat_tests) in
    rw here (gap (p.1 + 2) ps k d c.2 (omega arith))
  where
    later_end : (low : ℕ) (ps : List (ℕ × ℕ)) (j : ℕ) → IsFrom low ps → j < length ps → low ≤ (get_or ps j d).1
    later_end low [] j c lt = absurd (omega arith)
    later_end low (p ∷ ps) zero c lt = omega (arith, c.0, c.1)
    later_end low (p ∷ ps) (suc j) c lt = omega (arith, c.0, c.1, later_end (p.1 + 2) ps j c.2 (omega arith))

-- k is the first interval that does not end before the first number
pub spans_at : (ps : List (ℕ × ℕ)) (from to k : ℕ) (d : ℕ × ℕ) → IsCanonical ps → from ≤ to → k < length ps → ((i : ℕ) → i < k → (get_or ps i d).1 < from) → from ≤ (get_or ps k d).1
    → ((leb (get_or ps k d).0 from && leb to (get_or ps k d).1) ≡ true) ↔ AllBetween from to ps
spans_at ps from to k d c order lt before end = (
  λ h n low high. (
      let q = get_or ps k d in
      let two : (q.0 ≤ from) × (to ≤ q.1) = ends q.0 q.1 h in
      has-members ps n ∙ covers_there ps n k d lt (omega (arith, two.0)) (omega (arith, two.1))),
  λ h. (
      let first = sym (covers_at 1 ps from k d c lt before end) ∙ sym (has-members ps from) ∙ h from (omega arith) order in
      elim (cases_lt (get_or ps k d).1 to) [
        | inl past ↦ absurd (true≢false (sym (h ((get_or ps k d).1 + 1) (omega arith) (omega arith)) ∙ has-members ps ((get_or ps k d).1 + 1) ∙ gap 1 ps k d c lt))
        | inr le ↦ both_true (get_or ps k d).0 (get_or ps k d).1 first le
      ]),
)
  where
    ends : (a b : ℕ) → (leb a from && leb to b) ≡ true → (a ≤ from) × (to ≤ b)
    ends a b h = grind (arith, nat_tests)

    both_true : (a b : ℕ) → leb a from ≡ true → to ≤ b → (leb a from && leb to b) ≡ true
    both_true a b e le = rw e (grind (arith, nat_tests))

pub spans_begun : (ps : List (ℕ × ℕ)) (from to k : ℕ) (d : ℕ × ℕ) → IsCanonical ps → from ≤ to → k < length ps → ((i : ℕ) → i < k → (get_or ps i d).1 < from) → from ≤ (get_or ps k d).1
    → (get_or ps k d).0 ≤ from → IsTrue (leb to (get_or ps k d).1) ↔ AllBetween from to ps
spans_begun ps from to k d c order lt before end begun =
    let law = spans_at ps from to k d c order lt before end in
    let e : leb (get_or ps k d).0 from ≡ true = le-leb (get_or ps k d).0 from begun in
    (λ h. law.0 (rw e h), λ h. (let both = law.1 h in subst (λ b. (b && leb to (get_or ps k d).1) ≡ true) e both))

pub spans_later : (ps : List (ℕ × ℕ)) (from to k : ℕ) (d : ℕ × ℕ) → IsCanonical ps → from ≤ to → k < length ps → ((i : ℕ) → i < k → (get_or ps i d).1 < from) → from ≤ (get_or ps k d).1
    → from < (get_or ps k d).0 → IsTrue (leb (get_or ps k d).0 from) ↔ AllBetween from to ps
spans_later ps from to k d c order lt before end later = (
  λ h. absurd (begins (get_or ps k d).0 later h),
  λ h. absurd (no (get_or ps k d).0 (get_or ps k d).1 later ((spans_at ps from to k d c order lt before end).1 h)),
)
  where
    begins : (a : ℕ) → from < a → leb a from ≡ true → ⊥
    begins a lt e = grind (arith, nat_tests)

    no : (a b : ℕ) → from < a → (leb a from && leb to b) ≡ true → ⊥
    no a b lt e = grind (arith, nat_tests)

-- every interval ends before the first number
pub spans_past : (ps : List (ℕ × ℕ)) (from to : ℕ) (d : ℕ × ℕ) → from ≤ to → ((i : ℕ) → i < length ps → (get_or ps i d).1 < from) → ¬ (AllBetween from to ps)
spans_past ps from to d order before h = true≢false (sym (h from (omega arith) order) ∙ has-members ps from ∙ covers_past ps from d before)

-- ---- an interval and those behind it

pub order_at : (low : ℕ) (ps : List (ℕ × ℕ)) (i : ℕ) (d : ℕ × ℕ) → IsFrom low ps → i < length ps → (get_or ps i d).0 ≤ (get_or ps i d).1
order_at low [] i d c lt = absurd (omega arith)
order_at low (p ∷ ps) zero d c lt = c.1
order_at low (p ∷ ps) (suc i) d c lt = order_at (p.1 + 2) ps i d c.2 (omega arith)

pub all_in_next : (ps qs : List (ℕ × ℕ)) (i : ℕ) (d : ℕ × ℕ) → i < length ps → AllIn (drop i ps) qs ↔ (AllBetween (get_or ps i d).0 (get_or ps i d).1 qs × AllIn (drop (i + 1) ps) qs)
all_in_next ps qs i d lt = rw (drop_at ps i d lt) (
  λ h. (
    λ n low high. h n (has-append (numbers p) rest n ∙ ap (λ x. x || has rest n) (has-numbers p n ∙ between n low high)),
    λ n m. h n (has-append (numbers p) rest n ∙ ap (λ x. has (numbers p) n || x) m ∙ or_true (has (numbers p) n)),
  ),
  λ h n m. which n (has (numbers p) n) (has rest n) (λ e. (let two = ends n (sym (has-numbers p n) ∙ e) in h.0 n two.0 two.1)) (h.1 n) (sym (has-append (numbers p) rest n) ∙ m),
)
  where
    p : ℕ × ℕ
    p = get_or ps i d

    rest : List ℕ
    rest = members (drop (i + 1) ps)

    between : (n : ℕ) → p.0 ≤ n → n ≤ p.1 → (leb p.0 n && leb n p.1) ≡ true
    between n low high = grind (arith, nat_tests)

    ends : (n : ℕ) → (leb p.0 n && leb n p.1) ≡ true → (p.0 ≤ n) × (n ≤ p.1)
    ends n h = grind (arith, nat_tests)

    which : (n : ℕ) (a b : Bool) → (a ≡ true → IsTrue (has (members qs) n)) → (b ≡ true → IsTrue (has (members qs) n)) → (a || b) ≡ true → IsTrue (has (members qs) n)
    which n true b f g m = f refl
    which n false b f g m = g m

-- ---- the walk over the intervals

pub order_of : (items ps : List (ℕ × ℕ)) (i : ℕ) → items ≡ ps → IsCanonical ps → i < length items → (get_or items i (0, 0)).0 ≤ (get_or items i (0, 0)).1
order_of items ps i e c lt = order_at 1 items i (0, 0) (subst IsCanonical (sym e) c) lt

module _ (items ps others qs : List (ℕ × ℕ)) (i : ℕ) (e : items ≡ ps) (f : others ≡ qs) where
  -- the interval at i is in the other set
  pub within_kept : i < length items → AllBetween (get_or items i (0, 0)).0 (get_or items i (0, 0)).1 others → AllIn (drop i ps) qs ↔ AllIn ps qs → AllIn (drop (i + 1) ps) qs ↔ AllIn ps qs
  within_kept lt h kept =
      let law = all_in_next ps qs i (0, 0) (subst (λ z. i < length z) e lt) in
      let here : AllBetween (get_or ps i (0, 0)).0 (get_or ps i (0, 0)).1 qs = subst (λ (z : List (ℕ × ℕ)). AllBetween (get_or z i (0, 0)).0 (get_or z i (0, 0)).1 qs) e (subst (AllBetween (get_or items i (0, 0)).0 (get_or items i (0, 0)).1) f h) in
      (λ g. kept.0 (law.1 (here, g)), λ g. (law.0 (kept.1 g)).1)

  -- it is not
  pub within_not : i < length items → ¬ (AllBetween (get_or items i (0, 0)).0 (get_or items i (0, 0)).1 others) → AllIn (drop i ps) qs ↔ AllIn ps qs → ¬ (AllIn ps qs)
  within_not lt h kept g =
      let law = all_in_next ps qs i (0, 0) (subst (λ z. i < length z) e lt) in
      let here : AllBetween (get_or ps i (0, 0)).0 (get_or ps i (0, 0)).1 qs = (law.0 (kept.1 g)).0 in
      h (subst (AllBetween (get_or items i (0, 0)).0 (get_or items i (0, 0)).1) (sym f) (subst (λ (z : List (ℕ × ℕ)). AllBetween (get_or z i (0, 0)).0 (get_or z i (0, 0)).1 qs) (sym e) here))

  -- none is left
  pub within_all : length items ≤ i → AllIn (drop i ps) qs ↔ AllIn ps qs → AllIn ps qs
  within_all le kept = kept.0 (λ n m. absurd (nothing (drop_all i ps (subst (λ z. length z ≤ i) e le)) n m))
    where
      nothing : drop i ps ≡ [] → (n : ℕ) → IsTrue (has (members (drop i ps)) n) → ⊥
      nothing d n m = true≢false (sym (subst (λ z. IsTrue (has (members z) n)) d m))
