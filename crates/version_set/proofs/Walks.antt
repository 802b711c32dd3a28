-- Walks over two lists of intervals.
use Rattle.std.proofs.Common.{◌≡◌, ℕ, zero, suc, ◌+◌, ◌<◌, ◌≤◌, ◌&&◌, ◌||◌, Bool, true, false, List, [], ◌∷◌, length, max, get_or, drop, drop-cons, add-one, refl, sym, ap, subst, ◌∙◌, arith, leb, ◌⊎◌, inl, inr}
use Rattle.std.specs.List.Sorted.{IsNonDecreasingBy}
use Rattle.std.proofs.lemmas.Bool.{cases_lt}
use Rattle.std.proofs.lemmas.List.{nil_from_length, length-drop}
use Rattle.std.proofs.lemmas.Bool.Decides.{nat_tests}
use Rattle.version_set.specs.Pairs.{IsFrom, IsCanonical}
use Rattle.version_set.specs.Members.{numbers, members, has}
use Rattle.version_set.specs.Walk.{start_of, end_of, Joins, Shares}
use Rattle.version_set.proofs.MembersLemmas.{covers, has-members, has-numbers, IsFrom-weaker, not_below, members_ascend}

pub drop_at : (ps : List (ℕ × ℕ)) (i : ℕ) (d : ℕ × ℕ) → i < length ps → drop i ps ≡ get_or ps i d ∷ drop (i + 1) ps
drop_at ps i d lt = rw (add-one, drop-cons ps i d) refl

-- ---- the union

-- what was put together, and what is left of both lists
pub record Unites (ours theirs left right all : List (ℕ × ℕ)) : Type 0 where
  pub canonical : IsCanonical all
  pub left_behind : IsFrom (start_of all) left
  pub right_behind : IsFrom (start_of all) right
  pub numbers : (n : ℕ) → (has (members all) n || (covers left n || covers right n)) ≡ (has (members ours) n || has (members theirs) n)

or_comm : (a b : Bool) → (a || b) ≡ (b || a)
or_comm true true = refl
or_comm true false = refl
or_comm false true = refl
or_comm false false = refl

or_moved : (a p l r : Bool) → ((a || p) || (l || r)) ≡ (a || ((p || l) || r))
or_moved true p l r = refl
or_moved false true l r = refl
or_moved false false l r = refl

pub Unites-starts : (ours theirs : List (ℕ × ℕ)) → IsCanonical ours → IsCanonical theirs → Unites ours theirs ours theirs []
Unites-starts ours theirs c d = record {
  canonical = tt;
  left_behind = c;
  right_behind = d;
  numbers = λ n. sym (λ i. has-members ours n i || has-members theirs n i);
}

pub Unites-swap : (ours theirs left right all : List (ℕ × ℕ)) → Unites ours theirs left right all → Unites theirs ours right left all
Unites-swap ours theirs left right all u = record {
  canonical = u.canonical;
  left_behind = u.right_behind;
  right_behind = u.left_behind;
  numbers = λ n. ap (λ (x : Bool). has (members all) n || x) (or_comm (covers right n) (covers left n)) ∙ u.numbers n ∙ or_comm (has (members ours) n) (has (members theirs) n);
}

-- the next interval of the first list
pub Unites-next : (ours theirs rest left right all new : List (ℕ × ℕ)) (p : ℕ × ℕ) → Unites ours theirs left right all → left ≡ p ∷ rest → IsFrom p.0 right → Joins all p new → Unites ours theirs rest right new
Unites-next ours theirs rest left right all new p u e behind j =
    let first : IsFrom (start_of all) (p ∷ rest) = subst (λ (ps : List (ℕ × ℕ)). IsFrom (start_of all) ps) e u.left_behind in
    let order = first.1 in
    let start = j.start in
    record {
      canonical = j.canonical;
      left_behind = IsFrom-weaker (start_of new) (p.1 + 2) rest (omega arith) first.2;
      right_behind = IsFrom-weaker (start_of new) p.0 right start behind;
      numbers = λ n.
          ap (λ (x : Bool). x || (covers rest n || covers right n)) (j.numbers n ∙ ap (λ (x : Bool). has (members all) n || x) (has-numbers p n))
          ∙ or_moved (has (members all) n) (leb p.0 n && leb n p.1) (covers rest n) (covers right n)
          ∙ ap (λ (ps : List (ℕ × ℕ)). has (members all) n || (covers ps n || covers right n)) (sym e)
          ∙ u.numbers n;
    }

-- the intervals from i on
pub left_from : (low i : ℕ) (ps : List (ℕ × ℕ)) (p : ℕ × ℕ) → i < length ps → p ≡ get_or ps i p → IsFrom low (drop i ps) → (low ≤ p.0) × (p.0 ≤ p.1) × IsFrom (p.1 + 2) (drop (i + 1) ps)
left_from low i ps p lt e c =
    let split : drop i ps ≡ p ∷ drop (i + 1) ps = drop_at ps i p lt ∙ ap (λ (q : ℕ × ℕ). q ∷ drop (i + 1) ps) (sym e) in
    subst (λ (qs : List (ℕ × ℕ)). IsFrom low qs) split c

split_at : (i : ℕ) (ps : List (ℕ × ℕ)) (p : ℕ × ℕ) → i < length ps → p ≡ get_or ps i p → drop i ps ≡ p ∷ drop (i + 1) ps
split_at i ps p lt e = drop_at ps i p lt ∙ ap (λ (q : ℕ × ℕ). q ∷ drop (i + 1) ps) (sym e)

none_left : (i : ℕ) (ps : List (ℕ × ℕ)) → length ps ≤ i → drop i ps ≡ []
none_left i ps le = nil_from_length (drop i ps) (omega (arith, length-drop i ps))

-- each of both lists has an interval left, and this one's begins no later
pub unite_both : (ours theirs all new : List (ℕ × ℕ)) (i j : ℕ) (our their : ℕ × ℕ) → Unites ours theirs (drop i ours) (drop j theirs) all → i < length ours → our ≡ get_or ours i our → j < length theirs → their ≡ get_or theirs j their
    → our.0 ≤ their.0 → Joins all our new → Unites ours theirs (drop (i + 1) ours) (drop j theirs) new
unite_both ours theirs all new i j our their u lt e lt' e' first joins =
    let after = left_from (start_of all) j theirs their lt' e' u.right_behind in
    let behind : IsFrom our.0 (drop j theirs) = rw (split_at j theirs their lt' e') (first, after.1, after.2) in
    Unites-next ours theirs (drop (i + 1) ours) (drop i ours) (drop j theirs) all new our u (split_at i ours our lt e) behind joins

-- only the first has one left
pub unite_one : (ours theirs all new : List (ℕ × ℕ)) (i j : ℕ) (our : ℕ × ℕ) → Unites ours theirs (drop i ours) (drop j theirs) all → i < length ours → our ≡ get_or ours i our → length theirs ≤ j
    → Joins all our new → Unites ours theirs (drop (i + 1) ours) (drop j theirs) new
unite_one ours theirs all new i j our u lt e le joins =
    let behind : IsFrom our.0 (drop j theirs) = rw (none_left j theirs le) tt in
    Unites-next ours theirs (drop (i + 1) ours) (drop i ours) (drop j theirs) all new our u (split_at i ours our lt e) behind joins

-- ---- the common numbers

-- what was found in both, and what is left of both lists
pub record Meets (ours theirs left right both : List (ℕ × ℕ)) : Type 0 where
  pub canonical : IsCanonical both
  pub left_canonical : IsCanonical left
  pub right_canonical : IsCanonical right
  pub behind : IsFrom (end_of both) left ⊎ IsFrom (end_of both) right
  pub numbers : (n : ℕ) → (has (members both) n || (covers left n && covers right n)) ≡ (has (members ours) n && has (members theirs) n)

and_comm : (a b : Bool) → (a && b) ≡ (b && a)
and_comm true true = refl
and_comm true false = refl
and_comm false true = refl
and_comm false false = refl

pub Meets-starts : (ours theirs : List (ℕ × ℕ)) → IsCanonical ours → IsCanonical theirs → Meets ours theirs ours theirs []
Meets-starts ours theirs c d = record {
  canonical = tt;
  left_canonical = c;
  right_canonical = d;
  behind = inl c;
  numbers = λ n. sym (λ i. has-members ours n i && has-members theirs n i);
}

pub Meets-swap : (ours theirs left right both : List (ℕ × ℕ)) → Meets ours theirs left right both → Meets theirs ours right left both
Meets-swap ours theirs left right both u = record {
  canonical = u.canonical;
  left_canonical = u.right_canonical;
  right_canonical = u.left_canonical;
  behind = elim u.behind [ inl h ↦ inr h | inr h ↦ inl h ];
  numbers = λ n. ap (λ (x : Bool). has (members both) n || x) (and_comm (covers right n) (covers left n)) ∙ u.numbers n ∙ and_comm (has (members ours) n) (has (members theirs) n);
}

covers_below : (low : ℕ) (ps : List (ℕ × ℕ)) (n : ℕ) → IsFrom low ps → n < low → covers ps n ≡ false
covers_below low ps n c lt = sym (has-members ps n) ∙ not_below low (members ps) n (members_ascend low ps c) lt

apart_later : (a b : ℕ × ℕ) (right : List (ℕ × ℕ)) (n : ℕ) → a.1 ≤ b.1 → IsFrom (b.1 + 2) right → ((leb a.0 n && leb n a.1) && covers right n) ≡ false
apart_later a b right n le c =
    elim (cases_lt n (b.1 + 2)) [
      | inl lt ↦ (let e = covers_below (b.1 + 2) right n c lt in rw e (and_comm (leb a.0 n && leb n a.1) false))
      | inr from ↦ (let e : (leb a.0 n && leb n a.1) ≡ false = grind (arith, nat_tests) in rw e refl)
    ]

meet_moved : (h a b l r : Bool) → (a && r) ≡ false → ((h || (a && b)) || (l && (b || r))) ≡ (h || ((a || l) && (b || r)))
meet_moved true a b l r e = refl
meet_moved false false b l r e = refl
meet_moved false true true true r e = refl
meet_moved false true true false r e = refl
meet_moved false true false l true e = absurd cc
meet_moved false true false true false e = refl
meet_moved false true false false false e = refl

-- the interval of the first list ends no later, and goes
pub Meets-next : (ours theirs rest right left more both new : List (ℕ × ℕ)) (a b : ℕ × ℕ) → Meets ours theirs left right both → left ≡ a ∷ rest → right ≡ b ∷ more → a.1 ≤ b.1 → Shares both a b new → Meets ours theirs rest right new
Meets-next ours theirs rest right left more both new a b u e f le s =
    let here : IsCanonical (a ∷ rest) = subst (λ (ps : List (ℕ × ℕ)). IsCanonical ps) e u.left_canonical in
    let there : IsCanonical (b ∷ more) = subst (λ (ps : List (ℕ × ℕ)). IsCanonical ps) f u.right_canonical in
    let order = here.1 in
    let end = s.end in
    let from : IsFrom (end_of both) (a ∷ rest) → IsFrom (end_of new) rest = (λ c. let first = c.0 in IsFrom-weaker (end_of new) (a.1 + 2) rest (omega arith) here.2) in
    record {
      canonical = s.canonical;
      left_canonical = IsFrom-weaker 1 (a.1 + 2) rest (omega arith) here.2;
      right_canonical = u.right_canonical;
      behind = elim u.behind [
        | inl h ↦ inl (from (subst (λ (ps : List (ℕ × ℕ)). IsFrom (end_of both) ps) e h))
        | inr h ↦ elim (cases_lt (a.1 + 2) (end_of new)) [
          | inl lt ↦ inr (IsFrom-weaker (end_of new) (end_of both) right (omega arith) h)
          | inr ge ↦ inl (IsFrom-weaker (end_of new) (a.1 + 2) rest ge here.2)
        ]
      ];
      numbers = λ n.
          (λ i. (s.numbers n ∙ ap (λ (x : Bool). has (members both) n || x) (λ j. has-numbers a n j && has-numbers b n j)) i || (covers rest n && covers (f i) n))
          ∙ meet_moved (has (members both) n) (leb a.0 n && leb n a.1) (leb b.0 n && leb n b.1) (covers rest n) (covers more n) (apart_later a b more n le there.2)
          ∙ (λ i. has (members both) n || (covers (sym e i) n && covers (sym f i) n))
          ∙ u.numbers n;
    }

-- the interval at i, and those behind it
abbrev pub StandsAt : List (ℕ × ℕ) → ℕ → ℕ × ℕ → Type 0
StandsAt ps i p = drop i ps ≡ p ∷ drop (i + 1) ps

pub meet_step : (ours theirs both new : List (ℕ × ℕ)) (i j : ℕ) (a b : ℕ × ℕ) → Meets ours theirs (drop i ours) (drop j theirs) both → StandsAt ours i a → StandsAt theirs j b → a.1 ≤ b.1 → Shares both a b new → Meets ours theirs (drop (i + 1) ours) (drop j theirs) new
meet_step ours theirs both new i j a b u e f le s = Meets-next ours theirs (drop (i + 1) ours) (drop j theirs) (drop i ours) (drop (j + 1) theirs) both new a b u e f le s

pub Shares-swap : (both new : List (ℕ × ℕ)) (a b : ℕ × ℕ) → Shares both a b new → Shares both b a new
Shares-swap both new a b s = record {
  canonical = s.canonical;
  end = omega (arith, s.end);
  numbers = λ n. s.numbers n ∙ ap (λ (x : Bool). has (members both) n || x) (and_comm (has (numbers a) n) (has (numbers b) n));
}

-- the next common interval begins behind the others
pub meet_behind : (ours theirs both : List (ℕ × ℕ)) (i j : ℕ) (a b : ℕ × ℕ) → Meets ours theirs (drop i ours) (drop j theirs) both → StandsAt ours i a → StandsAt theirs j b → end_of both ≤ max a.0 b.0
meet_behind ours theirs both i j a b u e f =
    elim u.behind [
      | inl h ↦ (let c : IsFrom (end_of both) (a ∷ drop (i + 1) ours) = subst (λ (ps : List (ℕ × ℕ)). IsFrom (end_of both) ps) e h in omega (arith, c.0))
      | inr h ↦ (let c : IsFrom (end_of both) (b ∷ drop (j + 1) theirs) = subst (λ (ps : List (ℕ × ℕ)). IsFrom (end_of both) ps) f h in omega (arith, c.0))
    ]

-- ---- halving

-- the intervals end one behind another
ends_ascend : (low : ℕ) (ps : List (ℕ × ℕ)) (i j : ℕ) (d : ℕ × ℕ) → IsFrom low ps → i ≤ j → j < length ps → (get_or ps i d).1 ≤ (get_or ps j d).1
ends_ascend low [] i j d c le lt = absurd (omega arith)
ends_ascend low (p ∷ ps) zero zero d c le lt = omega arith
ends_ascend low (p ∷ ps) zero (suc j) d c le lt = omega (arith, later_end (p.1 + 2) ps j d c.2 (omega arith))
  where
    later_end : (low : ℕ) (ps : List (ℕ × ℕ)) (j : ℕ) (d : ℕ × ℕ) → IsFrom low ps → j < length ps → low ≤ (get_or ps j d).1
    later_end low [] j d c lt = absurd (omega arith)
    later_end low (p ∷ ps) zero d c lt = omega (arith, c.0, c.1)
    later_end low (p ∷ ps) (suc j) d c lt = omega (arith, c.0, c.1, later_end (p.1 + 2) ps j d c.2 (omega arith))
ends_ascend low (p ∷ ps) (suc i) zero d c le lt = absurd (omega arith)
ends_ascend low (p ∷ ps) (suc i) (suc j) d c le lt = ends_ascend (p.1 + 2) ps i j d c.2 (omega arith) (omega arith)

pub ends_rise : (ps : List (ℕ × ℕ)) → IsCanonical ps → IsNonDecreasingBy (λ (p : ℕ × ℕ). p.1) ps
ends_rise ps c i j d le lt = ends_ascend 1 ps i j d c le lt

-- n is in no interval before the one at k, and all later ones begin behind n
pub covers_at : (low : ℕ) (ps : List (ℕ × ℕ)) (n k : ℕ) (d : ℕ × ℕ) → IsFrom low ps → k < length ps → ((i : ℕ) → i < k → (get_or ps i d).1 < n) → n ≤ (get_or ps k d).1 → covers ps n ≡ leb (get_or ps k d).0 n
covers_at low [] n k d c lt h le = absurd (omega arith)
covers_at low (p ∷ ps) n zero d c lt h le =
    let none = covers_below (p.1 + 2) ps n c.2 (omega arith) in
    rw none (grind (arith, nat_tests))
covers_at low (p ∷ ps) n (suc k) d c lt h le =
    let past : p.1 < n = h 0 (omega arith) in
    let rest = covers_at (p.1 + 2) ps n k d c.2 (omega arith) (λ i less. h (suc i) (omega arith)) le in
    let e : (leb p.0 n && leb n p.1) ≡ false = grind (arith, nat_tests) in
    rw e rest

pub covers_past : (ps : List (ℕ × ℕ)) (n : ℕ) (d : ℕ × ℕ) → ((i : ℕ) → i < length ps → (get_or ps i d).1 < n) → covers ps n ≡ false
covers_past [] n d h = refl
covers_past (p ∷ ps) n d h =
    let past : p.1 < n = h 0 (omega arith) in
    let rest = covers_past ps n d (λ i less. h (suc i) (omega arith)) in
    let e : (leb p.0 n && leb n p.1) ≡ false = grind (arith, nat_tests) in
    rw e rest
