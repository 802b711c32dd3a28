-- Stamps as a version is added.
use Rattle.std.proofs.Common.{◌≡◌, ◌≢◌, ℕ, zero, suc, ◌+◌, ◌-◌, ◌==◌, ◌<◌, ◌≤◌, List, [], ◌∷◌, ◌++◌, Some, None, refl, ap, sym, subst, ◌∙◌, arith}
use Rattle.std.proofs.lemmas.List.{append_cancel_right}
use Rattle.std.specs.List.{AllByRecursion, range_with_len}
use Rattle.std.specs.Option.{unwrap_or}
use Rattle.version_set.specs.Pairs.{IsCanonical, last_of}
use Rattle.version_set.specs.Members.{members, greatest}
use Rattle.version_set.proofs.MembersLemmas.{members-with_last, IsCanonical-with_last}
use Rattle.version_set.proofs.SetLemmas.{greatest-members}
use Rattle.archive_tree.specs.Data.{Stamp, eff}
use Rattle.archive_tree.specs.Stands.{Stamped}
use Rattle.nested_merge.specs.Merged.{grown, kept, started}

abbrev pub Below : ℕ → List ℕ → Type 0
Below n ms = AllByRecursion (λ m. m < n) ms

pub below_right : (n : ℕ) (xs ys : List ℕ) → Below n (xs ++ ys) → Below n ys
below_right n [] ys h = h
below_right n (x ∷ xs) ys h = below_right n xs ys h.1

greatest_below : (n : ℕ) (ns : List ℕ) → 1 ≤ n → Below n ns → greatest ns < n
greatest_below n [] from h = from
greatest_below n (m ∷ ms) from h = (let rest = greatest_below n ms from h.1 in let first = h.0 in omega arith)

-- the last number of a set whose numbers are below n
pub last_below : (n : ℕ) (s : List (ℕ × ℕ)) → 1 ≤ n → IsCanonical s → Below n (members s) → last_of s < n
last_below n s from c h = omega (arith, greatest-members 1 s c, greatest_below n (members s) from h)

pub one : (n : ℕ) → members ((n, n) ∷ []) ≡ n ∷ []
one n = (let e : n + 1 - n ≡ 1 = omega arith in rw e)

no_empty : (p : ℕ × ℕ) (ps : List (ℕ × ℕ)) → p.0 ≤ p.1 → members (p ∷ ps) ≢ []
no_empty p ps h = (let e : p.1 + 1 - p.0 ≡ suc (p.1 - p.0) = omega arith in rw e (λ d. cc))

-- ---- stamps

two_ends : (ns ps : List ℕ) (n : ℕ) → ns ++ n ∷ [] ≡ ps ++ n ∷ [] → ns ≡ ps
two_ends ns ps n e = append_cancel_right ns ps (n ∷ []) e

no_end : (n : ℕ) (ns ps : List ℕ) → Below n ns → ¬ (ns ≡ ps ++ n ∷ [])
no_end n ns ps h e =
    let low = (below_right n ps (n ∷ []) (subst (λ z. Below n z) e h)).0 in
    absurd (omega arith)

some_is : (s t : List (ℕ × ℕ)) → ◌≡◌ {A = Stamp} (Some s) (Some t) → s ≡ t
some_is s t e = cc

module _ (n : ℕ) (ns ps : List ℕ) (from : 1 ≤ n) (h : Below n ns) where
  -- both the node and its parent have n
  pub grown_stamped : (s : Stamp) → Stamped s ns ps → Stamped (grown n s) (ns ++ n ∷ []) (ps ++ n ∷ [])
  grown_stamped None g = record {
    effective = ap (λ z. z ++ n ∷ []) g.effective;
    stored = (λ e. cc, λ e. absurd (e (ap (λ z. z ++ n ∷ []) (sym g.effective))));
    canonical = λ t e. cc;
  }
  grown_stamped (Some s) g =
      let canonical = g.canonical s refl in
      let low : last_of s < n = last_below n s from canonical (subst (λ z. Below n z) (sym g.effective) h) in
      record {
        effective = members-with_last s n canonical low ∙ ap (λ z. z ++ n ∷ []) g.effective;
        stored = (λ e d. g.stored.0 refl (two_ends ns ps n d), λ e. refl);
        canonical = λ t e. subst (λ z. IsCanonical z) (some_is _ _ e) (IsCanonical-with_last s n canonical low);
      }

  -- the parent alone has n
  pub kept_stamped : (q : List (ℕ × ℕ)) (s : Stamp) → members q ≡ ps → IsCanonical q → Stamped s ns ps → Stamped (kept q s) ns (ps ++ n ∷ [])
  kept_stamped q None m c g = record {
    effective = m ∙ g.effective;
    stored = (λ e. no_end n ns ps h, λ e. refl);
    canonical = λ t e. subst (λ z. IsCanonical z) (some_is _ _ e) c;
  }
  kept_stamped q (Some s) m c g = record {
    effective = g.effective;
    stored = (λ e. no_end n ns ps h, λ e. refl);
    canonical = λ t e. g.canonical t e;
  }

not_alone : (n : ℕ) (ps : List ℕ) → ps ≢ [] → ¬ (n ∷ [] ≡ ps ++ n ∷ [])
not_alone n [] h e = h refl
not_alone n (p ∷ []) h e = cc
not_alone n (p ∷ r ∷ ps) h e = cc

-- a set of n alone, under a parent that had some numbers
pub alone : (n : ℕ) (ps : List ℕ) → 1 ≤ n → ps ≢ [] → Stamped (Some ((n, n) ∷ [])) (n ∷ []) (ps ++ n ∷ [])
alone n ps from some = record {
  effective = one n;
  stored = (λ e. not_alone n ps some, λ e. refl);
  canonical = λ t e. subst (λ z. IsCanonical z) (some_is _ _ e) (let here : IsCanonical ((n, n) ∷ []) = (from, omega arith, tt) in here);
}

-- the node begins with n
pub started_stamped : (n : ℕ) (q : List (ℕ × ℕ)) → 1 ≤ n → IsCanonical q → Stamped (started n q) (n ∷ []) (members q ++ n ∷ [])
started_stamped n [] from c = record {
  effective = refl;
  stored = (λ e. cc, λ e. absurd (e refl));
  canonical = λ t e. cc;
}
started_stamped n (p ∷ q) from c = alone n (members (p ∷ q)) from (no_empty p q c.1)

pub inherits : (ns : List ℕ) → Stamped None ns ns
inherits ns = record { effective = refl; stored = (λ e. cc, λ e. absurd (e refl)); canonical = λ t e. cc }

-- the set under which a node's parts stand
pub eff-members : (s : Stamp) (q : List (ℕ × ℕ)) → members (unwrap_or s q) ≡ eff s (members q)
eff-members None q = refl
eff-members (Some t) q = refl

pub eff_canonical : (s : Stamp) (q : List (ℕ × ℕ)) (ns ps : List ℕ) → Stamped s ns ps → IsCanonical q → IsCanonical (unwrap_or s q)
eff_canonical None q ns ps h c = c
eff_canonical (Some t) q ns ps h c = h.canonical t refl

-- ---- the numbers from 1 to n

pub range_below : (n a m : ℕ) → a + m ≤ n → Below n (range_with_len a m)
range_below n a zero h = tt
range_below n a (suc m) h = (omega arith, range_below n (a + 1) m (omega arith))
