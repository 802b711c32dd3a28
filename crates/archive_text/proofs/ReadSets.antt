-- How the text of a set is read interval by interval.
use Rattle.std.proofs.Common.{◌≡◌, ℕ, suc, ◌+◌, ◌<◌, ◌≤◌, ◌^◌, ◌==◌, not, cond, true, List, [], ◌∷◌, ◌++◌, decimal, inl, inr, refl, sym, ap, ◌∙◌, subst, arith, append_assoc, append-nil}
use Rattle.std.specs.List.{AllByRecursion, list_all}
use Rattle.std.proofs.lemmas.Bool.{and_from}
use Rattle.std.proofs.lemmas.Bool.Decides.{eqb_tells}
use Rattle.version_set.specs.Pairs.{IsFrom, IsCanonical}
use Rattle.version_set.specs.Text.{pair_text, set_text}
use Rattle.record_parts.specs.Bounds.{most, IsSet}
use Rattle.archive_text.proofs.Cuts.{Free, cut, not_cut, IsSmall, behind, pair_free, span, span_is, decimal_free}
use Rattle.archive_text.proofs.LineLaws.{Without}

pub free : (d : ℕ) (xs : List ℕ) → Without d xs → Free d xs
free d [] h = record { is = refl }
free d (x ∷ xs) h =
    let own : not (x == d) ≡ true = elim (eqb_tells x d) [ inl p ↦ absurd (h 0 (omega arith) p.1) | inr p ↦ ap not p.0 ] in
    record { is = and_from (not (x == d)) (list_all (λ b. not (b == d)) xs) own (free d xs (λ i l. h (suc i) (omega arith))).is }

front_from : (low : ℕ) (xs ys : List (ℕ × ℕ)) → IsFrom low (xs ++ ys) → IsFrom low xs
front_from low [] ys h = tt
front_from low (x ∷ xs) ys h = (h.0, h.1, front_from (x.1 + 2) xs ys h.2)

-- ---- intervals

pub record IsPair (p : ℕ × ℕ) : Type 0 where
  pub from : p.0 < 2 ^ 32
  pub to : p.1 < 2 ^ 32

small : (p : ℕ × ℕ) → IsPair p → IsSmall p
small p h = record { from = omega (arith, h.from); to = omega (arith, h.to) }

-- where a dash stands, it parts the numbers
pub pair_cut : (p : ℕ × ℕ) (text from to : List ℕ) → IsPair p → text ≡ pair_text p → text ≡ from ++ 45 ∷ to → Without 45 from → (from ≡ decimal p.0) × (to ≡ decimal p.1)
pair_cut p text from to h e is without =
    elim (eqb_tells p.0 p.1) [
      | inl a ↦ absurd (not_cut 45 (decimal p.0) from to (decimal_free 45 p.0 (omega arith) (small p h).from) (sym (ap (λ c. cond c (decimal p.0) (span p)) a.0) ∙ sym e ∙ is))
      | inr a ↦ cut 45 from (decimal p.0) to (decimal p.1) (free 45 from without) (decimal_free 45 p.0 (omega arith) (small p h).from) (sym is ∙ e ∙ ap (λ c. cond c (decimal p.0) (span p)) a.0 ∙ span_is p)
    ]

-- and where none stands, there is but one
pub pair_whole : (p : ℕ × ℕ) (text : List ℕ) → IsPair p → text ≡ pair_text p → Without 45 text → (text ≡ decimal p.0) × (p.0 ≡ p.1)
pair_whole p text h e without =
    elim (eqb_tells p.0 p.1) [
      | inl a ↦ (e ∙ ap (λ c. cond c (decimal p.0) (span p)) a.0, a.1)
      | inr a ↦ absurd (not_cut 45 text (decimal p.0) (decimal p.1) (free 45 text without) (e ∙ ap (λ c. cond c (decimal p.0) (span p)) a.0 ∙ span_is p))
    ]

-- ---- sets

-- what is left of the intervals
pub record SetLeft (all done : List (ℕ × ℕ)) (text : List ℕ) : Type 0 where
  pub next : ℕ × ℕ
  pub left : List (ℕ × ℕ)
  pub split : all ≡ done ++ next ∷ left
  pub spelled : text ≡ pair_text next ++ behind left

pub set_start : (p : ℕ × ℕ) (ps : List (ℕ × ℕ)) (text : List ℕ) → text ≡ set_text (p ∷ ps) → SetLeft (p ∷ ps) [] text
set_start p ps text e = record { next = p; left = ps; split = refl; spelled = e }

small_at : (low : ℕ) (done : List (ℕ × ℕ)) (next : ℕ × ℕ) (left : List (ℕ × ℕ)) → IsFrom low (done ++ next ∷ left) → AllByRecursion (λ (p : ℕ × ℕ). p.1 ≤ most) (done ++ next ∷ left) → IsPair next
small_at low [] next left f w = record { from = omega (arith, f.1, w.0); to = omega (arith, w.0) }
small_at low (x ∷ xs) next left f w = small_at (x.1 + 2) xs next left f.2 w.1

-- the next of them is one, and may stand behind the others
pub record NextFits (all done : List (ℕ × ℕ)) (next : ℕ × ℕ) : Type 0 where
  pub pair : IsPair next
  pub may : IsCanonical (done ++ next ∷ [])

pub next_fits : (all done : List (ℕ × ℕ)) (text : List ℕ) → IsSet all → (h : SetLeft all done text) → NextFits all done h.next
next_fits all done text s h =
    record {
      pair = small_at 1 done h.next h.left (subst IsCanonical h.split s.canonical) (subst (AllByRecursion (λ (p : ℕ × ℕ). p.1 ≤ most)) h.split s.within);
      may = front_from 1 (done ++ h.next ∷ []) h.left (subst IsCanonical (h.split ∙ sym (append_assoc done (h.next ∷ []) h.left)) s.canonical);
    }

-- no comma stands in the text: it is the last
whole_at : (next : ℕ × ℕ) (left : List (ℕ × ℕ)) (text : List ℕ) → IsPair next → text ≡ pair_text next ++ behind left → Without 44 text → (text ≡ pair_text next) × (left ≡ [])
whole_at next [] text h e without = (e ∙ append-nil (pair_text next), refl)
whole_at next (y ∷ ys) text h e without = absurd (not_cut 44 text (pair_text next) (pair_text y ++ behind ys) (free 44 text without) e)

pub set_last : (all done : List (ℕ × ℕ)) (text : List ℕ) → IsSet all → (h : SetLeft all done text) → Without 44 text → (text ≡ pair_text h.next) × (done ++ h.next ∷ [] ≡ all)
set_last all done text s h without =
    let last = whole_at h.next h.left text (next_fits all done text s h).pair h.spelled without in
    (last.0, sym (h.split ∙ ap (λ l. done ++ h.next ∷ l) last.1))

-- a comma stands behind it
pub record SetNext (all done : List (ℕ × ℕ)) (text first rest : List ℕ) (h : SetLeft all done text) : Type 0 where
  pub first_is : first ≡ pair_text h.next
  pub on : SetLeft all (done ++ h.next ∷ []) rest

cut_at : (all done : List (ℕ × ℕ)) (text : List ℕ) (next : ℕ × ℕ) (left : List (ℕ × ℕ)) (first rest : List ℕ) → IsPair next → all ≡ done ++ next ∷ left → text ≡ pair_text next ++ behind left → text ≡ first ++ 44 ∷ rest → Without 44 first
    → (first ≡ pair_text next) × SetLeft all (done ++ next ∷ []) rest
cut_at all done text next [] first rest h split e is without =
    absurd (not_cut 44 (pair_text next) first rest (pair_free next (small next h)) (sym (append-nil (pair_text next)) ∙ sym e ∙ is))
cut_at all done text next (y ∷ ys) first rest h split e is without =
    let parts = cut 44 first (pair_text next) rest (pair_text y ++ behind ys) (free 44 first without) (pair_free next (small next h)) (sym is ∙ e) in
    (parts.0, record { next = y; left = ys; split = split ∙ sym (append_assoc done (next ∷ []) (y ∷ ys)); spelled = parts.1 })

pub set_next : (all done : List (ℕ × ℕ)) (text first rest : List ℕ) → IsSet all → (h : SetLeft all done text) → text ≡ first ++ 44 ∷ rest → Without 44 first → SetNext all done text first rest h
set_next all done text first rest s h is without =
    let parts = cut_at all done text h.next h.left first rest (next_fits all done text s h).pair h.split h.spelled is without in record { first_is = parts.0; on = parts.1 }

pub set_on : (all done : List (ℕ × ℕ)) (text first rest : List ℕ) (h : SetLeft all done text) → SetNext all done text first rest h → (now : List (ℕ × ℕ)) → now ≡ done ++ h.next ∷ [] → SetLeft all now rest
set_on all done text first rest h n now e = subst (λ (d : List (ℕ × ℕ)). SetLeft all d rest) (sym e) n.on
