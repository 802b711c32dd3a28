-- The last interval of a list.
use Rattle.std.proofs.Common.{◌≡◌, ◌↔◌, ℕ, ◌+◌, ◌-◌, ◌<◌, ◌≤◌, ◌&&◌, ◌||◌, Bool, true, false, List, [], ◌∷◌, ◌++◌, length, max, min, get_or, take, take_all, refl, sym, ap, subst, ◌∙◌, arith, leb}
use Rattle.std.proofs.lemmas.List.{take_more}
use Rattle.std.proofs.lemmas.Bool.Decides.{nat_tests}
use Rattle.version_set.specs.Pairs.{IsFrom, IsCanonical, last_of}
use Rattle.version_set.specs.Members.{members, has}
use Rattle.version_set.specs.Walk.{start_of, end_of, Joins, Shares}
use Rattle.version_set.proofs.MembersLemmas.{covers, has-members, has-numbers}

pub last_of-append : (front : List (ℕ × ℕ)) (p : ℕ × ℕ) → last_of (front ++ p ∷ []) ≡ p.1
last_of-append [] p = refl
last_of-append (q ∷ []) p = refl
last_of-append (q ∷ r ∷ front) p = last_of-append (r ∷ front) p

-- the last interval
pub last_of-get : (ps : List (ℕ × ℕ)) (d : ℕ × ℕ) → 1 ≤ length ps → (get_or ps (length ps - 1) d).1 ≡ last_of ps
last_of-get ps d some =
    let n = length ps - 1 in
    let whole : ps ≡ take n ps ++ get_or ps n d ∷ [] = sym (take_all (n + 1) ps (omega arith)) ∙ take_more ps n d (omega arith) in
    sym (ap last_of whole ∙ last_of-append (take n ps) (get_or ps n d))

pub start_of-append : (front : List (ℕ × ℕ)) (p : ℕ × ℕ) → start_of (front ++ p ∷ []) ≡ p.0
start_of-append [] p = refl
start_of-append (q ∷ []) p = refl
start_of-append (q ∷ r ∷ front) p = start_of-append (r ∷ front) p

-- no interval begins behind the greatest number
pub start_within : (low : ℕ) (ps : List (ℕ × ℕ)) → IsFrom low ps → start_of ps ≤ max 1 (last_of ps)
start_within low [] c = omega arith
start_within low (p ∷ []) c = omega (arith, c.1)
start_within low (p ∷ q ∷ ps) c = start_within (p.1 + 2) (q ∷ ps) c.2

pub start_positive : (low : ℕ) (ps : List (ℕ × ℕ)) → 1 ≤ low → IsFrom low ps → 1 ≤ start_of ps
start_positive low [] le c = omega arith
start_positive low (p ∷ []) le c = omega (arith, c.0)
start_positive low (p ∷ q ∷ ps) le c = start_positive (p.1 + 2) (q ∷ ps) (omega arith) c.2

-- a longer last interval
IsFrom-longer : (low : ℕ) (front : List (ℕ × ℕ)) (p : ℕ × ℕ) (to : ℕ) → p.1 ≤ to → IsFrom low (front ++ p ∷ []) → IsFrom low (front ++ (p.0, to) ∷ [])
IsFrom-longer low [] p to le c = (c.0, omega (arith, c.1), tt)
IsFrom-longer low (q ∷ front) p to le c = (c.0, c.1, IsFrom-longer (q.1 + 2) front p to le c.2)

-- one more interval
pub IsFrom-push : (low : ℕ) (front : List (ℕ × ℕ)) (p q : ℕ × ℕ) → p.1 + 2 ≤ q.0 → q.0 ≤ q.1 → IsFrom low (front ++ p ∷ []) → IsFrom low ((front ++ p ∷ []) ++ q ∷ [])
IsFrom-push low [] p q le order c = (c.0, c.1, (le, order, tt))
IsFrom-push low (r ∷ front) p q le order c = (c.0, c.1, IsFrom-push (r.1 + 2) front p q le order c.2)

or_assoc : (a b c : Bool) → ((a || b) || c) ≡ (a || (b || c))
or_assoc true b c = refl
or_assoc false b c = refl

or_false : (a : Bool) → (a || false) ≡ a
or_false true = refl
or_false false = refl

pub covers-append : (ps qs : List (ℕ × ℕ)) (n : ℕ) → covers (ps ++ qs) n ≡ (covers ps n || covers qs n)
covers-append [] qs n = refl
covers-append (p ∷ ps) qs n = ap (λ (x : Bool). (leb p.0 n && leb n p.1) || x) (covers-append ps qs n) ∙ sym (or_assoc (leb p.0 n && leb n p.1) (covers ps n) (covers qs n))

covers_one : (p : ℕ × ℕ) (n : ℕ) → covers (p ∷ []) n ≡ (leb p.0 n && leb n p.1)
covers_one p n = or_false (leb p.0 n && leb n p.1)

longer_covers : (p q : ℕ × ℕ) (n : ℕ) → p.0 ≤ q.0 → q.0 ≤ p.1 + 1 → (leb p.0 n && leb n (max p.1 q.1)) ≡ ((leb p.0 n && leb n p.1) || (leb q.0 n && leb n q.1))
longer_covers p q n behind touch = grind (arith, nat_tests)

-- the old intervals end in p, which touches the new one
pub joins_touching : (old front new : List (ℕ × ℕ)) (p q : ℕ × ℕ) → IsCanonical old → start_of old ≤ q.0 → old ≡ front ++ p ∷ [] → q.0 ≤ p.1 + 1 → new ≡ front ++ (p.0, max p.1 q.1) ∷ [] → Joins old q new
joins_touching old front new p q canonical behind e touch is =
    let starts : p.0 ≤ q.0 = omega (arith, ap start_of e ∙ start_of-append front p) in
    let kept : IsFrom 1 (front ++ p ∷ []) = subst (λ (ps : List (ℕ × ℕ)). IsFrom 1 ps) e canonical in
    rw (is, e) (record {
      canonical = IsFrom-longer 1 front p (max p.1 q.1) (omega arith) kept;
      start = omega (arith, start_of-append front (p.0, max p.1 q.1));
      numbers = λ n.
          has-members (front ++ (p.0, max p.1 q.1) ∷ []) n
          ∙ covers-append front ((p.0, max p.1 q.1) ∷ []) n
          ∙ ap (λ (x : Bool). covers front n || x) (covers_one (p.0, max p.1 q.1) n ∙ longer_covers p q n starts touch)
          ∙ sym (or_assoc (covers front n) (leb p.0 n && leb n p.1) (leb q.0 n && leb n q.1))
          ∙ sym (λ i. (has-members (front ++ p ∷ []) n ∙ covers-append front (p ∷ []) n ∙ ap (λ (x : Bool). covers front n || x) (covers_one p n)) i || has-numbers q n i);
    })

-- the old intervals end in p, and the new one stands apart
pub joins_apart : (old front new : List (ℕ × ℕ)) (p q : ℕ × ℕ) → IsCanonical old → old ≡ front ++ p ∷ [] → p.1 + 2 ≤ q.0 → q.0 ≤ q.1 → new ≡ (front ++ p ∷ []) ++ q ∷ [] → Joins old q new
joins_apart old front new p q canonical e apart order is =
    let kept : IsFrom 1 (front ++ p ∷ []) = subst (λ (ps : List (ℕ × ℕ)). IsFrom 1 ps) e canonical in
    rw (is, e) (record {
      canonical = IsFrom-push 1 front p q apart order kept;
      start = omega (arith, start_of-append (front ++ p ∷ []) q);
      numbers = λ n.
          has-members ((front ++ p ∷ []) ++ q ∷ []) n
          ∙ covers-append (front ++ p ∷ []) (q ∷ []) n
          ∙ (λ i. sym (has-members (front ++ p ∷ []) n) i || (covers_one q n ∙ sym (has-numbers q n)) i);
    })

-- ---- common numbers

end_of-append : (front : List (ℕ × ℕ)) (p : ℕ × ℕ) → end_of (front ++ p ∷ []) ≡ p.1 + 2
end_of-append [] p = refl
end_of-append (q ∷ []) p = refl
end_of-append (q ∷ r ∷ front) p = end_of-append (r ∷ front) p

end_within : (low : ℕ) (p : ℕ × ℕ) (ps : List (ℕ × ℕ)) → IsFrom low (p ∷ ps) → low + 2 ≤ end_of (p ∷ ps)
end_within low p [] c = omega (arith, c.0, c.1)
end_within low p (q ∷ ps) c = omega (arith, c.0, c.1, end_within (p.1 + 2) q ps c.2)

pub end_positive : (ps : List (ℕ × ℕ)) → IsCanonical ps → 1 ≤ end_of ps
end_positive [] c = omega arith
end_positive (p ∷ ps) c = omega (arith, end_within 1 p ps c)

IsFrom-end : (low : ℕ) (ps : List (ℕ × ℕ)) (q : ℕ × ℕ) → IsFrom low ps → low ≤ q.0 → end_of ps ≤ q.0 → q.0 ≤ q.1 → IsFrom low (ps ++ q ∷ [])
IsFrom-end low [] q c le behind order = (le, order, tt)
IsFrom-end low (p ∷ []) q c le behind order = (c.0, c.1, (behind, order, tt))
IsFrom-end low (p ∷ r ∷ ps) q c le behind order = (c.0, c.1, IsFrom-end (p.1 + 2) (r ∷ ps) q c.2 (omega (arith, end_within (p.1 + 2) r ps c.2)) behind order)

-- where the next interval may begin
pub end_of-get : (ps : List (ℕ × ℕ)) (d : ℕ × ℕ) → 1 ≤ length ps → (get_or ps (length ps - 1) d).1 + 2 ≡ end_of ps
end_of-get ps d some =
    let n = length ps - 1 in
    let whole : ps ≡ take n ps ++ get_or ps n d ∷ [] = sym (take_all (n + 1) ps (omega arith)) ∙ take_more ps n d (omega arith) in
    sym (ap end_of whole ∙ end_of-append (take n ps) (get_or ps n d))

ends_before : (low : ℕ) (ps : List (ℕ × ℕ)) (q : ℕ × ℕ) → 1 ≤ low → IsFrom low (ps ++ q ∷ []) → (end_of ps ≤ q.0) × (q.0 ≤ q.1)
ends_before low [] q le c = (omega (arith, c.0), c.1)
ends_before low (p ∷ []) q le c = (c.2.0, c.2.1)
ends_before low (p ∷ r ∷ ps) q le c = ends_before (p.1 + 2) (r ∷ ps) q (omega arith) c.2

-- an interval may stand behind those of a set exactly where it begins behind their end
pub may_stand : (ps : List (ℕ × ℕ)) (q : ℕ × ℕ) → IsCanonical ps → ((end_of ps ≤ q.0) × (q.0 ≤ q.1)) ↔ IsCanonical (ps ++ q ∷ [])
may_stand ps q c = (λ h. IsFrom-end 1 ps q c (omega (arith, end_positive ps c, h.0)) h.0 h.1, ends_before 1 ps q (omega arith))

within_both : (our their : ℕ × ℕ) (n : ℕ) → (leb (max our.0 their.0) n && leb n (min our.1 their.1)) ≡ ((leb our.0 n && leb n our.1) && (leb their.0 n && leb n their.1))
within_both our their n = grind (arith, nat_tests)

pub shares_some : (old new : List (ℕ × ℕ)) (our their q : ℕ × ℕ) → IsCanonical old → end_of old ≤ q.0 → q.0 ≡ max our.0 their.0 → q.1 ≡ min our.1 their.1 → 1 ≤ q.0 → q.0 ≤ q.1 → new ≡ old ++ q ∷ [] → Shares old our their new
shares_some old new our their q canonical behind from to positive order is =
    rw is (record {
      canonical = IsFrom-end 1 old q canonical positive behind order;
      end = omega (arith, end_of-append old q);
      numbers = λ n.
          has-members (old ++ q ∷ []) n
          ∙ covers-append old (q ∷ []) n
          ∙ (λ i. sym (has-members old n) i || (covers_one q n ∙ (λ j. leb (from j) n && leb n (to j)) ∙ within_both our their n ∙ sym (λ j. has-numbers our n j && has-numbers their n j)) i);
    })

apart_both : (our their : ℕ × ℕ) (n : ℕ) → min our.1 their.1 < max our.0 their.0 → ((leb our.0 n && leb n our.1) && (leb their.0 n && leb n their.1)) ≡ false
apart_both our their n apart = grind (arith, nat_tests)

pub shares_none : (old new : List (ℕ × ℕ)) (our their : ℕ × ℕ) → IsCanonical old → min our.1 their.1 < max our.0 their.0 → new ≡ old → Shares old our their new
shares_none old new our their canonical apart is =
    rw is (record {
      canonical = canonical;
      end = omega arith;
      numbers = λ n. sym (or_false (has (members old) n)) ∙ ap (λ (x : Bool). has (members old) n || x) (sym (apart_both our their n apart) ∙ sym (λ j. has-numbers our n j && has-numbers their n j));
    })

-- ---- how many intervals

-- each interval ends behind the one before it
length_before : (low : ℕ) (p : ℕ × ℕ) (ps : List (ℕ × ℕ)) → IsFrom low (p ∷ ps) → low + length ps ≤ last_of (p ∷ ps)
length_before low p [] c = omega (arith, c.0, c.1)
length_before low p (q ∷ ps) c = omega (arith, c.0, c.1, length_before (p.1 + 2) q ps c.2)

pub length_within : (ps : List (ℕ × ℕ)) → IsCanonical ps → length ps ≤ last_of ps
length_within [] c = omega arith
length_within (p ∷ ps) c = omega (arith, length_before 1 p ps c)
