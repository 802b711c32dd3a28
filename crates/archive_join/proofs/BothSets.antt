-- Sets and stamps as two archives are joined: the numbers of the first are below m, those of the second from m on.
use Rattle.std.proofs.Common.{◌≡◌, ◌≢◌, ℕ, zero, suc, ◌+◌, ◌-◌, ◌<◌, ◌≤◌, List, [], ◌∷◌, ◌++◌, map, Some, None, refl, ap, sym, subst, ◌∙◌, arith}
use Rattle.std.proofs.lemmas.List.{append-nil, map-append}
use Rattle.std.proofs.lemmas.Bool.Decides.{nat_tests}
use Rattle.std.specs.List.{AllByRecursion, range_with_len}
use Rattle.std.specs.Ordering.{nat_cmp}
use Rattle.std.specs.declared.cmp.Ordering.TheVariants.{Less}
use Rattle.std.specs.Option.{unwrap_or}
use Rattle.version_set.specs.Pairs.{IsCanonical, IsFrom}
use Rattle.version_set.specs.Members.{members, numbers, either, united, AscendsFrom}
use Rattle.version_set.proofs.MembersLemmas.{members_ascend, same_numbers, has-append, IsFrom-weaker}
use Rattle.version_set.proofs.SetLemmas.{has-either, either_ascends, members-united, IsCanonical-united}
use Rattle.archive_tree.specs.Data.{Stamp}
use Rattle.archive_tree.specs.Stands.{Stamped}
use Rattle.archive_tree.proofs.Tells.{first_member}
use Rattle.nested_merge.proofs.Stamps.{Below, eff-members, eff_canonical}
use Rattle.archive_join.specs.Joined.{paired, alone}
use Rattle.record_copy.specs.Raised.{raised, raised_stamp}

-- each number is at least m
abbrev pub Above : ℕ → List ℕ → Type 0
Above m ns = AllByRecursion (λ n. m ≤ n) ns

-- ---- numbers

pub nat_less : (x y : ℕ) → x < y → nat_cmp x y ≡ Less
nat_less x y h = grind (arith, nat_tests)

pub less_nat : (x y : ℕ) → nat_cmp x y ≡ Less → x < y
less_nat x y h = grind (arith, nat_tests)

-- ---- lists that are apart

ascends_append : (low m : ℕ) (xs ys : List ℕ) → low ≤ m → AscendsFrom low xs → Below m xs → AscendsFrom m ys → AscendsFrom low (xs ++ ys)
ascends_append low m [] ys l a b c = weaker ys c
  where
    weaker : (ys : List ℕ) → AscendsFrom m ys → AscendsFrom low ys
    weaker [] c = tt
    weaker (y ∷ ys) c = (let first = c.0 in omega arith, c.1)
ascends_append low m (x ∷ xs) ys l a b c = (a.0, ascends_append (x + 1) m xs ys (let first = b.0 in omega arith) a.1 b.1 c)

ascends_above : (low m : ℕ) (ys : List ℕ) → AscendsFrom low ys → Above m ys → AscendsFrom m ys
ascends_above low m [] h g = tt
ascends_above low m (y ∷ ys) h g = (g.0, h.1)

ascends_weaker : (low m : ℕ) (ys : List ℕ) → low ≤ m → AscendsFrom m ys → AscendsFrom low ys
ascends_weaker low m [] l c = tt
ascends_weaker low m (y ∷ ys) l c = (let first = c.0 in omega arith, c.1)

pub united_apart : (m : ℕ) (p q : List (ℕ × ℕ)) → 1 ≤ m → IsCanonical p → IsCanonical q → Below m (members p) → Above m (members q) → members (united p q) ≡ members p ++ members q
united_apart m p q from c d low high =
    let first = members_ascend 1 p c in
    let second = members_ascend 1 q d in
    members-united p q c d ∙ same_numbers 1 1 (either (members p) (members q)) (members p ++ members q) (either_ascends 1 (members p) (members q) first second)
    (ascends_append 1 m (members p) (members q) from first low (ascends_above 1 m (members q) second high))
    (λ n. has-either (members p) (members q) n ∙ sym (has-append (members p) (members q) n))

-- what stands before the number m, and what stands from it on
pub parted : (m : ℕ) (xs ys zs ws : List ℕ) → Below m xs → Above m ys → Below m zs → Above m ws → xs ++ ys ≡ zs ++ ws → (xs ≡ zs) × (ys ≡ ws)
parted m [] ys [] ws a b c d e = (refl, e)
parted m [] ys (z ∷ zs) ws a b c d e = (let g = subst (Above m) e b in let h : m ≤ z = g.0 in let k : z < m = c.0 in absurd (omega arith))
parted m (x ∷ xs) ys [] ws a b c d e = (let g = subst (Above m) (sym e) d in let h : m ≤ x = g.0 in let k : x < m = a.0 in absurd (omega arith))
parted m (x ∷ xs) ys (z ∷ zs) ws a b c d e =
    let head : x ≡ z = cc in
    let tail : xs ++ ys ≡ zs ++ ws = cc in
    let rest = parted m xs ys zs ws a.1 b c.1 d tail in
    (let same = rest.0 in cc, rest.1)

some_members : (p : ℕ × ℕ) (ps : List (ℕ × ℕ)) → IsCanonical (p ∷ ps) → members (p ∷ ps) ≢ []
some_members p ps c e = (let first = first_member p ps c.1 in cc)

some_is : (s t : List (ℕ × ℕ)) → ◌≡◌ {A = Stamp} (Some s) (Some t) → s ≡ t
some_is s t e = cc

-- ---- stamps

module _ (m : ℕ) (from : 1 ≤ m) (p q : List (ℕ × ℕ)) (c : IsCanonical p) (d : IsCanonical q) (low : Below m (members p)) (high : Above m (members q)) where
  -- of what both have
  pub paired_stamped : (s t : Stamp) (ns ks : List ℕ) → Below m ns → Above m ks → Stamped s ns (members p) → Stamped t ks (members q) → Stamped (paired p q s t) (ns ++ ks) (members p ++ members q)
  paired_stamped None None ns ks a b h g = record {
    effective = λ i. h.effective i ++ g.effective i;
    stored = (λ e. cc, λ e. absurd (e (λ i. sym h.effective i ++ sym g.effective i)));
    canonical = λ t e. cc;
  }
  paired_stamped None (Some t) ns ks a b h g =
      let right = g.canonical t refl in
      let same : members (united p t) ≡ ns ++ ks = united_apart m p t from c right low (subst (Above m) (sym g.effective) b) ∙ (λ i. h.effective i ++ g.effective i) in
      record {
        effective = same;
        stored = (λ e f. g.stored.0 refl (parted m ns ks (members p) (members q) a b low high f).1, λ e. refl);
        canonical = λ u e. subst IsCanonical (some_is _ _ e) (IsCanonical-united p t c right);
      }
  paired_stamped (Some s) t ns ks a b h g =
      let left = h.canonical s refl in
      let right = eff_canonical t q ks (members q) g d in
      let set : members (unwrap_or t q) ≡ ks = eff-members t q ∙ g.effective in
      let same : members (united s (unwrap_or t q)) ≡ ns ++ ks = united_apart m s (unwrap_or t q) from left right (subst (Below m) (sym h.effective) a) (subst (Above m) (sym set) b) ∙ (λ i. h.effective i ++ set i) in
      record {
        effective = same;
        stored = (λ e f. h.stored.0 refl (parted m ns ks (members p) (members q) a b low high f).0, λ e. refl);
        canonical = λ u e. subst IsCanonical (some_is _ _ e) (IsCanonical-united s (unwrap_or t q) left right);
      }

-- of what the first alone has
pub left_stamped : (m : ℕ) (p q : List (ℕ × ℕ)) → IsCanonical p → IsCanonical q → Below m (members p) → Above m (members q) → (s : Stamp) (ns : List ℕ) → Below m ns → Stamped s ns (members p) → Stamped (alone p q s) ns (members p ++ members q)
left_stamped m p [] c d low high s ns a h = subst (λ z. Stamped s ns z) (sym (append-nil (members p))) h
left_stamped m p (r ∷ rs) c d low high s ns a h = record {
  effective = eff-members s p ∙ h.effective;
  stored = (λ e f. some_members r rs d (sym (parted m ns [] (members p) (members (r ∷ rs)) a tt low high (append-nil ns ∙ f)).1), λ e. refl);
  canonical = λ u e. subst IsCanonical (some_is _ _ e) (eff_canonical s p ns (members p) h c);
}

-- of what the second alone has
pub right_stamped : (m : ℕ) (p q : List (ℕ × ℕ)) → IsCanonical p → IsCanonical q → Below m (members p) → Above m (members q) → (t : Stamp) (ks : List ℕ) → Above m ks → Stamped t ks (members q) → Stamped (alone q p t) ks (members p ++ members q)
right_stamped m [] q c d low high t ks b h = h
right_stamped m (r ∷ rs) q c d low high t ks b h = record {
  effective = eff-members t q ∙ h.effective;
  stored = (λ e f. some_members r rs c (sym (parted m [] ks (members (r ∷ rs)) (members q) tt b low high f).0), λ e. refl);
  canonical = λ u e. subst IsCanonical (some_is _ _ e) (eff_canonical t q ks (members q) h d);
}

-- ---- later numbers

abbrev pub later : ℕ → List ℕ → List ℕ
later n ns = map (λ k. k + n) ns

range_later : (n a k : ℕ) → range_with_len (a + n) k ≡ later n (range_with_len a k)
range_later n a zero = refl
range_later n a (suc k) = (let e : a + n + 1 ≡ a + 1 + n = omega arith in rw e (ap (λ z. (a + n) ∷ z) (range_later n (a + 1) k)))

numbers_later : (n : ℕ) (p : ℕ × ℕ) → numbers (p.0 + n, p.1 + n) ≡ later n (numbers p)
numbers_later n p = (let e : p.1 + n + 1 - (p.0 + n) ≡ p.1 + 1 - p.0 = omega arith in rw e (range_later n p.0 (p.1 + 1 - p.0)))

pub members-raised : (n : ℕ) (ps : List (ℕ × ℕ)) → members (raised n ps) ≡ later n (members ps)
members-raised n [] = refl
members-raised n (p ∷ ps) = (λ i. numbers_later n p i ++ members-raised n ps i) ∙ sym (map-append (λ k. k + n) (numbers p) (members ps))

raised_from : (n low : ℕ) (ps : List (ℕ × ℕ)) → IsFrom low ps → IsFrom (low + n) (raised n ps)
raised_from n low [] h = tt
raised_from n low (p ∷ ps) h =
    let rest = raised_from n (p.1 + 2) ps h.2 in
    let e : p.1 + 2 + n ≡ p.1 + n + 2 = omega arith in
    let first = h.0 in
    let second = h.1 in
    (omega arith, omega arith, subst (λ z. IsFrom z (raised n ps)) e rest)

pub IsCanonical-raised : (n : ℕ) (ps : List (ℕ × ℕ)) → IsCanonical ps → IsCanonical (raised n ps)
IsCanonical-raised n ps h = IsFrom-weaker 1 (1 + n) (raised n ps) (omega arith) (raised_from n 1 ps h)

pub later_above : (n low : ℕ) (ns : List ℕ) → Above low ns → Above (low + n) (later n ns)
later_above n low [] h = tt
later_above n low (k ∷ ns) h = (let first = h.0 in omega arith, later_above n low ns h.1)

later_same : (n : ℕ) (xs ys : List ℕ) → later n xs ≡ later n ys → xs ≡ ys
later_same n [] [] e = refl
later_same n [] (y ∷ ys) e = cc
later_same n (x ∷ xs) [] e = cc
later_same n (x ∷ xs) (y ∷ ys) e =
    let head : x + n ≡ y + n = cc in
    let tail : later n xs ≡ later n ys = cc in
    let one : x ≡ y = omega arith in
    let rest = later_same n xs ys tail in
    cc

pub raised_stamped : (n : ℕ) (s : Stamp) (ns ps : List ℕ) → Stamped s ns ps → Stamped (raised_stamp n s) (later n ns) (later n ps)
raised_stamped n None ns ps h = record {
  effective = ap (later n) h.effective;
  stored = (λ e. cc, λ e. absurd (e (ap (later n) (sym h.effective))));
  canonical = λ t e. cc;
}
raised_stamped n (Some s) ns ps h = record {
  effective = members-raised n s ∙ ap (later n) h.effective;
  stored = (λ e f. h.stored.0 refl (later_same n ns ps f), λ e. refl);
  canonical = λ t e. subst IsCanonical (some_is _ _ e) (IsCanonical-raised n s (h.canonical s refl));
}
