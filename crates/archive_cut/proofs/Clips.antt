-- Numbers that are left, counted anew.
use Rattle.std.proofs.Common.{◌≡◌, ◌≢◌, ℕ, ◌+◌, ◌-◌, ◌<◌, ◌≤◌, true, false, cond, List, [], ◌∷◌, map, filter, refl, ap, arith}
use Rattle.std.specs.Ordering.{nat_cmp}
use Rattle.std.proofs.lemmas.Bool.Decides.{nat_tests}
use Rattle.version_set.specs.Pairs.{IsCanonical}
use Rattle.version_set.specs.Members.{members, AscendsFrom}
use Rattle.version_set.proofs.MembersLemmas.{members_ascend, members-intervals, IsFrom-intervals}
use Rattle.keyed_tree.specs.Lists.{Ascends}
use Rattle.archive_tree.specs.PartsTest.{is_none}
use Rattle.archive_tree.proofs.Numbers.{from_ascends, ascends_from}
use Rattle.archive_cut.specs.Sliced.{is_between, clipped, cut_set, is_gone}

-- what the test says
pub between : (i j n : ℕ) → is_between i j n ≡ true → (i ≤ n) × (n ≤ j)
between i j n e = (grind (arith, nat_tests), grind (arith, nat_tests))

pub not_between : (i j n : ℕ) → i ≤ n → is_between i j n ≡ false → j < n
not_between i j n h e = grind (arith, nat_tests)

pub is_in : (i j n : ℕ) → i ≤ n → n ≤ j → is_between i j n ≡ true
is_in i j n h g = grind (arith, nat_tests)

pub is_below : (i j n : ℕ) → n < i → is_between i j n ≡ false
is_below i j n h = grind (arith, nat_tests)

pub is_above : (i j n : ℕ) → j < n → is_between i j n ≡ false
is_above i j n h = grind (arith, nat_tests)

module _ (i j : ℕ) where
  clipped_from : (low low' : ℕ) (ns : List ℕ) → ((n : ℕ) → low ≤ n → i ≤ n → low' ≤ n + 1 - i) → AscendsFrom low ns → AscendsFrom low' (clipped i j ns)
  clipped_from low low' [] le a = tt
  clipped_from low low' (n ∷ ns) le a =
      elim (is_between i j n) as (λ b. is_between i j n ≡ b → AscendsFrom low' (map (λ m. m + 1 - i) (cond b (n ∷ filter (is_between i j) ns) (filter (is_between i j) ns)))) [
        | true ↦ λ e. (let two = between i j n e in let from : i ≤ n = two.0 in
            (le n a.0 from, clipped_from (n + 1) (n + 1 - i + 1) ns (λ m g h. omega arith) a.1))
        | false ↦ λ e. clipped_from (n + 1) low' ns (λ m g h. le m (let first = a.0 in omega arith) h) a.1
      ] refl

  -- what is left ascends from 1
  pub clipped_ascends : (low : ℕ) (ns : List ℕ) → AscendsFrom low ns → AscendsFrom 1 (clipped i j ns)
  clipped_ascends low ns a = clipped_from low 1 ns (λ n g h. omega arith) a

  pub clipped_rise : (ns : List ℕ) → Ascends nat_cmp ns → Ascends nat_cmp (clipped i j ns)
  clipped_rise ns a = from_ascends 1 (clipped i j ns) (clipped_ascends 0 ns (ascends_from ns a))

  -- the members of what is left of a set
  pub members-cut : (q : List (ℕ × ℕ)) → IsCanonical q → members (cut_set i j q) ≡ clipped i j (members q)
  members-cut q c = members-intervals 1 (clipped i j (members q)) (clipped_ascends 1 (members q) (members_ascend 1 q c))

  pub IsCanonical-cut : (q : List (ℕ × ℕ)) → IsCanonical q → IsCanonical (cut_set i j q)
  IsCanonical-cut q c = IsFrom-intervals 1 (clipped i j (members q)) (clipped_ascends 1 (members q) (members_ascend 1 q c))

-- a list that is empty, or not
pub is_none-exact : (ns : List ℕ) → is_none ns ≡ true → ns ≡ []
is_none-exact [] e = refl
is_none-exact (n ∷ ns) e = cc

pub not_none : (ns : List ℕ) → is_none ns ≡ false → ns ≢ []
not_none [] e d = cc
not_none (n ∷ ns) e d = cc

pub some_not_none : (ns : List ℕ) → ns ≢ [] → is_none ns ≡ false
some_not_none [] h = absurd (h refl)
some_not_none (n ∷ ns) h = refl

-- no number of a set is left
pub gone-clipped : (i j : ℕ) (s : List (ℕ × ℕ)) → IsCanonical s → is_gone i j s ≡ is_none (clipped i j (members s))
gone-clipped i j s c = ap is_none (members-cut i j s c)
