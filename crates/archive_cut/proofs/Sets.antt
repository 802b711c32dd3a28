-- What is left of sets and stamps, as the code takes it.
use Rattle.std.proofs.Common.{◌≡◌, ◌≢◌, ℕ, ◌==◌, true, false, cond, List, length, Option, Some, None, refl, ap, sym, subst, ◌∙◌, arith}
use Rattle.std.proofs.lemmas.Bool.Decides.{nat_tests}
use Rattle.version_set.specs.Pairs.{IsCanonical}
use Rattle.version_set.specs.Members.{members}
use Rattle.version_set.proofs.MembersLemmas.{members-injective}
use Rattle.archive_tree.specs.Data.{Stamp}
use Rattle.archive_tree.specs.PartsTest.{is_none, is_same}
use Rattle.archive_tree.proofs.Tells.{is_none-members, is_same-exact}
use Rattle.archive_cut.specs.Sliced.{stamp_under}
use Rattle.archive_cut.specs.Windows.{set_left, stamp_left}

empty_none : (s : List (ℕ × ℕ)) → IsCanonical s → length s ≡ 0 → is_none (members s) ≡ true
empty_none s c e = is_none-members s c ∙ ap (λ (n : ℕ). n == 0) e

some_none : (s : List (ℕ × ℕ)) → IsCanonical s → length s ≢ 0 → is_none (members s) ≡ false
some_none s c h = is_none-members s c ∙ grind (arith, nat_tests)

pub gone_left : (i j : ℕ) (now : List (ℕ × ℕ)) (s : Stamp) → IsCanonical (set_left i j now s) → length (set_left i j now s) ≡ 0 → stamp_left i j now s ≡ None
gone_left i j now s c e = (let none = empty_none (set_left i j now s) c e in rw none refl)

left_is : (i j : ℕ) (now : List (ℕ × ℕ)) (s : Stamp) → IsCanonical (set_left i j now s) → length (set_left i j now s) ≢ 0 → stamp_left i j now s ≡ Some (stamp_under now (set_left i j now s))
left_is i j now s c h = (let some = some_none (set_left i j now s) c h in rw some refl)

pub inherited_left : (i j : ℕ) (now : List (ℕ × ℕ)) (s : Stamp) → IsCanonical (set_left i j now s) → length (set_left i j now s) ≢ 0 → set_left i j now s ≡ now → stamp_left i j now s ≡ Some None
inherited_left i j now s c h same =
    left_is i j now s c h ∙ (let e : is_same (members (set_left i j now s)) (members now) ≡ true = (is_same-exact (members (set_left i j now s)) (members now)).1 (ap members same) in rw e refl)

pub stored_left : (i j : ℕ) (now : List (ℕ × ℕ)) (s : Stamp) → IsCanonical (set_left i j now s) → length (set_left i j now s) ≢ 0 → members (set_left i j now s) ≢ members now → stamp_left i j now s ≡ Some (Some (set_left i j now s))
stored_left i j now s c h other =
    left_is i j now s c h ∙
    elim (is_same (members (set_left i j now s)) (members now)) as (λ b. is_same (members (set_left i j now s)) (members now) ≡ b → ◌≡◌ {A = Option Stamp} (Some (cond {A = Stamp} b None (Some (set_left i j now s)))) (Some (Some (set_left i j now s)))) [
      | true ↦ λ e. absurd (other ((is_same-exact (members (set_left i j now s)) (members now)).0 e))
      | false ↦ λ e. refl
    ] refl

-- ---- the same, where the set that is left is known by another name

module _ (i j : ℕ) (now : List (ℕ × ℕ)) (s : Stamp) (left : List (ℕ × ℕ)) (is : set_left i j now s ≡ left) (canonical : IsCanonical left) where
  own : IsCanonical (set_left i j now s)
  own = subst IsCanonical (sym is) canonical

  some : length left ≢ 0 → length (set_left i j now s) ≢ 0
  some h e = h (ap length (sym is) ∙ e)

  pub none_is : length left ≡ 0 → stamp_left i j now s ≡ None
  none_is e = gone_left i j now s own (ap length is ∙ e)

  pub same_is : length left ≢ 0 → left ≡ now → stamp_left i j now s ≡ Some None
  same_is h e = inherited_left i j now s own (some h) (is ∙ e)

  pub other_is : length left ≢ 0 → left ≢ now → IsCanonical now → stamp_left i j now s ≡ Some (Some left)
  other_is h d c = stored_left i j now s own (some h) (λ e. d (members-injective left now canonical c (ap members (sym is) ∙ e))) ∙ ap (λ z. Some (Some z)) is
