-- What is left of stamps.
use Rattle.std.proofs.Common.{◌≡◌, ℕ, true, false, cond, List, Some, None, refl, ap, sym, subst, ◌∙◌, true≢false}
use Rattle.version_set.specs.Pairs.{IsCanonical}
use Rattle.version_set.specs.Members.{members}
use Rattle.archive_tree.specs.Data.{Stamp, eff}
use Rattle.archive_tree.specs.PartsTest.{is_same}
use Rattle.archive_tree.specs.Stands.{Stamped}
use Rattle.archive_tree.proofs.Tells.{is_same-exact}
use Rattle.record_format.specs.Nodes.{set_in}
use Rattle.archive_cut.specs.Sliced.{clipped, cut_set, stamp_under, cut_stamp}
use Rattle.archive_cut.proofs.Clips.{members-cut, IsCanonical-cut}

pub members-set_in : (s : Stamp) (q : List (ℕ × ℕ)) → members (set_in s q) ≡ eff s (members q)
members-set_in None q = refl
members-set_in (Some s) q = refl

pub IsCanonical-set_in : (s : Stamp) (q : List (ℕ × ℕ)) (ns ps : List ℕ) → Stamped s ns ps → IsCanonical q → IsCanonical (set_in s q)
IsCanonical-set_in None q ns ps h c = c
IsCanonical-set_in (Some s) q ns ps h c = h.canonical s refl

some_is : (s t : List (ℕ × ℕ)) → ◌≡◌ {A = Stamp} (Some s) (Some t) → s ≡ t
some_is s t e = cc

under_stamped : (parent s : List (ℕ × ℕ)) → IsCanonical s → Stamped (stamp_under parent s) (members s) (members parent)
under_stamped parent s c =
    let same = is_same-exact (members s) (members parent) in
    elim (is_same (members s) (members parent)) as (λ b. is_same (members s) (members parent) ≡ b → Stamped (cond {A = Stamp} b None (Some s)) (members s) (members parent)) [
      | true ↦ λ e. record {
        effective = sym (same.0 e);
        stored = (λ x. cc, λ d. absurd (d (same.0 e)));
        canonical = λ t d. cc;
      }
      | false ↦ λ e. record {
        effective = refl;
        stored = (λ x d. true≢false (sym (same.1 d) ∙ e), λ d. refl);
        canonical = λ t d. subst IsCanonical (some_is s t d) c;
      }
    ] refl

module _ (i j : ℕ) where
  -- what is left of a stamp stands for what is left of its numbers
  pub cut_stamped : (s : Stamp) (q : List (ℕ × ℕ)) (ns : List ℕ) → IsCanonical q → Stamped s ns (members q) → Stamped (cut_stamp i j q s) (clipped i j ns) (members (cut_set i j q))
  cut_stamped s q ns c h =
      let own = IsCanonical-set_in s q ns (members q) h c in
      let left : members (cut_set i j (set_in s q)) ≡ clipped i j ns = members-cut i j (set_in s q) own ∙ ap (clipped i j) (members-set_in s q ∙ h.effective) in
      subst (λ z. Stamped (cut_stamp i j q s) z (members (cut_set i j q))) left (under_stamped (cut_set i j q) (cut_set i j (set_in s q)) (IsCanonical-cut i j (set_in s q) own))
