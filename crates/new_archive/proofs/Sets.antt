-- Sets that are left out where they are those of the parent, as a version is added.
use Rattle.std.proofs.Common.{◌≡◌, ◌≢◌, ℕ, suc, ◌+◌, ◌-◌, ◌<◌, ◌≤◌, ◌==◌, ◌&&◌, true, false, true≢false, List, [], ◌∷◌, ◌++◌, Some, None, refl, ap, sym, subst, ◌∙◌, ◌⊎◌, inl, inr, arith}
use Rattle.std.proofs.lemmas.Bool.{eqb-true, eq-eqb}
use Rattle.std.proofs.lemmas.List.{append_cancel_right}
use Rattle.std.specs.Option.{unwrap_or}
use Rattle.version_set.specs.Pairs.{IsCanonical, last_of}
use Rattle.version_set.specs.Members.{members, greatest, with_last}
use Rattle.version_set.proofs.MembersLemmas.{members-injective, members-with_last}
use Rattle.version_set.proofs.SetLemmas.{greatest-members}
use Rattle.keyed_tree.proofs.Kids.{both}
use Rattle.archive_tree.specs.Data.{Stamp, eff}
use Rattle.archive_tree.specs.Stands.{Stamped}
use Rattle.nested_merge.specs.Merged.{grown, kept, started}
use Rattle.nested_merge.proofs.Stamps.{Below, last_below, one, eff-members, eff_canonical}
use Rattle.new_archive.specs.Added.{alone}
use Rattle.new_archive.specs.Ready.{IsBelow}
use Rattle.new_archive.specs.Sealed.{same_pairs, seal_stamp}

-- ---- whether two sets are the same

pub same_told : (s q : List (ℕ × ℕ)) → same_pairs s q ≡ true → s ≡ q
same_told [] [] h = refl
same_told [] (q ∷ qs) h = absurd (true≢false (sym h))
same_told (p ∷ ps) [] h = absurd (true≢false (sym h))
same_told (p ∷ ps) (q ∷ qs) h =
    let two = both (p.0 == q.0 && p.1 == q.1) (same_pairs ps qs) h in
    let ends = both (p.0 == q.0) (p.1 == q.1) two.0 in
    let first = eqb-true p.0 q.0 ends.0 in
    let last = eqb-true p.1 q.1 ends.1 in
    let rest = same_told ps qs two.1 in
    λ i. (first i, last i) ∷ rest i

pub same_itself : (s : List (ℕ × ℕ)) → same_pairs s s ≡ true
same_itself [] = refl
same_itself (p ∷ ps) = (let first = eq-eqb p.0 p.0 refl in let last = eq-eqb p.1 p.1 refl in rw first (rw last (same_itself ps)))

pub same_set : (s q : List (ℕ × ℕ)) → s ≡ q → same_pairs s q ≡ true
same_set s q e = subst (λ z. same_pairs s z ≡ true) e (same_itself s)

pub other_set : (s q : List (ℕ × ℕ)) → s ≢ q → same_pairs s q ≡ false
other_set s q d = elim (same_pairs s q) as (λ b. same_pairs s q ≡ b → b ≡ false) [ true ↦ λ e. absurd (d (same_told s q e)) | false ↦ λ e. refl ] refl

pub either_set : (s q : List (ℕ × ℕ)) → (s ≡ q) ⊎ (s ≢ q)
either_set s q = elim (same_pairs s q) as (λ b. same_pairs s q ≡ b → (s ≡ q) ⊎ (s ≢ q)) [
  | true ↦ λ e. inl (same_told s q e)
  | false ↦ λ e. inr (λ d. true≢false (sym (same_set s q d) ∙ e))
] refl

-- ---- what is stored

pub stamp_same : (q s : List (ℕ × ℕ)) → s ≡ q → seal_stamp q s ≡ None
stamp_same q s e = (let t = same_set s q e in rw t refl)

pub stamp_other : (q s : List (ℕ × ℕ)) → s ≢ q → seal_stamp q s ≡ Some s
stamp_other q s d = (let t = other_set s q d in rw t refl)

-- the set that is meant
pub stamp_set : (q s : List (ℕ × ℕ)) → unwrap_or (seal_stamp q s) q ≡ s
stamp_set q s = elim (either_set s q) [
  | inl e ↦ ap (λ (z : Stamp). unwrap_or z q) (stamp_same q s e) ∙ sym e
  | inr d ↦ ap (λ (z : Stamp). unwrap_or z q) (stamp_other q s d)
]

-- ---- a number past them all

greatest_end : (ms : List ℕ) (n : ℕ) → n ≤ greatest (ms ++ n ∷ [])
greatest_end [] n = omega arith
greatest_end (m ∷ ms) n = (let rest = greatest_end ms n in omega (arith, rest))

module _ (n : ℕ) (q : List (ℕ × ℕ)) (right : IsCanonical q) (low : last_of q < n) where
  pub stamp_grows : (s : List (ℕ × ℕ)) → IsBelow n s → seal_stamp (with_last q n) (with_last s n) ≡ grown n (seal_stamp q s)
  stamp_grows s h = elim (either_set s q) [
    | inl e ↦ stamp_same (with_last q n) (with_last s n) (ap (λ z. with_last z n) e) ∙ sym (ap (grown n) (stamp_same q s e))
    | inr d ↦ stamp_other (with_last q n) (with_last s n) (λ e. d (members-injective s q h.canonical right
        (append_cancel_right (members s) (members q) (n ∷ []) (sym (members-with_last s n h.canonical h.below) ∙ ap members e ∙ members-with_last q n right low))))
        ∙ sym (ap (grown n) (stamp_other q s d))
  ]

  not_with : (s : List (ℕ × ℕ)) → IsBelow n s → s ≢ with_last q n
  not_with s h e =
      let most : greatest (members s) ≡ last_of s = greatest-members 1 s h.canonical in
      let end : greatest (members s) ≡ greatest (members q ++ n ∷ []) = ap greatest (ap members e ∙ members-with_last q n right low) in
      let reached = greatest_end (members q) n in
      let below = h.below in
      absurd (omega (arith, most, end, reached, below))

  pub stamp_stays : (s : List (ℕ × ℕ)) → IsBelow n s → seal_stamp (with_last q n) s ≡ kept q (seal_stamp q s)
  stamp_stays s h = stamp_other (with_last q n) s (not_with s h) ∙ sym (ap (λ z. Some z) (stamp_set q s))

no_empty : (p : ℕ × ℕ) (ps : List (ℕ × ℕ)) → p.0 ≤ p.1 → members (p ∷ ps) ≢ []
no_empty p ps h = (let e : p.1 + 1 - p.0 ≡ suc (p.1 - p.0) = omega arith in rw e (λ d. cc))

not_alone : (n : ℕ) (p : ℕ × ℕ) (ps : List (ℕ × ℕ)) → IsCanonical (p ∷ ps) → last_of (p ∷ ps) < n → alone n ≢ with_last (p ∷ ps) n
not_alone n p ps right low e =
    no_empty p ps right.1 (sym (append_cancel_right [] (members (p ∷ ps)) (n ∷ []) (sym (one n) ∙ ap members e ∙ members-with_last (p ∷ ps) n right low)))

pub stamp_starts : (n : ℕ) (q : List (ℕ × ℕ)) → IsCanonical q → last_of q < n → seal_stamp (with_last q n) (alone n) ≡ started n q
stamp_starts n [] right low = stamp_same (with_last [] n) (alone n) refl
stamp_starts n (p ∷ ps) right low = stamp_other (with_last (p ∷ ps) n) (alone n) (not_alone n p ps right low)

pub stamp_new : (n : ℕ) (s : List (ℕ × ℕ)) → IsBelow n s → seal_stamp (with_last s n) (alone n) ≡ Some (alone n)
stamp_new n [] h = absurd (h.some refl)
stamp_new n (p ∷ ps) h = stamp_starts n (p ∷ ps) h.canonical h.below

-- ---- what an archive says of the sets

pub set_members : (q s : List (ℕ × ℕ)) (ns ps : List ℕ) → members q ≡ ps → Stamped (seal_stamp q s) ns ps → members s ≡ ns
set_members q s ns ps e h = ap members (sym (stamp_set q s)) ∙ eff-members (seal_stamp q s) q ∙ ap (eff (seal_stamp q s)) e ∙ h.effective

pub set_below : (n : ℕ) (q s : List (ℕ × ℕ)) (ns ps : List ℕ) → 1 ≤ n → IsCanonical q → members q ≡ ps → Stamped (seal_stamp q s) ns ps → ns ≢ [] → Below n ns → IsBelow n s
set_below n q s ns ps from right e h some low =
    let is : members s ≡ ns = set_members q s ns ps e h in
    let canonical : IsCanonical s = subst IsCanonical (stamp_set q s) (eff_canonical (seal_stamp q s) q ns ps h right) in
    record {
      some = λ d. some (sym is ∙ ap members d);
      canonical = canonical;
      below = last_below n s from canonical (subst (λ z. Below n z) (sym is) low);
    }
