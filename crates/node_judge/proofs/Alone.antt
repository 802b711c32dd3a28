-- An alternative that inherits is the only one of its leaf.
use Rattle.std.proofs.Common.{◌≡◌, ◌∙◌, ◌&&◌, ℕ, List, [], ◌∷◌, None, IsTrue, refl, ap, sym, subst, inl, inr}
use Rattle.std.proofs.lemmas.Bool.{and_parts}
use Rattle.jsonml_tree.proofs.Lists.{all_has, has_map}
use Rattle.keyed_tree.specs.Lists.{Has}
use Rattle.archive_tree.specs.Data.{eff, PlainAlt}
use Rattle.archive_tree.specs.Parts.{Apart, AllApart, alt_sets}
use Rattle.archive_tree.specs.PartsTest.{is_stamp_well, are_parts, are_stamps_well, do_firsts_rise, do_differ, are_alts_well}
use Rattle.archive_tree.specs.Stands.{bodies}
use Rattle.archive_tree.proofs.Counts.{parts_tell}
use Rattle.archive_tree.proofs.Tells.{stamp_tells}
use Rattle.archive_file.proofs.Tells.{first-number}

-- a number of an alternative, which its leaf has too
record Number (ns : List ℕ) (x : PlainAlt) : Type 0 where
  number : ℕ
  own : Has number (eff x.stamp ns)
  leafs : Has number ns

numbers : (ns : List ℕ) (xs : List PlainAlt) → IsTrue (are_stamps_well ns xs) → (x : PlainAlt) → Has x xs → Number ns x
numbers ns [] h x m = absurd m
numbers ns (y ∷ xs) h x m =
    let two = and_parts (is_stamp_well y.stamp ns) (are_stamps_well ns xs) h in
    elim m [
      | inl e ↦ (
          let well = (stamp_tells y.stamp ns).0 two.0 in
          let first = first-number (eff y.stamp ns) well.some in
          subst (Number ns) e (record { number = first.0; own = first.1; leafs = well.within first.0 first.1 }))
      | inr i ↦ numbers ns xs two.1 x i
    ]

only : (ns : List ℕ) (xs : List PlainAlt) → ((y : PlainAlt) → Has y xs → Number ns y) → AllApart (alt_sets ns xs) → (x : PlainAlt) → Has x xs → eff x.stamp ns ≡ ns → xs ≡ x ∷ []
only ns [] some apart x m e = absurd m
only ns (y ∷ []) some apart x m e = elim m [ inl i ↦ ap (λ z. z ∷ []) i | inr j ↦ absurd j ]
only ns (y ∷ z ∷ zs) some apart x m e =
    absurd (elim m [
      | inl i ↦ (
          let n = some z (inr (inl refl)) in
          let same : eff y.stamp ns ≡ ns = ap (λ (a : PlainAlt). eff a.stamp ns) i ∙ e in
          apart.0.0 n.number (subst (Has n.number) (sym same) n.leafs) n.own)
      | inr j ↦ (
          let n = some y (inl refl) in
          all_has (Apart (eff y.stamp ns)) (alt_sets ns (z ∷ zs)) (eff x.stamp ns) apart.0 (has_map (λ (a : PlainAlt). eff a.stamp ns) x (z ∷ zs) j) n.number n.own (subst (Has n.number) (sym e) n.leafs))
    ])

-- where one alternative has all numbers of the leaf there is no other
pub whole-only : (ns : List ℕ) (xs : List PlainAlt) (x : PlainAlt) → IsTrue (are_alts_well ns xs) → Has x xs → x.stamp ≡ None → xs ≡ x ∷ []
whole-only ns xs x h m none =
    let three = and_parts (are_stamps_well ns xs && do_firsts_rise 0 ns xs && are_parts ns (alt_sets ns xs)) (do_differ (bodies xs)) h in
    let two = and_parts (are_stamps_well ns xs && do_firsts_rise 0 ns xs) (are_parts ns (alt_sets ns xs)) three.0 in
    let one = and_parts (are_stamps_well ns xs) (do_firsts_rise 0 ns xs) two.0 in
    only ns xs (numbers ns xs one.0) ((parts_tell ns (alt_sets ns xs)).0 two.1).apart x m (ap (λ s. eff s ns) none)
