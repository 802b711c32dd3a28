-- Of the alternatives of a leaf one stands alone, or each one stores its set.
use Rattle.std.proofs.Common.{◌≡◌, ◌≢◌, ℕ, true, List, [], ◌∷◌, refl, sym, subst, inl}
use Rattle.std.specs.List.{AllByRecursion}
use Rattle.std.specs.Ordering.{nat_cmp}
use Rattle.keyed_tree.specs.Data.{PlainKeyed}
use Rattle.keyed_tree.specs.Lists.{Ascends, Has}
use Rattle.archive_tree.specs.Data.{PlainAlt}
use Rattle.archive_tree.specs.Stands.{AllDiffer, nums, nums_with, has_body, bodies, AltStands}
use Rattle.archive_tree.proofs.Necessary.{body_there, one_body}
use Rattle.archive_tree.proofs.Those.{has_nums, one_tree}
use Rattle.content_log.specs.Written.{IsStored, AloneOrStored}

some-number : (ns : List ℕ) → ns ≢ [] → (n : ℕ) × Has n ns
some-number [] h = absurd (h refl)
some-number (n ∷ ns) h = (n, inl refl)

module _ (ws : List (ℕ × PlainKeyed)) (up : Ascends nat_cmp (nums ws)) where
  -- beside another one it does not have all numbers of the leaf
  stored-beside : (x y : PlainAlt) → x.body ≢ y.body → AltStands x ws → AltStands y ws → IsStored x
  stored-beside x y differ h g = h.stamped.stored.1 (λ e. (
      let some = some-number (nums_with ws y.body) g.some in
      let theirs = body_there y.body some.0 ws some.1 in
      let mine = body_there x.body some.0 ws (subst (Has some.0) (sym e) (has_nums some.0 theirs.tree ws theirs.has)) in
      let same = one_tree some.0 mine.tree theirs.tree ws up mine.has theirs.has in
      differ (one_body x.body y.body mine.tree mine.is (subst (λ (t : PlainKeyed). has_body y.body t ≡ true) (sym same) theirs.is))))

  others-stored : (x : PlainAlt) (ys : List PlainAlt) → AllByRecursion (λ b. x.body ≢ b) (bodies ys) → AltStands x ws → AllByRecursion (λ a. AltStands a ws) ys → AllByRecursion IsStored ys
  others-stored x [] differ h g = tt
  others-stored x (y ∷ ys) differ h g = (stored-beside y x (λ e. differ.0 (sym e)) g.0 h, others-stored x ys differ.1 h g.1)

  pub alone-or-stored : (xs : List PlainAlt) → AllDiffer (bodies xs) → AllByRecursion (λ a. AltStands a ws) xs → AloneOrStored xs
  alone-or-stored [] differ h = tt
  alone-or-stored (x ∷ []) differ h = tt
  alone-or-stored (x ∷ y ∷ ys) differ h = (stored-beside x y differ.0.0 h.0 h.1.0, others-stored x (y ∷ ys) differ.0 h.0 h.1)
