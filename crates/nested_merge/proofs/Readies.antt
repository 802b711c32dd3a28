-- What a node that is ready for a change has.
use Rattle.std.proofs.Common.{◌≡◌, ℕ, ◌&&◌, IsTrue, map, Option, subst, rules, Vec, Global}
use Rattle.keyed_tree.specs.declared.label.Label.{Label}
use Rattle.keyed_tree.proofs.Kids.{both}
use Rattle.version_set.specs.declared.set.VersionSet.{VersionSet}
use Rattle.archive_tree.specs.declared.node.ANode.{ANode, Inner, the_lemmas}
use Rattle.nested_merge.specs.Plan.{PlainMark, kids_change, PlainSteps}
use Rattle.nested_merge.specs.Ready.{is_stamp_ready, are_ready, is_ready}

module _ (n : ℕ) (l : Label) (s : Option VersionSet) (m : PlainMark) (ks : Vec ANode Global) (ss : PlainSteps) (room : ℕ) where
  is_ready-Inner : is_ready n (Inner l s ks) (kids_change m ss room) ≡ (is_stamp_ready n s m && are_ready (map (is_ready n) ks.items) ss)
  is_ready-Inner = search (rules, the_lemmas)

  pub kids_ready : IsTrue (is_ready n (Inner l s ks) (kids_change m ss room)) → IsTrue (is_stamp_ready n s m) × IsTrue (are_ready (map (is_ready n) ks.items) ss)
  kids_ready h = both _ _ (subst (λ b. IsTrue b) is_ready-Inner h)
