-- The nodes of a new archive that stands for some versions are ready for the next one.
use Rattle.std.proofs.Common.{◌≡◌, ◌≢◌, ℕ, ◌≤◌, List, [], ◌∷◌, map, refl, ap, subst}
use Rattle.std.specs.List.{AllByRecursion}
use Rattle.version_set.specs.Pairs.{IsCanonical}
use Rattle.version_set.specs.Members.{members}
use Rattle.keyed_tree.specs.Data.{PlainLabel, PlainKeyed}
use Rattle.jsonml_tree.specs.Lists.{AllDiffer, Ascends}
use Rattle.keyed_tree.specs.Order.{label_cmp}
use Rattle.archive_tree.specs.Data.{node_label}
use Rattle.archive_tree.specs.Stands.{nums, nums_with, under, AltStands, StandsFor, EachStands, bodies}
use Rattle.archive_tree.proofs.Those.{all_those}
use Rattle.nested_merge.proofs.Stamps.{Below}
use Rattle.new_archive.specs.Full.{FullAlt, PlainFull, full_inner, full_leaf, PlainFulls, no_fulls, full, full_bodies}
use Rattle.new_archive.specs.Ready.{IsBelow, IsReady, AreReady}
use Rattle.new_archive.specs.Sealed.{seal_alt, seal, seal_row}
use Rattle.new_archive.proofs.Sealing.{seal_labels}
use Rattle.new_archive.proofs.Sets.{set_members, set_below}

some_nums : (ws : List (ℕ × PlainKeyed)) → ws ≢ [] → nums ws ≢ []
some_nums [] h e = h refl
some_nums (w ∷ ws) h e = cc

sealed_bodies : (s : List (ℕ × ℕ)) (xs : List FullAlt) → bodies (map (seal_alt s) xs) ≡ full_bodies xs
sealed_bodies s [] = refl
sealed_bodies s (x ∷ xs) = ap (λ z. x.body ∷ z) (sealed_bodies s xs)

module _ (n : ℕ) (from : 1 ≤ n) where
  alts_ready : (s : List (ℕ × ℕ)) (ws : List (ℕ × PlainKeyed)) (xs : List FullAlt) → IsCanonical s → members s ≡ nums ws → Below n (nums ws) → AllByRecursion (λ a. AltStands a ws) (map (seal_alt s) xs) → AllByRecursion (λ (x : FullAlt). IsBelow n x.numbers) xs
  alts_ready s ws [] right e low h = tt
  alts_ready s ws (x ∷ xs) right e low h =
      let there : Below n (nums_with ws x.body) = all_those _ _ ws low in
      (set_below n s x.numbers (nums_with ws x.body) (nums ws) from right e h.0.stamped h.0.some there, alts_ready s ws xs right e low h.1)

  mutual
    is_ready : (k : PlainFull) (q : List (ℕ × ℕ)) (ws : List (ℕ × PlainKeyed)) (ps : List ℕ) → IsCanonical q → members q ≡ ps → Below n (nums ws) → StandsFor (seal q k) ws ps → IsReady n k
    is_ready (full_inner l s ks) q ws ps right e low h =
        let set = set_below n q s (nums ws) ps from right e h.common.stamped (some_nums ws h.common.some) low in
        let is = set_members q s (nums ws) ps e h.common.stamped in
        let up = subst (λ xs. Ascends label_cmp xs) (seal_labels s ks) h.row.ascending in
        (set, up, are_ready ks s (under ws) (nums ws) set.canonical is (λ l. all_those _ _ ws low) h.row.kids)
    is_ready (full_leaf l s xs) q ws ps right e low h =
        let set = set_below n q s (nums ws) ps from right e h.common.stamped (some_nums ws h.common.some) low in
        let is = set_members q s (nums ws) ps e h.common.stamped in
        (set, alts_ready s ws xs set.canonical is low h.alts, subst (λ bs. AllDiffer bs) (sealed_bodies s xs) h.different)

    pub are_ready : (ks : PlainFulls) (q : List (ℕ × ℕ)) (u : PlainLabel → List (ℕ × PlainKeyed)) (ps : List ℕ) → IsCanonical q → members q ≡ ps → ((l : PlainLabel) → Below n (nums (u l))) → EachStands (seal_row q ks) u ps → AreReady n ks
    are_ready no_fulls q u ps right e low h = tt
    are_ready (full k ks) q u ps right e low h = (is_ready k q (u (node_label (seal q k))) ps right e (low (node_label (seal q k))) h.0, are_ready ks q u ps right e low h.1)
