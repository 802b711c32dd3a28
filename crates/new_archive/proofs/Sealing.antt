-- Sealing a new archive to which a version is added is merging the version into the sealed one.
use Rattle.std.proofs.Common.{◌≡◌, ◌≢◌, ℕ, ◌<◌, ◌||◌, true, false, cond, List, [], ◌∷◌, ◌++◌, map, Some, None, IfSome, refl, ap, sym, subst, ◌∙◌}
use Rattle.std.proofs.lemmas.List.{append-nil}
use Rattle.std.specs.List.{AllByRecursion}
use Rattle.std.specs.Ordering.{is_eq}
use Rattle.std.specs.declared.cmp.Ordering.TheVariants.{Less}
use Rattle.version_set.specs.Pairs.{IsCanonical, last_of}
use Rattle.version_set.specs.Members.{with_last}
use Rattle.keyed_tree.specs.Data.{PlainKey, PlainLabel, PlainKeyed, inner, leaf, PlainKids, no_kids, kid, kids_list}
use Rattle.keyed_tree.specs.Kids.{kid_at}
use Rattle.keyed_tree.specs.Laws.{key_cmp-is_eq}
use Rattle.jsonml_tree.specs.Lists.{AllDiffer, Ascends}
use Rattle.keyed_tree.specs.Order.{key_cmp, label_cmp}
use Rattle.archive_tree.specs.Data.{Stamp, PlainAlt, inner_node, leaf_node, PlainNodes, no_nodes, node, node_label}
use Rattle.archive_tree.specs.Stands.{labels}
use Rattle.nested_merge.specs.Merged.{grown, kept, fresh, fresh_row, fresh_onto, below, above, merged_alt, has_alt, merged_alts, turn, vanished, merged, merged_row}
use Rattle.nested_merge.proofs.Grown.{Fits, EachFits}
use Rattle.nested_merge.proofs.Weave.{above_lookup}
use Rattle.new_archive.specs.Full.{FullAlt, PlainFull, full_inner, full_leaf, PlainFulls, no_fulls, full, full_label, full_labels, full_bodies}
use Rattle.new_archive.specs.Added.{alone, new_full, new_fulls, new_onto, added_alts, met, added, added_row}
use Rattle.new_archive.specs.Ready.{IsBelow, IsReady, AreReady}
use Rattle.new_archive.specs.Sealed.{seal_stamp, seal_alt, seal, seal_row}
use Rattle.new_archive.proofs.Sets.{stamp_same, stamp_set, stamp_grows, stamp_stays, stamp_starts, stamp_new}

pub seal_label : (q : List (ℕ × ℕ)) (k : PlainFull) → node_label (seal q k) ≡ full_label k
seal_label q (full_inner l s ks) = refl
seal_label q (full_leaf l s xs) = refl

pub seal_labels : (q : List (ℕ × ℕ)) (ks : PlainFulls) → labels (seal_row q ks) ≡ full_labels ks
seal_labels q no_fulls = refl
seal_labels q (full k ks) = λ i. seal_label q k i ∷ seal_labels q ks i

-- ---- what begins with the version

mutual
  seal_new : (n : ℕ) (q : List (ℕ × ℕ)) (c : PlainKeyed) → seal q (new_full n c) ≡ fresh (seal_stamp q (alone n)) c
  seal_new n q (inner l ks) = ap (λ z. inner_node l (seal_stamp q (alone n)) z) (seal_news n ks)
  seal_new n q (leaf l b) = ap (λ (z : Stamp). leaf_node l (seal_stamp q (alone n)) (record { stamp = z; body = b } ∷ [])) (stamp_same (alone n) (alone n) refl)

  seal_news : (n : ℕ) (ks : PlainKids) → seal_row (alone n) (new_fulls n ks) ≡ fresh_row ks
  seal_news n no_kids = refl
  seal_news n (kid k ks) =
      let here = seal_new n (alone n) k ∙ ap (λ z. fresh z k) (stamp_same (alone n) (alone n) refl) in
      λ i. node (here i) (seal_news n ks i)

seal_onto : (n : ℕ) (q : List (ℕ × ℕ)) (cs : List PlainKeyed) (r : PlainFulls) → seal_row q (new_onto n cs r) ≡ fresh_onto (seal_stamp q (alone n)) cs (seal_row q r)
seal_onto n q [] r = refl
seal_onto n q (c ∷ cs) r = λ i. node (seal_new n q c i) (seal_onto n q cs r i)

-- ---- alternatives

module _ (n : ℕ) (s : List (ℕ × ℕ)) (b : PlainKey) (set : IsBelow n s) where
  abbrev old_alt : FullAlt → PlainAlt
  old_alt a = record { stamp = grown n (seal_stamp s a.numbers); body = a.body }

  abbrev kept_alt : FullAlt → PlainAlt
  kept_alt a = record { stamp = kept s (seal_stamp s a.numbers); body = a.body }

  alt_stays : (a : FullAlt) → IsBelow n a.numbers → seal_alt (with_last s n) a ≡ kept_alt a
  alt_stays a h = ap (λ (z : Stamp). record { stamp = z; body = a.body }) (stamp_stays n s set.canonical set.below a.numbers h)

  other : (a : FullAlt) → a.body ≢ b → is_eq (key_cmp a.body b) ≡ false
  other a d = elim (is_eq (key_cmp a.body b)) as (λ t. is_eq (key_cmp a.body b) ≡ t → t ≡ false) [ true ↦ λ e. absurd (d ((key_cmp-is_eq a.body b).0 e)) | false ↦ λ e. refl ] refl

  alts_stay : (k : PlainKey) → k ≡ b → (xs : List FullAlt) → AllByRecursion (λ (x : FullAlt). IsBelow n x.numbers) xs → AllByRecursion (λ y. k ≢ y) (full_bodies xs)
      → map (seal_alt (with_last s n)) xs ≡ map (merged_alt n s b) (map (seal_alt s) xs)
  alts_stay k e [] h d = refl
  alts_stay k e (x ∷ xs) h d =
      let none = other x (λ f. d.0 (e ∙ sym f)) in
      let here = alt_stays x h.0 in
      let rest = alts_stay k e xs h.1 d.1 in
      rw none (λ i. here i ∷ rest i)

  new_alts : map (seal_alt (with_last s n)) (record { numbers = alone n; body = b } ∷ []) ≡ record { stamp = Some (alone n); body = b } ∷ []
  new_alts = ap (λ (z : Stamp). record { stamp = z; body = b } ∷ []) (stamp_new n s set)

  abbrev met_alt : FullAlt → FullAlt
  met_alt x = record { numbers = with_last x.numbers n; body = x.body }

  -- the first alternative has the body, so the others do not
  seal_met : (x : FullAlt) (xs : List FullAlt) → IsBelow n x.numbers → AllByRecursion (λ (y : FullAlt). IsBelow n y.numbers) xs → AllByRecursion (λ y. x.body ≢ y) (full_bodies xs) → x.body ≡ b
      → map (seal_alt (with_last s n)) (met_alt x ∷ xs) ≡ old_alt x ∷ map (merged_alt n s b) (map (seal_alt s) xs) ++ []
  seal_met x xs h rest d e =
      let others : List PlainAlt = map (merged_alt n s b) (map (seal_alt s) xs) in
      let grows : seal_alt (with_last s n) (met_alt x) ≡ old_alt x = ap (λ (z : Stamp). record { stamp = z; body = x.body }) (stamp_grows n s set.canonical set.below x.numbers h) in
      let behind : map (seal_alt (with_last s n)) xs ≡ others = alts_stay x.body e xs rest d in
      let all : map (seal_alt (with_last s n)) (met_alt x ∷ xs) ≡ old_alt x ∷ others = λ i. grows i ∷ behind i in
      let end : old_alt x ∷ others ++ [] ≡ old_alt x ∷ others = ap (λ (z : List PlainAlt). old_alt x ∷ z) (append-nil others) in
      all ∙ sym end

  seal_alts : (xs : List FullAlt) → AllByRecursion (λ (x : FullAlt). IsBelow n x.numbers) xs → AllDiffer (full_bodies xs) → map (seal_alt (with_last s n)) (added_alts n b xs) ≡ merged_alts n s b (map (seal_alt s) xs)
  seal_alts [] h d = new_alts
  seal_alts (x ∷ xs) h d =
      let rest = seal_alts xs h.1 d.1 in
      let stays = alt_stays x h.0 in
      elim (is_eq (key_cmp x.body b)) as (λ t. is_eq (key_cmp x.body b) ≡ t → map (seal_alt (with_last s n)) (cond t (met_alt x ∷ xs) (x ∷ added_alts n b xs))
      ≡ cond t (old_alt x) (kept_alt x) ∷ map (merged_alt n s b) (map (seal_alt s) xs) ++ cond (t || has_alt b (map (seal_alt s) xs)) [] (record { stamp = Some (alone n); body = b } ∷ [])) [
        | true ↦ λ e. seal_met x xs h.0 h.1 d.0 ((key_cmp-is_eq x.body b).0 e)
        | false ↦ λ e. λ i. stays i ∷ rest i
      ] refl

-- ---- nodes

fits_above : (m : PlainLabel) (ks : PlainNodes) (cs : List PlainKeyed) → AllByRecursion (λ x. label_cmp m x ≡ Less) (labels ks) → EachFits ks cs → EachFits ks (above m cs)
fits_above m no_nodes cs a h = tt
fits_above m (node k ks) cs a h = (subst (λ o. IfSome o (λ c. Fits k c)) (sym (above_lookup m (node_label k) cs a.0)) h.0, fits_above m ks cs a.1 h.1)

seal_stays : (n : ℕ) (q : List (ℕ × ℕ)) (k : PlainFull) → IsCanonical q → last_of q < n → IsReady n k → seal (with_last q n) k ≡ vanished q (seal q k)
seal_stays n q (full_inner l s ks) right low h = ap (λ (z : Stamp). inner_node l z (seal_row s ks)) (stamp_stays n q right low s h.0)
seal_stays n q (full_leaf l s xs) right low h = ap (λ (z : Stamp). leaf_node l z (map (seal_alt s) xs)) (stamp_stays n q right low s h.0)

module _ (n : ℕ) where
  mutual
    seal_added : (k : PlainFull) (q : List (ℕ × ℕ)) (c : PlainKeyed) → IsCanonical q → last_of q < n → IsReady n k → Fits (seal q k) c → seal (with_last q n) (added n k c) ≡ merged n q (seal q k) c
    seal_added (full_inner l s ks) q (inner m cs) right low h f =
        let stamp = stamp_grows n q right low s h.0 in
        let row = seal_added_row ks s (kids_list cs) h.0.canonical h.0.below h.1 h.2 f ∙ ap (λ z. merged_row n z (seal_row s ks) (kids_list cs)) (sym (stamp_set q s)) in
        λ i. inner_node l (stamp i) (row i)
    seal_added (full_inner l s ks) q (leaf m b) right low h f = absurd f
    seal_added (full_leaf l s xs) q (inner m cs) right low h f = absurd f
    seal_added (full_leaf l s xs) q (leaf m b) right low h f =
        let stamp = stamp_grows n q right low s h.0 in
        let alts = seal_alts n s b h.0 xs h.1 h.2 ∙ ap (λ z. merged_alts n z b (map (seal_alt s) xs)) (sym (stamp_set q s)) in
        λ i. leaf_node l (stamp i) (alts i)

    pub seal_added_row : (ks : PlainFulls) (q : List (ℕ × ℕ)) (cs : List PlainKeyed) → IsCanonical q → last_of q < n → Ascends label_cmp (full_labels ks) → AreReady n ks → EachFits (seal_row q ks) cs
        → seal_row (with_last q n) (added_row n ks cs) ≡ merged_row n q (seal_row q ks) cs
    seal_added_row no_fulls q cs right low up h f = seal_onto n (with_last q n) cs no_fulls ∙ ap (λ z. fresh_onto z cs no_nodes) (stamp_starts n q right low)
    seal_added_row (full k ks) q cs right low up h f =
        let name : full_label k ≡ node_label (seal q k) = sym (seal_label q k) in
        let higher : AllByRecursion (λ x. label_cmp (node_label (seal q k)) x ≡ Less) (labels (seal_row q ks)) = subst (λ m. AllByRecursion (λ x. label_cmp m x ≡ Less) (labels (seal_row q ks))) name (subst (λ xs. AllByRecursion (λ x. label_cmp (full_label k) x ≡ Less) xs) (sym (seal_labels q ks)) up.0) in
        let start = stamp_starts n q right low in
        let fit = subst (λ m. IfSome (kid_at m cs) (λ c. Fits (seal q k) c)) (sym name) f.0 in
        let here : seal (with_last q n) (met k (λ c. added n k c) (kid_at (full_label k) cs)) ≡ turn (vanished q (seal q k)) (λ c. merged n q (seal q k) c) (kid_at (full_label k) cs) =
        elim (kid_at (full_label k) cs) as (λ o. IfSome o (λ c. Fits (seal q k) c) → seal (with_last q n) (met k (λ c. added n k c) o) ≡ turn (vanished q (seal q k)) (λ c. merged n q (seal q k) c) o) [
          | None ↦ λ g. seal_stays n q k right low h.0
          | Some c ↦ λ g. seal_added k q c right low h.0 g
        ] fit in
        let there = here ∙ ap (λ m. turn (vanished q (seal q k)) (λ c. merged n q (seal q k) c) (kid_at m cs)) name in
        let rest = ap (λ m. seal_row (with_last q n) (added_row n ks (above m cs))) name ∙ seal_added_row ks q (above (node_label (seal q k)) cs) right low up.1 h.1 (fits_above (node_label (seal q k)) (seal_row q ks) cs higher f.1) in
        seal_onto n (with_last q n) (below (full_label k) cs) (full (met k (λ c. added n k c) (kid_at (full_label k) cs)) (added_row n ks (above (full_label k) cs)))
        ∙ (λ i. fresh_onto (start i) (below (name i) cs) (node (there i) (rest i)))
