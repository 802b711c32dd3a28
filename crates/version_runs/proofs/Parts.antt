-- An archive of runs, spread: its parts are those of an archive.
use Rattle.std.proofs.Common.{◌≡◌, ◌≢◌, ℕ, ◌+◌, ◌<◌, ◌≤◌, List, [], ◌∷◌, map, length, Some, None, IsSome, IsTrue, refl, sym, ap, subst, ◌∙◌, arith, inl, inr}
use Rattle.std.proofs.lemmas.Bool.{cases_lt}
use Rattle.std.specs.List.{AllByRecursion, range_with_len}
use Rattle.version_set.specs.Pairs.{IsCanonical}
use Rattle.version_set.specs.Members.{AscendsFrom, members}
use Rattle.version_set.proofs.MembersLemmas.{members_ascend}
use Rattle.version_set.proofs.Sets.{last_below}
use Rattle.jsonml_tree.proofs.Lists.{all_has, has_all, has_map, source}
use Rattle.keyed_tree.specs.Lists.{Ascends, Has}
use Rattle.keyed_tree.specs.Order.{label_cmp}
use Rattle.keyed_tree.specs.Proper.{is_tag}
use Rattle.archive_tree.specs.Data.{Stamp, eff, PlainAlt, PlainNode, inner_node, leaf_node, PlainNodes, no_nodes, node, node_label, node_stamp, nodes_list, PlainArchive}
use Rattle.archive_tree.specs.Parts.{IsStampWell, Apart, AllApart, AreParts, alt_sets, node_sets, AreAltsWell, IsNodeWell, AreNodesWell, IsArchive}
use Rattle.archive_tree.specs.Stands.{AllDiffer, bodies, first_num, head_or, labels}
use Rattle.archive_tree.proofs.Numbers.{from_ascends, ascends_from}
use Rattle.version_runs.specs.Runs.{AreStarts, run_of}
use Rattle.version_runs.specs.Spread.{spread, spread_alt, spread_node, spread_nodes, spread_pairs, spread_stamp, AreNodesWithin, IsNodeWithin, IsStampWithin}
use Rattle.version_runs.proofs.Numbers.{AreRuns-range, eff_spread, head_in, head_run, number_run, numbers_all, numbers_in, numbers_injective, numbers_some, run_number}
use Rattle.version_runs.proofs.RunLemmas.{rises}
use Rattle.version_runs.proofs.Sets.{AreRuns, spread_canonical, spread_numbers}

was_some : (ps : List ℕ) (n : ℕ) (s : Stamp) → IsSome (spread_stamp ps n s) → IsSome s
was_some ps n None h = h
was_some ps n (Some s) h = refl

pub bodies_spread : (ps : List ℕ) (n : ℕ) (xs : List PlainAlt) → bodies (map (spread_alt ps n) xs) ≡ bodies xs
bodies_spread ps n [] = refl
bodies_spread ps n (x ∷ xs) = ap (λ bs. x.body ∷ bs) (bodies_spread ps n xs)

label_spread : (ps : List ℕ) (n : ℕ) (k : PlainNode) → node_label (spread_node ps n k) ≡ node_label k
label_spread ps n (inner_node l s ks) = refl
label_spread ps n (leaf_node l s xs) = refl

labels_spread : (ps : List ℕ) (n : ℕ) (ks : PlainNodes) → labels (spread_nodes ps n ks) ≡ labels ks
labels_spread ps n no_nodes = refl
labels_spread ps n (node k ks) = (λ i. label_spread ps n k i ∷ labels_spread ps n ks i)

elements_spread : (ps : List ℕ) (n : ℕ) (ks : PlainNodes) → AllByRecursion (λ k. IsTrue (is_tag (node_label k).name)) (nodes_list ks) → AllByRecursion (λ k. IsTrue (is_tag (node_label k).name)) (nodes_list (spread_nodes ps n ks))
elements_spread ps n no_nodes h = tt
elements_spread ps n (node k ks) h = (subst (λ l. IsTrue (is_tag l.name)) (sym (label_spread ps n k)) h.0, elements_spread ps n ks h.1)

pub stamp_spread : (ps : List ℕ) (n : ℕ) (k : PlainNode) → node_stamp (spread_node ps n k) ≡ spread_stamp ps n (node_stamp k)
stamp_spread ps n (inner_node l s ks) = refl
stamp_spread ps n (leaf_node l s xs) = refl

-- ---- sets that are stored in an archive of so many runs

stamp_within : (c : ℕ) (s : Stamp) (ns : List ℕ) → AreRuns c ns → IsStampWell s ns → IsStampWithin c s
stamp_within c None ns r w = tt
stamp_within c (Some s) ns r w =
    let canonical = w.canonical s refl in
    let below = last_below s (c + 1) canonical (omega arith) (has_all (λ m. m < c + 1) (members s) (λ m i. (let le = r.within m (w.within m i) in omega (arith, le)))) in
    (canonical, omega (arith, below))

runs_below : (c : ℕ) (s : Stamp) (ns : List ℕ) → AreRuns c ns → IsStampWell s ns → AreRuns c (eff s ns)
runs_below c None ns r w = r
runs_below c (Some s) ns r w = record { ascending = members_ascend 1 s (w.canonical s refl); within = λ m i. r.within m (w.within m i) }

alts_within : (c : ℕ) (xs : List PlainAlt) (ns : List ℕ) → AreRuns c ns → AllByRecursion (λ x. IsStampWell x.stamp ns) xs → AllByRecursion (λ x. IsStampWithin c x.stamp) xs
alts_within c [] ns r w = tt
alts_within c (x ∷ xs) ns r w = (stamp_within c x.stamp ns r w.0, alts_within c xs ns r w.1)

mutual
  node_within : (c : ℕ) (k : PlainNode) (ns : List ℕ) → AreRuns c ns → IsNodeWell k ns → IsNodeWithin c k
  node_within c (inner_node l s ks) ns r w = (stamp_within c s ns r w.stamp, nodes_within c ks (eff s ns) (runs_below c s ns r w.stamp) w.kids)
  node_within c (leaf_node l s xs) ns r w = (stamp_within c s ns r w.stamp, alts_within c xs (eff s ns) (runs_below c s ns r w.stamp) w.alts.stamps)

  nodes_within : (c : ℕ) (ks : PlainNodes) (ns : List ℕ) → AreRuns c ns → AreNodesWell ks ns → AreNodesWithin c ks
  nodes_within c no_nodes ns r w = tt
  nodes_within c (node k ks) ns r w = (node_within c k ns r w.0, nodes_within c ks ns r w.1)

-- the sets of an archive are of its versions
pub archive_within : (a : PlainArchive) → IsArchive a → AreNodesWithin a.n a.kids
archive_within a w = nodes_within a.n a.kids (range_with_len 1 a.n) (AreRuns-range a.n) w.kids

-- ---- conditions

module _ (ps : List ℕ) (n : ℕ) (h : AreStarts ps n) where
  stamp_well : (s : Stamp) (ns : List ℕ) → AreRuns (length ps) ns → IsStampWell s ns → IsStampWell (spread_stamp ps n s) (spread_numbers ps n ns)
  stamp_well s ns r w =
      let below = runs_below (length ps) s ns r w in
      let within = stamp_within (length ps) s ns r w in
      let e = eff_spread ps n h s ns within in
      record {
        some = subst (λ ms. ms ≢ []) (sym e) (numbers_some ps n h (eff s ns) below w.some);
        within = λ i m. (
            let there : Has i (spread_numbers ps n (eff s ns)) = subst (Has i) e m in
            run_number ps n h ns i (numbers_in ps n h (eff s ns) i below there).1 r (w.within (run_of ps i) (number_run ps n h (eff s ns) i below there)));
        differs = λ some same. w.differs (was_some ps n s some) (numbers_injective ps n h (eff s ns) ns below r (sym e ∙ same));
        canonical = λ t is. stored_well s within t is;
      }
    where
      stored_well : (s : Stamp) → IsStampWithin (length ps) s → (t : List (ℕ × ℕ)) → spread_stamp ps n s ≡ Some t → IsCanonical t
      stored_well None w t e = cc
      stored_well (Some u) w t e = (let same : spread_pairs ps n u ≡ t = cc in subst IsCanonical same (spread_canonical ps n h u w.0 w.1))

  apart_spread : (sets : List (List ℕ)) → ((s : List ℕ) → Has s sets → AreRuns (length ps) s) → AllApart sets → AllApart (map (spread_numbers ps n) sets)
  apart_spread [] rs a = tt
  apart_spread (s ∷ ss) rs a = (
    has_all (Apart (spread_numbers ps n s)) (map (spread_numbers ps n) ss) (λ z m i here there. (
        let t = source (spread_numbers ps n) z ss m in
        all_has (Apart s) ss t.item a.0 t.has (run_of ps i) (number_run ps n h s i (rs s (inl refl)) here) (number_run ps n h t.item i (rs t.item (inr t.has)) (subst (Has i) (sym t.is) there)))),
    apart_spread ss (λ z m. rs z (inr m)) a.1,
  )

  parts_spread : (sets : List (List ℕ)) (ns : List ℕ) → AreRuns (length ps) ns → ((s : List ℕ) → Has s sets → AreRuns (length ps) s) → AreParts sets ns → AreParts (map (spread_numbers ps n) sets) (spread_numbers ps n ns)
  parts_spread sets ns r rs w = record {
    apart = apart_spread sets rs w.apart;
    inside = λ z m i there. (
        let t = source (spread_numbers ps n) z sets m in
        let at : Has i (spread_numbers ps n t.item) = subst (Has i) (sym t.is) there in
        let own = rs t.item t.has in
        run_number ps n h ns i (numbers_in ps n h t.item i own at).1 r (w.inside t.item t.has (run_of ps i) (number_run ps n h t.item i own at)));
    whole = λ i m. (
        let t = w.whole (run_of ps i) (number_run ps n h ns i r m) in
        (spread_numbers ps n t.0, (has_map (spread_numbers ps n) t.0 sets t.1.0, run_number ps n h t.0 i (numbers_in ps n h ns i r m).1 (rs t.0 t.1.0) t.1.1)));
  }

  -- ---- alternatives

  alts_spread : (xs : List PlainAlt) (ns : List ℕ) → AllByRecursion (λ x. IsStampWithin (length ps) x.stamp) xs → alt_sets (spread_numbers ps n ns) (map (spread_alt ps n) xs) ≡ map (spread_numbers ps n) (alt_sets ns xs)
  alts_spread [] ns w = refl
  alts_spread (x ∷ xs) ns w = (let first = eff_spread ps n h x.stamp ns w.0 in let rest = alts_spread xs ns w.1 in λ i. first i ∷ rest i)

  alts_stamps : (xs : List PlainAlt) (ns : List ℕ) → AreRuns (length ps) ns → AllByRecursion (λ x. IsStampWell x.stamp ns) xs → AllByRecursion (λ x. IsStampWell x.stamp (spread_numbers ps n ns)) (map (spread_alt ps n) xs)
  alts_stamps [] ns r w = tt
  alts_stamps (x ∷ xs) ns r w = (stamp_well x.stamp ns r w.0, alts_stamps xs ns r w.1)

  alts_runs : (xs : List PlainAlt) (ns : List ℕ) → AreRuns (length ps) ns → AllByRecursion (λ x. IsStampWell x.stamp ns) xs → (s : List ℕ) → Has s (alt_sets ns xs) → AreRuns (length ps) s
  alts_runs xs ns r w s m =
      let t = source (λ (x : PlainAlt). eff x.stamp ns) s xs m in
      subst (AreRuns (length ps)) t.is (runs_below (length ps) t.item.stamp ns r (all_has (λ x. IsStampWell x.stamp ns) xs t.item w t.has))

  -- first numbers ascend as the runs that they are in
  firsts_rise : (low high : ℕ) (xs : List PlainAlt) (ns : List ℕ) → AreRuns (length ps) ns → AllByRecursion (λ x. IsStampWell x.stamp ns) xs → ((k : ℕ) → k ≤ n → low ≤ run_of ps k → high ≤ k)
      → AscendsFrom low (map (first_num ns) xs) → AscendsFrom high (map (first_num (spread_numbers ps n ns)) (map (spread_alt ps n) xs))
  firsts_rise low high [] ns r w f a = tt
  firsts_rise low high (x ∷ xs) ns r w f a =
      let set = eff x.stamp ns in
      let below = runs_below (length ps) x.stamp ns r w.0 in
      let e : first_num (spread_numbers ps n ns) (spread_alt ps n x) ≡ head_or 0 (spread_numbers ps n set) = ap (head_or 0) (eff_spread ps n h x.stamp ns (stamp_within (length ps) x.stamp ns r w.0)) in
      let run : run_of ps (head_or 0 (spread_numbers ps n set)) ≡ first_num ns x = head_run ps n h set below w.0.some in
      let within = head_in ps n h set below w.0.some in
      let low_first = a.0 in (
        subst (λ k. high ≤ k) (sym e) (f (head_or 0 (spread_numbers ps n set)) within (omega (arith, run, low_first))),
        subst (λ k. AscendsFrom (k + 1) (map (first_num (spread_numbers ps n ns)) (map (spread_alt ps n) xs))) (sym e)
            (firsts_rise (first_num ns x + 1) (head_or 0 (spread_numbers ps n set) + 1) xs ns r w.1 (λ k most more. past (head_or 0 (spread_numbers ps n set)) k within (omega (arith, run, more))) a.1),
      )
    where
      past : (i k : ℕ) → i ≤ n → run_of ps i < run_of ps k → i + 1 ≤ k
      past i k most lt =
          elim (cases_lt i k) [
            | inl less ↦ omega (arith, less)
            | inr le ↦ absurd (let up = rises ps n h k i most le in omega (arith, up, lt))
          ]

  alts_well : (xs : List PlainAlt) (ns : List ℕ) → AreRuns (length ps) ns → AreAltsWell xs ns → AreAltsWell (map (spread_alt ps n) xs) (spread_numbers ps n ns)
  alts_well xs ns r w = record {
    stamps = alts_stamps xs ns r w.stamps;
    parts = subst (λ sets. AreParts sets (spread_numbers ps n ns)) (sym (alts_spread xs ns (alts_within (length ps) xs ns r w.stamps))) (parts_spread (alt_sets ns xs) ns r (alts_runs xs ns r w.stamps) w.parts);
    different = subst AllDiffer (sym (bodies_spread ps n xs)) w.different;
    in_order = from_ascends 0 (map (first_num (spread_numbers ps n ns)) (map (spread_alt ps n) xs)) (firsts_rise 0 0 xs ns r w.stamps (λ k most le. omega arith) (ascends_from (map (first_num ns) xs) w.in_order));
  }

  -- ---- nodes

  mutual
    node_well : (k : PlainNode) (ns : List ℕ) → AreRuns (length ps) ns → IsNodeWell k ns → IsNodeWell (spread_node ps n k) (spread_numbers ps n ns)
    node_well (inner_node l s ks) ns r w =
        let e = eff_spread ps n h s ns (stamp_within (length ps) s ns r w.stamp) in
        record {
          stamp = stamp_well s ns r w.stamp;
          ascending = subst (Ascends label_cmp) (sym (labels_spread ps n ks)) w.ascending;
          kids = subst (AreNodesWell (spread_nodes ps n ks)) (sym e) (nodes_well ks (eff s ns) (runs_below (length ps) s ns r w.stamp) w.kids);
        }
    node_well (leaf_node l s xs) ns r w =
        let e = eff_spread ps n h s ns (stamp_within (length ps) s ns r w.stamp) in
        record {
          stamp = stamp_well s ns r w.stamp;
          alts = subst (AreAltsWell (map (spread_alt ps n) xs)) (sym e) (alts_well xs (eff s ns) (runs_below (length ps) s ns r w.stamp) w.alts);
        }

    nodes_well : (ks : PlainNodes) (ns : List ℕ) → AreRuns (length ps) ns → AreNodesWell ks ns → AreNodesWell (spread_nodes ps n ks) (spread_numbers ps n ns)
    nodes_well no_nodes ns r w = tt
    nodes_well (node k ks) ns r w = (node_well k ns r w.0, nodes_well ks ns r w.1)

  kid_well : (k : PlainNode) (ns : List ℕ) → IsNodeWell k ns → IsStampWell (node_stamp k) ns
  kid_well (inner_node l s ks) ns w = w.stamp
  kid_well (leaf_node l s xs) ns w = w.stamp

  kids_spread : (ks : PlainNodes) (ns : List ℕ) → AreRuns (length ps) ns → AreNodesWell ks ns → node_sets (spread_numbers ps n ns) (spread_nodes ps n ks) ≡ map (spread_numbers ps n) (node_sets ns ks)
  kids_spread no_nodes ns r w = refl
  kids_spread (node k ks) ns r w =
      let first = ap (λ s. eff s (spread_numbers ps n ns)) (stamp_spread ps n k) ∙ eff_spread ps n h (node_stamp k) ns (stamp_within (length ps) (node_stamp k) ns r (kid_well k ns w.0)) in
      let rest = kids_spread ks ns r w.1 in
      λ i. first i ∷ rest i

  kids_runs : (ks : PlainNodes) (ns : List ℕ) → AreRuns (length ps) ns → AreNodesWell ks ns → (s : List ℕ) → Has s (node_sets ns ks) → AreRuns (length ps) s
  kids_runs no_nodes ns r w s m = absurd m
  kids_runs (node k ks) ns r w s m = elim m [
    | inl e ↦ subst (AreRuns (length ps)) e (runs_below (length ps) (node_stamp k) ns r (kid_well k ns w.0))
    | inr i ↦ kids_runs ks ns r w.1 s i
  ]

  pub archive_well : (a : PlainArchive) → length ps ≡ a.n → IsArchive a → IsArchive (spread ps n a)
  archive_well a e w =
      let runs = range_with_len 1 (length ps) in
      let r = AreRuns-range (length ps) in
      let all = numbers_all ps n h in
      let kids : AreNodesWell a.kids runs = subst (λ c. AreNodesWell a.kids (range_with_len 1 c)) (sym e) w.kids in
      let parts : AreParts (node_sets runs a.kids) runs = subst (λ c. AreParts (node_sets (range_with_len 1 c) a.kids) (range_with_len 1 c)) (sym e) w.parts in
      let spread_parts = parts_spread (node_sets runs a.kids) runs r (kids_runs a.kids runs r kids) parts in
      record {
        ascending = subst (Ascends label_cmp) (sym (labels_spread ps n a.kids)) w.ascending;
        elements = elements_spread ps n a.kids w.elements;
        kids = subst (AreNodesWell (spread_nodes ps n a.kids)) all (nodes_well a.kids runs r kids);
        parts = subst (λ ns. AreParts (node_sets ns (spread_nodes ps n a.kids)) ns) all (subst (λ sets. AreParts sets (spread_numbers ps n runs)) (sym (kids_spread a.kids runs r kids)) spread_parts);
      }
