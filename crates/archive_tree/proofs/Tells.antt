-- The tests of an archive's parts tell the conditions.
use Rattle.std.proofs.Common.{◌≡◌, ◌≢◌, ◌↔◌, ◌+◌, ◌-◌, ◌≤◌, ◌==◌, ◌++◌, ℕ, suc, length, slice_get, Bool, true, false, not, ◌&&◌, ◌||◌, List, [], ◌∷◌, map, Some, None, IsTrue, refl, ap, sym, subst, arith, inl, inr, true≢false}
use Rattle.std.specs.Prelude.{nat_le}
use Rattle.std.specs.List.{AllByRecursion, list_any, list_all, range_with_len}
use Rattle.std.specs.Ordering.{nat_cmp, is_eq}
use Rattle.std.proofs.lemmas.Cmp.{nat_list_cmp_total}
use Rattle.std.proofs.lemmas.Map.Lookups.{exact_bytes}
use Rattle.std.proofs.lemmas.Bool.Decides.{nat_tests}
use Rattle.jsonml_tree.specs.Laws.{is_eq_exact}
use Rattle.version_set.specs.Pairs.{IsFrom, IsCanonical}
use Rattle.version_set.specs.Members.{members, has, AscendsFrom}
use Rattle.version_set.specs.View.{pairs_of}
use Rattle.version_set.specs.declared.set.VersionSet.{VersionSet}
use Rattle.keyed_tree.specs.Data.{PlainKey, PlainLabel}
use Rattle.keyed_tree.specs.Laws.{key_cmp-is_eq}
use Rattle.keyed_tree.specs.Lists.{Ascends, Has}
use Rattle.keyed_tree.specs.Order.{key_cmp, label_cmp}
use Rattle.keyed_tree.specs.Proper.{is_tag}
use Rattle.jsonml_tree.proofs.Lists.{all_has, has_all}
use Rattle.keyed_tree.proofs.Kids.{both}
use Rattle.archive_tree.specs.Data.{Stamp, eff, PlainAlt, PlainNode, inner_node, leaf_node, PlainNodes, no_nodes, node, node_label, nodes_list, PlainArchive}
use Rattle.archive_tree.specs.Stands.{AllDiffer, head_or, first_num, bodies, labels}
use Rattle.archive_tree.specs.Parts.{IsStampWell, alt_sets, node_sets, AreAltsWell, IsNodeWell, AreNodesWell, IsArchive}
use Rattle.archive_tree.specs.PartsTest.{is_from, is_none, is_same, is_stamp_well, are_parts, are_stamps_well, do_firsts_rise, do_differ, are_alts_well, is_node_well, are_nodes_well, are_elements, is_archive}
use Rattle.archive_tree.specs.Seek.{rise}
use Rattle.archive_tree.proofs.Numbers.{has-Has, Has-has, from_ascends, ascends_from, members-ascend, range-ascend}
use Rattle.archive_tree.proofs.Histories.{all-rise, rise-all}
use Rattle.archive_tree.proofs.Counts.{and, all_tells, tells_all, parts_tell}

-- ---- tests of sets

pub is_same-exact : (ns ms : List ℕ) → IsTrue (is_same ns ms) ↔ (ns ≡ ms)
is_same-exact = is_eq_exact nat_list_cmp_total exact_bytes

not_true : (b : Bool) → IsTrue (not b) → ¬ (IsTrue b)
not_true true h g = true≢false (sym h)
not_true false h g = true≢false (sym g)

true_not : (b : Bool) → ¬ (IsTrue b) → IsTrue (not b)
true_not true h = absurd (h refl)
true_not false h = refl

is_from-tells : (low : ℕ) (ps : List (ℕ × ℕ)) → IsTrue (is_from low ps) → IsFrom low ps
is_from-tells low [] h = tt
is_from-tells low (p ∷ ps) h =
    let two = both (nat_le low p.0 && nat_le p.0 p.1) (is_from (p.1 + 2) ps) h in
    let one = both (nat_le low p.0) (nat_le p.0 p.1) two.0 in
    (leb-le low p.0 one.0, leb-le p.0 p.1 one.1, is_from-tells (p.1 + 2) ps two.1)
  where
    leb-le : (m n : ℕ) → IsTrue (nat_le m n) → m ≤ n
    leb-le m n h = grind (arith, nat_tests)

pub from-is_from : (low : ℕ) (ps : List (ℕ × ℕ)) → IsFrom low ps → IsTrue (is_from low ps)
from-is_from low [] h = refl
from-is_from low (p ∷ ps) h = and (nat_le low p.0 && nat_le p.0 p.1) (is_from (p.1 + 2) ps) (and (nat_le low p.0) (nat_le p.0 p.1) (le-leb low p.0 h.0) (le-leb p.0 p.1 h.1)) (from-is_from (p.1 + 2) ps h.2)
  where
    le-leb : (m n : ℕ) → m ≤ n → IsTrue (nat_le m n)
    le-leb m n h = grind (arith, nat_tests)

none_not : (ns : List ℕ) → ns ≢ [] → IsTrue (not (is_none ns))
none_not [] h = absurd (h refl)
none_not (n ∷ ns) h = refl

not_none : (ns : List ℕ) → IsTrue (not (is_none ns)) → ns ≢ []
not_none [] h e = true≢false (sym h)
not_none (n ∷ ns) h e = cc

pub any_tells : {X : Type 0} (p : X → Bool) (xs : List X) → IsTrue (list_any p xs) → (x : X) × (Has x xs × IsTrue (p x))
any_tells p [] h = absurd (true≢false (sym h))
any_tells p (x ∷ xs) h =
    elim (p x) as (λ b. p x ≡ b → IsTrue (b || list_any p xs) → (y : _) × (Has y (x ∷ xs) × IsTrue (p y))) [
      | true ↦ λ e g. (x, (inl refl, e))
      | false ↦ λ e g. (let rest = any_tells p xs g in (rest.0, (inr rest.1.0, rest.1.1)))
    ] refl h

pub tells_any : {X : Type 0} (p : X → Bool) (xs : List X) (x : X) → Has x xs → IsTrue (p x) → IsTrue (list_any p xs)
tells_any p [] x m h = absurd m
tells_any p (y ∷ ys) x m h =
    elim m [
      | inl e ↦ (let d = subst (λ z. IsTrue (p z)) (sym e) h in rw d refl)
      | inr k ↦ (let rest = tells_any p ys x k h in elim (p y) as (λ b. IsTrue (b || list_any p ys)) [ true ↦ refl | false ↦ rest ])
    ]

pub stamp_tells : (s : Stamp) (ps : List ℕ) → IsTrue (is_stamp_well s ps) ↔ IsStampWell s ps
stamp_tells None ps = (
  λ h. record { some = not_none ps h; within = λ n m. m; differs = λ i. absurd (true≢false (sym i)); canonical = λ t e. cc },
  λ h. none_not ps h.some,
)
stamp_tells (Some s) ps =
    let same = is_same-exact (members s) ps in (
      λ h. (
          let three = both (is_from 1 s && not (is_none (members s)) && not (is_same (members s) ps)) (list_all (has ps) (members s)) h in
          let two = both (is_from 1 s && not (is_none (members s))) (not (is_same (members s) ps)) three.0 in
          let one = both (is_from 1 s) (not (is_none (members s))) two.0 in
          record {
            some = not_none (members s) one.1;
            within = λ n m. has-Has ps n (all_tells (has ps) (members s) three.1 n m);
            differs = λ i e. not_true (is_same (members s) ps) two.1 (same.1 e);
            canonical = λ t e. subst IsCanonical (some_same s t e) (is_from-tells 1 s one.0);
          }),
      λ h. and (is_from 1 s && not (is_none (members s)) && not (is_same (members s) ps)) (list_all (has ps) (members s))
          (and (is_from 1 s && not (is_none (members s))) (not (is_same (members s) ps))
          (and (is_from 1 s) (not (is_none (members s))) (from-is_from 1 s (h.canonical s refl)) (none_not (members s) h.some))
          (true_not (is_same (members s) ps) (λ g. h.differs refl (same.0 g))))
          (tells_all (has ps) (members s) (λ n m. Has-has ps n (h.within n m))),
    )
  where
    some_same : (a b : List (ℕ × ℕ)) → Some a ≡ Some b → a ≡ b
    some_same a b d = cc

-- ---- alternatives

stamps_tell : (ns : List ℕ) (xs : List PlainAlt) → IsTrue (are_stamps_well ns xs) ↔ AllByRecursion (λ a. IsStampWell a.stamp ns) xs
stamps_tell ns [] = (λ h. tt, λ h. refl)
stamps_tell ns (x ∷ xs) =
    let first = stamp_tells x.stamp ns in
    let rest = stamps_tell ns xs in (
      λ h. (let two = both (is_stamp_well x.stamp ns) (are_stamps_well ns xs) h in (first.0 two.0, rest.0 two.1)),
      λ h. and (is_stamp_well x.stamp ns) (are_stamps_well ns xs) (first.1 h.0) (rest.1 h.1),
    )

le_tells : (m n : ℕ) → IsTrue (nat_le m n) → m ≤ n
le_tells m n h = grind (arith, nat_tests)

tells_le : (m n : ℕ) → m ≤ n → IsTrue (nat_le m n)
tells_le m n h = grind (arith, nat_tests)

firsts_from : (low : ℕ) (ns : List ℕ) (xs : List PlainAlt) → IsTrue (do_firsts_rise low ns xs) ↔ AscendsFrom low (map (first_num ns) xs)
firsts_from low ns [] = (λ h. tt, λ h. refl)
firsts_from low ns (x ∷ xs) =
    let rest = firsts_from (first_num ns x + 1) ns xs in (
      λ h. (let two = both (nat_le low (first_num ns x)) (do_firsts_rise (first_num ns x + 1) ns xs) h in (le_tells low (first_num ns x) two.0, rest.0 two.1)),
      λ h. and (nat_le low (first_num ns x)) (do_firsts_rise (first_num ns x + 1) ns xs) (tells_le low (first_num ns x) h.0) (rest.1 h.1),
    )

firsts_tell : (ns : List ℕ) (xs : List PlainAlt) → IsTrue (do_firsts_rise 0 ns xs) ↔ Ascends nat_cmp (map (first_num ns) xs)
firsts_tell ns xs = (λ h. from_ascends 0 (map (first_num ns) xs) ((firsts_from 0 ns xs).0 h), λ h. (firsts_from 0 ns xs).1 (ascends_from (map (first_num ns) xs) h))

pub differ_tell : (bs : List PlainKey) → IsTrue (do_differ bs) ↔ AllDiffer bs
differ_tell [] = (λ h. tt, λ h. refl)
differ_tell (b ∷ bs) =
    let rest = differ_tell bs in (
      λ h. (
          let two = both (not (list_any (λ d. is_eq (key_cmp b d)) bs)) (do_differ bs) h in
          (has_all (λ d. b ≢ d) bs (λ d m e. not_true (list_any (λ d. is_eq (key_cmp b d)) bs) two.0 (tells_any (λ d. is_eq (key_cmp b d)) bs d m ((key_cmp-is_eq b d).1 e))), rest.0 two.1)),
      λ h. and (not (list_any (λ d. is_eq (key_cmp b d)) bs)) (do_differ bs)
          (true_not (list_any (λ d. is_eq (key_cmp b d)) bs) (λ g. (let some = any_tells (λ d. is_eq (key_cmp b d)) bs g in all_has (λ d. b ≢ d) bs some.0 h.0 some.1.0 ((key_cmp-is_eq b some.0).0 some.1.1))))
          (rest.1 h.1),
    )

eff_ascends : (s : Stamp) (ns : List ℕ) → Ascends nat_cmp ns → IsStampWell s ns → Ascends nat_cmp (eff s ns)
eff_ascends None ns asc h = asc
eff_ascends (Some t) ns asc h = members-ascend t (h.canonical t refl)

alts_tell : (ns : List ℕ) (xs : List PlainAlt) → Ascends nat_cmp ns → IsTrue (are_alts_well ns xs) ↔ AreAltsWell xs ns
alts_tell ns xs asc =
    let s = are_stamps_well ns xs in
    let f = do_firsts_rise 0 ns xs in
    let p = are_parts ns (alt_sets ns xs) in
    let d = do_differ (bodies xs) in (
      λ h. (
          let three = both (s && f && p) d h in
          let two = both (s && f) p three.0 in
          let one = both s f two.0 in
          let stamps = (stamps_tell ns xs).0 one.0 in
          record { stamps = stamps; parts = (parts_tell ns (alt_sets ns xs)).0 two.1; different = (differ_tell (bodies xs)).0 three.1; in_order = (firsts_tell ns xs).0 one.1 }),
      λ h. and (s && f && p) d (and (s && f) p (and s f ((stamps_tell ns xs).1 h.stamps) ((firsts_tell ns xs).1 h.in_order))
          ((parts_tell ns (alt_sets ns xs)).1 h.parts)) ((differ_tell (bodies xs)).1 h.different),
    )

-- ---- nodes

rise_tells : (ls : List PlainLabel) → IsTrue (rise ls) ↔ Ascends label_cmp ls
rise_tells ls = (rise-all ls, all-rise ls)

mutual
  node_tells : (k : PlainNode) (ps : List ℕ) → Ascends nat_cmp ps → IsTrue (is_node_well k ps) ↔ IsNodeWell k ps
  node_tells (inner_node l s ks) ps asc = (
    λ h. (
        let two = both (is_stamp_well s ps && rise (labels ks)) (are_nodes_well ks (eff s ps)) h in
        let one = both (is_stamp_well s ps) (rise (labels ks)) two.0 in
        let stamp = (stamp_tells s ps).0 one.0 in
        record { stamp = stamp; ascending = (rise_tells (labels ks)).0 one.1; kids = (nodes_tell ks (eff s ps) (eff_ascends s ps asc stamp)).0 two.1 }),
    λ h. and (is_stamp_well s ps && rise (labels ks)) (are_nodes_well ks (eff s ps)) (and (is_stamp_well s ps) (rise (labels ks)) ((stamp_tells s ps).1 h.stamp) ((rise_tells (labels ks)).1 h.ascending))
        ((nodes_tell ks (eff s ps) (eff_ascends s ps asc h.stamp)).1 h.kids),
  )
  node_tells (leaf_node l s xs) ps asc = (
    λ h. (
        let two = both (is_stamp_well s ps) (are_alts_well (eff s ps) xs) h in
        let stamp = (stamp_tells s ps).0 two.0 in
        record { stamp = stamp; alts = (alts_tell (eff s ps) xs (eff_ascends s ps asc stamp)).0 two.1 }),
    λ h. and (is_stamp_well s ps) (are_alts_well (eff s ps) xs) ((stamp_tells s ps).1 h.stamp) ((alts_tell (eff s ps) xs (eff_ascends s ps asc h.stamp)).1 h.alts),
  )

  nodes_tell : (ks : PlainNodes) (ns : List ℕ) → Ascends nat_cmp ns → IsTrue (are_nodes_well ks ns) ↔ AreNodesWell ks ns
  nodes_tell no_nodes ns asc = (λ h. tt, λ h. refl)
  nodes_tell (node k ks) ns asc = (
    λ h. (let two = both (is_node_well k ns) (are_nodes_well ks ns) h in ((node_tells k ns asc).0 two.0, (nodes_tell ks ns asc).0 two.1)),
    λ h. and (is_node_well k ns) (are_nodes_well ks ns) ((node_tells k ns asc).1 h.0) ((nodes_tell ks ns asc).1 h.1),
  )

elements_tell : (ks : PlainNodes) → IsTrue (are_elements ks) ↔ AllByRecursion (λ k. IsTrue (is_tag (node_label k).name)) (nodes_list ks)
elements_tell no_nodes = (λ h. tt, λ h. refl)
elements_tell (node k ks) =
    let rest = elements_tell ks in (
      λ h. (let two = both (is_tag (node_label k).name) (are_elements ks) h in (two.0, rest.0 two.1)),
      λ h. and (is_tag (node_label k).name) (are_elements ks) h.0 (rest.1 h.1),
    )

pub archive_tells : (a : PlainArchive) → IsTrue (is_archive a) ↔ IsArchive a
archive_tells a =
    let ns = range_with_len 1 a.n in
    let asc = range-ascend 1 a.n in
    let r = rise (labels a.kids) in
    let e = are_elements a.kids in
    let w = are_nodes_well a.kids ns in
    let p = are_parts ns (node_sets ns a.kids) in (
      λ h. (
          let three = both (r && e && w) p h in
          let two = both (r && e) w three.0 in
          let one = both r e two.0 in
          let kids = (nodes_tell a.kids ns asc).0 two.1 in
          record { ascending = (rise_tells (labels a.kids)).0 one.0; elements = (elements_tell a.kids).0 one.1; kids = kids; parts = (parts_tell ns (node_sets ns a.kids)).0 three.1 }),
      λ h. and (r && e && w) p (and (r && e) w (and r e ((rise_tells (labels a.kids)).1 h.ascending) ((elements_tell a.kids).1 h.elements)) ((nodes_tell a.kids ns asc).1 h.kids))
          ((parts_tell ns (node_sets ns a.kids)).1 h.parts),
    )

-- ---- what the calls on sets tell

pub bools : (a b : Bool) → (IsTrue a → IsTrue b) → (IsTrue b → IsTrue a) → a ≡ b
bools true true h g = refl
bools true false h g = sym (h refl)
bools false true h g = g refl
bools false false h g = refl

-- the first number of intervals
pub first_member : (p : ℕ × ℕ) (ps : List (ℕ × ℕ)) → p.0 ≤ p.1 → members (p ∷ ps) ≡ p.0 ∷ (range_with_len (p.0 + 1) (p.1 - p.0) ++ members ps)
first_member p ps h = (let e : p.1 + 1 - p.0 ≡ suc (p.1 - p.0) = omega arith in rw e refl)

pub is_none-members : (ps : List (ℕ × ℕ)) → IsCanonical ps → is_none (members ps) ≡ (length ps == 0)
is_none-members [] h = refl
is_none-members (p ∷ ps) h = (let e = first_member p ps h.1 in let more : (suc (length ps) == 0) ≡ false = grind (arith, nat_tests) in rw (e, more) refl)

pub head-members : (p : ℕ × ℕ) (ps : List (ℕ × ℕ)) (d : ℕ × ℕ) → IsCanonical ps → slice_get ps 0 ≡ Some p → head_or 0 (members ps) ≡ p.0
head-members p [] d h e = cc
head-members p (q ∷ qs) d h e = (let first = first_member q qs h.1 in let same : q ≡ p = cc in rw first (ap (λ (z : ℕ × ℕ). z.0) same))

-- the intervals of a set are canonical
pub canonical_set : (s : VersionSet) → is_from 1 (pairs_of s) ≡ true
canonical_set s = from-is_from 1 (pairs_of s) s.canonical

pub ruleset canonical = (canonical_set)
