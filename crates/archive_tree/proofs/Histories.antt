-- The way down an archive leads to the versions that hold the path.
use Rattle.std.proofs.Common.{◌≡◌, ◌≢◌, ◌↔◌, ◌+◌, ◌<◌, length, drop, get_or, ℕ, Bool, true, false, ◌&&◌, cond, IsTrue, List, [], ◌∷◌, map, Option, Some, None, is_some, refl, ap, sym, subst, ◌∙◌, inl, inr, true≢false}
use Rattle.std.proofs.lemmas.List.{drop_more}
use Rattle.std.specs.List.{AllByRecursion, list_any}
use Rattle.std.specs.Option.{option_and_then}
use Rattle.std.specs.Ordering.{is_eq, is_lt}
use Rattle.std.specs.declared.cmp.Ordering.TheVariants.{Less}
use Rattle.std.proofs.lemmas.List.Folds.{Any-from_list_any, list_any-from_Any}
use Rattle.keyed_tree.specs.Alike.{IsLeaf}
use Rattle.keyed_tree.specs.Data.{PlainLabel, PlainKeyed, inner, leaf, label_of, kids_of}
use Rattle.keyed_tree.specs.Kids.{IsOrdered, kid_at}
use Rattle.keyed_tree.specs.Holds.{Holds}
use Rattle.keyed_tree.specs.Laws.{label_cmp_total, label_cmp-is_eq}
use Rattle.keyed_tree.specs.Lists.{Ascends, Has}
use Rattle.keyed_tree.specs.Order.{label_cmp}
use Rattle.keyed_tree.specs.Paths.{node_at}
use Rattle.jsonml_tree.proofs.Lists.{any_has, has_any}
use Rattle.keyed_tree.proofs.Kids.{both, is_lt-Less}
use Rattle.keyed_tree.proofs.KidsKeep.{holds_at}
use Rattle.archive_tree.specs.Data.{eff, PlainNode, inner_node, leaf_node, PlainNodes, no_nodes, node, node_label, node_stamp, node_kids, nodes_list, nodes_from, PlainArchive}
use Rattle.archive_tree.specs.Stands.{nums, those, passed, under, rooted, numbered, labels, RowStands, StandsFor, EachStands, ArchiveOf}
use Rattle.archive_tree.specs.History.{held, hist}
use Rattle.archive_tree.specs.Seek.{node_with, enter, seek, rise_from, rise, is_sorted, are_sorted, AreRowsSorted}
use Rattle.archive_tree.proofs.Parts.{each_has, stands_nums, nodes_list-nodes_from}
use Rattle.archive_tree.proofs.Those.{onto, labelled, orderly_numbered}
use Rattle.archive_tree.proofs.Readings.{all_numbers, numbers}

-- ---- the two ways to say that a tree holds a path

pub held_Holds : (path : List PlainLabel) (k : PlainKeyed) → IsTrue (held path k) ↔ Holds path k
held_Holds [] k = (λ h. tt, λ h. refl)
held_Holds (l ∷ []) k = label_cmp-is_eq (label_of k) l
held_Holds (l ∷ m ∷ ls) k =
    let same = label_cmp-is_eq (label_of k) l in (
      λ h. (let two = both (is_eq (label_cmp (label_of k) l)) (list_any (held (m ∷ ls)) (kids_of k)) h in
          let some = any_has (λ c. held (m ∷ ls) c ≡ true) (kids_of k) (Any-from_list_any (held (m ∷ ls)) (kids_of k) two.1) in
          (same.0 two.0, has_any (Holds (m ∷ ls)) (kids_of k) some.0 some.1.0 ((held_Holds (m ∷ ls) some.0).0 some.1.1))),
      λ h. (let some = any_has (Holds (m ∷ ls)) (kids_of k) h.1 in
          let first : is_eq (label_cmp (label_of k) l) ≡ true = same.1 h.0 in
          rw first (list_any-from_Any (held (m ∷ ls)) (kids_of k) (has_any (λ c. held (m ∷ ls) c ≡ true) (kids_of k) some.0 some.1.0 ((held_Holds (m ∷ ls) some.0).1 some.1.1)))),
    )

bools : (a b : Bool) → (IsTrue a → IsTrue b) → (IsTrue b → IsTrue a) → a ≡ b
bools true true h g = refl
bools true false h g = sym (h refl)
bools false true h g = g refl
bools false false h g = refl

held-node_at : (l : PlainLabel) (ls : List PlainLabel) (k : PlainKeyed) → IsOrdered k → held (l ∷ ls) k ≡ (labelled l k && is_some (node_at ls k))
held-node_at l ls k o =
    let law = holds_at l ls k o in
    let test = held_Holds (l ∷ ls) k in
    bools (held (l ∷ ls) k) (labelled l k && is_some (node_at ls k)) (λ h. law.1 (test.0 h)) (λ h. test.1 (law.0 h))

-- ---- picked twice

those-those : (f g : PlainKeyed → Option PlainKeyed) (ws : List (ℕ × PlainKeyed)) → those g (those f ws) ≡ those (λ k. option_and_then g (f k)) ws
those-those f g [] = refl
those-those f g (w ∷ ws) =
    let rest = those-those f g ws in
    elim (f w.1) as (λ o. those g (onto w.0 o (those f ws)) ≡ onto w.0 (option_and_then g o) (those (λ k. option_and_then g (f k)) ws)) [
      | None ↦ rest
      | Some k ↦ ap (λ z. onto w.0 (g k) z) rest
    ]

-- what is picked has the numbers of what another picks of the same trees
nums-those : (f g : PlainKeyed → Option PlainKeyed) (ws : List (ℕ × PlainKeyed)) → AllByRecursion (λ w. is_some (f w.1) ≡ is_some (g w.1)) ws → nums (those f ws) ≡ nums (those g ws)
nums-those f g [] h = refl
nums-those f g (w ∷ ws) h = step (f w.1) (g w.1) (nums-those f g ws h.1) h.0
  where
    step : (o p : Option PlainKeyed) → nums (those f ws) ≡ nums (those g ws) → is_some o ≡ is_some p → nums (onto w.0 o (those f ws)) ≡ nums (onto w.0 p (those g ws))
    step None None e d = e
    step None (Some y) e d = absurd (true≢false (sym d))
    step (Some x) None e d = absurd (true≢false d)
    step (Some x) (Some y) e d = ap (λ z. w.0 ∷ z) e

those-none : (f : PlainKeyed → Option PlainKeyed) (ws : List (ℕ × PlainKeyed)) → AllByRecursion (λ w. f w.1 ≡ None) ws → those f ws ≡ []
those-none f [] h = refl
those-none f (w ∷ ws) h = (let e = h.0 in rw e (those-none f ws h.1))

those-Some : (ws : List (ℕ × PlainKeyed)) → those (λ k. Some k) ws ≡ ws
those-Some [] = refl
those-Some (w ∷ ws) = ap (λ z. w ∷ z) (those-Some ws)

-- ---- down a row

-- the node with a label, and that there is none
pub node_has : (l : PlainLabel) (c : PlainNode) (ks : List PlainNode) → node_with l ks ≡ Some c → Has c ks × (node_label c ≡ l)
node_has l c [] e = cc
node_has l c (k ∷ ks) e =
    elim (is_eq (label_cmp (node_label k) l)) as (λ b. is_eq (label_cmp (node_label k) l) ≡ b → cond b (Some k) (node_with l ks) ≡ Some c → Has c (k ∷ ks) × (node_label c ≡ l)) [
      | true ↦ λ t d. (let same : k ≡ c = some_same k c d in (inl same, subst (λ z. node_label z ≡ l) same ((label_cmp-is_eq (node_label k) l).0 t)))
      | false ↦ λ t d. (let rest = node_has l c ks d in (inr rest.0, rest.1))
    ] refl e
  where
    some_same : (a b : PlainNode) → Some a ≡ Some b → a ≡ b
    some_same a b d = cc

pub no_node : (l : PlainLabel) (ks : List PlainNode) → node_with l ks ≡ None → ¬ (Has l (map node_label ks))
no_node l [] e m = m
no_node l (k ∷ ks) e m =
    elim (is_eq (label_cmp (node_label k) l)) as (λ b. is_eq (label_cmp (node_label k) l) ≡ b → cond b (Some k) (node_with l ks) ≡ None → ⊥) [
      | true ↦ λ t f. cc
      | false ↦ λ t f. elim m [
        | inl g ↦ true≢false (sym ((label_cmp-is_eq (node_label k) l).1 g) ∙ t)
        | inr n ↦ no_node l ks f n
      ]
    ] refl e

empty_list : {X : Type 0} (xs : List X) → ¬ (xs ≢ []) → xs ≡ []
empty_list [] h = refl
empty_list (x ∷ xs) h = absurd (h (λ e. cc))

no_kid : (m : PlainLabel) (ls : List PlainLabel) (ws : List (ℕ × PlainKeyed)) → AllByRecursion (λ w. IsLeaf w.1) ws → AllByRecursion (λ w. node_at (m ∷ ls) w.1 ≡ None) ws
no_kid m ls [] h = tt
no_kid m ls (w ∷ ws) h = (leaf_none w.1 h.0, no_kid m ls ws h.1)
  where
    leaf_none : (k : PlainKeyed) → IsLeaf k → node_at (m ∷ ls) k ≡ None
    leaf_none (inner l ks) g = absurd g
    leaf_none (leaf l b) g = refl

abbrev pub Row : PlainNodes → (PlainLabel → List (ℕ × PlainKeyed)) → List ℕ → Type 0
Row ks u ns = RowStands ks u (EachStands ks u ns)

-- what a rest of a path leads to below a node
abbrev LeadsTo : List PlainLabel → Type 0
LeadsTo ls = (k : PlainNode) (ws : List (ℕ × PlainKeyed)) (ps : List ℕ) → StandsFor k ws ps → seek ls (eff (node_stamp k) ps) (node_kids k) ≡ nums (those (node_at ls) ws)

-- a path that begins with a label leads to the numbers whose trees have a node there
seek_row : (ls : List PlainLabel) (l : PlainLabel) (ks : PlainNodes) (u : PlainLabel → List (ℕ × PlainKeyed)) (ns : List ℕ) → LeadsTo ls → Row ks u ns → seek (l ∷ ls) ns ks ≡ nums (those (node_at ls) (u l))
seek_row ls l ks u ns below h =
    elim (node_with l (nodes_list ks)) as (λ o. node_with l (nodes_list ks) ≡ o → enter (seek ls) ns o ≡ nums (those (node_at ls) (u l))) [
      | None ↦ λ e. (let none : u l ≡ [] = empty_list (u l) (λ s. no_node l (nodes_list ks) e (h.covered l s)) in rw none refl)
      | Some k ↦ λ e. (let found = node_has l k (nodes_list ks) e in below k (u l) ns (subst (λ z. StandsFor k (u z) ns) found.1 (each_has ks u ns k h.kids found.0)))
    ] refl

seek_node : (ls : List PlainLabel) → LeadsTo ls
seek_node [] k ws ps h = stands_nums k ws ps h ∙ ap nums (sym (those-Some ws))
seek_node (m ∷ ls) (inner_node l s ks) ws ps h =
    let set : eff s ps ≡ nums ws = h.common.stamped.effective in
    rw set (seek_row ls m ks (under ws) (nums ws) (seek_node ls) h.row ∙ ap nums (those-those (λ k. kid_at m (kids_of k)) (node_at ls) ws))
seek_node (m ∷ ls) (leaf_node l s xs) ws ps h = ap nums (sym (those-none (node_at (m ∷ ls)) ws (no_kid m ls ws h.leaves)))

is_some-passed : (p : PlainKeyed → Bool) (k : PlainKeyed) → is_some (passed p k) ≡ p k
is_some-passed p k = elim (p k) as (λ b. is_some (cond b (Some k) None) ≡ b) [ true ↦ refl | false ↦ refl ]

root_test : (l : PlainLabel) (ls : List PlainLabel) (k : PlainKeyed) → is_some (option_and_then (node_at ls) (passed (labelled l) k)) ≡ (labelled l k && is_some (node_at ls k))
root_test l ls k = elim (labelled l k) as (λ b. is_some (option_and_then (node_at ls) (cond b (Some k) None)) ≡ (b && is_some (node_at ls k))) [ true ↦ refl | false ↦ refl ]

root_tests : (l : PlainLabel) (ls : List PlainLabel) (ws : List (ℕ × PlainKeyed)) → AllByRecursion (λ w. IsOrdered w.1) ws
    → AllByRecursion (λ w. is_some (option_and_then (node_at ls) (passed (labelled l) w.1)) ≡ is_some (passed (held (l ∷ ls)) w.1)) ws
root_tests l ls [] h = tt
root_tests l ls (w ∷ ws) h = (root_test l ls w.1 ∙ sym (held-node_at l ls w.1 h.0) ∙ sym (is_some-passed (held (l ∷ ls)) w.1), root_tests l ls ws h.1)

-- the way down from the virtual root gives the versions that hold the path
pub seek_hist : (vs : List PlainKeyed) (a : PlainArchive) (path : List PlainLabel) → ArchiveOf vs a → seek path (all_numbers a) a.kids ≡ hist vs path
seek_hist vs a [] h = sym (numbers vs a h) ∙ ap nums (sym (those-Some (numbered vs)))
seek_hist vs a (l ∷ ls) h =
    let row : Row a.kids (rooted (numbered vs)) (all_numbers a) = subst (λ z. Row a.kids (rooted (numbered vs)) z) (numbers vs a h) h.row in
    seek_row ls l a.kids (rooted (numbered vs)) (all_numbers a) (seek_node ls) row
    ∙ ap nums (those-those (passed (labelled l)) (node_at ls) (numbered vs))
    ∙ nums-those _ (passed (held (l ∷ ls))) (numbered vs) (root_tests l ls (numbered vs) (orderly_numbered vs h.ordered).ordered)

-- ---- rows that ascend

pub rise_from-all : (l : PlainLabel) (ms : List PlainLabel) → AllByRecursion (λ m. label_cmp l m ≡ Less) ms → Ascends label_cmp ms → IsTrue (rise_from l ms)
rise_from-all l [] h g = refl
rise_from-all l (m ∷ ms) h g = (let e = h.0 in rw e (rise_from-all m ms g.0 g.1))

pub all-rise : (ls : List PlainLabel) → Ascends label_cmp ls → IsTrue (rise ls)
all-rise [] h = refl
all-rise (l ∷ ls) h = rise_from-all l ls h.0 h.1

lower : (l m : PlainLabel) (ns : List PlainLabel) → label_cmp l m ≡ Less → AllByRecursion (λ n. label_cmp m n ≡ Less) ns → AllByRecursion (λ n. label_cmp l n ≡ Less) ns
lower l m [] e h = tt
lower l m (n ∷ ns) e h = (label_cmp_total.trans l m n e h.0, lower l m ns e h.1)

all-rise_from : (l : PlainLabel) (ms : List PlainLabel) → IsTrue (rise_from l ms) → AllByRecursion (λ m. label_cmp l m ≡ Less) ms × Ascends label_cmp ms
all-rise_from l [] h = (tt, tt)
all-rise_from l (m ∷ ms) h =
    let two = both (is_lt (label_cmp l m)) (rise_from m ms) h in
    let next = is_lt-Less (label_cmp l m) two.0 in
    let rest = all-rise_from m ms two.1 in
    ((next, lower l m ms next rest.0), rest)

pub rise-all : (ls : List PlainLabel) → IsTrue (rise ls) → Ascends label_cmp ls
rise-all [] h = tt
rise-all (l ∷ ls) h = all-rise_from l ls h

mutual
  stands_sorted : (k : PlainNode) (ws : List (ℕ × PlainKeyed)) (ps : List ℕ) → StandsFor k ws ps → IsTrue (is_sorted k)
  stands_sorted (inner_node l s ks) ws ps h = (let e = all-rise (labels ks) h.row.ascending in rw e (each_sorted ks (under ws) (nums ws) h.row.kids))
  stands_sorted (leaf_node l s xs) ws ps h = refl

  each_sorted : (ks : PlainNodes) (u : PlainLabel → List (ℕ × PlainKeyed)) (ns : List ℕ) → EachStands ks u ns → IsTrue (are_sorted ks)
  each_sorted no_nodes u ns h = refl
  each_sorted (node k ks) u ns h = (let e = stands_sorted k (u (node_label k)) ns h.0 in rw e (each_sorted ks u ns h.1))

pub archive_sorted : (vs : List PlainKeyed) (a : PlainArchive) → ArchiveOf vs a → AreRowsSorted a.kids
archive_sorted vs a h = (let e = all-rise (labels a.kids) h.row.ascending in rw e (each_sorted a.kids (rooted (numbered vs)) (nums (numbered vs)) h.row.kids))

are_sorted-has : (ks : PlainNodes) (k : PlainNode) → IsTrue (are_sorted ks) → Has k (nodes_list ks) → IsTrue (is_sorted k)
are_sorted-has no_nodes k h m = absurd m
are_sorted-has (node j ks) k h m =
    let two = both (is_sorted j) (are_sorted ks) h in
    elim m [ inl e ↦ subst (λ z. IsTrue (is_sorted z)) e two.0 | inr n ↦ are_sorted-has ks k two.1 n ]

-- the rows below a node of a sorted row are sorted
pub kids_sorted : (l : PlainLabel) (ks : PlainNodes) (k : PlainNode) → AreRowsSorted ks → node_with l (nodes_list ks) ≡ Some k → AreRowsSorted (node_kids k)
kids_sorted l ks k h e = below k (are_sorted-has ks k (both (rise (labels ks)) (are_sorted ks) h).1 (node_has l k (nodes_list ks) e).0)
  where
    below : (k : PlainNode) → IsTrue (is_sorted k) → AreRowsSorted (node_kids k)
    below (inner_node m s js) g = g
    below (leaf_node m s xs) g = refl

-- ---- one step of the way down, by a path in a slice

pub follow_none : {X : Type 0} (view : X → PlainLabel) (path : List X) (i : ℕ) (x : X) (ps : List ℕ) (ks : List PlainNode) → i < length path → x ≡ get_or path i x → None ≡ node_with (view x) ks
    → seek (map view (drop i path)) ps (nodes_from ks) ≡ []
follow_none view path i x ps ks low e none =
    let first : drop i path ≡ x ∷ drop (i + 1) path = drop_more path i x low ∙ ap (λ y. y ∷ drop (i + 1) path) (sym e) in
    let there : node_with (view x) (nodes_list (nodes_from ks)) ≡ None = ap (node_with (view x)) (nodes_list-nodes_from ks) ∙ sym none in
    rw first (rw there refl)

pub follow_some : {X : Type 0} (view : X → PlainLabel) (path : List X) (i : ℕ) (x : X) (ps : List ℕ) (ks : List PlainNode) (k : PlainNode) → i < length path → x ≡ get_or path i x → Some k ≡ node_with (view x) ks
    → seek (map view (drop i path)) ps (nodes_from ks) ≡ seek (map view (drop (i + 1) path)) (eff (node_stamp k) ps) (node_kids k)
follow_some view path i x ps ks k low e some =
    let first : drop i path ≡ x ∷ drop (i + 1) path = drop_more path i x low ∙ ap (λ y. y ∷ drop (i + 1) path) (sym e) in
    let there : node_with (view x) (nodes_list (nodes_from ks)) ≡ Some k = ap (node_with (view x)) (nodes_list-nodes_from ks) ∙ sym some in
    rw first (rw there refl)

pub follow_sorted : (l : PlainLabel) (ks : List PlainNode) (k : PlainNode) → AreRowsSorted (nodes_from ks) → Some k ≡ node_with l ks → AreRowsSorted (node_kids k)
follow_sorted l ks k h some = kids_sorted l (nodes_from ks) k h (ap (node_with l) (nodes_list-nodes_from ks) ∙ sym some)
