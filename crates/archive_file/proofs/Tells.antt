-- What holds at every number of a node: tests of a node that tell what a test of each of its readings tells.
use Rattle.std.proofs.Common.{◌≡◌, ◌≢◌, ◌↔◌, ℕ, Bool, true, false, cond, ◌&&◌, true≢false, List, [], ◌∷◌, Option, Some, None, refl, ap, sym, subst, ◌∙◌, inl, inr}
use Rattle.std.specs.Prelude.{is_none}
use Rattle.std.proofs.lemmas.Bool.{and_parts, and_from}
use Rattle.std.specs.Cmp.Lexicographic.{pointwise}
use Rattle.std.specs.List.{list_all}
use Rattle.std.specs.Ordering.{nat_cmp}
use Rattle.version_set.specs.Members.{has}
use Rattle.keyed_tree.specs.Data.{PlainKey, PlainLabel, PlainKeyed, label_of, kids_list}
use Rattle.keyed_tree.specs.Kids.{kid_at}
use Rattle.keyed_tree.specs.Laws.{label_cmp_total}
use Rattle.keyed_tree.specs.Lists.{Ascends, Has}
use Rattle.keyed_tree.specs.Order.{label_cmp}
use Rattle.jsonml_tree.proofs.Lists.{all_has, has_map, source}
use Rattle.keyed_tree.proofs.Kids.{found_at, has_found}
use Rattle.archive_tree.specs.Data.{Stamp, eff, PlainAlt, PlainNode, inner_node, leaf_node, PlainNodes, no_nodes, node, node_label, node_stamp, nodes_list}
use Rattle.archive_tree.specs.Parts.{IsStampWell, AreAltsWell, IsNodeWell, AreNodesWell}
use Rattle.archive_tree.specs.Read.{body_at, read, read_row}
use Rattle.archive_tree.specs.Seek.{node_with}
use Rattle.archive_tree.specs.Stands.{labels}
use Rattle.archive_tree.proofs.Histories.{node_has, no_node}
use Rattle.archive_tree.proofs.Numbers.{has-Has, Has-has, members-ascend, same_numbers}
use Rattle.archive_tree.proofs.Readings.{read_label, read_ascends, in_row, origin}
use Rattle.archive_tree.proofs.Sufficient.{one_item, one_part}
use Rattle.archive_file.specs.NodeFits.{on_some, always}

-- the test passes at each of the numbers exactly where the one test passes
abbrev pub Tells : List ℕ → (ℕ → Bool) → Bool → Type 0
Tells ns b whole = ((n : ℕ) → Has n ns → b n ≡ true) ↔ (whole ≡ true)

pub first-number : (ns : List ℕ) → ns ≢ [] → (n : ℕ) × Has n ns
first-number [] h = absurd (h refl)
first-number (n ∷ ns) h = (n, inl refl)

pub tells-same : (ns : List ℕ) (b : Bool) → ns ≢ [] → Tells ns (λ n. b) b
tells-same ns b some = (let first = first-number ns some in (λ h. h first.0 first.1, λ e n m. e))

pub tells-and : (ns : List ℕ) (b c : ℕ → Bool) (b' c' : Bool) → Tells ns b b' → Tells ns c c' → Tells ns (λ n. b n && c n) (b' && c')
tells-and ns b c b' c' h g = (
  λ all. and_from b' c' (h.0 (λ n m. (and_parts (b n) (c n) (all n m)).0)) (g.0 (λ n m. (and_parts (b n) (c n) (all n m)).1)),
  λ e n m. (let two = and_parts b' c' e in and_from (b n) (c n) (h.1 two.0 n m) (g.1 two.1 n m)),
)

pub tells-as : (ns : List ℕ) (b c : ℕ → Bool) (whole : Bool) → ((n : ℕ) → Has n ns → b n ≡ c n) → Tells ns c whole → Tells ns b whole
tells-as ns b c whole same h = (λ all. h.0 (λ n m. sym (same n m) ∙ all n m), λ e n m. same n m ∙ h.1 e n m)

-- a choice that is the same at each number
pub tells-choice : (ns : List ℕ) (a : Bool) (b c : ℕ → Bool) (b' c' : Bool) → Tells ns b b' → Tells ns c c' → Tells ns (λ n. cond a (b n) (c n)) (cond a b' c')
tells-choice ns true b c b' c' h g = h
tells-choice ns false b c b' c' h g = g

-- a test that always passes says no more
pub tells-besides : (ns : List ℕ) (a b : ℕ → Bool) (whole : Bool) → ((n : ℕ) → Has n ns → a n ≡ true) → Tells ns b whole → Tells ns (λ n. a n && b n) whole
tells-besides ns a b whole passes h = tells-as ns (λ n. a n && b n) b whole (λ n m. ap (λ x. x && b n) (passes n m)) h

pub tells-pairs : {A B : Type 0} (ns : List ℕ) (f : ℕ → A → B → Bool) (g : A → B → Bool) → ns ≢ [] → ((x : A) (y : B) → Tells ns (λ n. f n x y) (g x y))
    → (xs : List A) (ys : List B) → Tells ns (λ n. pointwise (f n) xs ys) (pointwise g xs ys)
tells-pairs ns f g some each [] [] = tells-same ns true some
tells-pairs ns f g some each [] (y ∷ ys) = tells-same ns false some
tells-pairs ns f g some each (x ∷ xs) [] = tells-same ns false some
tells-pairs ns f g some each (x ∷ xs) (y ∷ ys) = tells-and ns (λ n. f n x y) (λ n. pointwise (f n) xs ys) (g x y) (pointwise g xs ys) (each x y) (tells-pairs ns f g some each xs ys)

-- ---- the numbers of a node

pub eff-ascends : (s : Stamp) (ps : List ℕ) → Ascends nat_cmp ps → IsStampWell s ps → Ascends nat_cmp (eff s ps)
eff-ascends None ps up h = up
eff-ascends (Some t) ps up h = members-ascend t (h.canonical t refl)

pub stamp-of : (k : PlainNode) (ps : List ℕ) → IsNodeWell k ps → IsStampWell (node_stamp k) ps
stamp-of (inner_node l s ks) ps h = h.stamp
stamp-of (leaf_node l s xs) ps h = h.stamp

pub well-has : (ks : PlainNodes) (ns : List ℕ) (c : PlainNode) → AreNodesWell ks ns → Has c (nodes_list ks) → IsNodeWell c ns
well-has no_nodes ns c h m = absurd m
well-has (node k ks) ns c h m = elim m [ inl e ↦ subst (λ z. IsNodeWell z ns) e h.0 | inr i ↦ well-has ks ns c h.1 i ]

-- no set is stored where the node has all numbers of its parent
not-stored : (s : Stamp) (ps : List ℕ) → Ascends nat_cmp ps → IsStampWell s ps → ((n : ℕ) → Has n ps → Has n (eff s ps)) → is_none s ≡ true
not-stored None ps up h all = refl
not-stored (Some t) ps up h all = absurd (h.differs refl (same_numbers (eff (Some t) ps) ps (eff-ascends (Some t) ps up h) up h.within all))

all-stored : (s : Stamp) (ps : List ℕ) → is_none s ≡ true → eff s ps ≡ ps
all-stored None ps e = refl
all-stored (Some t) ps e = absurd (true≢false (sym e))

-- a node that has only some of the numbers, and a test of the rest
pub tells-part : (ns ms : List ℕ) (b c : ℕ → Bool) (b' c' : Bool) → ((n : ℕ) → Has n ms → Has n ns) → Tells ms b b' → Tells ns c c' → Tells ns (λ n. cond (has ms n) (b n && c n) (c n)) (b' && c')
tells-part ns ms b c b' c' within h g = (
  λ all. and_from b' c'
      (h.0 (λ n m. (let d = Has-has ms n m in (and_parts (b n) (c n) (subst (λ q. cond q (b n && c n) (c n) ≡ true) d (all n (within n m)))).0)))
      (g.0 (λ n m. rest (has ms n) (b n) (c n) (all n m))),
  λ e n m. (
      let two = and_parts b' c' e in
      elim (has ms n) as (λ q. has ms n ≡ q → cond q (b n && c n) (c n) ≡ true) [
        | true ↦ λ d. and_from (b n) (c n) (h.1 two.0 n (has-Has ms n d)) (g.1 two.1 n m)
        | false ↦ λ d. g.1 two.1 n m
      ] refl),
)
  where
    rest : (q b c : Bool) → cond q (b && c) c ≡ true → c ≡ true
    rest true b c e = (and_parts b c e).1
    rest false b c e = e

-- ---- the alternatives of a leaf

body-own : (p : PlainKey → Bool) (ns : List ℕ) (n : ℕ) (x : PlainAlt) (xs : List PlainAlt) → ((y : PlainAlt) → Has y xs → has (eff y.stamp ns) n ≡ true → y ≡ x) → Has x xs → has (eff x.stamp ns) n ≡ true
    → p (body_at n ns xs) ≡ true → p x.body ≡ true
body-own p ns n x [] one m e h = absurd m
body-own p ns n x (y ∷ ys) one m e h =
    elim (has (eff y.stamp ns) n) as (λ b. has (eff y.stamp ns) n ≡ b → p (cond b y.body (body_at n ns ys)) ≡ true → p x.body ≡ true) [
      | true ↦ λ d g. subst (λ (z : PlainAlt). p z.body ≡ true) (one y (inl refl) d) g
      | false ↦ λ d g. elim m [
        | inl i ↦ absurd (true≢false (sym e ∙ subst (λ (z : PlainAlt). has (eff z.stamp ns) n ≡ false) i d))
        | inr i ↦ body-own p ns n x ys (λ z k. one z (inr k)) i e g
      ]
    ] refl h

body-among : (p : PlainKey → Bool) (ns : List ℕ) (n : ℕ) (x : PlainAlt) (xs : List PlainAlt) → Has x xs → has (eff x.stamp ns) n ≡ true → list_all (λ (y : PlainAlt). p y.body) xs ≡ true → p (body_at n ns xs) ≡ true
body-among p ns n x [] m e h = absurd m
body-among p ns n x (y ∷ ys) m e h =
    let two = and_parts (p y.body) (list_all (λ (y : PlainAlt). p y.body) ys) h in
    elim (has (eff y.stamp ns) n) as (λ b. has (eff y.stamp ns) n ≡ b → p (cond b y.body (body_at n ns ys)) ≡ true) [
      | true ↦ λ d. two.0
      | false ↦ λ d. elim m [
        | inl i ↦ absurd (true≢false (sym e ∙ subst (λ (z : PlainAlt). has (eff z.stamp ns) n ≡ false) i d))
        | inr i ↦ body-among p ns n x ys i e two.1
      ]
    ] refl

all-pass : (p : PlainAlt → Bool) (xs : List PlainAlt) → ((x : PlainAlt) → Has x xs → p x ≡ true) → list_all p xs ≡ true
all-pass p [] h = refl
all-pass p (x ∷ xs) h = and_from (p x) (list_all p xs) (h x (inl refl)) (all-pass p xs (λ y m. h y (inr m)))

-- a test of the body that is read passes at each number where it passes at each alternative
pub alts-tell : (p : PlainKey → Bool) (xs : List PlainAlt) (ns : List ℕ) → AreAltsWell xs ns → Tells ns (λ n. p (body_at n ns xs)) (list_all (λ (x : PlainAlt). p x.body) xs)
alts-tell p xs ns h = (
  λ all. all-pass (λ (x : PlainAlt). p x.body) xs (λ x m.
      let set = λ (a : PlainAlt). eff a.stamp ns in
      let first = first-number (eff x.stamp ns) (all_has (λ (a : PlainAlt). IsStampWell a.stamp ns) xs x h.stamps m).some in
      let inside = h.parts.inside (eff x.stamp ns) (has_map set x xs m) first.0 first.1 in
      body-own p ns first.0 x xs (λ y i e. one_part set xs y x first.0 h.parts.apart i m (has-Has (eff y.stamp ns) first.0 e) first.1) m (Has-has (eff x.stamp ns) first.0 first.1) (all first.0 inside)),
  λ e n m. (
      let some = h.parts.whole n m in
      let from = source (λ (a : PlainAlt). eff a.stamp ns) some.0 xs some.1.0 in
      body-among p ns n from.item xs from.has (Has-has (eff from.item.stamp ns) n (subst (Has n) (sym from.is) some.1.1)) e),
)

-- ---- the kid with a label

-- what is tested, where the test passes
pub record Passed {X : Type 0} (p : X → Bool) (o : Option X) : Type 0 where
  pub item : X
  pub is : o ≡ Some item
  pub passes : p item ≡ true

passed : {X : Type 0} (p : X → Bool) (o : Option X) → on_some p o ≡ true → Passed p o
passed p None e = absurd (true≢false (sym e))
passed p (Some x) e = record { item = x; is = refl; passes = e }

lasts : (g : PlainNode → Bool) (c : PlainNode) → is_none (node_stamp c) ≡ true → g c ≡ true → always g (Some c) ≡ true
lasts g c e f = ap (λ b. on_some g (cond b (Some c) None)) e ∙ f

lasting-parts : (g : PlainNode → Bool) (c : PlainNode) → always g (Some c) ≡ true → (is_none (node_stamp c) ≡ true) × (g c ≡ true)
lasting-parts g c e = elim (is_none (node_stamp c)) as (λ b. on_some g (cond b (Some c) None) ≡ true → (b ≡ true) × (g c ≡ true)) [ true ↦ λ f. (refl, f) | false ↦ λ f. absurd (true≢false (sym f)) ] e

module _ (l : PlainLabel) (ks : PlainNodes) (ns : List ℕ) (up : Ascends label_cmp (labels ks)) where
  -- a kid that is read is of the node with its label
  read-of : (n : ℕ) (t : PlainKeyed) (c : PlainNode) → kid_at l (kids_list (read_row n ns ks)) ≡ Some t → Has c (nodes_list ks) → node_label c ≡ l → Has n (eff (node_stamp c) ns) × (read n ns c ≡ t)
  read-of n t c e m label =
      let found = has_found l t (kids_list (read_row n ns ks)) e in
      let o = origin n ns ks t found.0 in
      let names : node_label o.node ≡ node_label c = sym (read_label n ns o.node) ∙ ap label_of o.gives ∙ found.1 ∙ sym label in
      let same : o.node ≡ c = one_item node_label label_cmp_total (nodes_list ks) o.node c up o.among m names in
      (subst (λ z. Has n (eff (node_stamp z) ns)) same (has-Has (eff (node_stamp o.node) ns) n o.is_in), subst (λ z. read n ns z ≡ t) same o.gives)

  of-read : (n : ℕ) (c : PlainNode) → Has c (nodes_list ks) → node_label c ≡ l → Has n (eff (node_stamp c) ns) → kid_at l (kids_list (read_row n ns ks)) ≡ Some (read n ns c)
  of-read n c m label i =
      let there = in_row n ns ks c m (Has-has (eff (node_stamp c) ns) n i) in
      let found = found_at (read n ns c) (kids_list (read_row n ns ks)) (read_ascends n ns ks up) there in
      subst (λ z. kid_at z (kids_list (read_row n ns ks)) ≡ Some (read n ns c)) (read_label n ns c ∙ label) found

  read-label-of : (n : ℕ) (t : PlainKeyed) → kid_at l (kids_list (read_row n ns ks)) ≡ Some t → Has l (labels ks)
  read-label-of n t e =
      let found = has_found l t (kids_list (read_row n ns ks)) e in
      let o = origin n ns ks t found.0 in
      subst (λ z. Has z (labels ks)) (sym (read_label n ns o.node) ∙ ap label_of o.gives ∙ found.1) (has_map node_label o.node (nodes_list ks) o.among)

  -- every reading has a kid with the label that passes where one node with it has all numbers and passes
  pub always-tells : (f : PlainKeyed → Bool) (g : PlainNode → Bool) → ns ≢ [] → Ascends nat_cmp ns → AreNodesWell ks ns → ((c : PlainNode) → Has c (nodes_list ks) → Tells (eff (node_stamp c) ns) (λ n. f (read n ns c)) (g c))
      → Tells ns (λ n. on_some f (kid_at l (kids_list (read_row n ns ks)))) (always g (node_with l (nodes_list ks)))
  always-tells f g some rise well each =
      elim (node_with l (nodes_list ks)) as (λ o. node_with l (nodes_list ks) ≡ o → Tells ns (λ n. on_some f (kid_at l (kids_list (read_row n ns ks)))) (always g o)) [
        | None ↦ λ e. (
          λ all. (
              let first = first-number ns some in
              let at = passed f (kid_at l (kids_list (read_row first.0 ns ks))) (all first.0 first.1) in
              absurd (no_node l (nodes_list ks) e (read-label-of first.0 at.item at.is))),
          λ d. absurd (true≢false (sym d)),
        )
        | Some c ↦ λ e. (
            let found = node_has l c (nodes_list ks) e in
            let stamp = stamp-of c ns (well-has ks ns c well found.0) in
            let told = each c found.0 in (
              λ all. (
                  let reads = λ (n : ℕ) (m : Has n ns). passed f (kid_at l (kids_list (read_row n ns ks))) (all n m) in
                  let from = λ (n : ℕ) (m : Has n ns). read-of n (reads n m).item c (reads n m).is found.0 found.1 in
                  lasts g c (not-stored (node_stamp c) ns rise stamp (λ n m. (from n m).0))
                  (told.0 (λ n m. (let i = stamp.within n m in subst (λ t. f t ≡ true) (sym (from n i).1) (reads n i).passes)))),
              λ d n m. (
                  let two = lasting-parts g c d in
                  let i : Has n (eff (node_stamp c) ns) = subst (Has n) (sym (all-stored (node_stamp c) ns two.0)) m in
                  ap (on_some f) (of-read n c found.0 found.1 i) ∙ told.1 two.1 n i),
            ))
      ] refl
