-- Nodes whose numbers are raised stand for the same versions with their later numbers.
use Rattle.std.proofs.Common.{◌≡◌, ◌≢◌, ℕ, ◌+◌, ◌<◌, List, [], ◌∷◌, map, Option, Some, None, refl, ap, sym, subst, ◌∙◌, arith}
use Rattle.std.specs.List.{AllByRecursion}
use Rattle.std.specs.Ordering.{nat_cmp}
use Rattle.std.specs.declared.cmp.Ordering.TheVariants.{Less}
use Rattle.keyed_tree.specs.Alike.{IsInner, IsLeaf}
use Rattle.keyed_tree.specs.Data.{PlainKey, PlainLabel, PlainKeyed, label_of, kids_of}
use Rattle.keyed_tree.specs.Kids.{kid_at}
use Rattle.keyed_tree.specs.Lists.{Ascends, Has}
use Rattle.keyed_tree.specs.Order.{label_cmp}
use Rattle.archive_tree.specs.Data.{Stamp, PlainAlt, PlainNode, inner_node, leaf_node, PlainNodes, no_nodes, node, node_label}
use Rattle.archive_tree.specs.Stands.{Stamped, nums, those, under, labels, passed, has_body, nums_with, head_or, first_num, bodies, AllDiffer, AltStands, CommonStands, RowStands, StandsFor, EachStands}
use Rattle.archive_tree.proofs.Those.{onto}
use Rattle.record_copy.specs.Raised.{raised_stamp, raised_alt, raised_node, raised_nodes}
use Rattle.archive_join.proofs.BothSets.{nat_less, less_nat, later, raised_stamped}

-- the trees with their later numbers
abbrev pub up : ℕ → List (ℕ × PlainKeyed) → List (ℕ × PlainKeyed)
up n ws = map (λ w. (w.0 + n, w.1)) ws

pub nums-up : (n : ℕ) (ws : List (ℕ × PlainKeyed)) → nums (up n ws) ≡ later n (nums ws)
nums-up n [] = refl
nums-up n (w ∷ ws) = ap (λ z. (w.0 + n) ∷ z) (nums-up n ws)

pub those-up : (f : PlainKeyed → Option PlainKeyed) (n : ℕ) (ws : List (ℕ × PlainKeyed)) → those f (up n ws) ≡ up n (those f ws)
those-up f n [] = refl
those-up f n (w ∷ ws) =
    let rest = those-up f n ws in
    elim (f w.1) as (λ o. onto (w.0 + n) o (those f (up n ws)) ≡ up n (onto w.0 o (those f ws))) [
      | None ↦ rest
      | Some j ↦ ap (λ z. (w.0 + n, j) ∷ z) rest
    ]

with-up : (n : ℕ) (ws : List (ℕ × PlainKeyed)) (b : PlainKey) → nums_with (up n ws) b ≡ later n (nums_with ws b)
with-up n ws b = ap nums (those-up (passed (has_body b)) n ws) ∙ nums-up n (those (passed (has_body b)) ws)

pub all_up : (P : PlainKeyed → Type 0) (n : ℕ) (ws : List (ℕ × PlainKeyed)) → AllByRecursion (λ w. P w.1) ws → AllByRecursion (λ w. P w.1) (up n ws)
all_up P n [] h = tt
all_up P n (w ∷ ws) h = (h.0, all_up P n ws h.1)

some_up : (n : ℕ) (ws : List (ℕ × PlainKeyed)) → ws ≢ [] → up n ws ≢ []
some_up n [] h e = h refl
some_up n (w ∷ ws) h e = cc

pub none_up : (n : ℕ) (ws : List (ℕ × PlainKeyed)) → up n ws ≢ [] → ws ≢ []
none_up n ws h e = h (ap (up n) e)

some_later : (n : ℕ) (ns : List ℕ) → ns ≢ [] → later n ns ≢ []
some_later n [] h e = h refl
some_later n (k ∷ ns) h e = cc

head_later : (n : ℕ) (ns : List ℕ) → ns ≢ [] → head_or 0 (later n ns) ≡ head_or 0 ns + n
head_later n [] h = absurd (h refl)
head_later n (k ∷ ns) h = refl

less_later : (n x : ℕ) (ys : List ℕ) → AllByRecursion (λ y. nat_cmp x y ≡ Less) ys → AllByRecursion (λ y. nat_cmp (x + n) y ≡ Less) (later n ys)
less_later n x [] h = tt
less_later n x (y ∷ ys) h = (let first : x < y = less_nat x y h.0 in nat_less (x + n) (y + n) (omega arith), less_later n x ys h.1)

ascends_later : (n : ℕ) (xs : List ℕ) → Ascends nat_cmp xs → Ascends nat_cmp (later n xs)
ascends_later n [] h = tt
ascends_later n (x ∷ xs) h = (less_later n x xs h.0, ascends_later n xs h.1)

-- ---- alternatives

bodies_raised : (n : ℕ) (xs : List PlainAlt) → bodies (map (raised_alt n) xs) ≡ bodies xs
bodies_raised n [] = refl
bodies_raised n (x ∷ xs) = ap (λ z. x.body ∷ z) (bodies_raised n xs)

module _ (n : ℕ) (ws : List (ℕ × PlainKeyed)) where
  alt_raised : (a : PlainAlt) → AltStands a ws → AltStands (raised_alt n a) (up n ws)
  alt_raised a h = record {
    some = λ e. some_later n (nums_with ws a.body) h.some (sym (with-up n ws a.body) ∙ e);
    stamped = subst (λ z. Stamped (raised_stamp n a.stamp) z (nums (up n ws))) (sym (with-up n ws a.body)) (subst (λ z. Stamped (raised_stamp n a.stamp) (later n (nums_with ws a.body)) z) (sym (nums-up n ws)) (raised_stamped n a.stamp (nums_with ws a.body) (nums ws) h.stamped));
  }

  alts_raised : (xs : List PlainAlt) → AllByRecursion (λ a. AltStands a ws) xs → AllByRecursion (λ a. AltStands a (up n ws)) (map (raised_alt n) xs)
  alts_raised [] h = tt
  alts_raised (x ∷ xs) h = (alt_raised x h.0, alts_raised xs h.1)

  first_raised : (a : PlainAlt) → AltStands a ws → first_num (nums (up n ws)) (raised_alt n a) ≡ first_num (nums ws) a + n
  first_raised a h = ap (head_or 0) (alt_raised a h).stamped.effective ∙ ap (head_or 0) (with-up n ws a.body) ∙ head_later n (nums_with ws a.body) h.some ∙ ap (λ z. head_or 0 z + n) (sym h.stamped.effective)

  firsts_raised : (xs : List PlainAlt) → AllByRecursion (λ a. AltStands a ws) xs → map (first_num (nums (up n ws))) (map (raised_alt n) xs) ≡ later n (map (first_num (nums ws)) xs)
  firsts_raised [] h = refl
  firsts_raised (x ∷ xs) h = λ i. first_raised x h.0 i ∷ firsts_raised xs h.1 i

-- ---- nodes

raised_label : (n : ℕ) (k : PlainNode) → node_label (raised_node n k) ≡ node_label k
raised_label n (inner_node l s ks) = refl
raised_label n (leaf_node l s xs) = refl

pub labels_raised : (n : ℕ) (ks : PlainNodes) → labels (raised_nodes n ks) ≡ labels ks
labels_raised n no_nodes = refl
labels_raised n (node k ks) = λ i. raised_label n k i ∷ labels_raised n ks i

common_raised : (n : ℕ) (l : PlainLabel) (s : Stamp) (ws : List (ℕ × PlainKeyed)) (ps : List ℕ) → CommonStands l s ws ps → CommonStands l (raised_stamp n s) (up n ws) (later n ps)
common_raised n l s ws ps h = record {
  some = some_up n ws h.some;
  labelled = all_up (λ k. label_of k ≡ l) n ws h.labelled;
  stamped = subst (λ z. Stamped (raised_stamp n s) z (later n ps)) (sym (nums-up n ws)) (raised_stamped n s (nums ws) ps h.stamped);
}

mutual
  pub node_raised : (n : ℕ) (k : PlainNode) (ws : List (ℕ × PlainKeyed)) (ps : List ℕ) → StandsFor k ws ps → StandsFor (raised_node n k) (up n ws) (later n ps)
  node_raised n (inner_node l s ks) ws ps h = record {
    common = common_raised n l s ws ps h.common;
    inners = all_up IsInner n ws h.inners;
    row = record {
      ascending = subst (λ z. Ascends label_cmp z) (sym (labels_raised n ks)) h.row.ascending;
      kids = subst (λ z. EachStands (raised_nodes n ks) (under (up n ws)) z) (sym (nums-up n ws)) (each_raised n ks (under ws) (under (up n ws)) (nums ws) (λ x. those-up (λ k. kid_at x (kids_of k)) n ws) h.row.kids);
      covered = λ x e. subst (λ z. Has x z) (sym (labels_raised n ks)) (h.row.covered x (none_up n (under ws x) (λ d. e (those-up (λ k. kid_at x (kids_of k)) n ws ∙ d))));
    };
  }
  node_raised n (leaf_node l s xs) ws ps h = record {
    common = common_raised n l s ws ps h.common;
    leaves = all_up IsLeaf n ws h.leaves;
    different = subst AllDiffer (sym (bodies_raised n xs)) h.different;
    in_order = subst (λ z. Ascends nat_cmp z) (sym (firsts_raised n ws xs h.alts)) (ascends_later n (map (first_num (nums ws)) xs) h.in_order);
    alts = alts_raised n ws xs h.alts;
    covered = λ b e. subst (λ z. Has b z) (sym (bodies_raised n xs)) (h.covered b (λ d. e (with-up n ws b ∙ ap (later n) d)));
  }

  pub each_raised : (n : ℕ) (ks : PlainNodes) (u v : PlainLabel → List (ℕ × PlainKeyed)) (ns : List ℕ) → ((l : PlainLabel) → v l ≡ up n (u l)) → EachStands ks u ns → EachStands (raised_nodes n ks) v (later n ns)
  each_raised n no_nodes u v ns e h = tt
  each_raised n (node k ks) u v ns e h = (
    subst (λ z. StandsFor (raised_node n k) z (later n ns)) (sym (ap v (raised_label n k) ∙ e (node_label k))) (node_raised n k (u (node_label k)) ns h.0),
    each_raised n ks u v ns e h.1,
  )

pub row_raised : (n : ℕ) (ks : PlainNodes) (u : PlainLabel → List (ℕ × PlainKeyed)) (ns : List ℕ) → RowStands ks u (EachStands ks u ns)
    → RowStands (raised_nodes n ks) (λ l. up n (u l)) (EachStands (raised_nodes n ks) (λ l. up n (u l)) (later n ns))
row_raised n ks u ns h = record {
  ascending = subst (λ z. Ascends label_cmp z) (sym (labels_raised n ks)) h.ascending;
  kids = each_raised n ks u (λ l. up n (u l)) ns (λ l. refl) h.kids;
  covered = λ l e. subst (λ z. Has l z) (sym (labels_raised n ks)) (h.covered l (none_up n (u l) e));
}
