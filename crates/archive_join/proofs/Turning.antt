-- What is left of two rows behind the node that comes next.
use Rattle.std.proofs.Common.{◌≡◌, ℕ, Bool, true, false, ◌||◌, cond, List, [], ◌∷◌, ◌++◌, Option, Some, None, IfSome, refl, ap, sym, subst, ◌∙◌}
use Rattle.std.specs.List.{AllByRecursion}
use Rattle.std.specs.Ordering.{is_eq, is_lt, is_le, ordering_reverse, ordering_then}
use Rattle.std.specs.declared.cmp.Ordering.{Ordering}
use Rattle.std.specs.declared.cmp.Ordering.TheVariants.{Less, Equal, Greater}
use Rattle.version_set.specs.Members.{AscendsFrom, either, has, intervals, members, united}
use Rattle.version_set.specs.Pairs.{IsCanonical}
use Rattle.version_set.proofs.MembersLemmas.{intervals-members, members_ascend, same_numbers}
use Rattle.version_set.proofs.SetLemmas.{either_ascends, has-either}
use Rattle.keyed_tree.specs.Data.{PlainLabel}
use Rattle.keyed_tree.specs.Laws.{label_cmp_total, label_cmp_exact}
use Rattle.keyed_tree.specs.Order.{label_cmp}
use Rattle.archive_tree.specs.Data.{PlainNode, inner_node, leaf_node, PlainNodes, no_nodes, node, node_label, nodes_list}
use Rattle.archive_tree.specs.Stands.{labels}
use Rattle.record_copy.specs.Parts.{PlainHead, head_of}
use Rattle.record_writer.specs.Walks.{node_calls, row_calls}
use Rattle.archive_join.specs.Heads.{kind_cmp, turn}
use Rattle.archive_join.specs.Joined.{below, above, alone_node, alone_onto, joined_node, joined_row, alone_or_joined}
use Rattle.archive_join.specs.Meets.{Meet, RowsMeet}
use Rattle.archive_join.specs.Walked.{RowsFit}
use Rattle.archive_join.proofs.Weave.{names, lower_all}
use Rattle.archive_tree.specs.Seek.{node_with}

-- ---- labels

back : (a b : PlainLabel) (o : Ordering) → label_cmp a b ≡ o → label_cmp b a ≡ ordering_reverse o
back a b o e = label_cmp_total.antisymm b a ∙ ap ordering_reverse e

-- each label of the row is above l
abbrev AreAbove : PlainLabel → List PlainNode → Type 0
AreAbove l js = AllByRecursion (λ x. label_cmp l x ≡ Less) (names js)

below_none : (l : PlainLabel) (js : List PlainNode) → AreAbove l js → below l js ≡ []
below_none l [] h = refl
below_none l (j ∷ js) h = ap (λ o. cond {A = List PlainNode} (is_lt o) (j ∷ below l js) []) (back l (node_label j) Less h.0)

above_all : (l : PlainLabel) (js : List PlainNode) → AreAbove l js → above l js ≡ js
above_all l [] h = refl
above_all l (j ∷ js) h = ap (λ o. cond {A = List PlainNode} (is_le o) (above l js) (j ∷ js)) (back l (node_label j) Less h.0)

found_none : (l : PlainLabel) (js : List PlainNode) → AreAbove l js → node_with l js ≡ None
found_none l [] h = refl
found_none l (j ∷ js) h = ap (λ o. cond {A = Option PlainNode} (is_eq o) (Some j) (node_with l js)) (back l (node_label j) Less h.0) ∙ found_none l js h.1

-- ---- rows

module _ (p q : List (ℕ × ℕ)) where
  -- the row, where the first node of the second is that to the one of the first
  abbrev row_at : PlainNode → PlainNodes → PlainNode → List PlainNode → Ordering → PlainNodes
  row_at k ks j js o =
      let l = node_label k in
      alone_onto q p (cond {A = List PlainNode} (is_lt o) (j ∷ below l js) [])
      (node (alone_or_joined (alone_node p q k) (λ x. joined_node p q k x) (cond {A = Option PlainNode} (is_eq o) (Some j) (node_with l js))) (joined_row p q ks (cond {A = List PlainNode} (is_le o) (above l js) (j ∷ js))))

  row_alone : (k : PlainNode) (ks : PlainNodes) (js : List PlainNode) → AreAbove (node_label k) js → joined_row p q (node k ks) js ≡ node (alone_node p q k) (joined_row p q ks js)
  row_alone k ks js h = λ i. alone_onto q p (below_none (node_label k) js h i) (node (alone_or_joined (alone_node p q k) (λ x. joined_node p q k x) (found_none (node_label k) js h i)) (joined_row p q ks (above_all (node_label k) js h i)))

  row_other : (k : PlainNode) (ks : PlainNodes) (j : PlainNode) (js : List PlainNode) → label_cmp (node_label j) (node_label k) ≡ Less → joined_row p q (node k ks) (j ∷ js) ≡ node (alone_node q p j) (joined_row p q (node k ks) js)
  row_other k ks j js e = ap (row_at k ks j js) e

  row_both : (k : PlainNode) (ks : PlainNodes) (j : PlainNode) (js : List PlainNode) → label_cmp (node_label j) (node_label k) ≡ Equal → AreAbove (node_label k) js → joined_row p q (node k ks) (j ∷ js) ≡ node (joined_node p q k j) (joined_row p q ks js)
  row_both k ks j js e h = ap (row_at k ks j js) e ∙ ap (λ z. node (joined_node p q k j) (joined_row p q ks z)) (above_all (node_label k) js h)

-- ---- rows that fit

-- what is said of the nodes of one label, where the first node of the second is that to the one of the first
abbrev meet_at : PlainNode → PlainNodes → PlainNode → List PlainNode → Ordering → Type 0
meet_at k ks j js o =
    IfSome (cond {A = Option PlainNode} (is_eq o) (Some j) (node_with (node_label k) js)) (λ x. Meet k x) × RowsMeet ks (cond {A = List PlainNode} (is_le o) (above (node_label k) js) (j ∷ js))

meets : (k : PlainNode) (ks : PlainNodes) (j : PlainNode) (js : List PlainNode) (o : Ordering) → label_cmp (node_label j) (node_label k) ≡ o → RowsMeet (node k ks) (j ∷ js) → meet_at k ks j js o
meets k ks j js o e h = subst (meet_at k ks j js) e h

above_first : (k j : PlainNode) (js : List PlainNode) → label_cmp (node_label k) (node_label j) ≡ Less → AllByRecursion (λ x. label_cmp (node_label j) x ≡ Less) (names js) → AreAbove (node_label k) (j ∷ js)
above_first k j js e h = (e, lower_all (node_label k) (node_label j) (names js) e h)

-- the same label
same_label : (k j : PlainNode) → label_cmp (node_label k) (node_label j) ≡ Equal → node_label j ≡ node_label k
same_label k j e = sym (label_cmp_exact (node_label k) (node_label j) e)

fits_alone : (k : PlainNode) (ks js : PlainNodes) → AreAbove (node_label k) (nodes_list js) → RowsFit (node k ks) js → RowsFit ks js
fits_alone k ks js high h = record { first = h.first.1; second = h.second; meet = subst (λ z. RowsMeet ks z) (above_all (node_label k) (nodes_list js) high) h.meet.1 }

fits_other : (k : PlainNode) (ks : PlainNodes) (j : PlainNode) (js : PlainNodes) → label_cmp (node_label j) (node_label k) ≡ Less → RowsFit (node k ks) (node j js) → RowsFit (node k ks) js
fits_other k ks j js e h = record { first = h.first; second = h.second.1; meet = meets k ks j (nodes_list js) Less e h.meet }

-- nodes of one label: those of the second behind it are above
above_both : (k j : PlainNode) (js : PlainNodes) → label_cmp (node_label k) (node_label j) ≡ Equal → AllByRecursion (λ x. label_cmp (node_label j) x ≡ Less) (labels js) → AreAbove (node_label k) (nodes_list js)
above_both k j js e h = subst (λ l. AllByRecursion (λ x. label_cmp l x ≡ Less) (labels js)) (same_label k j e) h

fits_both : (k : PlainNode) (ks : PlainNodes) (j : PlainNode) (js : PlainNodes) → label_cmp (node_label k) (node_label j) ≡ Equal → RowsFit (node k ks) (node j js) → Meet k j × RowsFit ks js
fits_both k ks j js e h =
    let meet = meets k ks j (nodes_list js) Equal (back (node_label k) (node_label j) Equal e) h.meet in
    (meet.0, record { first = h.first.1; second = h.second.1; meet = subst (λ z. RowsMeet ks z) (above_all (node_label k) (nodes_list js) (above_both k j js e h.second.0)) meet.1 })

-- ---- a turn

-- the head of the first node
abbrev pub first_head : PlainNodes → Option PlainHead
first_head no_nodes = None
first_head (node k ks) = Some (head_of k)

-- This node comes next in the row of both, and what is left behind it fits too.
pub record Turned (p q : List (ℕ × ℕ)) (x : PlainNode) (ks js left right : PlainNodes) : Type 0 where
  pub row : joined_row p q ks (nodes_list js) ≡ node x (joined_row p q left (nodes_list right))
  pub fits : RowsFit left right

-- of two heads the order is that of the labels, but where the kinds differ
head_label : (k : PlainNode) → (head_of k).label ≡ node_label k
head_label (inner_node l s ks) = refl
head_label (leaf_node l s xs) = refl

turn_is : (k j : PlainNode) (ks js : PlainNodes) (o : Ordering) → turn (first_head (node k ks)) (first_head (node j js)) ≡ Some o → ordering_then (label_cmp (node_label k) (node_label j)) (kind_cmp (head_of k).kind (head_of j).kind) ≡ o
turn_is k j ks js o e =
    (λ i. ordering_then (label_cmp (sym (head_label k) i) (sym (head_label j) i)) (kind_cmp (head_of k).kind (head_of j).kind)) ∙ some_is _ _ e
  where
    some_is : (a b : Ordering) → ◌≡◌ {A = Option Ordering} (Some a) (Some b) → a ≡ b
    some_is a b d = cc

kinds_meet : (k j : PlainNode) → Meet k j → kind_cmp (head_of k).kind (head_of j).kind ≡ Equal
kinds_meet (inner_node l s ks) (inner_node m t js) h = refl
kinds_meet (inner_node l s ks) (leaf_node m t ys) h = absurd h
kinds_meet (leaf_node l s xs) (inner_node m t js) h = absurd h
kinds_meet (leaf_node l s xs) (leaf_node m t ys) h = refl

never_greater : (k j : PlainNode) → ¬ (kind_cmp (head_of k).kind (head_of j).kind ≡ Greater)
never_greater (inner_node l s ks) (inner_node m t js) e = absurd cc
never_greater (inner_node l s ks) (leaf_node m t ys) e = absurd cc
never_greater (leaf_node l s xs) (inner_node m t js) e = absurd cc
never_greater (leaf_node l s xs) (leaf_node m t ys) e = absurd cc

module _ (k : PlainNode) (ks : PlainNodes) (j : PlainNode) (js : PlainNodes) (h : RowsFit (node k ks) (node j js)) where
  abbrev kinds : Ordering
  kinds = kind_cmp (head_of k).kind (head_of j).kind

  label_less : ordering_then (label_cmp (node_label k) (node_label j)) kinds ≡ Less → label_cmp (node_label k) (node_label j) ≡ Less
  label_less e =
      elim (label_cmp (node_label k) (node_label j)) as (λ o. label_cmp (node_label k) (node_label j) ≡ o → ordering_then o kinds ≡ Less → o ≡ Less) [
        | Less ↦ λ d f. refl
        | Equal ↦ λ d f. (let same : kinds ≡ Equal = kinds_meet k j (fits_both k ks j js d h).0 in absurd cc)
        | Greater ↦ λ d f. absurd cc
      ] refl e

  label_equal : ordering_then (label_cmp (node_label k) (node_label j)) kinds ≡ Equal → label_cmp (node_label k) (node_label j) ≡ Equal
  label_equal e =
      elim (label_cmp (node_label k) (node_label j)) as (λ o. ordering_then o kinds ≡ Equal → o ≡ Equal) [
        | Less ↦ λ f. absurd cc
        | Equal ↦ λ f. refl
        | Greater ↦ λ f. absurd cc
      ] e

  label_greater : ordering_then (label_cmp (node_label k) (node_label j)) kinds ≡ Greater → label_cmp (node_label k) (node_label j) ≡ Greater
  label_greater e =
      elim (label_cmp (node_label k) (node_label j)) as (λ o. ordering_then o kinds ≡ Greater → o ≡ Greater) [
        | Less ↦ λ f. absurd cc
        | Equal ↦ λ f. absurd (never_greater k j f)
        | Greater ↦ λ f. refl
      ] e

module _ (p q : List (ℕ × ℕ)) where
  alone_turned : (k : PlainNode) (ks js : PlainNodes) → AreAbove (node_label k) (nodes_list js) → RowsFit (node k ks) js → Turned p q (alone_node p q k) (node k ks) js ks js
  alone_turned k ks js high h = record { row = row_alone p q k ks (nodes_list js) high; fits = fits_alone k ks js high h }

  -- the node of the first comes next
  pub first_turned : (k : PlainNode) (ks js : PlainNodes) → RowsFit (node k ks) js → turn (first_head (node k ks)) (first_head js) ≡ Some Less → Turned p q (alone_node p q k) (node k ks) js ks js
  first_turned k ks no_nodes h e = alone_turned k ks no_nodes tt h
  first_turned k ks (node j js) h e =
      let less = label_less k ks j js h (turn_is k j ks js Less e) in
      alone_turned k ks (node j js) (above_first k j (nodes_list js) less h.second.0) h

  -- that of the second does
  pub second_turned : (ks : PlainNodes) (j : PlainNode) (js : PlainNodes) → RowsFit ks (node j js) → turn (first_head ks) (first_head (node j js)) ≡ Some Greater → Turned p q (alone_node q p j) ks (node j js) ks js
  second_turned no_nodes j js h e = record { row = refl; fits = record { first = h.first; second = h.second.1; meet = tt } }
  second_turned (node k ks) j js h e =
      let less = back (node_label k) (node_label j) Greater (label_greater k ks j js h (turn_is k j ks js Greater e)) in
      record { row = row_other p q k ks j (nodes_list js) less; fits = fits_other k ks j js less h }

  -- both do
  pub both_turned : (k : PlainNode) (ks : PlainNodes) (j : PlainNode) (js : PlainNodes) → RowsFit (node k ks) (node j js) → turn (first_head (node k ks)) (first_head (node j js)) ≡ Some Equal → Meet k j × Turned p q (joined_node p q k j) (node k ks) (node j js) ks js
  both_turned k ks j js h e =
      let same = label_equal k ks j js h (turn_is k j ks js Equal e) in
      let fit = fits_both k ks j js same h in
      (fit.0, record { row = row_both p q k ks j (nodes_list js) (back (node_label k) (node_label j) Equal same) (above_both k j js same h.second.0); fits = fit.1 })

-- which heads there are, by the turn
pub less_some : (one two : Option PlainHead) → turn one two ≡ Some Less → ¬ (one ≡ None)
less_some None None e d = absurd cc
less_some None (Some j) e d = absurd cc
less_some (Some h) two e d = absurd cc

pub greater_some : (one two : Option PlainHead) → turn one two ≡ Some Greater → ¬ (two ≡ None)
greater_some None None e d = absurd cc
greater_some (Some h) None e d = absurd cc
greater_some one (Some j) e d = absurd cc

pub equal_first : (one two : Option PlainHead) → turn one two ≡ Some Equal → ¬ (one ≡ None)
equal_first None None e d = absurd cc
equal_first None (Some j) e d = absurd cc
equal_first (Some h) two e d = absurd cc

pub equal_second : (one two : Option PlainHead) → turn one two ≡ Some Equal → ¬ (two ≡ None)
equal_second None None e d = absurd cc
equal_second (Some h) None e d = absurd cc
equal_second one (Some j) e d = absurd cc

pub none_first : (one two : Option PlainHead) → turn one two ≡ None → one ≡ None
none_first None two e = refl
none_first (Some h) None e = absurd cc
none_first (Some h) (Some j) e = absurd cc

pub none_second : (one two : Option PlainHead) → turn one two ≡ None → two ≡ None
none_second one None e = refl
none_second None (Some j) e = absurd cc
none_second (Some h) (Some j) e = absurd cc

-- what the code answers is the turn
pub some_turn : (one two : Option PlainHead) (answer : Option Ordering) (x o : Ordering) → answer ≡ turn one two → answer ≡ Some x → x ≡ o → turn one two ≡ Some o
some_turn one two answer x o is some same = sym is ∙ some ∙ ap Some same

pub no_turn : (one two : Option PlainHead) (answer : Option Ordering) → answer ≡ turn one two → answer ≡ None → turn one two ≡ None
no_turn one two answer is none = sym is ∙ none

pub turned_as : (one two : Option PlainHead) (ks js : PlainNodes) (o : Option Ordering) → one ≡ first_head ks → two ≡ first_head js → turn one two ≡ o → turn (first_head ks) (first_head js) ≡ o
turned_as one two ks js o a b e = subst (λ z. turn z (first_head js) ≡ o) a (subst (λ z. turn one z ≡ o) b e)

-- ---- the calls that are left

pub calls_turned : (p q both : List (ℕ × ℕ)) (x : PlainNode) (ks js left right : PlainNodes) → Turned p q x ks js left right
    → row_calls both (joined_row p q ks (nodes_list js)) ≡ node_calls both x ++ row_calls both (joined_row p q left (nodes_list right))
calls_turned p q both x ks js left right h = ap (row_calls both) h.row

-- ---- sets of both where one archive has none

either_none : (low : ℕ) (ns : List ℕ) → AscendsFrom low ns → either ns [] ≡ ns
either_none low ns h = same_numbers low low (either ns []) ns (either_ascends low ns [] h tt) h (λ k. has-either ns [] k ∙ no_more (has ns k))
  where
    no_more : (b : Bool) → (b || false) ≡ b
    no_more true = refl
    no_more false = refl

pub all_first : (p q both : List (ℕ × ℕ)) → IsCanonical p → both ≡ united p q → q ≡ [] → both ≡ p
all_first p q both c whole none = whole ∙ ap (λ z. united p z) none ∙ ap intervals (either_none 1 (members p) (members_ascend 1 p c)) ∙ intervals-members 1 p c

pub all_second : (p q both : List (ℕ × ℕ)) → IsCanonical q → both ≡ united p q → p ≡ [] → both ≡ q
all_second p q both c whole none = whole ∙ ap (λ z. united z q) none ∙ intervals-members 1 q c
