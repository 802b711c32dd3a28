-- A loop along steps that readies an element for each old one.
use Rattle.std.proofs.Common.{◌≡◌, ℕ, zero, suc, ◌+◌, ◌<◌, ◌≤◌, Bool, true, IsTrue, List, [], ◌∷◌, ◌++◌, map, length, get_or, take, drop, set, refl, ap, sym, ◌∙◌, arith}
use Rattle.std.proofs.lemmas.List.{append_assoc, drop_all, drop_more, take-append-drop, take_more_set}
use Rattle.keyed_tree.proofs.Kids.{both}
use Rattle.archive_tree.specs.View.{stamp_view, alt_view, node_view, nodes_view}
use Rattle.archive_tree.specs.declared.node.Alt.{Alt}
use Rattle.archive_tree.specs.declared.node.ANode.{ANode}
use Rattle.nested_merge.specs.Plan.{PlainAltStep, old_alt, new_alt, fresh_step, old_step, PlainSteps, no_steps, step}
use Rattle.nested_merge.specs.Ready.{are_alts_ready, are_ready}
use Rattle.nested_merge.specs.Below.{is_stamp_below, are_alts_below, is_node_below, are_nodes_below}

module _ {X S : Type 0} (f : List X → List S → Bool) where
  -- the elements before i are ready for the steps before j: what is left decides
  abbrev pub Decides : List X → List S → ℕ → ℕ → Type 0
  Decides xs ss i j = (rest : List X) → f (take i xs ++ rest) ss ≡ f rest (drop j ss)

  left_decides : (xs : List X) (ss : List S) (i j : ℕ) → Decides xs ss i j → f xs ss ≡ f (drop i xs) (drop j ss)
  left_decides xs ss i j h = ap (λ z. f z ss) (sym (take-append-drop i xs)) ∙ h (drop i xs)

  pub all_elements : (xs : List X) (ss : List S) (i j : ℕ) → Decides xs ss i j → length xs ≤ i → ((more : List S) → f [] more ≡ true) → IsTrue (f xs ss)
  all_elements xs ss i j h past none = left_decides xs ss i j h ∙ ap (λ z. f z (drop j ss)) (drop_all i xs past) ∙ none (drop j ss)

  pub all_steps : (xs : List X) (ss : List S) (i j : ℕ) → Decides xs ss i j → length ss ≤ j → ((rest : List X) → f rest [] ≡ true) → IsTrue (f xs ss)
  all_steps xs ss i j h past none = left_decides xs ss i j h ∙ ap (λ z. f (drop i xs) z) (drop_all j ss past) ∙ none (drop i xs)

  -- at an old step the next element was made ready
  pub one_ready : (xs : List X) (ss : List S) (i j : ℕ) (x : X) (s : S) → Decides xs ss i j → i < length xs → j < length ss → s ≡ get_or ss j s → ((rest : List X) (more : List S) → f (x ∷ rest) (s ∷ more) ≡ f rest more)
      → Decides (set xs i x) ss (i + 1) (j + 1)
  one_ready xs ss i j x s h in_xs in_ss is ready = λ rest.
      ap (λ z. f (z ++ rest) ss) (take_more_set xs i x in_xs) ∙ ap (λ z. f z ss) (append_assoc (take i xs) (x ∷ []) rest) ∙ h (x ∷ rest)
      ∙ ap (λ z. f (x ∷ rest) z) (drop_more ss j s in_ss ∙ ap (λ z. z ∷ drop (j + 1) ss) (sym is)) ∙ ready rest (drop (j + 1) ss)

  -- at any other step there is nothing to make ready
  pub none_ready : (xs : List X) (ss : List S) (i j : ℕ) (s : S) → Decides xs ss i j → j < length ss → s ≡ get_or ss j s → ((rest : List X) (more : List S) → f rest (s ∷ more) ≡ f rest more)
      → Decides xs ss i (j + 1)
  none_ready xs ss i j s h in_ss is new = λ rest.
      h rest ∙ ap (λ z. f rest z) (drop_more ss j s in_ss ∙ ap (λ z. z ∷ drop (j + 1) ss) (sym is)) ∙ new rest (drop (j + 1) ss)

-- ---- without elements nothing has to be ready

pub no_alts : (n : ℕ) (ss : List PlainAltStep) → are_alts_ready n [] ss ≡ true
no_alts n [] = refl
no_alts n (old_alt m ∷ ss) = refl
no_alts n (new_alt a ∷ ss) = no_alts n ss

pub no_nodes_ready : (ss : PlainSteps) → are_ready [] ss ≡ true
no_nodes_ready no_steps = refl
no_nodes_ready (step (old_step c) ss) = refl
no_nodes_ready (step (fresh_step k) ss) = no_nodes_ready ss

-- ---- each element is below the version

pub alt_below : (n : ℕ) (xs : List Alt) (i : ℕ) (x : Alt) → i < length xs → IsTrue (are_alts_below n (map alt_view xs)) → IsTrue (is_stamp_below n (stamp_view (get_or xs i x).stamp))
alt_below n [] i x h b = absurd (omega arith)
alt_below n (y ∷ ys) zero x h b = (both (is_stamp_below n (stamp_view y.stamp)) (are_alts_below n (map alt_view ys)) b).0
alt_below n (y ∷ ys) (suc i) x h b = alt_below n ys i x (omega arith) (both (is_stamp_below n (stamp_view y.stamp)) (are_alts_below n (map alt_view ys)) b).1

pub node_below : (n : ℕ) (xs : List ANode) (i : ℕ) (x : ANode) → i < length xs → IsTrue (are_nodes_below n (nodes_view xs)) → IsTrue (is_node_below n (node_view (get_or xs i x)))
node_below n [] i x h b = absurd (omega arith)
node_below n (y ∷ ys) zero x h b = (both (is_node_below n (node_view y)) (are_nodes_below n (nodes_view ys)) b).0
node_below n (y ∷ ys) (suc i) x h b = node_below n ys i x (omega arith) (both (is_node_below n (node_view y)) (are_nodes_below n (nodes_view ys)) b).1
