-- A plan: what a version changes along the rows of an archive, worked out before anything is changed.
use Rattle.std.specs.Prelude.{ℕ, suc, ◌+◌, Bool, true, ◌&&◌, List, [], ◌∷◌, ◌++◌, map, length, Option, Some, None, nat_le, if◌then◌else◌}
use Rattle.std.specs.Option.{unwrap_or}
use Rattle.std.specs.Ordering.{is_eq}
use Rattle.keyed_tree.specs.Data.{PlainKey, PlainKeyed, inner, leaf, kids_list}
use Rattle.keyed_tree.specs.Kids.{kid_at}
use Rattle.keyed_tree.specs.Order.{key_cmp}
use Rattle.archive_tree.specs.Data.{Stamp, PlainAlt, PlainNode, inner_node, leaf_node, PlainNodes, no_nodes, node, node_label, node_stamp}
use Rattle.nested_merge.specs.Merged.{grown, started, fresh, below, above, has_alt}

-- what becomes of a stamp: it stays as it is, or it gets the version, or the set is stored
pub data PlainMark : Type 0 where
  stay : PlainMark
  grow : PlainMark
  store : List (ℕ × ℕ) → PlainMark

-- a step along the alternatives of a leaf: the next one changes, or a new one comes here
pub data PlainAltStep : Type 0 where
  old_alt : PlainMark → PlainAltStep
  new_alt : PlainAlt → PlainAltStep

mutual
  -- a step along a row: a new node comes here, or the next one changes
  pub data PlainStep : Type 0 where
    fresh_step : PlainNode → PlainStep
    old_step : PlainChange → PlainStep

  -- what becomes of a node's stamp; it keeps what is below it, or goes on with steps along its kids or its alternatives,
  -- and with room for as many of these
  pub data PlainChange : Type 0 where
    keep : PlainMark → PlainChange
    kids_change : PlainMark → PlainSteps → ℕ → PlainChange
    alts_change : PlainMark → List PlainAltStep → ℕ → PlainChange

  pub data PlainSteps : Type 0 where
    no_steps : PlainSteps
    step : PlainStep → PlainSteps → PlainSteps

abbrev pub steps_from : List PlainStep → PlainSteps
steps_from [] = no_steps
steps_from (s ∷ ss) = step s (steps_from ss)

abbrev pub steps_list : PlainSteps → List PlainStep
steps_list no_steps = []
steps_list (step s ss) = s ∷ steps_list ss

abbrev pub count : PlainSteps → ℕ
count no_steps = 0
count (step s ss) = suc (count ss)

-- there is room for what each row becomes
abbrev mutual
  pub is_roomy : PlainChange → Bool
  is_roomy (keep m) = true
  is_roomy (kids_change m ss room) = nat_le (count ss) room && are_roomy ss
  is_roomy (alts_change m ss room) = nat_le (length ss) room

  pub is_step_roomy : PlainStep → Bool
  is_step_roomy (fresh_step k) = true
  is_step_roomy (old_step c) = is_roomy c

  pub are_roomy : PlainSteps → Bool
  are_roomy no_steps = true
  are_roomy (step s ss) = is_step_roomy s && are_roomy ss

-- how much there is of a change
abbrev mutual
  pub size : PlainChange → ℕ
  size (keep m) = 1
  size (kids_change m ss room) = 1 + sizes ss
  size (alts_change m ss room) = 1

  pub step_size : PlainStep → ℕ
  step_size (fresh_step k) = 1
  step_size (old_step c) = size c

  pub sizes : PlainSteps → ℕ
  sizes no_steps = 1
  sizes (step s ss) = step_size s + sizes ss

-- ---- what the steps make

abbrev pub changed : ℕ → Stamp → PlainMark → Stamp
changed n s stay = s
changed n s grow = grown n s
changed n s (store t) = Some t

abbrev pub applied_alts : ℕ → List PlainAlt → List PlainAltStep → List PlainAlt
applied_alts n xs [] = []
applied_alts n xs (new_alt a ∷ ss) = a ∷ applied_alts n xs ss
applied_alts n [] (old_alt m ∷ ss) = applied_alts n [] ss
applied_alts n (x ∷ xs) (old_alt m ∷ ss) = record { stamp = changed n x.stamp m; body = x.body } ∷ applied_alts n xs ss

abbrev mutual
  pub applied : ℕ → PlainNode → PlainChange → PlainNode
  applied n (inner_node l s ks) (keep m) = inner_node l (changed n s m) ks
  applied n (leaf_node l s xs) (keep m) = leaf_node l (changed n s m) xs
  applied n (inner_node l s ks) (kids_change m ss room) = inner_node l (changed n s m) (applied_row n ks ss)
  applied n (leaf_node l s xs) (kids_change m ss room) = leaf_node l s xs
  applied n (inner_node l s ks) (alts_change m ss room) = inner_node l s ks
  applied n (leaf_node l s xs) (alts_change m ss room) = leaf_node l (changed n s m) (applied_alts n xs ss)

  pub applied_row : ℕ → PlainNodes → PlainSteps → PlainNodes
  applied_row n ks no_steps = no_nodes
  applied_row n ks (step (fresh_step k) ss) = node k (applied_row n ks ss)
  applied_row n no_nodes (step (old_step c) ss) = applied_row n no_nodes ss
  applied_row n (node k ks) (step (old_step c) ss) = node (applied n k c) (applied_row n ks ss)

-- ---- the steps of a version

-- what becomes of the stamp of what a version does not have, while its parent, with q before, does
abbrev pub kept_mark : List (ℕ × ℕ) → Stamp → PlainMark
kept_mark q None = store q
kept_mark q (Some s) = stay

-- an alternative of a leaf that had q, where the version has the body b
abbrev pub planned_alt : List (ℕ × ℕ) → PlainKey → PlainAlt → PlainAltStep
planned_alt q b a = old_alt (if is_eq (key_cmp a.body b) then grow else kept_mark q a.stamp)

abbrev pub planned_alts : ℕ → List (ℕ × ℕ) → PlainKey → List PlainAlt → List PlainAltStep
planned_alts n q b xs = map (planned_alt q b) xs ++ (if has_alt b xs then [] else new_alt (record { stamp = Some ((n, n) ∷ []); body = b }) ∷ [])

-- a node that begins with version n, under a parent that had the set q before
abbrev pub started_step : ℕ → List (ℕ × ℕ) → PlainKeyed → PlainStep
started_step n q c = fresh_step (fresh (started n q) c)

-- a node that version n does not have
abbrev pub gone_step : List (ℕ × ℕ) → PlainNode → PlainStep
gone_step q k = old_step (keep (kept_mark q (node_stamp k)))

-- fresh nodes before other steps
abbrev pub fresh_steps : Stamp → List PlainKeyed → PlainSteps → PlainSteps
fresh_steps s [] r = r
fresh_steps s (c ∷ cs) r = step (fresh_step (fresh s c)) (fresh_steps s cs r)

-- the change at a node without its tree in version n, or with it
abbrev pub turn_change : PlainChange → (PlainKeyed → PlainChange) → Option PlainKeyed → PlainChange
turn_change s f None = s
turn_change s f (Some c) = f c

abbrev pub kids_with_room : PlainMark → PlainSteps → PlainChange
kids_with_room m ss = kids_change m ss (count ss)

abbrev pub alts_with_room : PlainMark → List PlainAltStep → PlainChange
alts_with_room m ss = alts_change m ss (length ss)

abbrev mutual
  -- the change at a node, under a parent that had the set q, with its tree in version n
  pub planned : ℕ → List (ℕ × ℕ) → PlainNode → PlainKeyed → PlainChange
  planned n q (inner_node l s ks) (inner m cs) = kids_with_room grow (planned_row n (unwrap_or s q) ks (kids_list cs))
  planned n q (inner_node l s ks) (leaf m b) = keep stay
  planned n q (leaf_node l s xs) (inner m cs) = keep stay
  planned n q (leaf_node l s xs) (leaf m b) = alts_with_room grow (planned_alts n (unwrap_or s q) b xs)

  -- the steps along a row with the kids of version n, in the order of their labels
  pub planned_row : ℕ → List (ℕ × ℕ) → PlainNodes → List PlainKeyed → PlainSteps
  planned_row n q no_nodes cs = fresh_steps (started n q) cs no_steps
  planned_row n q (node k ks) cs = fresh_steps (started n q) (below (node_label k) cs)
      (step (old_step (turn_change (keep (kept_mark q (node_stamp k))) (λ c. planned n q k c) (kid_at (node_label k) cs))) (planned_row n q ks (above (node_label k) cs)))
