-- The views of the steps of a plan.
use Rattle.std.proofs.Common.{◌≡◌, ℕ, zero, suc, ◌<◌, ◌≤◌, IsTrue, nat_le, List, [], ◌∷◌, map, length, get_or, ap, sym, refl, ◌∙◌, arith, rules, vec_len, Vec, Global}
use Rattle.std.proofs.lemmas.Bool.{leb-true}
use Rattle.std.proofs.lemmas.List.{length-map}
use Rattle.keyed_tree.proofs.Kids.{both}
use Rattle.keyed_tree.proofs.Kids as kids
use Rattle.keyed_tree.proofs.Views as keyed
use Rattle.archive_tree.specs.View.{node_view}
use Rattle.archive_tree.specs.declared.node.Alt.{Alt}
use Rattle.archive_tree.specs.declared.node.ANode.{ANode}
use Rattle.archive_tree.proofs.Parts.{nodes_from-nodes_list}
use Rattle.nested_merge.specs.Plan.{PlainMark, PlainAltStep, PlainStep, fresh_step, old_step, keep, kids_change, alts_change, kids_with_room, alts_with_room, PlainSteps, no_steps, step, steps_from, steps_list, count, is_roomy, is_step_roomy, are_roomy, step_size, sizes}
use Rattle.nested_merge.specs.PlanView.{room_of, mark_view, alt_step_view, step_view, change_view}
use Rattle.nested_merge.proofs.Rows.{node_view-Inner, node_view-Leaf}
use Rattle.nested_merge.specs.declared.space.Space.{Space}
use Rattle.nested_merge.specs.declared.plan.Mark.{Mark}
use Rattle.nested_merge.specs.declared.plan.AltStep.{AltStep}
use Rattle.nested_merge.specs.declared.plan.Step.{Step}
use Rattle.nested_merge.specs.declared.plan.Step as steps
use Rattle.nested_merge.specs.declared.plan.Change.{Change, Keep, Kids, Alts, the_lemmas}

pub step_view-Fresh : (k : ANode) → step_view (steps.Fresh k) ≡ fresh_step (node_view k)
step_view-Fresh k = search (rules, steps.the_lemmas)

pub step_view-Old : (c : Change) → step_view (steps.Old c) ≡ old_step (change_view c)
step_view-Old c = search (rules, steps.the_lemmas)

pub change_view-Keep : (m : Mark) → change_view (Keep m) ≡ keep (mark_view m)
change_view-Keep m = search (rules, the_lemmas)

pub change_view-Kids : (m : Mark) (ss : Vec Step Global) (s : Space ANode) → change_view (Kids m ss s) ≡ kids_change (mark_view m) (steps_from (map step_view ss.items)) (room_of s)
change_view-Kids m ss s = search (rules, the_lemmas)

pub change_view-Alts : (m : Mark) (ss : Vec AltStep Global) (s : Space Alt) → change_view (Alts m ss s) ≡ alts_change (mark_view m) (map alt_step_view ss.items) (room_of s)
change_view-Alts m ss s = search (rules, the_lemmas)

pub count-steps_from : (ss : List PlainStep) → count (steps_from ss) ≡ length ss
count-steps_from [] = refl
count-steps_from (s ∷ ss) = ap (λ n. suc n) (count-steps_from ss)

pub ruleset plans = (kids.kids_list-kids_from, nodes_from-nodes_list, node_view-Inner, node_view-Leaf, keyed.keyed_view-Inner, keyed.keyed_view-Leaf, step_view-Fresh, step_view-Old, change_view-Keep, change_view-Kids, change_view-Alts)

pub first_roomy : (s : PlainStep) (ss : PlainSteps) → IsTrue (are_roomy (step s ss)) → IsTrue (is_step_roomy s) × IsTrue (are_roomy ss)
first_roomy s ss h = both (is_step_roomy s) (are_roomy ss) h

-- there is room for the kids that the steps make, and along these
pub kids_roomy : (m : PlainMark) (ss : List PlainStep) (room : ℕ) → IsTrue (is_roomy (kids_change m (steps_from ss) room)) → (length ss ≤ room) × IsTrue (are_roomy (steps_from ss))
kids_roomy m ss room h =
    let two = both (nat_le (count (steps_from ss)) room) (are_roomy (steps_from ss)) h in
    let within : count (steps_from ss) ≤ room = leb-true _ _ two.0 in
    (omega (arith, count-steps_from ss), two.1)

pub sizes_positive : (ss : PlainSteps) → 1 ≤ sizes ss
sizes_positive no_steps = omega arith
sizes_positive (step s ss) = (let rest = sizes_positive ss in omega arith)

-- a step is smaller than the steps that it is among
pub step_smaller : (ss : List Step) (i : ℕ) (s : Step) → i < length ss → s ≡ get_or ss i s → step_size (step_view s) < sizes (steps_from (map step_view ss))
step_smaller [] i s h e = absurd (omega arith)
step_smaller (r ∷ ss) zero s h e = (let rest = sizes_positive (steps_from (map step_view ss)) in let same = ap (λ z. step_size (step_view z)) e in omega arith)
step_smaller (r ∷ ss) (suc i) s h e = (let rest = step_smaller ss i s (omega arith) e in omega arith)

pub steps_from-steps_list : (ss : PlainSteps) → steps_from (steps_list ss) ≡ ss
steps_from-steps_list no_steps = refl
steps_from-steps_list (step s ss) = ap (λ z. step s z) (steps_from-steps_list ss)

pub length-steps_list : (ss : PlainSteps) → length (steps_list ss) ≡ count ss
length-steps_list no_steps = refl
length-steps_list (step s ss) = ap (λ n. suc n) (length-steps_list ss)

-- the kids of a node have exactly the room that their steps need
pub planned_kids : (v : Vec Step Global) (s : Space ANode) (m : Mark) (ss : PlainSteps) → map step_view v.items ≡ steps_list ss → room_of s ≡ vec_len v
    → change_view (Kids m v s) ≡ kids_with_room (mark_view m) ss
planned_kids v s m ss e g =
    let row : steps_from (map step_view v.items) ≡ ss = ap steps_from e ∙ steps_from-steps_list ss in
    let room : room_of s ≡ count ss = g ∙ v.ok.0 ∙ sym (length-map v.items step_view) ∙ ap length e ∙ length-steps_list ss in
    change_view-Kids m v s ∙ (λ i. kids_change (mark_view m) (row i) (room i))

pub planned_alts : (v : Vec AltStep Global) (s : Space Alt) (m : Mark) (ss : List PlainAltStep) → map alt_step_view v.items ≡ ss → room_of s ≡ vec_len v
    → change_view (Alts m v s) ≡ alts_with_room (mark_view m) ss
planned_alts v s m ss e g =
    let room : room_of s ≡ length ss = g ∙ v.ok.0 ∙ sym (length-map v.items alt_step_view) ∙ ap length e in
    change_view-Alts m v s ∙ (λ i. alts_change (mark_view m) (e i) (room i))
