-- What the checks of one item give.
use Rattle.std.specs.Prelude.{◌≡◌, ℕ, List, Option, Some, None, Err}
use Rattle.std.specs.Option.{option_map}
use Rattle.keyed_tree.specs.Data.{PlainLabel}
use Rattle.key_spec.specs.View.{path_view}
use Rattle.key_spec.specs.Data.{PlainRule}
use Rattle.jsonml_tree.specs.Data.{PlainTree}
use Rattle.key_rules.specs.Faults.{PlainKeyFault, item_fault, label_fault}
use Rattle.key_rules.specs.Labels.{PlainLabelFault}
use Rattle.key_rules.specs.LentView.{lent_label_view}
use Rattle.key_rules.specs.Satisfies.{item_label}
use Rattle.key_rules.specs.declared.check.Checked.{Checked}
use Rattle.key_rules.specs.declared.check.Checked.TheVariants.{Dropped, Labelled, Bad}

-- the fault of an item at this place
abbrev pub checked_fault : List ℕ → Checked → Option PlainKeyFault
checked_fault place Dropped = None
checked_fault place (Labelled l) = None
checked_fault place (Bad why p) = Some (record { place = place; why = why; path = option_map path_view p })

-- the label of an item that is an element with one
abbrev pub checked_label : Checked → Option PlainLabel
checked_label Dropped = None
checked_label (Labelled l) = Some (lent_label_view l)
checked_label (Bad why p) = None

-- these are the fault and the label of the item, wherever it stands
pub record IsCheckOf (rules : List PlainRule) (path : List (List ℕ)) (t : PlainTree) (c : Checked) : Type 0 where
  pub fault : (place : List ℕ) → item_fault rules path place t ≡ checked_fault place c
  pub label : item_label rules path t ≡ checked_label c

-- the same of an element that has no label, by the rule for it and why; want of memory gives nothing
pub record IsFaultyBy (rule : Option PlainRule) (f : PlainLabelFault) (c : Checked) : Type 0 where
  pub fault : (place : List ℕ) → label_fault rule place (Err f) ≡ checked_fault place c
  pub label : None ≡ checked_label c

abbrev pub IsFaulty : Option PlainRule → Option PlainLabelFault → Checked → Type 0
IsFaulty rule None c = ⊥
IsFaulty rule (Some f) c = IsFaultyBy rule f c
