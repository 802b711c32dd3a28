-- The plain data that each fault stands for.
use Rattle.std.specs.Prelude.{◌≡◌, ℕ, List, map, Option, Some, None, IfSome, Result, Ok, Err, option_map, String, Vec}
use Rattle.std.specs.List.{AllByRecursion}
use Rattle.std.specs.Global.{Global}
use Rattle.jsonml_tree.specs.View.{place_view}
use Rattle.keyed_tree.specs.Data.{PlainLabel}
use Rattle.keyed_tree.specs.View.{label_view}
use Rattle.keyed_tree.specs.WellFormed.{IsLabelWellFormed}
use Rattle.keyed_tree.specs.declared.label.Label.{Label}
use Rattle.key_spec.specs.View.{path_view, names_view}
use Rattle.key_rules.specs.Labels.{PlainLabelFault, unkeyed, missing, twice}
use Rattle.key_rules.specs.Faults.{PlainKeyFault}
use Rattle.key_rules.specs.declared.fault.KeyFault.{KeyFault}
use Rattle.key_rules.specs.declared.fault.LabelFault.{LabelFault}
use Rattle.key_rules.specs.declared.fault.LabelFault.TheVariants.{Unkeyed, Missing, Twice, Memory}
use Rattle.key_rules.specs.declared.fault.PathFault.{PathFault}
use Rattle.key_rules.specs.declared.fault.PathFault.TheVariants as PathFault

abbrev pub fault_view : KeyFault → PlainKeyFault
fault_view f = record { place = place_view f.place; why = f.why; path = option_map path_view f.key_path }

-- why there is no label, and nothing for want of memory
abbrev pub label_fault_view : LabelFault → Option PlainLabelFault
label_fault_view Unkeyed = Some unkeyed
label_fault_view (Missing n) = Some (missing n)
label_fault_view (Twice n) = Some (twice n)
label_fault_view Memory = None

-- the fault that is the answer; want of memory says nothing
abbrev pub IsLabelFault : {A : Type 0} → LabelFault → Result A PlainLabelFault → Type 0
IsLabelFault e answer = IfSome (label_fault_view e) (λ f. answer ≡ Err f)

-- the number of the bad step, and nothing for want of memory
abbrev pub path_fault_view : PathFault → Option ℕ
path_fault_view (PathFault.Bad n) = Some n
path_fault_view PathFault.Memory = None

-- the tags from the root down, if there are some
abbrev pub here_view : Option (Vec (String Global) Global) → Option (List (List ℕ))
here_view here = option_map (λ v. names_view v.items) here

-- the labels that steps name are these, and well formed; or else the number of the first bad step
abbrev pub NamesSteps : Result (List PlainLabel) ℕ → Vec Label Global → Result Unit PathFault → Type 0
NamesSteps named labels (Ok done) = (named ≡ Ok (map label_view labels.items)) × AllByRecursion IsLabelWellFormed (map label_view labels.items)
NamesSteps named labels (Err e) = IfSome (path_fault_view e) (λ step. named ≡ Err step)
