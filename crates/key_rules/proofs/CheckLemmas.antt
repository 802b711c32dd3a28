-- The check of an element that has no label.
use Rattle.std.proofs.Common.{◌≡◌, ℕ, List, Option, Some, None, Result, Ok, Err, IfOk, IfSome, refl, sym, ap, subst, ◌∙◌}
use Rattle.std.specs.Option.{option_map}
use Rattle.jsonml_tree.specs.Data.{PlainContent, element}
use Rattle.key_spec.specs.Data.{PlainPath, PlainRule}
use Rattle.key_spec.specs.Rules.{rule_of}
use Rattle.key_spec.specs.View.{path_view}
use Rattle.key_spec.specs.declared.rule.KeyPath.{KeyPath}
use Rattle.key_rules.specs.Checks.{IsCheckOf, IsFaulty}
use Rattle.key_rules.specs.Faults.{label_fault, path_at}
use Rattle.key_rules.specs.Labels.{PlainLabelFault, label_by, label_in}
use Rattle.key_rules.specs.Satisfies.{ok_of}
use Rattle.key_rules.specs.View.{label_fault_view}
use Rattle.key_rules.specs.declared.check.Checked.{Checked}
use Rattle.key_rules.specs.declared.check.Checked.TheVariants.{Bad, Labelled}
use Rattle.key_rules.specs.LentView.{lent_label_view}
use Rattle.key_rules.specs.declared.lent.LentLabel.{LentLabel}
use Rattle.key_rules.specs.declared.fault.LabelFault.{LabelFault}
use Rattle.key_rules.specs.declared.fault.LabelFault.TheVariants.{Unkeyed, Missing, Twice}
use Rattle.key_rules.proofs.LentLemmas.{label_in-rule}

module _ (rule : Option PlainRule) (e : LabelFault) where
  pub faulty-unkeyed : e ≡ Unkeyed → IsFaulty rule (label_fault_view e) (Bad 1 None)
  faulty-unkeyed is = subst (λ (e : LabelFault). IsFaulty rule (label_fault_view e) (Bad 1 None)) (sym is) (record { fault = λ place. refl; label = refl })

  pub faulty-missing : (n : ℕ) (p : Option KeyPath) → e ≡ Missing n → option_map path_view p ≡ path_at rule n → IsFaulty rule (label_fault_view e) (Bad 3 p)
  faulty-missing n p is path = subst (λ (e : LabelFault). IsFaulty rule (label_fault_view e) (Bad 3 p)) (sym is)
      (record { fault = λ place. ap (λ (p : Option PlainPath). Some (record { place = place; why = 3; path = p })) (sym path); label = refl })

  pub faulty-twice : (n : ℕ) (p : Option KeyPath) → e ≡ Twice n → option_map path_view p ≡ path_at rule n → IsFaulty rule (label_fault_view e) (Bad 4 p)
  faulty-twice n p is path = subst (λ (e : LabelFault). IsFaulty rule (label_fault_view e) (Bad 4 p)) (sym is)
      (record { fault = λ place. ap (λ (p : Option PlainPath). Some (record { place = place; why = 4; path = p })) (sym path); label = refl })

module _ (rules : List PlainRule) (path : List (List ℕ)) (t : List ℕ) (c : PlainContent) where
  pub unkeyed-check : rule_of rules path t ≡ None → IsCheckOf rules path (element t c) (Bad 1 None)
  unkeyed-check none = record {
    fault = λ place. ap (λ r. label_fault r place (label_by r t c)) none;
    label = ap (λ r. ok_of (label_by r t c)) none;
  }

  pub labelled-check : (r : PlainRule) (l : LentLabel) → rule_of rules path t ≡ Some r → label_by (Some r) r.tag c ≡ Ok (lent_label_view l) → IsCheckOf rules path (element t c) (Labelled l)
  labelled-check r l rule is =
      let read : label_in rules path t c ≡ Ok (lent_label_view l) = label_in-rule rules path t c r rule ∙ is in
      record { fault = λ place. ap (label_fault (rule_of rules path t) place) read; label = ap ok_of read }

  faulty-one : (r : PlainRule) (e : Option PlainLabelFault) (checked : Checked) → rule_of rules path t ≡ Some r → IfSome e (λ f. label_by (Some r) r.tag c ≡ Err f) → IsFaulty (Some r) e checked
      → IsCheckOf rules path (element t c) checked
  faulty-one r None checked rule is h = absurd h
  faulty-one r (Some f) checked rule is h =
      let read : label_in rules path t c ≡ Err f = label_in-rule rules path t c r rule ∙ is in
      record {
        fault = λ place. ap (label_fault (rule_of rules path t) place) read ∙ ap (λ o. label_fault o place (Err f)) rule ∙ h.fault place;
        label = ap ok_of read ∙ h.label;
      }

  -- what the check gives is what it has to give
  pub faulty-check : {E : Type 0} (r : PlainRule) (e : Option PlainLabelFault) (o : Result Checked E) → rule_of rules path t ≡ Some r → IfSome e (λ f. label_by (Some r) r.tag c ≡ Err f)
      → IfOk o (λ checked. IsFaulty (Some r) e checked) → IfOk o (λ checked. IsCheckOf rules path (element t c) checked)
  faulty-check r e (Ok checked) rule is h = faulty-one r e checked rule is h
  faulty-check r e (Err x) rule is h = tt
