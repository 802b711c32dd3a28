-- The plain data that each value stands for.
pub use Rattle.key_spec.specs.RuleView.{names_view, path_view, rule_view}
use Rattle.std.specs.Prelude.{◌≡◌, List, map, Option, Some, Result, Err}
use Rattle.std.specs.BTreeSet.{BTreeSet}
use Rattle.key_spec.specs.Data.{PlainRule, GivenRule, PlainSpecFault}
use Rattle.key_spec.specs.Closed.{after_all}
use Rattle.key_spec.specs.declared.spec.Spec.{Spec}
use Rattle.key_spec.specs.declared.given.Given.{Given}
use Rattle.key_spec.specs.declared.place.Placed.{Placed}
use Rattle.key_spec.specs.declared.fault.SpecFault.{SpecFault}
use Rattle.key_spec.specs.declared.fault.SpecFault.TheVariants.{Bad, Memory}

-- the closed rules of a specification
abbrev pub spec_view : Spec → List PlainRule
spec_view s = map rule_view s.rules.items

abbrev pub given_view : Given → GivenRule
given_view g = record { line = g.line; rule = rule_view g.rule }

abbrev pub rules_view : List Given → List PlainRule
rules_view given = map (λ (g : Given). rule_view g.rule) given

-- a rule at its place
abbrev pub placed_view : Placed → PlainRule
placed_view p = rule_view p.rule

-- the rules of a set, in its order
abbrev pub placed_rules : BTreeSet Placed → List PlainRule
placed_rules set = map placed_view set.keys

-- the new set is the old one with these rules put in their places, one after the other
abbrev pub Puts : BTreeSet Placed → BTreeSet Placed → List PlainRule → Type 0
Puts old new rules = placed_rules new ≡ after_all (placed_rules old) rules

-- the fault that was found; want of memory says nothing
abbrev pub IsFault : SpecFault → Option PlainSpecFault → Type 0
IsFault (Bad line why) fault = fault ≡ Some (record { line = line; why = why })
IsFault Memory fault = Unit {0}

-- the fault that is the answer; want of memory says nothing
abbrev pub IsRefusal : SpecFault → Result (List PlainRule) PlainSpecFault → Type 0
IsRefusal (Bad line why) answer = answer ≡ Err (record { line = line; why = why })
IsRefusal Memory answer = Unit {0}
