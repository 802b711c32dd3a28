-- From the passes to the answer of the whole text.
use Rattle.std.proofs.Common.{◌≡◌, ℕ, ◌<◌, ◌≤◌, true, List, [], ◌∷◌, length, ltb, map, refl, ap, ap₂, sym, ◌∙◌, subst, Option, Some, None, Result, Ok, Err, option_map}
use Rattle.std.proofs.lemmas.Bool.{cond-true, cond-false, or_left, or_right, or_from, lt-ltb, le-ltb, and_from}
use Rattle.std.specs.List.{list_all, cons_option}
use Rattle.key_spec.specs.Data.{PlainRule, GivenRule, PlainSpecFault}
use Rattle.key_spec.specs.Names.{is_named}
use Rattle.key_spec.specs.Lines.{lines}
use Rattle.key_spec.specs.Form.{line_rule}
use Rattle.key_spec.specs.Canonical.{canonical}
use Rattle.key_spec.specs.Closed.{numbered, given_by, given_rules, line_fault, first_of_all, closing_fault, closed_rules, within_limits, unless, closed}
use Rattle.key_spec.specs.View.{IsFault, IsRefusal, rules_view, given_view, rule_view}
use Rattle.key_spec.specs.declared.given.Given.{Given}
use Rattle.key_spec.specs.declared.rule.Rule.{Rule}
use Rattle.key_spec.specs.declared.fault.SpecFault.{SpecFault}
use Rattle.key_spec.specs.declared.fault.SpecFault.TheVariants.{Bad, Memory}
use Rattle.key_spec.proofs.RuleLaws.{line_rule-named}

abbrev pub lines_of : List ℕ → List (ℕ × List ℕ)
lines_of text = numbered 1 (lines text)

abbrev pub rules_of : List ℕ → List PlainRule
rules_of text = map (λ (g : GivenRule). g.rule) (given_rules (lines_of text))

-- a fault of the first pass is the answer
pub refusal-first : (text : List ℕ) (e : SpecFault) → IsFault e (first_of_all line_fault (lines_of text)) → IsRefusal e (closed text)
unfolding closed
refusal-first text (Bad line why) f = ap (λ o. unless o (unless (closing_fault (rules_of text) [] (given_rules (lines_of text))) (within_limits (closed_rules (rules_of text))))) f
refusal-first text Memory f = tt

-- else one of the second
pub refusal-closing : (text : List ℕ) (e : SpecFault) → first_of_all line_fault (lines_of text) ≡ None → IsFault e (closing_fault (rules_of text) [] (given_rules (lines_of text))) → IsRefusal e (closed text)
unfolding closed
refusal-closing text (Bad line why) none f =
    ap (λ o. unless o (unless (closing_fault (rules_of text) [] (given_rules (lines_of text))) (within_limits (closed_rules (rules_of text))))) none ∙ ap (λ o. unless o (within_limits (closed_rules (rules_of text)))) f
refusal-closing text Memory none f = tt

-- else the closed rules within their limits
pub closed-limits : (text : List ℕ) → first_of_all line_fault (lines_of text) ≡ None → closing_fault (rules_of text) [] (given_rules (lines_of text)) ≡ None → closed text ≡ within_limits (closed_rules (rules_of text))
unfolding closed
closed-limits text none fine =
    ap (λ o. unless o (unless (closing_fault (rules_of text) [] (given_rules (lines_of text))) (within_limits (closed_rules (rules_of text))))) none ∙ ap (λ o. unless o (within_limits (closed_rules (rules_of text)))) fine

abbrev pub past_limit : Result (List PlainRule) PlainSpecFault
past_limit = Err (record { line = 0; why = 7 })

pub limits-many : (rules : List PlainRule) → 4096 < length rules → within_limits rules ≡ past_limit
limits-many rules h = cond-true _ past_limit (Ok rules) (or_left (ltb 4096 (length rules)) (ltb 1048576 (length (canonical rules))) (lt-ltb _ _ h))

pub limits-long : (rules : List PlainRule) → 1048576 < length (canonical rules) → within_limits rules ≡ past_limit
limits-long rules h = cond-true _ past_limit (Ok rules) (or_right (ltb 4096 (length rules)) (ltb 1048576 (length (canonical rules))) (lt-ltb _ _ h))

pub limits-kept : (rules : List PlainRule) → length rules ≤ 4096 → length (canonical rules) ≤ 1048576 → within_limits rules ≡ Ok rules
limits-kept rules few short = cond-false _ past_limit (Ok rules) (or_from (ltb 4096 (length rules)) (ltb 1048576 (length (canonical rules))) (le-ltb _ _ few) (le-ltb _ _ short))

-- the rules that the lines give are made of names
cons-named : (o : Option GivenRule) (rest : List GivenRule) → ((g : GivenRule) → o ≡ Some g → is_named g.rule ≡ true) → list_all is_named (map (λ (g : GivenRule). g.rule) rest) ≡ true
    → list_all is_named (map (λ (g : GivenRule). g.rule) (cons_option o rest)) ≡ true
cons-named None rest one all = all
cons-named (Some g) rest one all = and_from _ _ (one g refl) all

given_by-named : (line : ℕ × List ℕ) (o : Option PlainRule) → line_rule line.1 ≡ o → (g : GivenRule) → option_map (λ rule. record { line = line.0; rule = rule }) o ≡ Some g → is_named g.rule ≡ true
given_by-named line None e g f = cc
given_by-named line (Some rule) e g f = let same : rule ≡ g.rule = cc in subst (λ r. is_named r ≡ true) same (line_rule-named line.1 rule e)

pub given_rules-named : (ls : List (ℕ × List ℕ)) → list_all is_named (map (λ (g : GivenRule). g.rule) (given_rules ls)) ≡ true
given_rules-named [] = refl
given_rules-named (line ∷ ls) = cons-named (given_by line) (given_rules ls) (given_by-named line (line_rule line.1) refl) (given_rules-named ls)

pub rules_view-given : (given : List Given) → rules_view given ≡ map (λ (g : GivenRule). g.rule) (map given_view given)
rules_view-given [] = refl
rules_view-given (g ∷ given) = ap (λ rs. rule_view g.rule ∷ rs) (rules_view-given given)

-- the same of what was read
pub rules-read : (text : List ℕ) (given : List Given) → map given_view given ≡ given_rules (lines_of text) → rules_view given ≡ rules_of text
rules-read text given e = rules_view-given given ∙ ap (map (λ (g : GivenRule). g.rule)) e

pub closing-read : (text : List ℕ) (given lent : List Given) → lent ≡ given → map given_view given ≡ given_rules (lines_of text)
    → closing_fault (rules_view lent) [] (map given_view lent) ≡ closing_fault (rules_of text) [] (given_rules (lines_of text))
closing-read text given lent same e =
    ap (λ g. closing_fault (rules_view g) [] (map given_view g)) same ∙ ap₂ (λ rs gs. closing_fault rs [] gs) (rules-read text given e) e

pub fault-read : (text : List ℕ) (given lent : List Given) (e : SpecFault) → lent ≡ given → map given_view given ≡ given_rules (lines_of text)
    → IsFault e (closing_fault (rules_view lent) [] (map given_view lent)) → IsFault e (closing_fault (rules_of text) [] (given_rules (lines_of text)))
fault-read text given lent e same all f = subst (IsFault e) (closing-read text given lent same all) f

-- where no fault is found, the rules that were put in order are the answer
pub closed-found : (text bytes : List ℕ) (given lent : List Given) (items again : List Rule) → first_of_all line_fault (lines_of text) ≡ None → map given_view given ≡ given_rules (lines_of text)
    → lent ≡ given → closing_fault (rules_view lent) [] (map given_view lent) ≡ None → map rule_view items ≡ closed_rules (rules_view given) → length (closed_rules (rules_view given)) ≤ 4096
    → again ≡ items → bytes ≡ canonical (map rule_view again) → length bytes ≤ 1048576 → closed text ≡ Ok (map rule_view items)
closed-found text bytes given lent items again none all same fine ordered few twice written short =
    let closing = sym (closing-read text given lent same all) ∙ fine in
    let read = rules-read text given all in
    let rules : map rule_view items ≡ closed_rules (rules_of text) = ordered ∙ ap closed_rules read in
    let whole : bytes ≡ canonical (closed_rules (rules_of text)) = written ∙ ap (λ rs. canonical (map rule_view rs)) twice ∙ ap canonical rules in
    closed-limits text none closing
    ∙ limits-kept (closed_rules (rules_of text)) (subst (λ rs. length (closed_rules rs) ≤ 4096) read few) (subst (λ bs. length bs ≤ 1048576) whole short)
    ∙ ap (λ rs. Ok rs) (sym rules)
