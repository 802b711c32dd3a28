use Rattle.std.proofs.Common.{◌≡◌, ◌<◌, [], None, Ok, true, map, length, sym, ap, ◌∙◌, subst, string_bytes, rules}
use Rattle.std.proofs.lemmas.Result.{err_from_is_err_and}
use Rattle.std.specs.List.{list_all}
use Rattle.key_spec.specs.Names.{is_named}
use Rattle.key_spec.specs.Canonical.{canonical}
use Rattle.key_spec.specs.Closed.{closed_rules, closing_fault, given_rules}
use Rattle.key_spec.specs.View.{rules_view}
use Rattle.key_spec.specs.RuleView.{rule_view}
use Rattle.key_spec.proofs.ParseLemmas.{lines_of, rules_of, refusal-first, refusal-closing, closed-limits, limits-many, limits-long, given_rules-named, rules-read, closing-read, fault-read, closed-found}
use Rattle.key_spec.proofs.spec.Spec.read.Goals as goal

pub returns-in_err-given-clause-fault : goal.returns-in_err-given-clause-fault
returns-in_err-given-clause-fault c =
    let p = err_from_is_err_and c.from_residual.result c.from_residual.ensures.1 in
    rw (p.1, p.2) (refusal-first c.args.text.now c.in_err-given.field-0.0 c.in_err-given.ensures.fault)

pub check_closing-requires : goal.check_closing-requires
check_closing-requires c =
    let text = c.args.text.now in
    let same : rules_view c.deref.result.now ≡ rules_of text = ap rules_view c.deref.ensures.value ∙ rules-read text c.in_ok-given.given.items c.in_ok-given.ensures.all in
    subst (λ rs. list_all is_named rs ≡ true) (sym same) (given_rules-named (lines_of text))

pub returns-in_err-check_closing-clause-fault : goal.returns-in_err-check_closing-clause-fault
returns-in_err-check_closing-clause-fault c =
    let p = err_from_is_err_and c.from_residual-in_err-check_closing.result c.from_residual-in_err-check_closing.ensures.1 in
    let text = c.args.text.now in
    let e = c.in_err-check_closing.field-0.0 in
    let fault = fault-read text c.in_ok-given.given.items c.deref.result.now e c.deref.ensures.value c.in_ok-given.ensures.all c.in_err-check_closing.ensures.fault in
    rw (p.1, p.2) (refusal-closing text e c.in_ok-given.ensures.none fault)

pub returns-in_default-clause-fault : goal.returns-in_default-clause-fault
returns-in_default-clause-fault c =
    let text = c.args.text.now in
    let given = c.in_ok-given.given.items in
    let fine : closing_fault (rules_of text) [] (given_rules (lines_of text)) ≡ None = sym (closing-read text given c.deref.result.now c.deref.ensures.value c.in_ok-given.ensures.all) ∙ c.in_ok-check_closing.ensures.none in
    let same = rules-read text given c.in_ok-given.ensures.all in
    let many : 4096 < length (closed_rules (rules_view given)) = rw c.in_default.is at c.in_ok-rules.ensures.none in
    closed-limits text c.in_ok-given.ensures.none fine ∙ limits-many (closed_rules (rules_of text)) (subst (λ rs. 4096 < length (closed_rules rs)) same many)

pub returns-then-len-gt-LONGEST_TEXT-clause-fault : goal.returns-then-len-gt-LONGEST_TEXT-clause-fault
returns-then-len-gt-LONGEST_TEXT-clause-fault c =
    let text = c.args.text.now in
    let given = c.in_ok-given.given.items in
    let fine : closing_fault (rules_of text) [] (given_rules (lines_of text)) ≡ None = sym (closing-read text given c.deref.result.now c.deref.ensures.value c.in_ok-given.ensures.all) ∙ c.in_ok-check_closing.ensures.none in
    let ordered : map rule_view c.in-Some.rules.items ≡ closed_rules (rules_of text) = (rw c.in-Some.is at c.in_ok-rules.ensures.some) ∙ ap closed_rules (rules-read text given c.in_ok-given.ensures.all) in
    let bytes : string_bytes c.in_ok-canonical_text.field-0 ≡ canonical (closed_rules (rules_of text)) = c.in_ok-canonical_text.ensures ∙ ap (λ rs. canonical (map rule_view rs)) c.deref-2.ensures.value ∙ ap canonical ordered in
    let long : 1048576 < length (canonical (closed_rules (rules_of text))) = subst (λ bs. 1048576 < length bs) bytes (search rules) in
    closed-limits text c.in_ok-given.ensures.none fine ∙ limits-long (closed_rules (rules_of text)) long

pub of-requires : goal.of-requires
of-requires c = (
  c.args.text.now,
  closed-found c.args.text.now (string_bytes c.in_ok-canonical_text.field-0) c.in_ok-given.given.items c.deref.result.now c.in-Some.rules.items c.deref-2.result.now
      c.in_ok-given.ensures.none c.in_ok-given.ensures.all c.deref.ensures.value c.in_ok-check_closing.ensures.none
      (rw c.in-Some.is at c.in_ok-rules.ensures.some) (rw c.in-Some.is at c.in_ok-rules.ensures.few) c.deref-2.ensures.value c.in_ok-canonical_text.ensures
      (search rules),
)

pub returns-clause-found : goal.returns-clause-found
returns-clause-found c =
    closed-found c.args.text.now (string_bytes c.in_ok-canonical_text.field-0) c.in_ok-given.given.items c.deref.result.now c.in-Some.rules.items c.deref-2.result.now
    c.in_ok-given.ensures.none c.in_ok-given.ensures.all c.deref.ensures.value c.in_ok-check_closing.ensures.none
    (rw c.in-Some.is at c.in_ok-rules.ensures.some) (rw c.in-Some.is at c.in_ok-rules.ensures.few) c.deref-2.ensures.value c.in_ok-canonical_text.ensures
    (search rules)
    ∙ ap (λ rs. Ok rs) (sym c.in_ok-of.ensures)
