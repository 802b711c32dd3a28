use Rattle.std.proofs.Common.{◌≡◌, [], ◌∷◌, ◌++◌, ◌+◌, Some, None, map, take, drop, sym, ap, ◌∙◌, subst, arith, rules}
use Rattle.std.proofs.lemmas.List.{map-append}
use Rattle.key_spec.specs.Closed.{closing_why, closing_fault}
use Rattle.key_spec.specs.Texts.{Holds, target_text}
use Rattle.key_spec.specs.View.{rules_view, given_view, rule_view}
use Rattle.key_spec.specs.declared.given.Given.{Given}
use Rattle.key_spec.proofs.ClosingLemmas.{text_why-is, closing_fault-found, closing_fault-none, named_rules}
use Rattle.key_spec.proofs.Steps.{map-drop, map-take, map-split}
use Rattle.key_spec.proofs.TextLemmas.{Holds-Adds}
use Rattle.key_spec.proofs.closing.check_each.Goals as goal

pub returns-in-Some-clause-fault : goal.returns-in-Some-clause-fault
returns-in-Some-clause-fault c =
    let given = c.args.given.now in
    let i = c.loop-one.one-index in
    let item = c.one-item.result in
    let all = rules_view given in
    let before = rules_view (take i given) in
    let named = named_rules all before (rules_view (drop (i + 1) given)) (rule_view item.rule) (map-split (λ (g : Given). rule_view g.rule) given i item (omega arith) c.one-item.is) c.requires.named in
    let why : closing_why all before (rule_view item.rule) ≡ Some c.in-Some.why =
    sym (text_why-is _ _ _ _ all before (rule_view item.rule) c.requires.marks.given c.requires.marks.implied c.requires.marks.ends c.loop-one.invariant.texts c.requires.named named.0 named.1)
    ∙ sym c.in_ok-why.ensures ∙ c.in-Some.is in
    c.loop-one.invariant.left ∙ ap (closing_fault all before) (map-drop given_view given i item (omega arith) c.one-item.is)
    ∙ closing_fault-found all before (given_view item) (map given_view (drop (i + 1) given)) c.in-Some.why why

pub loop-one-preserved : goal.loop-one-preserved
loop-one-preserved c =
    let given = c.args.given.now in
    let i = c.loop-one.one-index in
    let item = c.one-item.result in
    let all = rules_view given in
    let before = rules_view (take i given) in
    let text = target_text (rule_view item.rule) in
    let named = named_rules all before (rules_view (drop (i + 1) given)) (rule_view item.rule) (map-split (λ (g : Given). rule_view g.rule) given i item (omega arith) c.one-item.is) c.requires.named in
    let fine : c.in_ok-why.field-0 ≡ None = search rules in
    let why : closing_why all before (rule_view item.rule) ≡ None =
    sym (text_why-is _ _ _ _ all before (rule_view item.rule) c.requires.marks.given c.requires.marks.implied c.requires.marks.ends c.loop-one.invariant.texts c.requires.named named.0 named.1)
    ∙ sym c.in_ok-why.ensures ∙ fine in
    let longer : rules_view (take (i + 1) given) ≡ before ++ rule_view item.rule ∷ [] = map-take (λ (g : Given). rule_view g.rule) given i item (omega arith) c.one-item.is in
    let texts : map target_text before ++ text ∷ [] ≡ map target_text (rules_view (take (i + 1) given)) =
    sym (map-append target_text before (rule_view item.rule ∷ [])) ∙ ap (map target_text) (sym longer) in
    record {
      left = c.loop-one.invariant.left ∙ ap (closing_fault all before) (map-drop given_view given i item (omega arith) c.one-item.is)
          ∙ closing_fault-none all before (given_view item) (map given_view (drop (i + 1) given)) why ∙ ap (λ b. closing_fault all b (map given_view (drop (i + 1) given))) (sym longer);
      texts = subst (λ ts. Holds c.add_target.new.texts ts) texts (Holds-Adds c.loop-one.earlier c.add_target.new.texts (map target_text before) (text ∷ []) c.loop-one.invariant.texts c.in_ok-add_target.ensures);
    }
