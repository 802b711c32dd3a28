use Rattle.std.proofs.Common.{◌≡◌, ◌++◌, true, false, [], List, Some, map, sym, ◌∙◌, ap}
use Rattle.jsonml_tree.specs.Data.{only_text}
use Rattle.jsonml_tree.specs.LentAttrs.{lent_attr_view}
use Rattle.jsonml_tree.specs.declared.lent_attr.LentAttr.{LentAttr}
use Rattle.keyed_tree.specs.Data.{inner, kids_from}
use Rattle.key_spec.specs.ContextView.{context_path, context_rules}
use Rattle.key_spec.specs.Rules.{below, is_frontier}
use Rattle.key_rules.specs.Labels.{label_in}
use Rattle.key_rules.specs.LentView.{lent_label_view}
use Rattle.key_rules.specs.Satisfies.{is_space_only, ok_of}
use Rattle.key_annotate.specs.KeyedOf.{attr_leaf}
use Rattle.key_annotate.specs.LentView.{lent_view}
use Rattle.key_annotate.specs.declared.lent.LentKeyed.{LentKeyed}
use Rattle.key_annotate.proofs.NodeKinds.{at-frontier, found-below, found-none, found-some, inner-kind, leaf-kind, no-kind, spaces-inside, text-inside, unlabelled}
use Rattle.key_annotate.proofs.build.build_text.Goals as goal

pub returns-in_default : goal.returns-in_default
returns-in_default c =
    let content = only_text c.args.text.now in
    sym (unlabelled (context_rules c.args.context) (context_path c.args.context) c.args.tag.now content (found-none c.in_ok-label.field-0 _ c.in_default.is c.in_ok-label.ensures.label))

pub returns-then-is_frontier : goal.returns-then-is_frontier
returns-then-is_frontier c =
    let rules' = context_rules c.args.context in
    let path = context_path c.args.context in
    let t = c.args.tag.now in
    let content = only_text c.args.text.now in
    let label : ok_of (label_in rules' path t content) ≡ Some (lent_label_view c.in-Some.label) = found-some c.in_ok-label.field-0 c.in-Some.label c.in-Some.inside _ c.in-Some.is c.in_ok-label.ensures.label in
    let place = found-below c.args.context t c.in_ok-label.field-0 c.in-Some.label c.in-Some.inside c.in-Some.is c.in_ok-label.ensures.below in
    let here : is_frontier rules' (below path t) ≡ true = at-frontier c.args.context c.in-Some.inside t c.is_frontier.result true place c.is_frontier.ensures c.if-is_frontier.true in
    ap (λ k. Some k) c.in_ok-leaf.ensures ∙ leaf-kind rules' path t (lent_label_view c.in-Some.label) content label here

pub returns-then-not-is_space_only : goal.returns-then-not-is_space_only
returns-then-not-is_space_only c =
    let rules' = context_rules c.args.context in
    let path = context_path c.args.context in
    let t = c.args.tag.now in
    let content = only_text c.args.text.now in
    let place = found-below c.args.context t c.in_ok-label.field-0 c.in-Some.label c.in-Some.inside c.in-Some.is c.in_ok-label.ensures.below in
    let above : is_frontier rules' (below path t) ≡ false = at-frontier c.args.context c.in-Some.inside t c.is_frontier.result false place c.is_frontier.ensures c.if-is_frontier.false in
    let other : is_space_only c.args.text.now ≡ false = sym c.is_space_only.ensures ∙ c.if-not-is_space_only.true in
    sym (no-kind rules' path t content above (text-inside rules' (below path t) c.args.text.now other))

pub returns : goal.returns
returns c =
    let rules' = context_rules c.args.context in
    let path = context_path c.args.context in
    let t = c.args.tag.now in
    let content = only_text c.args.text.now in
    let label : ok_of (label_in rules' path t content) ≡ Some (lent_label_view c.in-Some.label) = found-some c.in_ok-label.field-0 c.in-Some.label c.in-Some.inside _ c.in-Some.is c.in_ok-label.ensures.label in
    let place = found-below c.args.context t c.in_ok-label.field-0 c.in-Some.label c.in-Some.inside c.in-Some.is c.in_ok-label.ensures.below in
    let above : is_frontier rules' (below path t) ≡ false = at-frontier c.args.context c.in-Some.inside t c.is_frontier.result false place c.is_frontier.ensures c.if-is_frontier.false in
    let l = lent_label_view c.in-Some.label in
    let blank : is_space_only c.args.text.now ≡ true = sym c.is_space_only.ensures ∙ c.if-not-is_space_only.false in
    let built = inner-kind rules' path t l content [] label above (spaces-inside rules' (below path t) c.args.text.now blank) in
    let bare = ap (λ (xs : List LentAttr). inner l (kids_from (map attr_leaf (map lent_attr_view xs) ++ map lent_view c.new.result.items))) c.default-attrs.ensures in
    let empty = ap (λ (ks : List LentKeyed). inner l (kids_from (map lent_view ks))) c.new.ensures.items in
    ap (λ k. Some k) (c.in_ok-inner.ensures ∙ bare ∙ empty) ∙ built
