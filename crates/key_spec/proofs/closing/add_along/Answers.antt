use Rattle.std.proofs.Common.{◌≡◌, ◌++◌, ◌||◌, refl, ap, sym, subst, ◌∙◌, List, String, Global, string_bytes, codes, drop, ◌+◌, arith, [], ◌∷◌, append_assoc, append-nil}
use Rattle.std.proofs.lemmas.List.{drop_all}
use Rattle.std.specs.BTreeSet.{contains_text}
use Rattle.key_spec.specs.Names.{slashed}
use Rattle.key_spec.specs.Texts.{Adds, has_text, texts_along, step_text}
use Rattle.key_spec.specs.View.{names_view}
use Rattle.key_spec.proofs.Steps.{map-drop}
use Rattle.key_spec.proofs.TextLemmas.{Adds-none, Adds-next}
use Rattle.key_spec.proofs.closing.add_along.Goals as goal

pub loop-tag-init : goal.loop-tag-init
loop-tag-init c = record { here = refl; texts = λ q. refl }

pub loop-tag-preserved : goal.loop-tag-preserved
loop-tag-preserved c =
    let old = c.loop-tag.texts in
    let new = c.add_text.new.texts in
    let tags = c.args.tags.now in
    let rest = names_view (drop (c.loop-tag.tag-index + 1) tags) in
    let before = string_bytes c.loop-tag.here in
    let after = string_bytes c.push_step.new.text in
    let tag = string_bytes c.tag-item.result in
    let more = map-drop string_bytes tags c.loop-tag.tag-index c.tag-item.result (omega arith) c.tag-item.is in
    let here : after ≡ step_text before tag = c.in_ok-push_step.ensures ∙ ap (λ t. step_text before t) c.as_str.ensures.value in
    let added : Adds old new (after ∷ []) = subst (λ t. Adds old new (t ∷ [])) (c.in_ok-from_str.ensures.ok ∙ c.as_str-in-loop-tag.ensures.value) c.in_ok-add_text.ensures.added in
    record {
      here = c.loop-tag.invariant.here ∙ ap (λ ts. before ++ slashed ts) more ∙ sym (append_assoc before (codes "/" ++ tag) (slashed rest)) ∙ ap (λ t. t ++ slashed rest) (sym here);
      texts = λ q. c.loop-tag.invariant.texts q ∙ ap (λ ts. contains_text old q || has_text (texts_along before ts) q) more
          ∙ ap (λ t. contains_text old q || has_text (t ∷ texts_along t rest) q) (sym here) ∙ Adds-next old new after (texts_along after rest) added q;
    }

pub returns : goal.returns
returns c =
    let tags = c.args.tags.now in
    let here = string_bytes c.loop-tag.here in
    let set = c.loop-tag.texts in
    let none : drop c.loop-tag.tag-index tags ≡ [] = drop_all c.loop-tag.tag-index tags (omega arith) in
    record {
      here = sym (c.loop-tag.invariant.here ∙ ap (λ (ts : List (String Global)). here ++ slashed (names_view ts)) none ∙ append-nil here);
      texts = λ q. sym (c.loop-tag.invariant.texts q ∙ ap (λ (ts : List (String Global)). contains_text set q || has_text (texts_along here (names_view ts)) q) none ∙ sym (Adds-none set q));
    }
