use Rattle.std.proofs.lemmas.Grind.{common_steps}
use Rattle.std.proofs.Common.{arith, None, ◌≡◌, ◌+◌, ◌++◌, ◌∷◌, [], true, false, List, Some, Vec, Global, map, drop, ap, sym, ◌∙◌}
use Rattle.std.specs.Cow.{cow_str_bytes}
use Rattle.std.specs.Option.{option_map}
use Rattle.jsonml_tree.specs.Data.{PlainAttr, text, tree}
use Rattle.jsonml_tree.specs.LentAttrs.{lent_attr_view}
use Rattle.jsonml_tree.specs.LentView.{lent_tree_view, lent_items_view, lent_row_view}
use Rattle.jsonml_tree.proofs.LentTrees.{lent_row_view-is, lent_tree_view-Text}
use Rattle.keyed_tree.specs.Data.{inner, kids_from}
use Rattle.key_annotate.specs.KeyedOf.{attr_leaf}
use Rattle.key_annotate.specs.LentView.{lent_view}
use Rattle.key_annotate.specs.declared.lent.LentKeyed.{LentKeyed}
use Rattle.key_spec.specs.ContextView.{context_path, context_rules}
use Rattle.key_spec.specs.Rules.{below, is_frontier}
use Rattle.key_rules.specs.Labels.{label_in}
use Rattle.key_rules.specs.LentView.{lent_label_view}
use Rattle.key_rules.specs.Reach.{attrs_in}
use Rattle.key_rules.proofs.Rows.{row-more}
use Rattle.std.proofs.lemmas.List.{map_push}
use Rattle.key_rules.specs.Satisfies.{is_space_only, ok_of}
use Rattle.key_annotate.specs.Ordered.{built_items, built_tree, items_inside}
use Rattle.key_annotate.proofs.Added.{after, added-none, added-other, added-text, added-tree}
use Rattle.key_annotate.proofs.NodeKinds.{at-frontier, found-below, found-none, found-some, inner-kind, items-below, leaf-kind, no-kind, unlabelled}
use Rattle.key_annotate.proofs.build.+build.Goals as goal
use Rattle.key_annotate.proofs.build.+build.Goals.{item_kids-in-Text+else-not-is_space_only, item_kids-in_default+in_ok-kid-in_default+in-Some+in_ok-push-in_default}

pub item_kids-loop-item-preserved : goal.item_kids-loop-item-preserved
item_kids-loop-item-preserved t c =
    let rules' = context_rules c.args.context in
    let path = context_path c.args.context in
    let x = c.item-item.result in
    let rest = lent_items_view (drop (c.loop-item.item-index + 1) c.args.items.now) in
    let ks = map lent_view c.loop-item.kids.items in
    let more = row-more lent_tree_view c.args.items.now c.loop-item.item-index x c.loop-item-test.true c.item-item.is in
    elim c.match-item.branch [
      | item_kids-in-Text+else-not-is_space_only w ↦ (
          let s = cow_str_bytes w.in-Text.text in
          let shape : lent_tree_view x ≡ text s = ap lent_tree_view w.in-Text.is ∙ lent_tree_view-Text w.in-Text.text in
          let blank : is_space_only s ≡ true = ap is_space_only (sym w.as_str.ensures.value) ∙ sym w.is_space_only.ensures ∙ w.if-not-is_space_only.false in
          let next = c.loop-item.invariant ∙ ap (λ row. after ks (built_items rules' path row)) (more ∙ ap (λ y. tree y rest) shape) ∙ added-text rules' path s rest ks blank in
          rw w.kids-is next)
      | item_kids-in_default+in_ok-kid-in_default+in-Some+in_ok-push-in_default w ↦ (
          let k = lent_view w.in-Some.kid in
          let some : built_tree rules' path (lent_tree_view x) ≡ Some k =
          sym (ap (option_map lent_view) (sym w.in-Some.is) ∙ w.in_ok-kid-in_default.ensures) in
          let added : map lent_view w.push.new.self.items ≡ ks ++ k ∷ [] = ap (map lent_view) w.in_ok-push-in_default.ensures.items ∙ map_push lent_view c.loop-item.kids.items w.in-Some.kid in
          let next = c.loop-item.invariant ∙ ap (λ row. after ks (built_items rules' path row)) more ∙ added-tree rules' path (lent_tree_view x) rest ks k some
          ∙ ap (λ js. after js (built_items rules' path rest)) (sym added) in
          rw w.kids-is next)
    ]

pub item_kids-returns-then-not-is_space_only : goal.item_kids-returns-then-not-is_space_only
item_kids-returns-then-not-is_space_only t c =
    let rules' = context_rules c.args.context in
    let path = context_path c.args.context in
    let x = c.item-item.result in
    let s = cow_str_bytes c.in-Text.text in
    let rest = lent_items_view (drop (c.loop-item.item-index + 1) c.args.items.now) in
    let ks = map lent_view c.loop-item.kids.items in
    let more = row-more lent_tree_view c.args.items.now c.loop-item.item-index x c.loop-item-test.true c.item-item.is in
    let shape : lent_tree_view x ≡ text s = ap lent_tree_view c.in-Text.is ∙ lent_tree_view-Text c.in-Text.text in
    let other : is_space_only s ≡ false = ap is_space_only (sym c.as_str.ensures.value) ∙ sym c.is_space_only.ensures ∙ c.if-not-is_space_only.true in
    sym (c.loop-item.invariant ∙ ap (λ row. after ks (built_items rules' path row)) (more ∙ ap (λ y. tree y rest) shape) ∙ added-other rules' path s rest ks other)

pub item_kids-returns-in_default-2 : goal.item_kids-returns-in_default-2
item_kids-returns-in_default-2 t c =
    let rules' = context_rules c.args.context in
    let path = context_path c.args.context in
    let x = c.item-item.result in
    let rest = lent_items_view (drop (c.loop-item.item-index + 1) c.args.items.now) in
    let ks = map lent_view c.loop-item.kids.items in
    let more = row-more lent_tree_view c.args.items.now c.loop-item.item-index x c.loop-item-test.true c.item-item.is in
    let none : built_tree rules' path (lent_tree_view x) ≡ None =
    sym (ap (option_map lent_view) (sym c.in_default-2.is) ∙ c.in_ok-kid-in_default.ensures) in
    sym (c.loop-item.invariant ∙ ap (λ row. after ks (built_items rules' path row)) more ∙ added-none rules' path x rest ks c.in_default.not-Text none)

pub item_kids-returns : goal.item_kids-returns
item_kids-returns t c = grind (arith, common_steps)

pub build_row-returns-in_default : goal.build_row-returns-in_default
build_row-returns-in_default t c =
    let content = lent_row_view c.args.row.now in
    sym (unlabelled (context_rules c.args.context) (context_path c.args.context) c.args.tag.now content (found-none c.in_ok-label.field-0 _ c.in_default.is c.in_ok-label.ensures.label))

pub build_row-returns-then-is_frontier : goal.build_row-returns-then-is_frontier
build_row-returns-then-is_frontier t' c =
    let rules' = context_rules c.args.context in
    let path = context_path c.args.context in
    let t = c.args.tag.now in
    let content = lent_row_view c.args.row.now in
    let label : ok_of (label_in rules' path t content) ≡ Some (lent_label_view c.in-Some.label) = found-some c.in_ok-label.field-0 c.in-Some.label c.in-Some.inside _ c.in-Some.is c.in_ok-label.ensures.label in
    let place = found-below c.args.context t c.in_ok-label.field-0 c.in-Some.label c.in-Some.inside c.in-Some.is c.in_ok-label.ensures.below in
    let here : is_frontier rules' (below path t) ≡ true = at-frontier c.args.context c.in-Some.inside t c.is_frontier.result true place c.is_frontier.ensures c.if-is_frontier.true in
    ap (λ k. Some k) c.in_ok-leaf.ensures ∙ leaf-kind rules' path t (lent_label_view c.in-Some.label) content label here

pub build_row-returns-in_default-2 : goal.build_row-returns-in_default-2
build_row-returns-in_default-2 t' c =
    let rules' = context_rules c.args.context in
    let path = context_path c.args.context in
    let t = c.args.tag.now in
    let content = lent_row_view c.args.row.now in
    let place = found-below c.args.context t c.in_ok-label.field-0 c.in-Some.label c.in-Some.inside c.in-Some.is c.in_ok-label.ensures.below in
    let above : is_frontier rules' (below path t) ≡ false = at-frontier c.args.context c.in-Some.inside t c.is_frontier.result false place c.is_frontier.ensures c.if-is_frontier.false in
    let items : items_inside rules' (below path t) content ≡ None =
    items-below c.args.context c.in-Some.inside t content _ None place (ap (option_map (λ (ks : Vec LentKeyed Global). map lent_view ks.items)) c.in_default-2.is) c.in_ok-kids.ensures in
    sym (no-kind rules' path t content above items)

pub build_row-returns : goal.build_row-returns
build_row-returns t' c =
    let rules' = context_rules c.args.context in
    let path = context_path c.args.context in
    let t = c.args.tag.now in
    let content = lent_row_view c.args.row.now in
    let label : ok_of (label_in rules' path t content) ≡ Some (lent_label_view c.in-Some.label) = found-some c.in_ok-label.field-0 c.in-Some.label c.in-Some.inside _ c.in-Some.is c.in_ok-label.ensures.label in
    let place = found-below c.args.context t c.in_ok-label.field-0 c.in-Some.label c.in-Some.inside c.in-Some.is c.in_ok-label.ensures.below in
    let above : is_frontier rules' (below path t) ≡ false = at-frontier c.args.context c.in-Some.inside t c.is_frontier.result false place c.is_frontier.ensures c.if-is_frontier.false in
    let l = lent_label_view c.in-Some.label in
    let ks = map lent_view c.in-Some-2.kids.items in
    let items : items_inside rules' (below path t) content ≡ Some ks =
    items-below c.args.context c.in-Some.inside t content _ (Some ks) place (ap (option_map (λ (ks : Vec LentKeyed Global). map lent_view ks.items)) c.in-Some-2.is) c.in_ok-kids.ensures in
    let attrs : map lent_attr_view c.deref.result.now ≡ attrs_in content = ap (map lent_attr_view) c.deref.ensures.value ∙ sym (ap attrs_in (lent_row_view-is c.args.row.now)) in
    let whole = ap (λ (xs : List PlainAttr). inner l (kids_from (map attr_leaf xs ++ ks))) attrs in
    ap (λ k. Some k) (c.in_ok-inner.ensures ∙ whole) ∙ inner-kind rules' path t l content ks label above items
