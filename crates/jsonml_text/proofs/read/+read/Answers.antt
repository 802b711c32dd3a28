use Rattle.jsonml_tree.proofs.Trees.{trees, tree_view-Elem}
use Rattle.std.proofs.lemmas.Grind.{common_steps}
use Rattle.std.proofs.Common.{◌≡◌, ◌<◌, ◌++◌, ◌∷◌, [], ◌+◌, List, ℕ, Ok, Err, map, length, drop, string_bytes, rules, arith, sym, ap, ◌∙◌, subst, Vec, Global, Bor}
use Rattle.std.proofs.lemmas.List.{map-append, length-map, drop_all}
use Rattle.serde_json.specs.Data.{Data, string, array, item, items_depth}
use Rattle.serde_json.specs.View.{view as data_of, items_view}
use Rattle.serde_json.specs.declared.value.Value.{Value, String}
use Rattle.jsonml_tree.specs.Data.{content, element}
use Rattle.jsonml_tree.specs.View.{tree_view, attr_view, content_view, items_view as trees_view}
use Rattle.jsonml_tree.specs.declared.scalar.Attr.{Attr}
use Rattle.jsonml_tree.specs.declared.tree.Tree.{Tree}
use Rattle.jsonml_text.specs.Kept.{AreKept}
use Rattle.jsonml_text.specs.Spelled.{mapped, item_at, element_at}
use Rattle.jsonml_text.specs.Stops.{Reads}
use Rattle.jsonml_text.proofs.Contents.{front_fault, front_items, behind_depth}
use Rattle.jsonml_text.proofs.Spelling.{Reads-handed, values_left, items_stop, items_step, items_done}
use Rattle.jsonml_text.proofs.Values.{no_item, view-String, view-Array}
use Rattle.jsonml_text.proofs.Keeping.{AreKept-push}
use Rattle.jsonml_text.proofs.read.+read.Goals as goal

pub read_items-returns-in_err-item-clause-trees : goal.read_items-returns-in_err-item-clause-trees
read_items-returns-in_err-item-clause-trees t c =
    let place = c.args.place.now.items in
    let vs = c.args.values.now in
    let i = c.loop-value.value-index in
    let v = c.value-item.result in
    let within : i < length vs = search rules in
    Reads-handed {T = Tree} tree_view _ _ _ place c.loop-value.place.items _ c.in_err-item.field-0.0 _
    (λ fault e. sym c.loop-value.invariant.so_far
    ∙ items_stop place c.loop-value.items.items c.len.result (drop i vs) (drop (i + 1) vs) v fault (values_left vs i v within c.value-item.is) (search rules)
    (subst (λ (p : List ℕ). item_at (p ++ (c.len.result + 1) ∷ []) (data_of v) ≡ Err fault) c.loop-value.invariant.place e))
    c.in_err-item.ensures.tree c.from_residual-in_err-item.ensures.1

pub read_items-loop-value-preserved : goal.read_items-loop-value-preserved
read_items-loop-value-preserved t c =
    let place = c.args.place.now.items in
    let us = c.loop-value.items.items in
    let vs = c.args.values.now in
    let i = c.loop-value.value-index in
    let v = c.value-item.result in
    let within : i < length vs = search rules in
    let long : c.len.result ≡ length us = search rules in
    let pushed : c.push_reserved.new.self.items ≡ us ++ c.in_ok-item.item ∷ [] = c.push_reserved.ensures.items in
    let is = values_left vs i v within c.value-item.is in
    let seen : map tree_view c.push_reserved.new.self.items ≡ map tree_view us ++ tree_view c.in_ok-item.item ∷ [] = ap (map tree_view) pushed ∙ map-append tree_view us (c.in_ok-item.item ∷ []) in
    record {
      place = search rules;
      kept = subst AreKept (sym seen) (AreKept-push (map tree_view us) (tree_view c.in_ok-item.item) c.len.result c.loop-value.invariant.kept c.in_ok-item.ensures.kept (long ∙ sym (length-map us tree_view)) c.in_ok-item.ensures.fits);
      shallow = omega (arith, ap (λ l. items_depth (items_view l)) is, c.loop-value.invariant.shallow);
      so_far = items_step place us c.push_reserved.new.self.items c.in_ok-item.item c.len.result (drop i vs) (drop (i + 1) vs) v is pushed long
          (subst (λ (p : List ℕ). item_at (p ++ (c.len.result + 1) ∷ []) (data_of v) ≡ Ok (tree_view c.in_ok-item.item)) c.loop-value.invariant.place c.in_ok-item.ensures.tree.0)
          ∙ c.loop-value.invariant.so_far;
      count = search rules;
      room = search rules;
    }

pub read_items-returns-clause-trees : goal.read_items-returns-clause-trees
read_items-returns-clause-trees t c =
    let vs = c.args.values.now in
    (sym c.loop-value.invariant.so_far ∙ items_done c.args.place.now.items c.loop-value.items.items (drop c.loop-value.value-index vs) (drop_all c.loop-value.value-index vs (omega arith)), c.loop-value.invariant.place)

pub read_element-returns-in-None-clause-element : goal.read_element-returns-in-None-clause-element
read_element-returns-in-None-clause-element t c = grind (arith, common_steps)

pub read_element-returns-in-None-clause-kept : goal.read_element-returns-in-None-clause-kept
read_element-returns-in-None-clause-kept t c = grind (arith, common_steps)

pub read_element-returns-in-None-clause-tree : goal.read_element-returns-in-None-clause-tree
read_element-returns-in-None-clause-tree t c = grind (arith, common_steps)

pub read_element-returns-in_ok-content-in-Some-String-default-clause-element : goal.read_element-returns-in_ok-content-in-Some-String-default-clause-element
read_element-returns-in_ok-content-in-Some-String-default-clause-element t c = grind (arith, trees)

pub read_element-returns-in_ok-content-in-Some-String-default-clause-kept : goal.read_element-returns-in_ok-content-in-Some-String-default-clause-kept
read_element-returns-in_ok-content-in-Some-String-default-clause-kept t c = grind (arith, trees)

pub read_item-returns-in-Array-clause-kept : goal.read_item-returns-in-Array-clause-kept
read_item-returns-in-Array-clause-kept t c = grind (arith, common_steps)

pub read_item-returns-in_ok-from_str-in-String-clause-kept : goal.read_item-returns-in_ok-from_str-in-String-clause-kept
read_item-returns-in_ok-from_str-in-String-clause-kept t c = grind (arith, trees)

pub read_item_at-returns-clause-fits : goal.read_item_at-returns-clause-fits
read_item_at-returns-clause-fits t c = grind (arith, common_steps)

pub read_item_at-returns-clause-kept : goal.read_item_at-returns-clause-kept
read_item_at-returns-clause-kept t c = grind (arith, common_steps)

pub read_item_at-returns-clause-tree : goal.read_item_at-returns-clause-tree
read_item_at-returns-clause-tree t c = grind (arith, common_steps)

pub read_item_at-returns-in_default-clause-fits : goal.read_item_at-returns-in_default-clause-fits
read_item_at-returns-in_default-clause-fits t c = grind (arith, common_steps)

pub read_item_at-returns-in_default-clause-kept : goal.read_item_at-returns-in_default-clause-kept
read_item_at-returns-in_default-clause-kept t c = grind (arith, common_steps)

pub read_item_at-returns-in_default-clause-tree : goal.read_item_at-returns-in_default-clause-tree
read_item_at-returns-in_default-clause-tree t c = grind (arith, common_steps)

pub read_items-loop-value-init : goal.read_items-loop-value-init
read_items-loop-value-init t c = grind (arith, common_steps)

pub read_items-returns-clause-kept : goal.read_items-returns-clause-kept
read_items-returns-clause-kept t c = grind (arith, common_steps)

-- ---- the attributes in front, and then the items

pub read_content-returns-in_err-attrs-clause-content : goal.read_content-returns-in_err-attrs-clause-content
read_content-returns-in_err-attrs-clause-content t c =
    let place = c.args.place.now.items in
    Reads-handed (λ (r : Vec Attr Global × Bor (List Value)). (map attr_view r.0.items, items_view r.1.now)) content_view _ _ place place place c.in_err-attrs.field-0.0 _
    (λ fault e. front_fault place (items_view c.args.values.now) fault e) (c.in_err-attrs.ensures.front place) c.from_residual.ensures.1

pub read_content-read_items-requires : goal.read_content-read_items-requires
read_content-read_items-requires t c =
    let place = c.args.place.now.items in
    omega (arith, c.decreases, behind_depth place (items_view c.args.values.now) (items_view c.in_ok-attrs.behind.now) (map attr_view c.in_ok-attrs.attrs.items) (c.in_ok-attrs.ensures.front place).0)

pub read_content-returns-in_err-items-clause-content : goal.read_content-returns-in_err-items-clause-content
read_content-returns-in_err-items-clause-content t c =
    let place = c.args.place.now.items in
    let xs = map attr_view c.in_ok-attrs.attrs.items in
    Reads-handed (λ (v : Vec Tree Global). trees_view v.items) content_view _ _ place place c.read_items.new.place.items c.in_err-items.field-0.0 _
    (λ fault e. front_items place (items_view c.args.values.now) (items_view c.in_ok-attrs.behind.now) xs (c.in_ok-attrs.ensures.front place).0 ∙ ap (mapped (content xs)) e)
    c.in_err-items.ensures.trees c.from_residual-in_err-items.ensures.1

pub read_content-returns-clause-content : goal.read_content-returns-clause-content
read_content-returns-clause-content t c =
    let place = c.args.place.now.items in
    let xs = map attr_view c.in_ok-attrs.attrs.items in (
      front_items place (items_view c.args.values.now) (items_view c.in_ok-attrs.behind.now) xs (c.in_ok-attrs.ensures.front place).0
          ∙ ap (mapped (content xs)) c.in_ok-items.ensures.trees.0
          ∙ ap (λ x. Ok x) (sym c.content_from.ensures.content),
      c.in_ok-items.ensures.trees.1,
    )

-- ---- what a value spells

pub read_item-returns-in_default : goal.read_item-returns-in_default
read_item-returns-in_default t c = record { tree = no_item c.args.place.now.items c.args.value.now c.in_default.not-String c.in_default.not-Array; kept = tt }

pub read_item-returns-in-Array-clause-tree : goal.read_item-returns-in-Array-clause-tree
read_item-returns-in-Array-clause-tree t c =
    let place = c.args.place.now.items in
    let seen : data_of c.args.value.now ≡ array (items_view c.deref.result.now) = ap data_of c.in-Array.is ∙ view-Array c.in-Array.values ∙ ap (λ l. array (items_view l)) (sym c.deref.ensures.value) in
    subst (λ (d : Data). Reads tree_view (item_at place d) place c.read_element.new.place.items c.read_element.result) (sym seen) c.read_element.ensures.tree

pub read_element-returns-in_ok-content-in-Some-String-default-clause-tree : goal.read_element-returns-in_ok-content-in-Some-String-default-clause-tree
read_element-returns-in_ok-content-in-Some-String-default-clause-tree t c =
    let place = c.args.place.now.items in
    let rest = c.in-Some-String-default.rest.now in
    let tag = c.in-Some-String-default.tag in
    let copy = c.in_ok-tag-in-Some-String-default.tag in
    let held = c.in_ok-content-in-Some-String-default in
    let whole : c.args.values.now ≡ String tag ∷ rest = search rules in
    let copied : string_bytes tag ≡ string_bytes copy = search rules in
    let seen : items_view c.args.values.now ≡ item (string (string_bytes tag)) (items_view rest) = ap items_view whole ∙ ap (λ d. item d (items_view rest)) (view-String tag) in (
      ap (element_at place) seen
          ∙ ap (mapped (element (string_bytes tag))) held.ensures.content.0
          ∙ ap (λ n. Ok (element n (content_view held.content))) copied
          ∙ ap (λ x. Ok x) (sym (tree_view-Elem copy held.content)),
      held.ensures.content.1,
    )
