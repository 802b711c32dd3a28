use Rattle.std.proofs.lemmas.Grind.{common_steps}
use Rattle.std.proofs.Common.{◌≡◌, ◌<◌, ◌∷◌, [], ◌++◌, List, length, get_or, refl, rules, subst, sym, arith, ◌+◌, ◌*◌}
use Rattle.std.specs.List.{flat_map}
use Rattle.xa_outside.specs.Taken.{Takes}
use Rattle.xa_outside.specs.Taken.{TakesPrefix}
use Rattle.jsonml_tree.proofs.Trees.{trees, content_view-is}
use Rattle.jsonml_tree.specs.View.{attr_view, tree_view, content_view}
use Rattle.jsonml_tree.specs.declared.scalar.Attr.{Attr}
use Rattle.jsonml_tree.specs.declared.tree.Tree.{Tree}
use Rattle.jsonml_tree.specs.Data.{content_depth}
use Rattle.jsonml_print.specs.Calls.{Call, begin, attribute, end, printed, reached, AllMayCome, Prints, calls_of, content_calls}
use Rattle.jsonml_print.proofs.Walks.{AllMayCome-front, AllMayCome-back, Prints-after, Prints-failed, Prints-in, content_calls-is, content_depth-is, item_depth-le, rest_depth-le, walk_stop, walk_bytes, walk_pen, walk_now, walk_rest}
use Rattle.xa_outside.proofs.Output.{Takes-nil}
use Rattle.jsonml_print.proofs.print.+print.Goals as goal

pub print_element-returns-in_err-begin_elem-clause-prints : goal.print_element-returns-in_err-begin_elem-clause-prints
print_element-returns-in_err-begin_elem-clause-prints g t c =
    Prints-failed (g.K.Sink.taken c.args.sink.now) (g.K.Sink.taken c.begin_elem.new.sink) c.args.printer.now c.begin_elem.new.self (begin c.args.tag.now ∷ []) (content_calls (content_view c.args.content.now) ++ end ∷ [])
    c.from_residual.result c.from_residual.ensures.0 c.in_err-begin_elem.ensures.prints.bytes

pub print_element-print_content-requires : goal.print_element-print_content-requires
print_element-print_content-requires g t c =
    let p = c.args.printer.now in
    let q = c.begin_elem.new.self in
    let cs = content_calls (content_view c.args.content.now) in
    let may : AllMayCome p (begin c.args.tag.now ∷ (cs ++ end ∷ [])) = search rules in
    let deep : 4 * content_depth (content_view c.args.content.now) + 3 ≡ t = search rules in
    λ κs lives. (omega (arith, deep), (lives, AllMayCome-front q cs (end ∷ []) (AllMayCome-back p q (begin c.args.tag.now ∷ []) (cs ++ end ∷ []) c.in_ok-begin_elem.ensures.prints.pen may)))

pub print_element-returns-in_err-print_content-clause-prints : goal.print_element-returns-in_err-print_content-clause-prints
print_element-returns-in_err-print_content-clause-prints g t c =
    let a = g.K.Sink.taken c.args.sink.now in
    let b = g.K.Sink.taken c.begin_elem.new.sink in
    let d = g.K.Sink.taken c.print_content.new.sink in
    let cs = content_calls (content_view c.args.content.now) in
    Prints-in a b d c.args.printer.now c.begin_elem.new.self c.print_content.new.printer _ (begin c.args.tag.now ∷ []) cs (end ∷ []) c.from_residual-in_err-print_content.result refl c.from_residual-in_err-print_content.ensures.0
    c.in_ok-begin_elem.ensures.prints.bytes c.in_ok-begin_elem.ensures.prints.pen c.in_err-print_content.ensures.prints.bytes

pub print_element-end_elem-requires : goal.print_element-end_elem-requires
print_element-end_elem-requires g t c =
    let p = c.args.printer.now in
    let q = c.begin_elem.new.self in
    let cs = content_calls (content_view c.args.content.now) in
    let may : AllMayCome p (begin c.args.tag.now ∷ (cs ++ end ∷ [])) = search rules in
    (AllMayCome-back q c.print_content.new.printer cs (end ∷ []) c.in_ok-print_content.ensures.prints.pen (AllMayCome-back p q (begin c.args.tag.now ∷ []) (cs ++ end ∷ []) c.in_ok-begin_elem.ensures.prints.pen may)).0

pub print_element-returns-clause-prints : goal.print_element-returns-clause-prints
print_element-returns-clause-prints g t c =
    let a = g.K.Sink.taken c.args.sink.now in
    let b = g.K.Sink.taken c.begin_elem.new.sink in
    let d = g.K.Sink.taken c.print_content.new.sink in
    let e = g.K.Sink.taken c.end_elem.new.sink in
    let p = c.args.printer.now in
    let q = c.begin_elem.new.self in
    let r = c.print_content.new.printer in
    let s = c.end_elem.new.self in
    let cs = content_calls (content_view c.args.content.now) in
    Prints-after a b e p q s (begin c.args.tag.now ∷ []) (cs ++ end ∷ []) c.end_elem.result c.in_ok-begin_elem.ensures.prints.bytes c.in_ok-begin_elem.ensures.prints.pen
    (Prints-after b d e q r s cs (end ∷ []) c.end_elem.result c.in_ok-print_content.ensures.prints.bytes c.in_ok-print_content.ensures.prints.pen c.end_elem.ensures.prints)

-- the calls of the attributes, and then those of the items

abbrev attrs_calls : List Attr → List Call
attrs_calls xs = flat_map (λ x. attribute (attr_view x) ∷ []) xs

abbrev trees_calls : List Tree → List Call
trees_calls ts = flat_map (λ t. calls_of (tree_view t)) ts

pub print_content-print_attrs-requires : goal.print_content-print_attrs-requires
print_content-print_attrs-requires g t c =
    let p = c.args.printer.now in
    let whole = content_calls-is tree_view attr_view (content_view c.args.content.now) c.deref.result.now _ _ _ (content_view-is c.args.content.now) c.deref.ensures.value refl in
    AllMayCome-front p (attrs_calls c.deref.result.now) _ (subst (AllMayCome p) whole c.requires)

pub print_content-returns-in_err-print_attrs-clause-prints : goal.print_content-returns-in_err-print_attrs-clause-prints
print_content-returns-in_err-print_attrs-clause-prints g t c =
    let a = g.K.Sink.taken c.args.sink.now in
    let b = g.K.Sink.taken c.print_attrs.new.sink in
    let p = c.args.printer.now in
    let q = c.print_attrs.new.printer in
    let whole = content_calls-is tree_view attr_view (content_view c.args.content.now) c.deref.result.now _ _ _ (content_view-is c.args.content.now) c.deref.ensures.value refl in
    subst (λ (l : List Call). Prints a b p q l c.from_residual.result) (sym whole) (Prints-failed a b p q (attrs_calls c.deref.result.now) _ c.from_residual.result c.from_residual.ensures.0 c.in_err-print_attrs.ensures.prints.bytes)

pub print_content-print_items-requires : goal.print_content-print_items-requires
print_content-print_items-requires g t c =
    let p = c.args.printer.now in
    let q = c.print_attrs.new.printer in
    let xs = c.deref.result.now in
    let ts = c.deref-2.result.now in
    let whole = content_calls-is tree_view attr_view (content_view c.args.content.now) xs _ ts _ (content_view-is c.args.content.now) c.deref.ensures.value c.deref-2.ensures.value in
    let deep = content_depth-is tree_view (content_view c.args.content.now) _ ts _ (content_view-is c.args.content.now) c.deref-2.ensures.value in
    λ κs lives. (omega (arith, c.decreases, deep), (lives, AllMayCome-back p q (attrs_calls xs) (trees_calls ts) c.in_ok-print_attrs.ensures.prints.pen (subst (AllMayCome p) whole c.requires)))

pub print_content-returns-clause-prints : goal.print_content-returns-clause-prints
print_content-returns-clause-prints g t c =
    let a = g.K.Sink.taken c.args.sink.now in
    let b = g.K.Sink.taken c.print_attrs.new.sink in
    let d = g.K.Sink.taken c.print_items.new.sink in
    let p = c.args.printer.now in
    let q = c.print_attrs.new.printer in
    let r = c.print_items.new.printer in
    let xs = c.deref.result.now in
    let ts = c.deref-2.result.now in
    let whole = content_calls-is tree_view attr_view (content_view c.args.content.now) xs _ ts _ (content_view-is c.args.content.now) c.deref.ensures.value c.deref-2.ensures.value in
    subst (λ (l : List Call). Prints a d p r l c.print_items.result) (sym whole)
    (Prints-after a b d p q r (attrs_calls xs) (trees_calls ts) c.print_items.result c.in_ok-print_attrs.ensures.prints.bytes c.in_ok-print_attrs.ensures.prints.pen c.print_items.ensures.prints)

abbrev calls : Tree → List Call
calls t = calls_of (tree_view t)

pub print_items-print_tree-requires : goal.print_items-print_tree-requires
print_items-print_tree-requires g t c =
    let ts = c.args.items.now in
    let i = c.loop-item.item-index in
    let u = c.item-item.result in
    let within : i < length ts = search rules in
    λ κs lives. (
      omega (arith, c.decreases, item_depth-le tree_view ts i u within c.item-item.is c.loop-item.invariant.shallow),
      (lives, subst (λ (v : Tree). AllMayCome c.loop-item.printer (calls v)) (sym c.item-item.is) (walk_now calls c.loop-item.printer ts i u within c.loop-item.invariant.rest)),
    )

pub print_items-returns-in_err-print_tree-clause-prints : goal.print_items-returns-in_err-print_tree-clause-prints
print_items-returns-in_err-print_tree-clause-prints g t c =
    let a = g.K.Sink.taken c.args.sink.now in
    let b = g.K.Sink.taken c.loop-item.sink in
    let d = g.K.Sink.taken c.print_tree.new.sink in
    let p = c.args.printer.now in
    let q = c.loop-item.printer in
    let ts = c.args.items.now in
    let i = c.loop-item.item-index in
    let u = c.item-item.result in
    let within : i < length ts = search rules in
    walk_stop calls a b d p q c.print_tree.new.printer ts i u c.from_residual.result within c.loop-item.invariant.bytes c.loop-item.invariant.pen c.from_residual.ensures.0
    (subst (λ (v : Tree). TakesPrefix b d (printed q (calls v))) c.item-item.is c.in_err-print_tree.ensures.prints.bytes)

pub print_items-loop-item-preserved : goal.print_items-loop-item-preserved
print_items-loop-item-preserved g t c =
    let a = g.K.Sink.taken c.args.sink.now in
    let b = g.K.Sink.taken c.loop-item.sink in
    let d = g.K.Sink.taken c.print_tree.new.sink in
    let p = c.args.printer.now in
    let q = c.loop-item.printer in
    let r = c.print_tree.new.printer in
    let ts = c.args.items.now in
    let i = c.loop-item.item-index in
    let u = c.item-item.result in
    let within : i < length ts = search rules in
    let pen : r ≡ reached q (calls (get_or ts i u)) = subst (λ (v : Tree). r ≡ reached q (calls v)) c.item-item.is c.in_ok-print_tree.ensures.prints.pen in
    record {
      bytes = walk_bytes calls a b d p q ts i u within c.loop-item.invariant.bytes c.loop-item.invariant.pen (subst (λ (v : Tree). Takes b d (printed q (calls v))) c.item-item.is c.in_ok-print_tree.ensures.prints.bytes);
      pen = walk_pen calls p q r ts i u within c.loop-item.invariant.pen pen;
      rest = walk_rest calls q r ts i u within pen c.loop-item.invariant.rest;
      shallow = omega (arith, rest_depth-le tree_view ts i u within, c.loop-item.invariant.shallow);
      later = search rules;
    }

pub print_items-loop-item-init : goal.print_items-loop-item-init
print_items-loop-item-init g c = λ c'. record { bytes = Takes-nil _; pen = search rules; rest = search rules; shallow = search rules; later = search rules }

pub print_content-returns-clause-cause : goal.print_content-returns-clause-cause
print_content-returns-clause-cause g t c = grind (arith, common_steps)

pub print_element-returns-clause-cause : goal.print_element-returns-clause-cause
print_element-returns-clause-cause g t c = grind (arith, common_steps)

pub print_items-returns-clause-cause : goal.print_items-returns-clause-cause
print_items-returns-clause-cause g t c = grind (arith, common_steps)

pub print_items-returns-clause-prints : goal.print_items-returns-clause-prints
print_items-returns-clause-prints g t c = grind (arith, common_steps)

pub print_tree-returns-in-Elem-clause-cause : goal.print_tree-returns-in-Elem-clause-cause
print_tree-returns-in-Elem-clause-cause g t c = grind (arith, common_steps)

pub print_tree-returns-in-Elem-clause-prints : goal.print_tree-returns-in-Elem-clause-prints
print_tree-returns-in-Elem-clause-prints g t c = grind (arith, trees)

pub print_tree-returns-in-Text-clause-cause : goal.print_tree-returns-in-Text-clause-cause
print_tree-returns-in-Text-clause-cause g t c = grind (arith, common_steps)

pub print_tree-returns-in-Text-clause-prints : goal.print_tree-returns-in-Text-clause-prints
print_tree-returns-in-Text-clause-prints g t c = grind (arith, trees)
