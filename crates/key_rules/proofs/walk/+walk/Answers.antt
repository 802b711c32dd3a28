use Rattle.std.proofs.Common.{◌≡◌, ◌+◌, IsTrue, drop, refl, sym, ap, subst, ◌∙◌, arith, rules}
use Rattle.std.specs.Option.{option_or}
use Rattle.jsonml_tree.specs.Fits.{all_items_fit}
use Rattle.jsonml_tree.specs.LentView.{lent_items_view, lent_tree_view}
use Rattle.jsonml_tree.specs.declared.lent.LentRow.{the_lemmas}
use Rattle.keyed_tree.proofs.Kids.{both}
use Rattle.key_spec.specs.ContextView.{context_path, context_rules}
use Rattle.key_rules.specs.Faults.{item_place, row_fault}
use Rattle.key_rules.specs.Spots.{inside_fault}
use Rattle.key_rules.proofs.Rows.{items-few, all-items-fit, items_view-more, items_view-end}
use Rattle.key_rules.proofs.WalkLemmas.{inside-is, none-found, one-found, row-of-item}
use Rattle.key_rules.proofs.walk.+walk.Goals as goal

pub fault_inside-fault_below-requires : goal.fault_inside-fault_below-requires
fault_inside-fault_below-requires t c =
    let few = items-few c.args.row.now c.requires in
    let fit = all-items-fit c.args.row.now c.requires in
    (search (rules, the_lemmas), (rw c.deref-in-None.ensures.value few, rw c.deref-in-None.ensures.value fit))

pub fault_below-returns-then-is_some-clause-fault : goal.fault_below-returns-then-is_some-clause-fault
fault_below-returns-then-is_some-clause-fault t c =
    let items = c.args.items.now in
    let i = c.loop-position.position in
    let old = c.loop-position.invariant in
    let more = items_view-more items i c.index-items-position.result c.loop-position-test.true c.index-items-position.is in
    one-found c.in_ok-found.found _ _ _ c.is_some.ensures c.if-is_some.true c.in_ok-found.ensures.fault
    ∙ sym (old.fault ∙ row-of-item (context_rules c.args.context) (context_path c.args.context) c.args.place.now.items c.loop-position.place.items items i c.index-items-position.result more old.stays)

pub fault_below-returns-then-is_some-clause-stays : goal.fault_below-returns-then-is_some-clause-stays
fault_below-returns-then-is_some-clause-stays t c = c.in_ok-found.ensures.stays ∙ c.loop-position.invariant.stays

pub fault_below-loop-position-preserved : goal.fault_below-loop-position-preserved
fault_below-loop-position-preserved t c =
    let items = c.args.items.now in
    let i = c.loop-position.position in
    let old = c.loop-position.invariant in
    let rest = row_fault (context_rules c.args.context) (context_path c.args.context) (item_place c.args.place.now.items) (i + 1 + 1) (lent_items_view (drop (i + 1) items)) in
    let more = items_view-more items i c.index-items-position.result c.loop-position-test.true c.index-items-position.is in
    let none = none-found c.in_ok-found.found _ _ c.is_some.ensures c.if-is_some.false c.in_ok-found.ensures.fault in
    record {
      fault = old.fault ∙ row-of-item (context_rules c.args.context) (context_path c.args.context) c.args.place.now.items c.loop-position.place.items items i c.index-items-position.result more old.stays ∙ ap (λ o. option_or o rest) none;
      stays = c.in_ok-found.ensures.stays ∙ old.stays;
      fit = (both _ _ (subst (λ ts. IsTrue (all_items_fit ts)) more old.fit)).1;
    }

pub fault_below-returns-clause-fault : goal.fault_below-returns-clause-fault
fault_below-returns-clause-fault t c =
    let path = context_path c.args.context in
    let at = item_place c.args.place.now.items in
    let i = c.loop-position.position in
    sym (c.loop-position.invariant.fault ∙ ap (row_fault (context_rules c.args.context) path at (i + 1)) (items_view-end c.args.items.now i (omega arith)))

pub fault_below-returns-clause-stays : goal.fault_below-returns-clause-stays
fault_below-returns-clause-stays t c = c.loop-position.invariant.stays

pub fault_in-returns-in_default-clause-fault : goal.fault_in-returns-in_default-clause-fault
fault_in-returns-in_default-clause-fault t c = sym (c.in_default.ensures.none refl (item_place c.args.place.now.items (c.args.position + 1)))

pub fault_in-returns-clause-fault : goal.fault_in-returns-clause-fault
fault_in-returns-clause-fault t c =
    let x = lent_tree_view c.args.item.now in
    let d = c.in-Some.inside in
    c.in_ok-found.ensures.fault ∙ ap (λ place. inside_fault (context_rules d) (context_path d) place x) c.in_ok-enter.ensures
    ∙ inside-is c.args.context d x (item_place c.args.place.now.items (c.args.position + 1)) c.in-Some.ensures.some

pub fault_in-returns-clause-stays : goal.fault_in-returns-clause-stays
fault_in-returns-clause-stays t c = c.leave.ensures c.args.place.now.items (c.args.position + 1) (c.in_ok-found.ensures.stays ∙ c.in_ok-enter.ensures)
