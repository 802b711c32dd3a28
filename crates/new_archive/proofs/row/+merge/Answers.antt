use Rattle.std.proofs.Common.{rules, ◌≡◌, ◌<◌, ◌≤◌, ◌+◌, ◌-◌, ◌∙◌, [], ◌∷◌, ◌++◌, Ok, Err, Vec, Global, map, length, take, drop, get_or, ap, sym, subst, arith}
use Rattle.std.proofs.lemmas.Grind.{common_steps}
use Rattle.std.proofs.lemmas.List.{drop-map, get_or-drop, get_or-map, length-map, take_at, take_rest}
use Rattle.std.proofs.lemmas.Result.{on_ok_weaker}
use Rattle.std.specs.List.{AllByRecursion}
use Rattle.version_set.specs.Members.{with_last}
use Rattle.version_set.specs.View.{pairs_of}
use Rattle.jsonml_tree.specs.Lists.{AllDiffer, Ascends}
use Rattle.keyed_tree.specs.Data.{inner, kids_from, kids_list, label_of}
use Rattle.keyed_tree.specs.Order.{label_cmp}
use Rattle.keyed_tree.specs.View.{label_view}
use Rattle.keyed_tree.proofs.Kids.{kids_list-kids_from}
use Rattle.keyed_parts.specs.View.{kid_view, kids_view, with_inside}
use Rattle.new_archive.specs.Added.{added, added_row, new_full}
use Rattle.new_archive.specs.Full.{FullAlt, PlainFull, full_inner, full_label, full_bodies, fulls_from}
use Rattle.new_archive.specs.Place.{IsPlaceOf, IsPut, added_list}
use Rattle.new_archive.specs.Ready.{AreReady, IsBelow, IsReady}
use Rattle.new_archive.specs.View.{alts_view, fresh_view, full_view, row_view}
use Rattle.new_archive.specs.Woven.{ArePlaced, woven}
use Rattle.new_archive.specs.declared.bodies.Alts.{Alts}
use Rattle.new_archive.specs.declared.node.NewNode.{NewNode, the_lemmas}
use Rattle.new_archive.proofs.AltRows.{set_row}
use Rattle.new_archive.proofs.Puts.{met_within, put_met, put_new, ready_at}
use Rattle.new_archive.proofs.Rows.{fulls_from-fulls_list}
use Rattle.new_archive.proofs.Views.{full_view-Inner, full_view-Leaf}
use Rattle.new_archive.proofs.Wovens.{placed_shown, placed_up, woven_shown}
use Rattle.new_archive.proofs.Walks.{next, put_on, row_done, inner_ready, leaf_ready, inner_kids, same_inner}
use Rattle.new_archive.proofs.row.+merge.Goals as goal

pub merge_at-merge_node-requires : goal.merge_at-merge_node-requires
merge_at-merge_node-requires t c =
    let row = c.args.row.now in
    let r = c.index-row-at.result in
    let d = c.decreases in
    (omega arith, (c.requires.from, (subst (λ z. IsReady c.args.n z) (get_or-map full_view row c.args.at r (full_view r) c.requires.place) (c.requires.ready (full_view r)), c.requires.ordered)))

pub merge_at-returns : goal.merge_at-returns
merge_at-returns t c =
    let row = c.args.row.now in
    let r = c.index-row-at.result in
    on_ok_weaker c.merge_node.result (λ g. λ d. set_row full_view row c.args.at c.merge_node.new.node _ c.requires.place (g ∙ ap (λ z. added c.args.n z (kid_view c.args.kid)) (sym (get_or-map full_view row c.args.at r d c.requires.place)))) c.merge_node.ensures

pub merge_node-merge_kids-requires : goal.merge_node-merge_kids-requires
merge_node-merge_kids-requires t c =
    let i = c.in-Inner in
    let n = c.args.n in
    let l = label_of (kid_view c.args.new) in
    let r = inner_ready n (full_view c.args.node.now) (label_view i.label) (pairs_of i.set) (row_view i.kids.items) (ap full_view i.is ∙ full_view-Inner i.label i.set i.kids) c.requires.ready in
    let q = inner_kids (kid_view c.args.new) l (kids_view c.in-Kids.more) (c.inside.ensures ∙ ap (with_inside l) c.in-Kids.is) c.requires.ordered in
    let size = q.size in
    let d = c.decreases in (
      omega arith,
      (
        c.requires.from,
        (
          subst (λ (z : Vec NewNode Global). AreReady n (fulls_from (row_view z.items))) (sym i.kids-is) r.ready,
          (subst (λ (z : Vec NewNode Global). Ascends label_cmp (map full_label (row_view z.items))) (sym i.kids-is) r.rising, (q.ascending, q.ordered)),
        ),
      ),
    )

pub merge_node-merge_alts-requires-clause-below : goal.merge_node-merge_alts-requires-clause-below
merge_node-merge_alts-requires-clause-below t c =
    let i = c.in-Leaf-node in
    let n = c.args.n in
    let r = leaf_ready n (full_view c.args.node.now) (label_view i.label) (pairs_of i.set) (alts_view i.alts) (ap full_view i.is ∙ full_view-Leaf i.label i.set i.alts) c.requires.ready in
    subst (λ (z : Alts). AllByRecursion (λ (x : FullAlt). IsBelow n x.numbers) (alts_view z)) (sym i.alts-is) r.below

pub merge_node-merge_alts-requires-clause-differ : goal.merge_node-merge_alts-requires-clause-differ
merge_node-merge_alts-requires-clause-differ t c =
    let i = c.in-Leaf-node in
    let r = leaf_ready c.args.n (full_view c.args.node.now) (label_view i.label) (pairs_of i.set) (alts_view i.alts) (ap full_view i.is ∙ full_view-Leaf i.label i.set i.alts) c.requires.ready in
    subst (λ (z : Alts). AllDiffer (full_bodies (alts_view z))) (sym i.alts-is) r.differ

pub merge_node-returns-in_ok-merge_kids-in-Inner : goal.merge_node-returns-in_ok-merge_kids-in-Inner
merge_node-returns-in_ok-merge_kids-in-Inner t c =
    let i = c.in-Inner in
    let n = c.args.n in
    let ks = row_view i.kids.items in
    let cs = kids_view c.in-Kids.more in
    let l = label_of (kid_view c.args.new) in
    let old : full_view c.args.node.now ≡ full_inner (label_view i.label) (pairs_of i.set) (fulls_from ks) = ap full_view i.is ∙ full_view-Inner i.label i.set i.kids in
    let new : kid_view c.args.new ≡ inner l (kids_from cs) = c.inside.ensures ∙ ap (with_inside l) c.in-Kids.is in
    let list : row_view c.merge_kids.new.row.items ≡ added_list n ks cs = c.in_ok-merge_kids-in-Inner.ensures ∙ (λ j. added_list n (row_view (i.kids-is j).items) cs) in
    let row : fulls_from (row_view c.merge_kids.new.row.items) ≡ added_row n (fulls_from ks) (kids_list (kids_from cs)) = ap fulls_from list ∙ fulls_from-fulls_list (added_row n (fulls_from ks) cs) ∙ ap (added_row n (fulls_from ks)) (sym (kids_list-kids_from cs)) in
    on_ok_weaker c.add_number.result (λ g. full_view-Inner _ c.add_number.new.set c.merge_kids.new.row ∙ same_inner _ (label_view i.label) _ (with_last (pairs_of i.set) n) _ _ (search (rules, the_lemmas, i.is)) (g ∙ ap (λ z. with_last (pairs_of z) n) i.set-is) row ∙ sym (λ j. added n (old j) (new j))) c.add_number.ensures

pub put_kid-place_of-requires : goal.put_kid-place_of-requires
put_kid-place_of-requires t c =
    let items = c.args.row.now.items in
    let ks = row_view items in
    let D = c.deref.result.now in
    let part : row_view (take (length D - c.args.from) (drop c.args.from D)) ≡ drop c.args.from ks = ap row_view (take_rest D c.args.from) ∙ sym (drop-map full_view c.args.from D) ∙ ap (λ z. drop c.args.from (row_view z)) c.deref.ensures.value in
    subst (λ z. Ascends label_cmp (map full_label z)) (sym part) c.requires.rising

pub merge_kids-loop-kid-init : goal.merge_kids-loop-kid-init
merge_kids-loop-kid-init t c =
    let none = c.new-fresh.ensures.items in
    let row = row_view c.args.row.now.items in
    record {
      smaller = omega arith;
      place = omega arith;
      placed = subst (λ z. ArePlaced 0 0 (fresh_view z)) (sym none) (omega arith);
      ready = c.requires.ready;
      rising = c.requires.rising;
      ascending = c.requires.ascending;
      ordered = c.requires.ordered;
      whole = λ i. woven 0 [] (fresh_view (none i)) ++ added_list c.args.n row (kids_view c.args.new);
    }

pub merge_kids-put_kid-requires : goal.merge_kids-put_kid-requires
merge_kids-put_kid-requires t c =
    let l = c.loop-kid in
    let k = next (kids_view l.left) (kid_view c.in-Some.kid) (kids_view c.in-Some.behind) c.in-Some.ensures.some l.invariant.ascending l.invariant.ordered in
    let smaller = l.invariant.smaller in
    let size = k.size in
    let d = c.decreases in
    (omega arith, (c.requires.from, (l.invariant.place, (l.invariant.placed, (l.invariant.ready, (l.invariant.rising, k.ordered))))))

pub merge_kids-loop-kid-preserved : goal.merge_kids-loop-kid-preserved
merge_kids-loop-kid-preserved t c =
    let l = c.loop-kid in
    let k = next (kids_view l.left) (kid_view c.in-Some.kid) (kids_view c.in-Some.behind) c.in-Some.ensures.some l.invariant.ascending l.invariant.ordered in
    let smaller = l.invariant.smaller in
    let size = k.size in
    let p = c.in_ok-from.ensures in
    let within = p.within in
    let many : length (row_view c.put_kid.new.row.items) ≡ length c.put_kid.new.row.items = length-map c.put_kid.new.row.items full_view in
    record {
      smaller = omega arith;
      place = omega (arith, c.put_kid.new.row.ok.0);
      placed = p.placed;
      ready = p.ready;
      rising = p.ascending;
      ascending = k.ascending;
      ordered = k.later;
      whole = put_on c.args.n (row_view c.args.row.now.items) (row_view l.row.items) (fresh_view l.fresh.items) l.from (kids_view c.args.new) (kids_view l.left) l.invariant.whole (kid_view c.in-Some.kid) (kids_view c.in-Some.behind) c.in_ok-from.from (row_view c.put_kid.new.row.items) (fresh_view c.put_kid.new.fresh.items) c.in-Some.ensures.some l.invariant.ascending p;
    }

pub merge_kids-insert_all-requires : goal.merge_kids-insert_all-requires
merge_kids-insert_all-requires t c =
    let l = c.loop-kid in
    placed_shown full_view 0 l.row.len l.fresh.items (placed_up 0 l.from l.row.len (fresh_view l.fresh.items) l.invariant.placed l.invariant.place)

pub merge_kids-returns : goal.merge_kids-returns
merge_kids-returns t c =
    let l = c.loop-kid in
    let none : kids_view l.left ≡ [] = grind (arith, common_steps) in
    let many : length (row_view l.row.items) ≡ length l.row.items = length-map l.row.items full_view in
    let place = l.invariant.place in
    let begins : l.from ≤ length (row_view l.row.items) = omega (arith, l.row.ok.0) in
    on_ok_weaker c.insert_all.result (λ g. ap row_view g ∙ woven_shown full_view 0 l.row.items l.fresh.items ∙ row_done c.args.n (row_view c.args.row.now.items) (row_view l.row.items) (fresh_view l.fresh.items) l.from (kids_view c.args.new) (kids_view l.left) l.invariant.whole begins l.invariant.placed none) c.insert_all.ensures

pub put_kid-merge_at-requires : goal.put_kid-merge_at-requires
put_kid-merge_at-requires t c =
    let items = c.args.row.now.items in
    let ks = row_view items in
    let D = c.deref.result.now in
    let part : row_view (take (length D - c.args.from) (drop c.args.from D)) ≡ drop c.args.from ks = ap row_view (take_rest D c.args.from) ∙ sym (drop-map full_view c.args.from D) ∙ ap (λ z. drop c.args.from (row_view z)) c.deref.ensures.value in
    let l = label_of (kid_view c.args.kid) in
    let many : length ks ≡ length items = length-map items full_view in
    let place = c.requires.place in
    let begins : c.args.from ≤ length ks = omega (arith, c.args.row.now.ok.0) in
    let n = c.args.n in
    let p = c.in-Ok.place in
    let found : IsPlaceOf l (drop c.args.from ks) (Ok p) = subst (λ z. IsPlaceOf l z (Ok p)) part c.in-Ok.ensures in
    let low : c.args.from + p < length ks = met_within n (kid_view c.args.kid) ks (fresh_view c.args.fresh.now.items) c.args.from p begins c.requires.placed c.requires.ready c.requires.rising found in
    let same : length c.deref_mut.result.now ≡ length items = ap length c.deref_mut.ensures.value in
    let d = c.decreases in (
      omega arith,
      (
        c.requires.from,
        (
          omega (arith, low, same, many),
          (λ d. subst (λ z. IsReady n (get_or (row_view z) (c.args.from + p) d)) (sym c.deref_mut.ensures.value) (subst (λ z. IsReady n z) (get_or-drop c.args.from ks p d) (ready_at n p (drop c.args.from ks) d c.requires.ready found.0)), c.requires.ordered),
        ),
      ),
    )

pub put_kid-returns-in_ok-merge_at-in-Ok : goal.put_kid-returns-in_ok-merge_at-in-Ok
put_kid-returns-in_ok-merge_at-in-Ok t c =
    let items = c.args.row.now.items in
    let ks = row_view items in
    let fs = fresh_view c.args.fresh.now.items in
    let D = c.deref.result.now in
    let part : row_view (take (length D - c.args.from) (drop c.args.from D)) ≡ drop c.args.from ks = ap row_view (take_rest D c.args.from) ∙ sym (drop-map full_view c.args.from D) ∙ ap (λ z. drop c.args.from (row_view z)) c.deref.ensures.value in
    let l = label_of (kid_view c.args.kid) in
    let many : length ks ≡ length items = length-map items full_view in
    let place = c.requires.place in
    let begins : c.args.from ≤ length ks = omega (arith, c.args.row.now.ok.0) in
    let n = c.args.n in
    let p = c.in-Ok.place in
    let at = c.args.from + p in
    let k = kid_view c.args.kid in
    let found : IsPlaceOf l (drop c.args.from ks) (Ok p) = subst (λ z. IsPlaceOf l z (Ok p)) part c.in-Ok.ensures in
    let new = c.merge_at.new.row in
    let size : length new ≡ c.args.row.now.len = search rules in
    let d : PlainFull = new_full n k in
    let is : row_view new ≡ take at ks ++ added n (get_or ks at d) k ∷ drop (at + 1) ks = c.in_ok-merge_at-in-Ok.ensures d ∙ ap (λ z. take at (row_view z) ++ added n (get_or (row_view z) at d) k ∷ drop (at + 1) (row_view z)) c.deref_mut.ensures.value in
    subst (λ z. IsPut n ks fs c.args.from k (at + 1) z fs) (sym (ap row_view (take_at new (drop (length new) items) c.args.row.now.len size))) (put_met n k ks fs c.args.from p begins c.requires.placed c.requires.ready c.requires.rising (row_view new) d found is)

pub put_kid-returns-in_ok-begin_new-in-Err : goal.put_kid-returns-in_ok-begin_new-in-Err
put_kid-returns-in_ok-begin_new-in-Err t c =
    let items = c.args.row.now.items in
    let ks = row_view items in
    let D = c.deref.result.now in
    let part : row_view (take (length D - c.args.from) (drop c.args.from D)) ≡ drop c.args.from ks = ap row_view (take_rest D c.args.from) ∙ sym (drop-map full_view c.args.from D) ∙ ap (λ z. drop c.args.from (row_view z)) c.deref.ensures.value in
    let l = label_of (kid_view c.args.kid) in
    let many : length ks ≡ length items = length-map items full_view in
    let place = c.requires.place in
    let begins : c.args.from ≤ length ks = omega (arith, c.args.row.now.ok.0) in
    let p = c.in-Err.place in
    let found : IsPlaceOf l (drop c.args.from ks) (Err p) = subst (λ z. IsPlaceOf l z (Err p)) part c.in-Err.ensures in
    put_new c.args.n (kid_view c.args.kid) ks (fresh_view c.args.fresh.now.items) c.args.from p begins c.requires.placed c.requires.ready c.requires.rising (fresh_view c.begin_new.new.fresh.items) found c.in_ok-begin_new-in-Err.ensures
