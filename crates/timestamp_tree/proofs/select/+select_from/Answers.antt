use Rattle.std.proofs.lemmas.Grind.{common_steps}
use Rattle.std.proofs.Common.{◌≡◌, ℕ, ◌+◌, ◌++◌, List, Result, Ok, Err, OnErr, ap, sym, subst, ◌∙◌, append_assoc, arith}
use Rattle.std.proofs.lemmas.Result.{on_ok_weaker, on_err_weaker}
use Rattle.timestamp_tree.specs.Data.{leaves}
use Rattle.timestamp_tree.specs.Search.{answers_from}
use Rattle.timestamp_tree.specs.Prefix.{AppendsPrefix}
use Rattle.timestamp_tree.specs.PartView.{part_view}
use Rattle.timestamp_tree.specs.declared.part.Part.{Part}
use Rattle.timestamp_tree.proofs.Views.{part_view-Inner}
use Rattle.timestamp_tree.proofs.Trees.{leaves_some}
use Rattle.timestamp_tree.proofs.Searches.{none_below, half_left, answers_below}
use Rattle.timestamp_tree.proofs.Prefixes.{prefix_left, prefix_right}
use Rattle.timestamp_tree.proofs.select.+select_from.Goals as goal

pub returns-then-not-contains-clause-ok : goal.returns-then-not-contains-clause-ok
returns-then-not-contains-clause-ok g t c =
    let e = ap part_view c.in-Inner.is ∙ part_view-Inner c.in-Inner.set _ c.in-Inner.left c.in-Inner.right in
    none_below c.args.i c.args.first (part_view c.args.node.now) _ _ _ _ c.args.out.now.items e c.requires.tree (sym c.if-not-contains.ensures)

pub overflow_add-first : goal.overflow_add-first
overflow_add-first g t c =
    let e = ap part_view c.in-Inner.is ∙ part_view-Inner c.in-Inner.set _ c.in-Inner.left c.in-Inner.right in
    let counts = half_left (part_view c.args.node.now) _ _ _ _ c.args.count c.div_ceil-half.result e c.requires.tree c.requires.count c.div_ceil-half.ensures in
    omega (arith, counts.0, counts.1, leaves_some (part_view c.in-Inner.right.value), c.requires.few)

-- what the call on a part appended, at that part
part : (i at : ℕ) (a b : Part) (x y : List ℕ) → a ≡ b → y ≡ x ++ answers_from i at (leaves (part_view a)) → y ≡ x ++ answers_from i at (leaves (part_view b))
part i at a b x y e h = h ∙ ap (λ (n : Part). x ++ answers_from i at (leaves (part_view n))) e

prefix : (i at : ℕ) (a b : Part) (x y : List ℕ) → a ≡ b → AppendsPrefix x y (answers_from i at (leaves (part_view a))) → AppendsPrefix x y (answers_from i at (leaves (part_view b)))
prefix i at a b x y e h = subst (λ (n : Part). AppendsPrefix x y (answers_from i at (leaves (part_view n)))) e h

pub returns-in_ok-select_from-in-Inner-clause-ok : goal.returns-in_ok-select_from-in-Inner-clause-ok
returns-in_ok-select_from-in-Inner-clause-ok g t c =
    let e = ap part_view c.in-Inner.is ∙ part_view-Inner c.in-Inner.set _ c.in-Inner.left c.in-Inner.right in
    let counts = half_left (part_view c.args.node.now) _ _ _ _ c.args.count c.div_ceil-half.result e c.requires.tree c.requires.count c.div_ceil-half.ensures in
    let all = answers_below c.args.i c.args.first (part_view c.args.node.now) _ _ (part_view c.in-Inner.left.value) (part_view c.in-Inner.right.value) c.div_ceil-half.result e counts.0 in
    let first = part c.args.i c.args.first c.deref.result.now c.in-Inner.left.value c.args.out.now.items c.select_from.new.out.items c.deref.ensures c.in_ok-select_from-in-Inner.ensures.ok in
    on_ok_weaker c.select_from-in-Inner.result (λ (h : c.select_from-in-Inner.new.out.items ≡ c.select_from.new.out.items ++ answers_from c.args.i (c.args.first + c.div_ceil-half.result) (leaves (part_view c.deref-in-Inner.result.now))).
    (let second = part c.args.i (c.args.first + c.div_ceil-half.result) c.deref-in-Inner.result.now c.in-Inner.right.value c.select_from.new.out.items c.select_from-in-Inner.new.out.items c.deref-in-Inner.ensures h in
    second ∙ ap (λ (x : List ℕ). x ++ answers_from c.args.i (c.args.first + c.div_ceil-half.result) (leaves (part_view c.in-Inner.right.value))) first
    ∙ append_assoc c.args.out.now.items _ _ ∙ ap (λ (x : List ℕ). c.args.out.now.items ++ x) (sym all)))
    c.select_from-in-Inner.ensures.ok

pub returns-in_ok-select_from-in-Inner-clause-err : goal.returns-in_ok-select_from-in-Inner-clause-err
returns-in_ok-select_from-in-Inner-clause-err g t c =
    let e = ap part_view c.in-Inner.is ∙ part_view-Inner c.in-Inner.set _ c.in-Inner.left c.in-Inner.right in
    let counts = half_left (part_view c.args.node.now) _ _ _ _ c.args.count c.div_ceil-half.result e c.requires.tree c.requires.count c.div_ceil-half.ensures in
    let all = answers_below c.args.i c.args.first (part_view c.args.node.now) _ _ (part_view c.in-Inner.left.value) (part_view c.in-Inner.right.value) c.div_ceil-half.result e counts.0 in
    let first = part c.args.i c.args.first c.deref.result.now c.in-Inner.left.value c.args.out.now.items c.select_from.new.out.items c.deref.ensures c.in_ok-select_from-in-Inner.ensures.ok in
    on_err_weaker c.select_from-in-Inner.result (λ (h : AppendsPrefix c.select_from.new.out.items c.select_from-in-Inner.new.out.items (answers_from c.args.i (c.args.first + c.div_ceil-half.result) (leaves (part_view c.deref-in-Inner.result.now)))).
    (let second = prefix c.args.i (c.args.first + c.div_ceil-half.result) c.deref-in-Inner.result.now c.in-Inner.right.value c.select_from.new.out.items c.select_from-in-Inner.new.out.items c.deref-in-Inner.ensures h in
    prefix_right c.args.out.now.items c.select_from.new.out.items c.select_from-in-Inner.new.out.items _ _ _ all first second))
    c.select_from-in-Inner.ensures.err

on_err : {T E P : Type 0} (r : Result T E) → P → OnErr r P
on_err (Ok x) p = tt
on_err (Err e) p = p

pub returns-in_err-select_from-in-Inner-clause-err : goal.returns-in_err-select_from-in-Inner-clause-err
returns-in_err-select_from-in-Inner-clause-err g t c =
    let e = ap part_view c.in-Inner.is ∙ part_view-Inner c.in-Inner.set _ c.in-Inner.left c.in-Inner.right in
    let counts = half_left (part_view c.args.node.now) _ _ _ _ c.args.count c.div_ceil-half.result e c.requires.tree c.requires.count c.div_ceil-half.ensures in
    let all = answers_below c.args.i c.args.first (part_view c.args.node.now) _ _ (part_view c.in-Inner.left.value) (part_view c.in-Inner.right.value) c.div_ceil-half.result e counts.0 in
    on_err c.from_residual-in_err-select_from-in-Inner.result (prefix_left c.args.out.now.items c.select_from.new.out.items _ _ _ all (prefix c.args.i c.args.first c.deref.result.now c.in-Inner.left.value c.args.out.now.items c.select_from.new.out.items c.deref.ensures c.in_err-select_from-in-Inner.ensures.err))

pub returns-then-not-contains-clause-err : goal.returns-then-not-contains-clause-err
returns-then-not-contains-clause-err g t c = grind (arith, common_steps)

pub returns-in_ok-push-in-Leaf-clause-err : goal.returns-in_ok-push-in-Leaf-clause-err
returns-in_ok-push-in-Leaf-clause-err g t c = grind (arith, common_steps)

pub returns-else-contains-clause-err : goal.returns-else-contains-clause-err
returns-else-contains-clause-err g t c = grind (arith, common_steps)
