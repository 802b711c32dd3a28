use Rattle.std.proofs.Common.{◌≡◌, true, false, cond, Some, None, map, rules, ap, sym, ◌∙◌}
use Rattle.std.proofs.lemmas.List.Sorted.{answers_always, ranks_by, IsPermutation-map}
use Rattle.keyed_tree.specs.Data.{label_of, kids_from}
use Rattle.keyed_tree.specs.Kids.{ascend}
use Rattle.keyed_tree.specs.Laws.{label_cmp_total}
use Rattle.key_annotate.specs.LentView.{lent_view}
use Rattle.key_annotate.proofs.Sorted.{before, sorted-views, sorted-kids}
use Rattle.key_annotate.proofs.order.in_order.Goals as goal

pub returns-then-ascends : goal.returns-then-ascends
returns-then-ascends c =
    let view = lent_view in
    let new = c.sort_unstable_by.new.self.items in
    let up = sorted-views view new (c.sort_unstable_by.ensures.sorted (λ a b. before (view a) (view b)) (ranks_by label_cmp_total (λ k. label_of (view k))) (answers_always _ _ _ (λ f a r e h. search rules))) in
    let same = sorted-kids (map view c.args.kids.items) (map view new) (IsPermutation-map view c.args.kids.items new c.sort_unstable_by.ensures.permutation) up in
    let deref = ap (λ ks. ascend (kids_from (map view ks))) c.deref.ensures.value in
    let test : ascend (kids_from (map view new)) ≡ true = sym deref ∙ sym c.ascends.ensures ∙ c.if-ascends.true in
    sym (ap (λ b. cond b (Some (map view new)) None) test) ∙ same

pub returns : goal.returns
returns c =
    let view = lent_view in
    let new = c.sort_unstable_by.new.self.items in
    let up = sorted-views view new (c.sort_unstable_by.ensures.sorted (λ a b. before (view a) (view b)) (ranks_by label_cmp_total (λ k. label_of (view k))) (answers_always _ _ _ (λ f a r e h. search rules))) in
    let same = sorted-kids (map view c.args.kids.items) (map view new) (IsPermutation-map view c.args.kids.items new c.sort_unstable_by.ensures.permutation) up in
    let deref = ap (λ ks. ascend (kids_from (map view ks))) c.deref.ensures.value in
    let test : ascend (kids_from (map view new)) ≡ false = sym deref ∙ sym c.ascends.ensures ∙ c.if-ascends.false in
    sym (ap (λ b. cond b (Some (map view new)) None) test) ∙ same
