use Rattle.std.proofs.Common.{rules}
use Rattle.std.specs.List.Sorted.{IsNonDecreasingBy}
use Rattle.std.proofs.lemmas.List.Sorted.{IsNonDecreasingBy-from_sort, answers_always}
use Rattle.archive_cut.specs.declared.held.Held.{Held}
use Rattle.archive_cut.proofs.Sorting.{in-order}
use Rattle.archive_cut.proofs.alternatives.in_order.Goals as goal

pub returns : goal.returns
returns c =
    let new = c.sort_unstable_by_key.new.self.items in
    let up : IsNonDecreasingBy (λ (h : Held). h.first) new = IsNonDecreasingBy-from_sort (λ (h : Held). h.first) _ (c.sort_unstable_by_key.ensures.sorted (λ (h : Held). h.first) (answers_always _ _ _ (λ f a r e h. search rules))) in
    in-order c.args.held.items new c.sort_unstable_by_key.ensures.permutation up
