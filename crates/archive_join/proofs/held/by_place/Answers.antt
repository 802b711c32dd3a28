use Rattle.std.proofs.Common.{rules}
use Rattle.std.proofs.lemmas.List.Sorted.{IsNonDecreasingBy-from_sort, answers_always}
use Rattle.archive_join.specs.declared.held.Entry.{Entry}
use Rattle.archive_join.proofs.held.by_place.Goals as goal

pub returns-clause-in_order : goal.returns-clause-in_order
returns-clause-in_order c = IsNonDecreasingBy-from_sort (λ (e : Entry). e.at) _ (c.sort_unstable_by_key.ensures.sorted (λ (e : Entry). e.at) (answers_always _ _ _ (λ f a r e h. search rules)))
