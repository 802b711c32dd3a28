use Rattle.std.proofs.Common.{◌≡◌, Bool, List, ℕ, ap, rules, of_calls}
use Rattle.std.proofs.lemmas.Cmp.{nat_list_cmp_total}
use Rattle.std.proofs.lemmas.List.Sorted.{answers_always, ranks_by}
use Rattle.std.specs.Cmp.Lexicographic.{slice_cmp}
use Rattle.std.specs.Ordering.{is_lt, nat_cmp}
use Rattle.archive_join.specs.Held.{spelled}
use Rattle.archive_join.proofs.Permuted.{keys_sorted}
use Rattle.archive_join.proofs.held.by_body.Goals as goal

abbrev before : List ℕ → List ℕ → Bool
before k j = is_lt (slice_cmp nat_cmp k j)

pub returns-clause-in_order : goal.returns-clause-in_order
returns-clause-in_order c =
    let calls = answers_always _ _ _ (λ f a r e h. (let s : r ≡ slice_cmp nat_cmp (spelled a.0.now) (spelled a.1.0.now) = search (rules, of_calls) in ap is_lt s)) in
    keys_sorted spelled before _ (c.sort_unstable_by.ensures.sorted (λ a b. before (spelled a) (spelled b)) (ranks_by nat_list_cmp_total spelled) calls)
