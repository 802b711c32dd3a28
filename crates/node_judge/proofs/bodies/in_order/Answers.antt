use Rattle.std.proofs.Common.{◌≡◌, Bool, List, ℕ, ap, rules, of_calls}
use Rattle.std.proofs.lemmas.Cmp.{nat_list_cmp_total}
use Rattle.std.proofs.lemmas.List.Sorted.{answers_always, ranks_by}
use Rattle.std.specs.Cmp.Lexicographic.{slice_cmp}
use Rattle.std.specs.Ordering.{is_lt, nat_cmp}
use Rattle.std.specs.Prelude.{Vec}
use Rattle.std.specs.declared.alloc.Global.{Global}
use Rattle.node_judge.proofs.Differing.{keys-sorted}
use Rattle.node_judge.proofs.bodies.in_order.Goals as goal

abbrev before : List ℕ → List ℕ → Bool
before k j = is_lt (slice_cmp nat_cmp k j)

abbrev bytes : Vec ℕ Global → List ℕ
bytes v = v.items

pub returns-clause-in_order : goal.returns-clause-in_order
returns-clause-in_order c =
    let calls = answers_always _ _ _ (λ f a r e h. (let s : r ≡ slice_cmp nat_cmp (bytes a.0.now) (bytes a.1.0.now) = search (rules, of_calls) in ap is_lt s)) in
    keys-sorted bytes before _ (c.sort_unstable_by.ensures.sorted (λ a b. before (bytes a) (bytes b)) (ranks_by nat_list_cmp_total bytes) calls)
