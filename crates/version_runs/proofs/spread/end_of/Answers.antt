use Rattle.std.proofs.Common.{ℕ, ◌+◌, ◌≤◌, ◌∙◌, sym, subst, arith}
use Rattle.std.proofs.lemmas.List.{get_or_default}
use Rattle.version_runs.proofs.RunLemmas.{start_positive}
use Rattle.version_runs.proofs.spread.end_of.Goals as goal

pub overflow_sub-result : goal.overflow_sub-result
overflow_sub-result c =
    let at = c.in-Some.ensures.lookup.1 in
    let same = get_or_default c.args.starts.now c.args.run c.in-Some.next.now (c.args.last + 1) c.in-Some.ensures.lookup.3.0 in
    let some = start_positive 1 c.args.last c.args.starts.now c.args.run (omega arith) c.requires.ascending in
    subst (λ (x : ℕ). 1 ≤ x) (sym (at ∙ same)) some
