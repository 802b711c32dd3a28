use Rattle.std.proofs.Common.{subst, sym}
use Rattle.std.specs.List.{AllByRecursion}
use Rattle.record_copy.specs.Reads.{IsShortAlternative}
use Rattle.record_copy.specs.Short.{IsRaisedOf}
use Rattle.archive_join.specs.Leaves.{alternatives_view}
use Rattle.archive_join.proofs.Holding.{all_sorted, holds_first, shown_placed}
use Rattle.archive_join.proofs.held.Held.of.Goals as goal

pub returns-clause-holds : goal.returns-clause-holds
returns-clause-holds c =
    let made = c.in_ok-numbered in
    let sorted = c.by_body-entries in
    holds_first (alternatives_view c.args.alternatives.items) made.field-0.items (record { entries = sorted.result }) made.ensures.placed made.ensures.free sorted.ensures.same sorted.ensures.in_order

pub returns-clause-short : goal.returns-clause-short
returns-clause-short c b n h =
    let made = c.in_ok-numbered in
    let sorted = c.by_body-entries in
    let all = subst (AllByRecursion (IsShortAlternative (IsRaisedOf b n) b)) (sym (shown_placed (alternatives_view c.args.alternatives.items) made.field-0.items made.ensures.placed)) h in
    all_sorted (IsShortAlternative (IsRaisedOf b n) b) made.field-0.items sorted.result.items sorted.ensures.same all
