use Rattle.std.proofs.Common.{◌≡◌, not, IfOk, subst}
use Rattle.record_copy.specs.Reads.{IsShortAlternative}
use Rattle.record_copy.specs.Short.{IsRaisedOf}
use Rattle.archive_join.specs.Leaves.{alternatives_view}
use Rattle.archive_join.specs.declared.held.Entry.{Entry}
use Rattle.archive_join.proofs.Holding.{all_left, all_sorted, if_all, others_left}
use Rattle.archive_join.proofs.held.Held.others.Goals as goal

pub returns-clause-others : goal.returns-clause-others
returns-clause-others c ys taken holds differ =
    let placed = c.by_place in
    subst (λ z. IfOk c.not_taken.result (λ v. alternatives_view v.items ≡ z)) (others_left ys taken c.args.self holds placed.result.items placed.ensures.same placed.ensures.in_order) c.not_taken.ensures

pub returns-clause-short : goal.returns-clause-short
returns-clause-short c b n h =
    let placed = c.by_place in
    let all = all_sorted (IsShortAlternative (IsRaisedOf b n) b) c.args.self.entries.items placed.result.items placed.ensures.same h in
    if_all (IsShortAlternative (IsRaisedOf b n) b) c.not_taken.result _ c.not_taken.ensures (all_left (IsShortAlternative (IsRaisedOf b n) b) (λ (e : Entry). not e.taken) placed.result.items all)
