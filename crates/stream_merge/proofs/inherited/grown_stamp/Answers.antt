use Rattle.std.proofs.Common.{ℕ, List, Some, length, ap, ◌∙◌, arith}
use Rattle.archive_tree.specs.Data.{Stamp}
use Rattle.archive_tree.specs.View.{stamp_view}
use Rattle.version_set.specs.Members.{with_last}
use Rattle.version_set.specs.View.{pairs_of}
use Rattle.record_parts.specs.Spelling.{stamp_bytes}
use Rattle.stream_merge.proofs.Lengths.{grown_more}
use Rattle.stream_merge.proofs.inherited.grown_stamp.Goals as goal

pub returns-in_ok-reserve_one-in-Some-clause-no_shorter : goal.returns-in_ok-reserve_one-in-Some-clause-no_shorter
returns-in_ok-reserve_one-in-Some-clause-no_shorter c =
    let i = c.in-Some in
    let n = c.args.number in
    let more = grown_more n (Some (pairs_of i.set)) i.set.canonical in
    let was = ap (λ (s : Stamp). length (stamp_bytes s)) (ap stamp_view i.is) in
    let now = ap (λ (s : List (ℕ × ℕ)). length (stamp_bytes (Some s))) (c.add_last.ensures.pairs ∙ ap (λ (s : List (ℕ × ℕ)). with_last s n) c.in_ok-reserve_one-in-Some.ensures.pairs) in
    omega (arith, more, was, now)
