use Rattle.std.specs.List.{list_all}
use Rattle.version_set.specs.Members.{members, has}
use Rattle.version_set.specs.View.{pairs_of}
use Rattle.archive_tree.proofs.Counts.{all_tells, tells_all}
use Rattle.archive_tree.proofs.Numbers.{has-Has, Has-has}
use Rattle.archive_tree.proofs.Tells.{bools}
use Rattle.node_judge.proofs.stamp.is_within.Goals as goal

pub returns : goal.returns
returns c =
    let ns = members (pairs_of c.args.set.now) in
    let ms = members (pairs_of c.args.other.now) in
    bools c.is_within.result (list_all (has ms) ns)
    (λ h. tells_all (has ms) ns (λ n m. c.is_within.ensures.0 h n (Has-has ns n m)))
    (λ h. c.is_within.ensures.1 (λ n m. all_tells (has ms) ns h n (has-Has ns n m)))
