use Rattle.version_set.specs.Members.{members}
use Rattle.version_set.specs.View.{pairs_of}
use Rattle.archive_tree.specs.PartsTest.{is_same}
use Rattle.archive_tree.proofs.Tells.{bools, is_same-exact}
use Rattle.node_judge.proofs.stamp.is_same.Goals as goal

pub returns : goal.returns
returns c =
    let ns = members (pairs_of c.args.one.now) in
    let ms = members (pairs_of c.args.other.now) in
    let law = is_same-exact ns ms in
    let told = c.same.ensures.members in
    bools c.same.result (is_same ns ms) (λ h. law.1 (told.0 h)) (λ h. told.1 (law.0 h))
