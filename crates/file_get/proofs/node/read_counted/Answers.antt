use Rattle.std.proofs.Common.{◌≡◌, ℕ, ◌+◌, ◌*◌, ◌-◌, length, subst, take, ◌∙◌, arith}
use Rattle.std.proofs.lemmas.List.{length-take, take-take}
use Rattle.xa_outside.specs.Numbers.{PullsAtMost}
use Rattle.file_get.specs.Nodes.{NodeTold}
use Rattle.file_get.proofs.StoredNodes.{few-pulls, length-stored, many-pulls}
use Rattle.file_get.proofs.node.read_counted.Goals as goal

pub returns-then-count-gt-FEW-clause-pulls : goal.returns-then-count-gt-FEW-clause-pulls
returns-then-count-gt-FEW-clause-pulls g c = many-pulls c.args.count (g.F.Folder.numbers c.args.folder.now) (g.F.Folder.numbers c.read_long.new.folder) (omega (arith, c.if-count-gt-FEW.true)) c.read_long.ensures.pulls

pub returns-then-count-gt-FEW-clause-told : goal.returns-then-count-gt-FEW-clause-told
returns-then-count-gt-FEW-clause-told g c = λ last left bytes s x count front. c.read_long.ensures.told last left bytes s x count

pub returns-clause-pulls : goal.returns-clause-pulls
returns-clause-pulls g c =
    let a = c.args in
    let n = g.F.Folder.numbers in
    let m = 12 + 8 * a.count in
    let size : length (take m a.node.now) - 20 ≡ 8 * a.count - 8 = omega (arith, length-take m a.node.now, c.requires.node, c.if-count-gt-FEW.false) in
    subst (λ (k : ℕ). PullsAtMost k (n a.folder.now) (n c.read_short.new.folder)) size c.read_short.ensures.pulls

pub returns-clause-few : goal.returns-clause-few
returns-clause-few g c =
    let a = c.args in
    let n = g.F.Folder.numbers in
    let m = 12 + 8 * a.count in
    let size : length (take m a.node.now) - 20 ≡ 8 * a.count - 8 = omega (arith, length-take m a.node.now, c.requires.node, c.if-count-gt-FEW.false) in
    few-pulls a.count (n a.folder.now) (n c.read_short.new.folder) (omega (arith, c.if-count-gt-FEW.false)) (subst (λ (k : ℕ). PullsAtMost k (n a.folder.now) (n c.read_short.new.folder)) size c.read_short.ensures.pulls)

pub returns-clause-told : goal.returns-clause-told
returns-clause-told g c = λ last left bytes s x count front. (
    let a = c.args in
    let m = 12 + 8 * a.count in
    let stored = length-stored s left in
    let size : m ≡ length (take m a.node.now) = omega (arith, length-take m a.node.now, c.requires.node, c.if-count-gt-FEW.false) in
    c.read_short.ensures.told last left bytes s (subst (λ (k : ℕ). NodeTold (g.F.Folder.files a.folder.now) a.ask.now.name.now bytes last a.at (a.at + k) s left) size x) (omega (arith, size, count, stored))
    (take-take 20 m a.node.now (omega (arith, c.requires.some)) ∙ front))
