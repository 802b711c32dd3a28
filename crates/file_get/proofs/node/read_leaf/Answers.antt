use Rattle.std.proofs.Common.{◌≡◌, ℕ, ◌+◌, ◌-◌, ◌*◌, ◌/◌, sym, subst, ◌∙◌, arith}
use Rattle.file_get.specs.Nodes.{NodeTold}
use Rattle.file_get.proofs.StoredNodes.{length-stored, short-pulls, size-is, size-not}
use Rattle.file_get.proofs.node.read_leaf.Goals as goal

pub returns-then-has_intervals-clause-few : goal.returns-then-has_intervals-clause-few
returns-then-has_intervals-clause-few g c =
    let a = c.args in
    let n = a.limit - a.at in
    let is = size-is n (sym c.has_intervals.ensures ∙ c.if-has_intervals.true) in
    let some = is.0 in
    let rest = is.1 in
    let whole : 8 * ((n - 12) / 8) ≡ n - 12 = omega (arith, some, rest) in
    short-pulls n (g.F.Folder.numbers a.folder.now) (g.F.Folder.numbers c.read_short_leaf.new.folder) some (omega (arith, c.if-size.false)) whole c.read_short_leaf.ensures.pulls

pub returns-then-has_intervals-clause-told : goal.returns-then-has_intervals-clause-told
returns-then-has_intervals-clause-told g c = λ last bytes s x ends. (
    let a = c.args in
    let place : a.limit ≡ a.at + (a.limit - a.at) = omega (arith, c.requires.ordered) in
    c.read_short_leaf.ensures.told last bytes s (subst (λ (k : ℕ). NodeTold (g.F.Folder.files a.folder.now) a.ask.now.name.now bytes last a.at k s 0) place x) (omega (arith, ends)))

pub returns-clause-told : goal.returns-clause-told
returns-clause-told g c = λ last bytes s x ends. (
    let a = c.args in
    let n = a.limit - a.at in
    let size = length-stored s 0 in
    let some = x.some in
    size-not n (sym c.has_intervals.ensures ∙ c.if-has_intervals.false) (omega (arith, ends, size, some)) (omega (arith, ends, size)))
