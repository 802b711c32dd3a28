use Rattle.std.proofs.Common.{◌≡◌, ℕ, ◌+◌, Bool, Some, None, ap, arith}
use Rattle.xa_fields.specs.FieldLaws.{some_is}
use Rattle.file_get.specs.Nodes.{probe_view, says}
use Rattle.file_get.proofs.Bodies.{clash}
use Rattle.file_get.proofs.StoredNodes.{node-read}
use Rattle.file_get.proofs.node.read_short_leaf.Goals as goal

pub returns-in-Some-clause-told : goal.returns-in-Some-clause-told
returns-in-Some-clause-told g c = λ last bytes s x size. (
    let a = c.args in
    let p = c.in-Some.probe in
    let read = c.in-Ok.ensures.told last bytes x.tells x.within in
    let e = some_is (probe_view p) (says a.ask.now.version s 0) (node-read a.ask.now.version 0 (g.F.Folder.files a.folder.now) a.ask.now.name.now bytes _ last a.at (a.at + a.size) a.size s (Some p) x read size c.in-Some.ensures.exact) in
    ap (λ (y : Bool × ℕ × ℕ). y.0) e)

pub returns-in_default-clause-told : goal.returns-in_default-clause-told
returns-in_default-clause-told g c = λ last bytes s x size. (
    let a = c.args in
    let p = c.in-Some.probe in
    let read = c.in-Ok.ensures.told last bytes x.tells x.within in
    let e = some_is (probe_view p) (says a.ask.now.version s 0) (node-read a.ask.now.version 0 (g.F.Folder.files a.folder.now) a.ask.now.name.now bytes _ last a.at (a.at + a.size) a.size s (Some p) x read size c.in-Some.ensures.exact) in
    let none : p.left ≡ 0 = ap (λ (y : Bool × ℕ × ℕ). y.1) e in
    omega (arith, none, c.if-probe-eq0.false))

pub returns-in_default-2-clause-told : goal.returns-in_default-2-clause-told
returns-in_default-2-clause-told g c = λ last bytes s x size. (
    let a = c.args in
    let read = c.in-Ok.ensures.told last bytes x.tells x.within in
    clash (node-read a.ask.now.version 0 (g.F.Folder.files a.folder.now) a.ask.now.name.now bytes _ last a.at (a.at + a.size) a.size s None x read size c.in_default.ensures.exact))
