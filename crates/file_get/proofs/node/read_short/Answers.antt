use Rattle.std.proofs.Common.{◌≡◌, ◌+◌, ◌-◌, length, take, drop, arith}
use Rattle.std.proofs.lemmas.List.{length-drop, length-take}
use Rattle.record_cursor.proofs.Fills.{filled-from, never-short}
use Rattle.file_get.specs.Nodes.{probe_view, says}
use Rattle.file_get.proofs.StoredNodes.{filled-view, node-joined, node-read}
use Rattle.file_get.proofs.node.read_short.Goals as goal

pub returns-in-Ok-clause-told : goal.returns-in-Ok-clause-told
returns-in-Ok-clause-told g c = λ last left bytes s x size front. (
    let a = c.args in
    let node = a.node.now in
    let files = g.F.Folder.files a.folder.now in
    let within = x.within in
    let tells = x.tells in
    let m = length (take (length node - 20) (drop 20 node)) in
    let post = drop (length node - 20) (drop 20 node) in
    let many : 20 + m ≡ length node = omega (arith, c.requires.node, length-take (length node - 20) (drop 20 node), length-drop 20 node) in
    let none : length post ≡ 0 = omega (arith, length-drop (length node - 20) (drop 20 node), length-drop 20 node) in
    let read = filled-from files a.ask.now.name.now bytes last (a.at + 20) m c.fill_part.new.out tells (omega (arith, many, within)) (c.in-Ok.ensures.told tells.0 tells.1) in
    let all = node-joined node c.fill_part.new.out post bytes a.at (length node) m front read many none in
    filled-view c.node_of.result _ c.ok_or.result probe_view (says a.ask.now.version s left) c.ok_or.ensures.value
    (node-read a.ask.now.version left files a.ask.now.name.now bytes _ last a.at (a.at + length node) (length node) s c.node_of.result x all size c.node_of.ensures.exact))

pub returns-in-Err-clause-told : goal.returns-in-Err-clause-told
returns-in-Err-clause-told g c = λ last left bytes s x size front. (
    let a = c.args in
    let node = a.node.now in
    let within = x.within in
    let tells = x.tells in
    let m = length (take (length node - 20) (drop 20 node)) in
    let many : 20 + m ≡ length node = omega (arith, c.requires.node, length-take (length node - 20) (drop 20 node), length-drop 20 node) in
    never-short (g.F.Folder.files a.folder.now) a.ask.now.name.now bytes last (a.at + 20) m c.in-Err.fault tells (omega (arith, many, within)) (c.in-Err.ensures.damage tells.0 tells.1))
