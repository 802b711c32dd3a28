use Rattle.std.proofs.lemmas.Grind.{common_steps}
use Rattle.std.proofs.Common.{◌≡◌, ◌+◌, ◌-◌, ◌++◌, length, take, drop, ap, ◌∙◌, rules, arith}
use Rattle.std.specs.FinMap as map
use Rattle.std.proofs.lemmas.List.{length-append, length-drop, length-take}
use Rattle.xa_outside.specs.Folder.{bytes_or_none}
use Rattle.timestamp_tree.proofs.Probed.{whole_told}
use Rattle.timestamp_tree.proofs.probe.fill_rest.Goals as goal

pub returns-clause-told : goal.returns-clause-told
returns-clause-told g c = λ files limit told fits front. (
    let a = c.args in
    let file = bytes_or_none (map.get files a.name.now) in
    let f = c.copy_from_slice.new.self in
    let d = drop 20 a.node.now in
    let same : f ≡ a.front.now = search rules in
    let size : length f ≡ 20 = ap length same ∙ c.requires.front in
    let all : length (f ++ d) ≡ length a.node.now = omega (arith, size, length-append f d, length-drop 20 a.node.now, c.requires.node) in
    let behind = length-drop 20 (f ++ d) in
    let m = length (take (length (f ++ d) - 20) (drop 20 (f ++ d))) in
    let many : 20 + m ≡ length a.node.now = omega (arith, all, behind, length-take (length (f ++ d) - 20) (drop 20 (f ++ d)), c.requires.node) in
    let none : length (drop (length (f ++ d) - 20) (drop 20 (f ++ d))) ≡ 0 = omega (arith, behind, length-drop (length (f ++ d) - 20) (drop 20 (f ++ d))) in
    let read = c.fill.ensures.told files limit told (omega (arith, many, fits)) in
    whole_told (length a.node.now) m a.at limit file f d c.fill.new.out (drop (length (f ++ d) - 20) (drop 20 (f ++ d))) c.fill.result many size (same ∙ front) none read)

pub returns-clause-reads : goal.returns-clause-reads
returns-clause-reads g c = grind (arith, common_steps)

pub returns-clause-numbers : goal.returns-clause-numbers
returns-clause-numbers g c = grind (arith, common_steps)

pub returns-clause-pulls : goal.returns-clause-pulls
returns-clause-pulls g c = grind (arith, common_steps)
