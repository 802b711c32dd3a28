use Rattle.std.proofs.Common.{◌≡◌, ℕ, ◌-◌, length, take, drop, rules, ap, ◌∙◌, arith}
use Rattle.std.specs.Prelude.{min}
use Rattle.std.specs.FinMap as map
use Rattle.xa_outside.specs.Folder.{bytes_or_none}
use Rattle.version_notes.proofs.Endings.{filled_from, front_told}
use Rattle.version_notes.proofs.parts.parts_of.Goals as goal

pub returns-in-Ok-2-clause-told : goal.returns-in-Ok-2-clause-told
returns-in-Ok-2-clause-told g c = λ files told. (
    let file = bytes_or_none (map.get files c.args.name.now) in
    let buf = c.fill_at.new.buf in
    let size : length buf ≡ min 16 c.args.length = search rules in
    let least : c.min-size.result ≡ min 16 c.args.length = omega (arith, c.min-size.ensures) in
    let read = filled_from (g.F.Folder.files c.args.folder.now) files c.args.name.now buf (c.args.length - c.min-size.result) c.in-Ok.count told c.if-count-ending.false c.in-Ok.ensures.bytes in
    let there : buf ≡ take (length buf) (drop (c.args.length - min 16 c.args.length) file) = read ∙ ap (λ (k : ℕ). take (length buf) (drop (c.args.length - k) file)) least in
    front_told file buf c.args.length c.by_ending.result size there c.by_ending.ensures.told)
