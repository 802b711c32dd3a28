use Rattle.std.proofs.Common.{rules, take, drop, sym, ap, ◌∙◌, arith, length-drop, length-take-le}
use Rattle.std.specs.Option.{option_map}
use Rattle.record_format.specs.Reading.{record_of}
use Rattle.record_format.specs.Whole.{with_parts}
use Rattle.xa_outside.specs.NumberLaws.{PullsAtMost-more}
use Rattle.record_cursor.specs.Items.{item_of}
use Rattle.record_cursor.specs.Steps.{body_size}
use Rattle.record_cursor.proofs.Fills.{front-length}
use Rattle.record_cursor.proofs.Comes.{parts-of, leaf-end-of}
use Rattle.record_cursor.proofs.Pulled.{body_size-all}
use Rattle.record_cursor.proofs.step.read_body.Goals as goal

pub returns-in-5-clause-told : goal.returns-in-5-clause-told
returns-in-5-clause-told g c = λ end bytes tells fits. (
    let len = front-length (g.F.Folder.files c.args.folder.now) c.args.name.now bytes end tells in
    leaf-end-of c.args.kind c.args.size (take c.args.size (drop c.args.at bytes)) c.in-5.is c.requires.comes (length-take-le c.args.size (drop c.args.at bytes) (omega (arith, len, fits, length-drop c.args.at bytes))))

pub returns-in-Ok-clause-told : goal.returns-in-Ok-clause-told
returns-in-Ok-clause-told g c = λ end bytes tells fits. (
    let there = c.in-Ok.ensures.told end bytes tells fits in
    parts-of c.args.kind (take c.args.size (drop c.args.at bytes)) (search rules) (search rules)
    ∙ ap (λ bs. option_map item_of (with_parts (record_of c.args.kind bs))) (sym there))

pub returns-in-Ok-clause-pulls : goal.returns-in-Ok-clause-pulls
returns-in-Ok-clause-pulls g c = (
    let numbers = g.F.Folder.numbers in
    PullsAtMost-more c.args.size (body_size c.args.kind c.args.size) (numbers c.args.folder.now) (numbers c.fill.new.folder)
    (omega (arith, body_size-all c.args.kind c.args.size (search rules))) c.in-Ok.ensures.pulls)

pub returns-in-Err-clause-pulls : goal.returns-in-Err-clause-pulls
returns-in-Err-clause-pulls g c = (
    let numbers = g.F.Folder.numbers in
    PullsAtMost-more c.args.size (body_size c.args.kind c.args.size) (numbers c.args.folder.now) (numbers c.fill.new.folder)
    (omega (arith, body_size-all c.args.kind c.args.size (search rules))) c.in-Err.ensures.pulls)

pub returns-in-Ok-clause-body : goal.returns-in-Ok-clause-body
returns-in-Ok-clause-body g c = λ end bytes tells fits. c.in-Ok.ensures.told end bytes tells fits
