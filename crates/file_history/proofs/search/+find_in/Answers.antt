use Rattle.std.proofs.Common.{◌≡◌, ◌+◌, ◌<◌, Ok, sym, ap, subst, ◌∙◌, arith, rules}
use Rattle.keyed_tree.specs.View.{label_view}
use Rattle.record_cursor.specs.Steps.{Filled}
use Rattle.file_rows.specs.View.{row_view}
use Rattle.file_history.specs.Halving.{probes}
use Rattle.file_history.specs.Parts.{IsFoundIn, cost}
use Rattle.file_history.specs.View.{part_view, room_of, left_found}
use Rattle.file_history.proofs.Finding.{here-told, beside-told, beside-smaller, beside-pulls, some-probes, no-probes, found-more, ok-more}
use Rattle.file_history.proofs.Halves.{part-later}
use Rattle.file_history.proofs.Pulls.{but-trans, but-then}
use Rattle.file_history.proofs.search.+find_in.Goals as goal

pub find_in-requires : goal.find_in-requires
find_in-requires g t c =
    let s = beside-smaller c.args.part c.in-Ok-Beside.next c.probe.result (c.in-Ok-Beside.is ∙ ap Ok c.in-Ok-Beside.field-0-is) c.probe.ensures.smaller in
    let high = s.0 in
    let less = s.1 in
    search rules

pub returns-in-Ok-Here-clause-told : goal.returns-in-Ok-Here-clause-told
returns-in-Ok-Here-clause-told g t c = λ bytes parent front mid back h. (here-told (g.F.Folder.files c.args.folder.now) c.args.name.now bytes (row_view c.args.row) parent (label_view c.args.wanted.now) mid (g.F.Folder.numbers c.args.folder.now) (g.F.Folder.numbers c.probe.new.folder)
    c.probe.result c.in-Ok-Here.found (c.in-Ok-Here.is ∙ ap Ok c.in-Ok-Here.field-0-is) (c.probe.ensures.told bytes parent front mid back h)).0

pub returns-in-Ok-Here-clause-steps : goal.returns-in-Ok-Here-clause-steps
returns-in-Ok-Here-clause-steps g t c = λ bytes parent front mid back h. (
    let one = some-probes (g.F.Folder.files c.args.folder.now) c.args.name.now bytes (row_view c.args.row) parent (part_view c.args.part) front mid back h c.if-part.false in
    omega (arith, one, c.tick.ensures))

pub returns-in-Err-clause-steps : goal.returns-in-Err-clause-steps
returns-in-Err-clause-steps g t c = λ bytes parent front mid back h. (
    let one = some-probes (g.F.Folder.files c.args.folder.now) c.args.name.now bytes (row_view c.args.row) parent (part_view c.args.part) front mid back h c.if-part.false in
    omega (arith, one, c.tick.ensures))

pub returns-in-Ok-Beside-clause-pulls : goal.returns-in-Ok-Beside-clause-pulls
returns-in-Ok-Beside-clause-pulls g t c =
    but-trans (room_of c.args.part) (room_of c.in-Ok-Beside.next) (left_found c.find_in.result) (g.F.Folder.numbers c.args.folder.now) (g.F.Folder.numbers c.probe.new.folder) (g.F.Folder.numbers c.find_in.new.folder)
    (beside-pulls (room_of c.args.part) c.in-Ok-Beside.next (g.F.Folder.numbers c.args.folder.now) (g.F.Folder.numbers c.probe.new.folder) c.probe.result (c.in-Ok-Beside.is ∙ ap Ok c.in-Ok-Beside.field-0-is) c.probe.ensures.pulls) c.find_in.ensures.pulls

pub returns-in-Ok-Beside-clause-told : goal.returns-in-Ok-Beside-clause-told
returns-in-Ok-Beside-clause-told g t c = λ bytes parent front mid back h. (
    let told = g.F.Folder.files c.args.folder.now in
    let later = g.F.Folder.files c.probe.new.folder in
    let name = c.args.name.now in
    let row = row_view c.args.row in
    let next = part_view c.in-Ok-Beside.next in
    let w = label_view c.args.wanted.now in
    let b = beside-told told name bytes row parent w mid (g.F.Folder.numbers c.args.folder.now) (g.F.Folder.numbers c.probe.new.folder) c.probe.result c.in-Ok-Beside.next (c.in-Ok-Beside.is ∙ ap Ok c.in-Ok-Beside.field-0-is) (c.probe.ensures.told bytes parent front mid back h) in
    subst (λ k. Filled c.find_in.result (IsFoundIn bytes parent k)) (sym b.same)
    (c.find_in.ensures.told bytes parent b.front b.mid b.back (part-later told later name bytes row parent next b.front b.mid b.back c.probe.ensures.reads.same_files b.is)))

pub returns-in-Ok-Beside-clause-few : goal.returns-in-Ok-Beside-clause-few
returns-in-Ok-Beside-clause-few g t c = λ bytes parent front mid back h. (
    let told = g.F.Folder.files c.args.folder.now in
    let later = g.F.Folder.files c.probe.new.folder in
    let name = c.args.name.now in
    let row = row_view c.args.row in
    let next = part_view c.in-Ok-Beside.next in
    let w = label_view c.args.wanted.now in
    let x = g.F.Folder.numbers c.args.folder.now in
    let y = g.F.Folder.numbers c.probe.new.folder in
    let b = beside-told told name bytes row parent w mid x y c.probe.result c.in-Ok-Beside.next (c.in-Ok-Beside.is ∙ ap Ok c.in-Ok-Beside.field-0-is) (c.probe.ensures.told bytes parent front mid back h) in
    but-then (cost mid) (cost b.mid) x y (g.F.Folder.numbers c.find_in.new.folder) b.less
    (c.find_in.ensures.few bytes parent b.front b.mid b.back (part-later told later name bytes row parent next b.front b.mid b.back c.probe.ensures.reads.same_files b.is)))

pub returns-in-Ok-Beside-clause-steps : goal.returns-in-Ok-Beside-clause-steps
returns-in-Ok-Beside-clause-steps g t c = λ bytes parent front mid back h. (
    let told = g.F.Folder.files c.args.folder.now in
    let later = g.F.Folder.files c.probe.new.folder in
    let name = c.args.name.now in
    let row = row_view c.args.row in
    let next = part_view c.in-Ok-Beside.next in
    let w = label_view c.args.wanted.now in
    let b = beside-told told name bytes row parent w mid (g.F.Folder.numbers c.args.folder.now) (g.F.Folder.numbers c.probe.new.folder) c.probe.result c.in-Ok-Beside.next (c.in-Ok-Beside.is ∙ ap Ok c.in-Ok-Beside.field-0-is) (c.probe.ensures.told bytes parent front mid back h) in
    let fewer = b.fewer in
    let rest = c.find_in.ensures.steps bytes parent b.front b.mid b.back (part-later told later name bytes row parent next b.front b.mid b.back c.probe.ensures.reads.same_files b.is) in
    omega (arith, fewer, rest, c.tick.ensures))

pub returns-in-Ok-Beside-clause-counted : goal.returns-in-Ok-Beside-clause-counted
returns-in-Ok-Beside-clause-counted g t c =
    let one = c.tick.ensures in
    found-more c.find_in.result (c.tick.new.self < c.find_in.new.steps) (c.args.steps.now < c.find_in.new.steps) (λ more. omega (arith, one, more)) c.find_in.ensures.counted

pub returns-then-part-clause-exactly : goal.returns-then-part-clause-exactly
returns-then-part-clause-exactly g t c = λ bytes parent front mid back h. (
    let none = no-probes (g.F.Folder.files c.args.folder.now) c.args.name.now bytes (row_view c.args.row) parent (part_view c.args.part) front mid back (label_view c.args.wanted.now) h c.if-part.true in
    omega (arith, none))

pub returns-in-Ok-Here-clause-exactly : goal.returns-in-Ok-Here-clause-exactly
returns-in-Ok-Here-clause-exactly g t c = λ bytes parent front mid back h. (
    let told = here-told (g.F.Folder.files c.args.folder.now) c.args.name.now bytes (row_view c.args.row) parent (label_view c.args.wanted.now) mid (g.F.Folder.numbers c.args.folder.now) (g.F.Folder.numbers c.probe.new.folder)
    c.probe.result c.in-Ok-Here.found (c.in-Ok-Here.is ∙ ap Ok c.in-Ok-Here.field-0-is) (c.probe.ensures.told bytes parent front mid back h) in
    let one = told.1 in
    omega (arith, one, c.tick.ensures))

pub returns-in-Ok-Beside-clause-exactly : goal.returns-in-Ok-Beside-clause-exactly
returns-in-Ok-Beside-clause-exactly g t c = λ bytes parent front mid back h. (
    let told = g.F.Folder.files c.args.folder.now in
    let later = g.F.Folder.files c.probe.new.folder in
    let name = c.args.name.now in
    let row = row_view c.args.row in
    let next = part_view c.in-Ok-Beside.next in
    let w = label_view c.args.wanted.now in
    let b = beside-told told name bytes row parent w mid (g.F.Folder.numbers c.args.folder.now) (g.F.Folder.numbers c.probe.new.folder) c.probe.result c.in-Ok-Beside.next (c.in-Ok-Beside.is ∙ ap Ok c.in-Ok-Beside.field-0-is) (c.probe.ensures.told bytes parent front mid back h) in
    let steps = b.steps in
    let one = c.tick.ensures in
    ok-more c.find_in.result (c.find_in.new.steps ≡ c.tick.new.self + probes w b.mid) (c.find_in.new.steps ≡ c.args.steps.now + probes w mid) (λ rest. omega (arith, steps, one, rest))
    (c.find_in.ensures.exactly bytes parent b.front b.mid b.back (part-later told later name bytes row parent next b.front b.mid b.back c.probe.ensures.reads.same_files b.is)))
