use Rattle.std.proofs.Common.{◌≡◌, ◌+◌, ◌-◌, ℕ, ap, ◌∙◌, subst, arith}
use Rattle.version_notes.specs.Writer.{PlainWriter, after_all, last_appended}
use Rattle.version_notes.specs.declared.fault.NotesFault.TheVariants.{Folder}
use Rattle.xarch_copies.specs.Slicing.{Pushes, Slices, Stops}
use Rattle.xarch_copies.proofs.Making.{at-err}
use Rattle.xarch_copies.proofs.Slicing.{slices, stops-behind, stops-unclosed, waits-still}
use Rattle.xarch_copies.proofs.slice.push_slice.Goals as goal

pub returns-in_err-push_notes : goal.returns-in_err-push_notes
returns-in_err-push_notes g c =
    let f = g.F.Folder in
    at-err c.from_residual-in_err-push_notes.result c.in_err-push_notes.field-0.0 (λ _. Slices f.files f.draft f.numbers f.faults c.args.folder.now c.push_notes.new.folder c.args.reader (c.args.first - 1) (c.args.last + 1 - c.args.first))
    (λ e. Stops f.files f.draft f.numbers f.faults c.args.folder.now c.push_notes.new.folder c.args.reader e) c.from_residual-in_err-push_notes.ensures.1
    (stops-behind c.args.folder.now c.skip_notes.new.folder c.args.reader c.skip_notes.new.reader (c.args.first - 1) c.in_ok-skip_notes.ensures c.push_notes.new.folder c.in_err-push_notes.field-0.0 c.in_err-push_notes.ensures)

pub finish-requires : goal.finish-requires
finish-requires g c =
    let p = c.in_ok-push_notes.ensures in
    waits-still c.push_notes.new.writer p.notes (p.writer ∙ ap (λ (w : PlainWriter). after_all w p.notes) c.start-writer.ensures)

pub returns-in_err-finish : goal.returns-in_err-finish
returns-in_err-finish g c =
    let f = g.F.Folder in
    at-err c.from_residual-in_err-finish.result Folder (λ _. Slices f.files f.draft f.numbers f.faults c.args.folder.now c.finish.new.folder c.args.reader (c.args.first - 1) (c.args.last + 1 - c.args.first))
    (λ e. Stops f.files f.draft f.numbers f.faults c.args.folder.now c.finish.new.folder c.args.reader e) c.from_residual-in_err-finish.ensures.1
    (stops-unclosed c.args.folder.now c.skip_notes.new.folder c.args.reader c.skip_notes.new.reader (c.args.first - 1) c.in_ok-skip_notes.ensures c.push_notes.new.folder c.push_notes.new.reader c.push_notes.new.writer (c.args.last - c.args.first + 1)
    (subst (λ (w : PlainWriter). Pushes f.files f.draft f.numbers f.faults c.skip_notes.new.folder c.push_notes.new.folder c.skip_notes.new.reader c.push_notes.new.reader w c.push_notes.new.writer (c.args.last - c.args.first + 1)) c.start-writer.ensures c.in_ok-push_notes.ensures)
    c.finish.new.folder (last_appended c.push_notes.new.writer) c.in_err-finish.field-0.0 (g.met.F.Folder.metered c.push_notes.new.folder) c.in_err-finish.ensures)

pub returns : goal.returns
returns g c =
    let f = g.F.Folder in
    let order = c.requires.order in
    let many : c.args.last - c.args.first + 1 ≡ c.args.last + 1 - c.args.first = omega (arith, order) in
    subst (λ (n : ℕ). Slices f.files f.draft f.numbers f.faults c.args.folder.now c.finish.new.folder c.args.reader (c.args.first - 1) n) many
    (slices c.args.folder.now c.skip_notes.new.folder c.args.reader c.skip_notes.new.reader (c.args.first - 1) c.in_ok-skip_notes.ensures c.push_notes.new.folder c.push_notes.new.reader c.push_notes.new.writer (c.args.last - c.args.first + 1)
    (subst (λ (w : PlainWriter). Pushes f.files f.draft f.numbers f.faults c.skip_notes.new.folder c.push_notes.new.folder c.skip_notes.new.reader c.push_notes.new.reader w c.push_notes.new.writer (c.args.last - c.args.first + 1)) c.start-writer.ensures c.in_ok-push_notes.ensures)
    c.finish.new.folder c.in_ok-finish.field-0 (g.met.F.Folder.metered c.push_notes.new.folder) c.writers_append_the_part.ensures.part c.in_ok-finish.ensures)
