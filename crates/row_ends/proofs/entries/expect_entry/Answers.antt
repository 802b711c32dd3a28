use Rattle.std.proofs.Common.{◌++◌, Ok, Err}
use Rattle.xa_fields.specs.Spelling.{u64_bytes}
use Rattle.row_ends.proofs.Steps.{rewritten, then, passes}
use Rattle.row_ends.proofs.entries.expect_entry.Goals as goal

pub returns-in_err-expect : goal.returns-in_err-expect
returns-in_err-expect g c =
    let f = g.F.Folder in
    let z = c.args.size in
    let e = c.in_err-expect in
    passes f.files f.draft f.numbers f.faults c.args.name.now (u64_bytes z.dir) (u64_bytes c.args.start ++ u64_bytes z.length) c.args.folder.now c.expect.new.folder c.args.room.now c.expect.new.self e.field-0.0 c.from_residual.result c.from_residual.ensures.1
    (rewritten f.files f.draft f.numbers f.faults c.args.name.now c.to_be_bytes.result (u64_bytes z.dir) c.args.folder.now c.expect.new.folder c.args.room.now c.expect.new.self (Err e.field-0.0) c.to_be_bytes.ensures e.ensures)

pub returns-in_err-expect-2 : goal.returns-in_err-expect-2
returns-in_err-expect-2 g c =
    let f = g.F.Folder in
    let z = c.args.size in
    let e = c.in_err-expect-2 in
    let o = c.in_ok-expect in
    let first = rewritten f.files f.draft f.numbers f.faults c.args.name.now c.to_be_bytes.result (u64_bytes z.dir) c.args.folder.now c.expect.new.folder c.args.room.now c.expect.new.self (Ok o.field-0) c.to_be_bytes.ensures o.ensures in
    let second = rewritten f.files f.draft f.numbers f.faults c.args.name.now c.to_be_bytes-2.result (u64_bytes z.length) c.expect.new.folder c.expect-2.new.folder c.expect.new.self c.expect-2.new.self (Err e.field-0.0) c.to_be_bytes-2.ensures e.ensures in
    passes f.files f.draft f.numbers f.faults c.args.name.now (u64_bytes z.length ++ u64_bytes z.dir) (u64_bytes c.args.start) c.args.folder.now c.expect-2.new.folder c.args.room.now c.expect-2.new.self e.field-0.0 c.from_residual-in_err-expect-2.result c.from_residual-in_err-expect-2.ensures.1
    (then f.files f.draft f.numbers f.faults c.args.name.now (u64_bytes z.dir) (u64_bytes z.length) c.args.folder.now c.expect.new.folder c.expect-2.new.folder c.args.room.now c.expect.new.self o.field-0 first c.expect-2.new.self (Err e.field-0.0) second)

pub returns : goal.returns
returns g c =
    let f = g.F.Folder in
    let z = c.args.size in
    let o = c.in_ok-expect in
    let p = c.in_ok-expect-2 in
    let first = rewritten f.files f.draft f.numbers f.faults c.args.name.now c.to_be_bytes.result (u64_bytes z.dir) c.args.folder.now c.expect.new.folder c.args.room.now c.expect.new.self (Ok o.field-0) c.to_be_bytes.ensures o.ensures in
    let second = rewritten f.files f.draft f.numbers f.faults c.args.name.now c.to_be_bytes-2.result (u64_bytes z.length) c.expect.new.folder c.expect-2.new.folder c.expect.new.self c.expect-2.new.self (Ok p.field-0) c.to_be_bytes-2.ensures p.ensures in
    let both = then f.files f.draft f.numbers f.faults c.args.name.now (u64_bytes z.dir) (u64_bytes z.length) c.args.folder.now c.expect.new.folder c.expect-2.new.folder c.args.room.now c.expect.new.self o.field-0 first c.expect-2.new.self (Ok p.field-0) second in
    let third = rewritten f.files f.draft f.numbers f.faults c.args.name.now c.to_be_bytes-3.result (u64_bytes c.args.start) c.expect-2.new.folder c.expect-3.new.folder c.expect-2.new.self c.expect-3.new.self c.expect-3.result c.to_be_bytes-3.ensures c.expect-3.ensures in
    then f.files f.draft f.numbers f.faults c.args.name.now (u64_bytes z.length ++ u64_bytes z.dir) (u64_bytes c.args.start) c.args.folder.now c.expect-2.new.folder c.expect-3.new.folder c.args.room.now c.expect-2.new.self p.field-0 both c.expect-3.new.self c.expect-3.result third
