use Rattle.std.proofs.Common.{◌++◌, ◌∙◌, Ok, Err, length, ap}
use Rattle.std.specs.List.{flat_map}
use Rattle.xa_fields.specs.Spelling.{u32_bytes, u64_bytes}
use Rattle.version_set.specs.View.{pairs_of}
use Rattle.timestamp_tree.specs.Bytes.{pair_bytes}
use Rattle.row_ends.proofs.Steps.{rewritten, then, passes}
use Rattle.row_ends.proofs.spell.expect_stored.Goals as goal

pub returns-in_err-expect : goal.returns-in_err-expect
returns-in_err-expect g c =
    let f = g.F.Folder in
    let ps = pairs_of c.args.set.now in
    let e = c.in_err-expect in
    passes f.files f.draft f.numbers f.faults c.args.name.now (u64_bytes c.args.left) (u32_bytes (length ps) ++ flat_map pair_bytes ps) c.args.folder.now c.expect.new.folder c.args.room.now c.expect.new.self e.field-0.0 c.from_residual.result c.from_residual.ensures.1
    (rewritten f.files f.draft f.numbers f.faults c.args.name.now c.to_be_bytes.result (u64_bytes c.args.left) c.args.folder.now c.expect.new.folder c.args.room.now c.expect.new.self (Err e.field-0.0) c.to_be_bytes.ensures e.ensures)

pub returns-in_err-expect_pairs : goal.returns-in_err-expect_pairs
returns-in_err-expect_pairs g c =
    let f = g.F.Folder in
    let ps = pairs_of c.args.set.now in
    let e = c.in_err-expect_pairs in
    let o = c.in_ok-expect in
    let same = ap (flat_map pair_bytes) c.pairs.ensures in
    let first = rewritten f.files f.draft f.numbers f.faults c.args.name.now c.to_be_bytes.result (u64_bytes c.args.left) c.args.folder.now c.expect.new.folder c.args.room.now c.expect.new.self (Ok o.field-0) c.to_be_bytes.ensures o.ensures in
    let second = rewritten f.files f.draft f.numbers f.faults c.args.name.now (flat_map pair_bytes c.pairs.result.now) (flat_map pair_bytes ps) c.expect.new.folder c.expect_pairs.new.folder c.expect.new.self c.expect_pairs.new.room (Err e.field-0.0) same e.ensures in
    passes f.files f.draft f.numbers f.faults c.args.name.now (flat_map pair_bytes ps ++ u64_bytes c.args.left) (u32_bytes (length ps)) c.args.folder.now c.expect_pairs.new.folder c.args.room.now c.expect_pairs.new.room e.field-0.0 c.from_residual-in_err-expect_pairs.result c.from_residual-in_err-expect_pairs.ensures.1
    (then f.files f.draft f.numbers f.faults c.args.name.now (u64_bytes c.args.left) (flat_map pair_bytes ps) c.args.folder.now c.expect.new.folder c.expect_pairs.new.folder c.args.room.now c.expect.new.self o.field-0 first c.expect_pairs.new.room (Err e.field-0.0) second)

pub returns : goal.returns
returns g c =
    let f = g.F.Folder in
    let ps = pairs_of c.args.set.now in
    let o = c.in_ok-expect in
    let p = c.in_ok-expect_pairs in
    let same = ap (flat_map pair_bytes) c.pairs.ensures in
    let first = rewritten f.files f.draft f.numbers f.faults c.args.name.now c.to_be_bytes.result (u64_bytes c.args.left) c.args.folder.now c.expect.new.folder c.args.room.now c.expect.new.self (Ok o.field-0) c.to_be_bytes.ensures o.ensures in
    let second = rewritten f.files f.draft f.numbers f.faults c.args.name.now (flat_map pair_bytes c.pairs.result.now) (flat_map pair_bytes ps) c.expect.new.folder c.expect_pairs.new.folder c.expect.new.self c.expect_pairs.new.room (Ok p.field-0) same p.ensures in
    let both = then f.files f.draft f.numbers f.faults c.args.name.now (u64_bytes c.args.left) (flat_map pair_bytes ps) c.args.folder.now c.expect.new.folder c.expect_pairs.new.folder c.args.room.now c.expect.new.self o.field-0 first c.expect_pairs.new.room (Ok p.field-0) second in
    let count = c.to_be_bytes-2.ensures ∙ ap u32_bytes c.count.ensures in
    let third = rewritten f.files f.draft f.numbers f.faults c.args.name.now c.to_be_bytes-2.result (u32_bytes (length ps)) c.expect_pairs.new.folder c.expect-2.new.folder c.expect_pairs.new.room c.expect-2.new.self c.expect-2.result count c.expect-2.ensures in
    then f.files f.draft f.numbers f.faults c.args.name.now (flat_map pair_bytes ps ++ u64_bytes c.args.left) (u32_bytes (length ps)) c.args.folder.now c.expect_pairs.new.folder c.expect-2.new.folder c.args.room.now c.expect_pairs.new.room p.field-0 both c.expect-2.new.self c.expect-2.result third
