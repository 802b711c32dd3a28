use Rattle.std.proofs.Common.{◌-◌, ◌++◌, ◌∙◌, ℕ, List, Ok, Err, take, drop, slice_index_or, refl, sym, ap, arith}
use Rattle.std.specs.List.{flat_map}
use Rattle.timestamp_tree.specs.Bytes.{pair_bytes}
use Rattle.row_ends.specs.Expected.{so_far}
use Rattle.row_ends.proofs.Sizes.{one-before, flat-parts}
use Rattle.row_ends.proofs.Steps.{rewritten, then, passes}
use Rattle.row_ends.proofs.spell.expect_pairs.Goals as goal

pub loop-index-preserved : goal.loop-index-preserved
loop-index-preserved g c =
    let f = g.F.Folder in
    let l = c.loop-index in
    let pairs = c.args.pairs.now in
    let i = l.index in
    let j = i - 1 in
    let pair : ℕ × ℕ = slice_index_or pairs j (0, 0) in
    let done = flat_map pair_bytes (drop i pairs) in
    let o = c.in_ok-expect in
    let second = rewritten f.files f.draft f.numbers f.faults c.args.name.now c.spell_pair.result (pair_bytes pair) l.folder c.expect.new.folder l.room c.expect.new.self (Ok o.field-0) c.spell_pair.ensures o.ensures in (
      omega (arith, l.invariant.0),
      rewritten f.files f.draft f.numbers f.faults c.args.name.now (pair_bytes pair ++ done) (flat_map pair_bytes (drop j pairs)) c.args.folder.now c.expect.new.folder c.args.room.now c.expect.new.self so_far (sym (ap (flat_map pair_bytes) (one-before pairs i j (0, 0) refl c.loop-index-test.true l.invariant.0)))
          (then f.files f.draft f.numbers f.faults c.args.name.now done (pair_bytes pair) c.args.folder.now l.folder c.expect.new.folder c.args.room.now l.room tt l.invariant.1 c.expect.new.self so_far second),
    )

pub returns-in_err-expect : goal.returns-in_err-expect
returns-in_err-expect g c =
    let f = g.F.Folder in
    let l = c.loop-index in
    let pairs = c.args.pairs.now in
    let i = l.index in
    let j = i - 1 in
    let pair : ℕ × ℕ = slice_index_or pairs j (0, 0) in
    let done = flat_map pair_bytes (drop i pairs) in
    let front = flat_map pair_bytes (take j pairs) in
    let e = c.in_err-expect in
    let q = c.from_residual in
    let second = rewritten f.files f.draft f.numbers f.faults c.args.name.now c.spell_pair.result (pair_bytes pair) l.folder c.expect.new.folder l.room c.expect.new.self (Err e.field-0.0) c.spell_pair.ensures e.ensures in
    let both = then f.files f.draft f.numbers f.faults c.args.name.now done (pair_bytes pair) c.args.folder.now l.folder c.expect.new.folder c.args.room.now l.room tt l.invariant.1 c.expect.new.self (Err e.field-0.0) second in
    rewritten f.files f.draft f.numbers f.faults c.args.name.now (front ++ (pair_bytes pair ++ done)) (flat_map pair_bytes pairs) c.args.folder.now c.expect.new.folder c.args.room.now c.expect.new.self q.result (ap (λ (b : List ℕ). front ++ b) (sym (ap (flat_map pair_bytes) (one-before pairs i j (0, 0) refl c.loop-index-test.true l.invariant.0))) ∙ flat-parts pair_bytes pairs j)
    (passes f.files f.draft f.numbers f.faults c.args.name.now (pair_bytes pair ++ done) front c.args.folder.now c.expect.new.folder c.args.room.now c.expect.new.self e.field-0.0 q.result q.ensures.1 both)
