use Rattle.std.proofs.Common.{◌≡◌, ◌+◌, ◌-◌, ◌++◌, ◌∙◌, ℕ, List, Err, map, take, drop, slice_index_or, refl, sym, ap, arith}
use Rattle.std.specs.List.{flat_map}
use Rattle.record_format.specs.Data.{PlainEntry}
use Rattle.record_format.specs.Spelling.{entry_bytes}
use Rattle.row_ends.specs.Expected.{so_far}
use Rattle.row_ends.specs.Kids.{entries_in, row_length}
use Rattle.row_ends.specs.KidViews.{size_view}
use Rattle.row_ends.specs.declared.parts.Size.{Size}
use Rattle.row_ends.proofs.Sizes.{row_length-drop, one-seen, entry-before, entry-parts}
use Rattle.row_ends.proofs.Steps.{rewritten, then, passes}
use Rattle.row_ends.proofs.entries.expect_entries.Goals as goal

abbrev no-size : Size
no-size = record { length = 0; dir = 0 }

pub overflow_sub-start : goal.overflow_sub-start
overflow_sub-start g c =
    let l = c.loop-index in
    let j = l.index - 1 in
    let sizes = c.args.sizes.now in
    let all = map size_view sizes in
    let cut = ap row_length (one-seen sizes l.index j no-size refl c.loop-index-test.true l.invariant.0 size_view) in
    omega (arith, l.invariant.1, c.requires, cut, row_length-drop j all)

pub loop-index-preserved : goal.loop-index-preserved
loop-index-preserved g c =
    let f = g.F.Folder in
    let l = c.loop-index in
    let i = l.index in
    let j = i - 1 in
    let sizes = c.args.sizes.now in
    let all = map size_view sizes in
    let size : Size = slice_index_or sizes j no-size in
    let split = one-seen sizes i j no-size refl c.loop-index-test.true l.invariant.0 size_view in
    let cut = ap row_length split in
    let start : ℕ = l.start - size.length in
    let back : l.start ≡ start + size.length = omega (arith, l.invariant.1, c.requires, cut, row_length-drop j all) in
    let own : PlainEntry = record { start = start; length = size.length; dir = size.dir } in
    let done = flat_map entry_bytes (entries_in l.start (drop i all)) in
    let o = c.in_ok-expect_entry in (
      omega (arith, l.invariant.0),
      omega (arith, l.invariant.1, cut, back),
      rewritten f.files f.draft f.numbers f.faults c.args.name.now (entry_bytes own ++ done) (flat_map entry_bytes (entries_in start (drop j all))) c.args.folder.now c.expect_entry.new.folder c.args.room.now c.expect_entry.new.room so_far (sym (entry-before start l.start (size_view size) (drop j all) (drop i all) split back))
          (then f.files f.draft f.numbers f.faults c.args.name.now done (entry_bytes own) c.args.folder.now l.folder c.expect_entry.new.folder c.args.room.now l.room tt l.invariant.2 c.expect_entry.new.room so_far o.ensures),
    )

pub returns-in_err-expect_entry : goal.returns-in_err-expect_entry
returns-in_err-expect_entry g c =
    let f = g.F.Folder in
    let l = c.loop-index in
    let i = l.index in
    let j = i - 1 in
    let sizes = c.args.sizes.now in
    let all = map size_view sizes in
    let size : Size = slice_index_or sizes j no-size in
    let split = one-seen sizes i j no-size refl c.loop-index-test.true l.invariant.0 size_view in
    let cut = ap row_length split in
    let start : ℕ = l.start - size.length in
    let back : l.start ≡ start + size.length = omega (arith, l.invariant.1, c.requires, cut, row_length-drop j all) in
    let own : PlainEntry = record { start = start; length = size.length; dir = size.dir } in
    let done = flat_map entry_bytes (entries_in l.start (drop i all)) in
    let front = flat_map entry_bytes (entries_in 0 (take j all)) in
    let sum : start + row_length (drop j all) ≡ row_length all = omega (arith, l.invariant.1, c.requires, cut, back) in
    let e = c.in_err-expect_entry in
    let q = c.from_residual in
    let both = then f.files f.draft f.numbers f.faults c.args.name.now done (entry_bytes own) c.args.folder.now l.folder c.expect_entry.new.folder c.args.room.now l.room tt l.invariant.2 c.expect_entry.new.room (Err e.field-0.0) e.ensures in
    rewritten f.files f.draft f.numbers f.faults c.args.name.now (front ++ (entry_bytes own ++ done)) (flat_map entry_bytes (entries_in 0 all)) c.args.folder.now c.expect_entry.new.folder c.args.room.now c.expect_entry.new.room q.result (ap (λ (b : List ℕ). front ++ b) (sym (entry-before start l.start (size_view size) (drop j all) (drop i all) split back)) ∙ entry-parts all j start sum)
    (passes f.files f.draft f.numbers f.faults c.args.name.now (entry_bytes own ++ done) front c.args.folder.now c.expect_entry.new.folder c.args.room.now c.expect_entry.new.room e.field-0.0 q.result q.ensures.1 both)
