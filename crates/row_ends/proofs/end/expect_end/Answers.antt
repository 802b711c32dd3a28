use Rattle.std.proofs.Common.{◌++◌, ◌∙◌, ℕ, List, [], Ok, Err, length, map, ap, sym}
use Rattle.std.specs.List.{flat_map}
use Rattle.xa_fields.specs.Spelling.{u32_bytes}
use Rattle.version_set.specs.View.{pairs_of}
use Rattle.record_format.specs.Spelling.{entry_bytes, sets_bytes}
use Rattle.row_ends.specs.Kids.{entries_in, sets_in}
use Rattle.row_ends.specs.KidsView.{kids_view}
use Rattle.row_ends.specs.KidViews.{size_view}
use Rattle.row_ends.proofs.Sizes.{entries-count}
use Rattle.row_ends.proofs.Steps.{rewritten, then, then-all, passes-all}
use Rattle.row_ends.proofs.end.expect_end.Goals as goal

pub returns-in_err-expect_sets : goal.returns-in_err-expect_sets
returns-in_err-expect_sets g c =
    let f = g.F.Folder in
    let k = kids_view c.args.kids.now in
    let sets = sets_bytes (sets_in (pairs_of c.args.set.now) k.stamps) in
    let entries = entries_in 0 k.sizes in
    let e = c.in_err-expect_sets in
    let q = c.from_residual in
    passes-all f.files f.draft f.numbers f.faults c.args.name.now sets (u32_bytes (length entries) ++ flat_map entry_bytes entries) c.args.folder.now c.expect_sets.new.folder c.args.room.now c.expect_sets.new.room e.field-0.0 q.result q.ensures.1 c.requires e.ensures

pub returns-in_err-expect_entries : goal.returns-in_err-expect_entries
returns-in_err-expect_entries g c =
    let f = g.F.Folder in
    let k = kids_view c.args.kids.now in
    let sets = sets_bytes (sets_in (pairs_of c.args.set.now) k.stamps) in
    let entries = entries_in 0 k.sizes in
    let o = c.in_ok-expect_sets in
    let e = c.in_err-expect_entries in
    let q = c.from_residual-in_err-expect_entries in
    let same = ap (λ (ss : List (ℕ × ℕ)). flat_map entry_bytes (entries_in 0 ss)) c.sizes.ensures in
    let second = rewritten f.files f.draft f.numbers f.faults c.args.name.now (flat_map entry_bytes (entries_in 0 (map size_view c.sizes.result.now))) (flat_map entry_bytes entries) c.expect_sets.new.folder c.expect_entries.new.folder c.expect_sets.new.room c.expect_entries.new.room (Err e.field-0.0) same e.ensures in
    let both = then f.files f.draft f.numbers f.faults c.args.name.now sets (flat_map entry_bytes entries) c.args.folder.now c.expect_sets.new.folder c.expect_entries.new.folder c.args.room.now c.expect_sets.new.room o.field-0 o.ensures c.expect_entries.new.room (Err e.field-0.0) second in
    passes-all f.files f.draft f.numbers f.faults c.args.name.now (flat_map entry_bytes entries ++ sets) (u32_bytes (length entries)) c.args.folder.now c.expect_entries.new.folder c.args.room.now c.expect_entries.new.room e.field-0.0 q.result q.ensures.1 c.requires both

pub returns-in_err-expect : goal.returns-in_err-expect
returns-in_err-expect g c =
    let f = g.F.Folder in
    let k = kids_view c.args.kids.now in
    let sets = sets_bytes (sets_in (pairs_of c.args.set.now) k.stamps) in
    let entries = entries_in 0 k.sizes in
    let o = c.in_ok-expect_sets in
    let p = c.in_ok-expect_entries in
    let e = c.in_err-expect in
    let q = c.from_residual-in_err-expect in
    let same = ap (λ (ss : List (ℕ × ℕ)). flat_map entry_bytes (entries_in 0 ss)) c.sizes.ensures in
    let second = rewritten f.files f.draft f.numbers f.faults c.args.name.now (flat_map entry_bytes (entries_in 0 (map size_view c.sizes.result.now))) (flat_map entry_bytes entries) c.expect_sets.new.folder c.expect_entries.new.folder c.expect_sets.new.room c.expect_entries.new.room (Ok p.field-0) same p.ensures in
    let both = then f.files f.draft f.numbers f.faults c.args.name.now sets (flat_map entry_bytes entries) c.args.folder.now c.expect_sets.new.folder c.expect_entries.new.folder c.args.room.now c.expect_sets.new.room o.field-0 o.ensures c.expect_entries.new.room (Ok p.field-0) second in
    let count = c.to_be_bytes.ensures ∙ ap u32_bytes (c.count.ensures.sizes ∙ sym (entries-count 0 k.sizes)) in
    let third = rewritten f.files f.draft f.numbers f.faults c.args.name.now c.to_be_bytes.result (u32_bytes (length entries)) c.expect_entries.new.folder c.expect.new.folder c.expect_entries.new.room c.expect.new.self (Err e.field-0.0) count e.ensures in
    passes-all f.files f.draft f.numbers f.faults c.args.name.now (u32_bytes (length entries) ++ (flat_map entry_bytes entries ++ sets)) [] c.args.folder.now c.expect.new.folder c.args.room.now c.expect.new.self e.field-0.0 q.result q.ensures.1 c.requires
    (then f.files f.draft f.numbers f.faults c.args.name.now (flat_map entry_bytes entries ++ sets) (u32_bytes (length entries)) c.args.folder.now c.expect_entries.new.folder c.expect.new.folder c.args.room.now c.expect_entries.new.room p.field-0 both c.expect.new.self (Err e.field-0.0) third)

pub returns : goal.returns
returns g c =
    let f = g.F.Folder in
    let k = kids_view c.args.kids.now in
    let sets = sets_bytes (sets_in (pairs_of c.args.set.now) k.stamps) in
    let entries = entries_in 0 k.sizes in
    let o = c.in_ok-expect_sets in
    let p = c.in_ok-expect_entries in
    let w = c.in_ok-expect in
    let same = ap (λ (ss : List (ℕ × ℕ)). flat_map entry_bytes (entries_in 0 ss)) c.sizes.ensures in
    let second = rewritten f.files f.draft f.numbers f.faults c.args.name.now (flat_map entry_bytes (entries_in 0 (map size_view c.sizes.result.now))) (flat_map entry_bytes entries) c.expect_sets.new.folder c.expect_entries.new.folder c.expect_sets.new.room c.expect_entries.new.room (Ok p.field-0) same p.ensures in
    let both = then f.files f.draft f.numbers f.faults c.args.name.now sets (flat_map entry_bytes entries) c.args.folder.now c.expect_sets.new.folder c.expect_entries.new.folder c.args.room.now c.expect_sets.new.room o.field-0 o.ensures c.expect_entries.new.room (Ok p.field-0) second in
    let count = c.to_be_bytes.ensures ∙ ap u32_bytes (c.count.ensures.sizes ∙ sym (entries-count 0 k.sizes)) in
    let third = rewritten f.files f.draft f.numbers f.faults c.args.name.now c.to_be_bytes.result (u32_bytes (length entries)) c.expect_entries.new.folder c.expect.new.folder c.expect_entries.new.room c.expect.new.self (Ok w.field-0) count w.ensures in
    let all = then f.files f.draft f.numbers f.faults c.args.name.now (flat_map entry_bytes entries ++ sets) (u32_bytes (length entries)) c.args.folder.now c.expect_entries.new.folder c.expect.new.folder c.args.room.now c.expect_entries.new.room p.field-0 both c.expect.new.self (Ok w.field-0) third in
    then-all f.files f.draft f.numbers f.faults c.args.name.now (u32_bytes (length entries) ++ (flat_map entry_bytes entries ++ sets)) [] c.args.folder.now c.expect.new.folder c.finish.new.folder c.args.room.now c.expect.new.self w.field-0 all c.finish.result c.requires c.finish.ensures
