use Rattle.std.proofs.Common.{◌-◌, ◌^◌, refl, ◌∙◌, arith}
use Rattle.archive_stats.specs.Tally.{with_size}
use Rattle.record_cursor.specs.View.{PlainCursor}
use Rattle.archive_stats.specs.Counted.{Seen, seen}
use Rattle.archive_stats.specs.View.{counts_view}
use Rattle.archive_stats.proofs.Coming.{Given, given, counted-fault, on-start, on-record, on-end, on-finish, fit-more}
use Rattle.archive_stats.proofs.records.count_records.Given.{Over}
use Rattle.archive_stats.proofs.records.count_records.Goals.{In-Ok}
use Rattle.archive_stats.proofs.records.count_records.Goals as goal

abbrev at : (g : Over) → g.row.F.Denot → Seen
at g = (let f = g.F.Folder in seen f.files f.draft f.numbers f.faults)

pub loop-item-init : goal.loop-item-init
loop-item-init g c = on-start (counts_view c.args.before) c.args.cursor.now (at g c.args.folder.now) c.requires.within c.requires.few

pub returns-in-Err : goal.returns-in-Err
returns-in-Err g c =
    let l = c.loop-item in
    let e = c.in-Err in
    l.invariant.rest (at g c.next.new.folder) _ (counted-fault (counts_view l.counts) l.cursor (at g l.folder) (at g c.next.new.folder) e.fault e.ensures.files e.ensures.draft e.ensures.pulls e.ensures.later e.ensures.cause e.ensures.undamaged e.ensures.reads)

-- the item that the cursor gave
gave : (g : Over) (c : In-Ok g) → Given c.loop-item.cursor c.next.follows.lender-at-none (at g c.loop-item.folder) (at g c.next.new.folder) c.in-Ok.item
gave g c =
    let i = c.in-Ok in
    given c.loop-item.cursor c.next.follows.lender-at-none (at g c.loop-item.folder) (at g c.next.new.folder) c.next.result i.item i.is i.ensures.files i.ensures.draft i.ensures.numbers i.ensures.later c.next.follows.holds-at-none c.next.ensures.whole

pub returns-in-Finish : goal.returns-in-Finish
returns-in-Finish g c =
    let l = c.loop-item in
    on-finish (counts_view c.args.before) c.args.cursor.now (at g c.args.folder.now) (counts_view l.counts) l.cursor c.next.follows.lender-at-none (at g l.folder) (at g c.next.new.folder) c.in-Ok.item l.invariant
    (gave g (goal.at.returns-in-Finish g c).In-Ok) l.counts refl c.in-Finish.is

pub loop-item-preserved-in-End : goal.loop-item-preserved-in-End
loop-item-preserved-in-End g c =
    let l = c.loop-item in
    on-end (counts_view c.args.before) c.args.cursor.now (at g c.args.folder.now) (counts_view l.counts) l.cursor c.next.follows.lender-at-none (at g l.folder) (at g c.next.new.folder) c.in-Ok.item l.invariant
    (gave g (goal.at.loop-item-preserved-in-End g c).In-Ok) c.in-End.length c.in-End.is (counts_view c.grown-counts.result) c.grown-counts.ensures

pub with_item-more-requires : goal.with_item-more-requires
with_item-more-requires g c =
    let l = c.loop-item in
    fit-more (counts_view l.counts) l.cursor.at (2 ^ 64 - 1) (let at = c.at-at.ensures in omega (arith, at)) l.invariant.few

pub loop-item-preserved : goal.loop-item-preserved
loop-item-preserved g c =
    let l = c.loop-item in
    let d : PlainCursor = c.next.follows.lender-at-none in
    let more = counts_view c.with_item-more.result in
    on-record (counts_view c.args.before) c.args.cursor.now (at g c.args.folder.now) (counts_view l.counts) l.cursor d (at g l.folder) (at g c.next.new.folder) c.in-Ok.item l.invariant
    (gave g (goal.at.loop-item-preserved g c).In-Ok) c.in_default.not-Finish c.in_default.not-End more (counts_view c.grown-counts-in_default.result) c.with_item-more.ensures
    (c.grown-counts-in_default.ensures ∙ (λ j. with_size more (c.at.ensures j - c.at-at.ensures j)))
