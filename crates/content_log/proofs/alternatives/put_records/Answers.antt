use Rattle.std.proofs.Common.{Some, refl, sym, subst}
use Rattle.version_set.specs.View.{pairs_of}
use Rattle.content_log.specs.Written.{Seen, seen, RecordsWritten}
use Rattle.content_log.specs.declared.fault.LogFault.{LogFault}
use Rattle.content_log.proofs.Coming.{Given, given, Missed, records-missed, records-damage, records-then, no-leaf}
use Rattle.content_log.proofs.alternatives.put_records.Given.{Over}
use Rattle.content_log.proofs.alternatives.put_records.Goals.{In-Ok}
use Rattle.content_log.proofs.alternatives.put_records.Goals as goal

abbrev at : (g : Over) → g.row.F.Denot → g.row.K.Denot → Seen
at g a b = (let f = g.F.Folder in let k = g.K.Sink in seen f.files f.draft f.numbers f.faults k.taken k.faults a b)

pub returns-in-Err : goal.returns-in-Err
returns-in-Err g c =
    let e = c.in-Err in
    let tag = c.args.tag.now in
    let set = pairs_of c.args.set.now in
    let s = at g c.args.folder.now c.args.sink.now in
    let t = at g c.next.new.folder c.args.sink.now in
    let m : Missed c.args.cursor.now s t e.fault = record {
      files = e.ensures.files;
      draft = e.ensures.draft;
      later = e.ensures.later;
      cause = e.ensures.cause;
      taken = refl;
      out_faults = refl;
      pulls = e.ensures.pulls;
      undamaged = e.ensures.undamaged;
      reads = e.ensures.reads;
    } in
    subst (λ (d : LogFault). RecordsWritten tag set c.args.cursor.now s t (Some d)) (sym c.from.ensures) (records-missed tag set c.args.cursor.now s t e.fault m)

-- the item that the cursor gave
gave : (g : Over) (c : In-Ok g) → Given c.args.cursor.now c.next.follows.lender-at-none (at g c.args.folder.now c.args.sink.now) (at g c.next.new.folder c.args.sink.now) c.in-Ok.item
gave g c =
    let i = c.in-Ok in
    given c.args.cursor.now c.next.follows.lender-at-none (at g c.args.folder.now c.args.sink.now) (at g c.next.new.folder c.args.sink.now) c.next.result i.item i.is i.ensures.files i.ensures.draft i.ensures.numbers i.ensures.later c.next.follows.holds-at-none refl refl

pub returns-in-Leaf : goal.returns-in-Leaf
returns-in-Leaf g c =
    records-then c.args.tag.now (pairs_of c.args.set.now) c.args.cursor.now c.next.follows.lender-at-none (at g c.args.folder.now c.args.sink.now) (at g c.next.new.folder c.args.sink.now) c.in-Ok.item (gave g (goal.at.returns-in-Leaf g c).In-Ok) _ _ c.put_alternatives.ensures

pub returns-in_default : goal.returns-in_default
returns-in_default g c =
    records-damage c.args.tag.now (pairs_of c.args.set.now) c.args.cursor.now c.next.follows.lender-at-none (at g c.args.folder.now c.args.sink.now) (at g c.next.new.folder c.args.sink.now) c.in-Ok.item (gave g (goal.at.returns-in_default g c).In-Ok) (no-leaf c.in-Ok.item c.in_default.not-Leaf)
