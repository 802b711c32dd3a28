use Rattle.std.proofs.Common.{Bool, true, false, Some, None, refl, sym, ap, subst}
use Rattle.version_set.specs.View.{pairs_of}
use Rattle.archive_tree.specs.Data.{PlainAlt}
use Rattle.record_cursor.specs.View.{shown_item}
use Rattle.record_parts.specs.ShownViews.{shown_body, shown_stamp}
use Rattle.record_parts.specs.declared.views.BodyView.{BodyView}
use Rattle.record_parts.specs.declared.views.StampView.{StampView}
use Rattle.content_log.specs.Written.{Seen, seen, AltsWritten}
use Rattle.content_log.specs.declared.fault.LogFault.{LogFault}
use Rattle.content_log.proofs.Coming.{Given, given, Missed, alts-missed, alts-astray, alts-end, alts-damage, alts-cut, alts-then, may-as, no-alt, no-end}
use Rattle.content_log.proofs.Entering.{at-err}
use Rattle.content_log.proofs.alternatives.put_alternatives.Given.{Over}
use Rattle.content_log.proofs.alternatives.put_alternatives.Goals.{In-Ok}
use Rattle.content_log.proofs.alternatives.put_alternatives.Goals as goal

abbrev at : (g : Over) → g.row.F.Denot → g.row.K.Denot → Seen
at g a b = (let f = g.F.Folder in let k = g.K.Sink in seen f.files f.draft f.numbers f.faults k.taken k.faults a b)

pub returns-in-Err : goal.returns-in-Err
returns-in-Err g c =
    let l = c.loop-item in
    let e = c.in-Err in
    let tag = c.args.tag.now in
    let set = pairs_of c.args.set.now in
    let s = at g l.folder l.sink in
    let t = at g c.next.new.folder l.sink in
    let m : Missed l.cursor s t e.fault = record {
      files = e.ensures.files;
      draft = e.ensures.draft;
      later = e.ensures.later;
      cause = e.ensures.cause;
      taken = refl;
      out_faults = refl;
      pulls = e.ensures.pulls;
      undamaged = e.ensures.undamaged;
      reads = e.ensures.reads;
    } in
    subst (λ (d : LogFault). AltsWritten None tag set c.args.cursor.now (at g c.args.folder.now c.args.sink.now) t (Some d)) (sym c.from.ensures) (l.invariant.rest t _ (alts-missed l.came tag set l.cursor s t e.fault m))

-- the item that the cursor gave
gave : (g : Over) (c : In-Ok g) → Given c.loop-item.cursor c.next.follows.lender-at-none (at g c.loop-item.folder c.loop-item.sink) (at g c.next.new.folder c.loop-item.sink) c.in-Ok.item
gave g c =
    let i = c.in-Ok in
    let l = c.loop-item in
    given l.cursor c.next.follows.lender-at-none (at g l.folder l.sink) (at g c.next.new.folder l.sink) c.next.result i.item i.is i.ensures.files i.ensures.draft i.ensures.numbers i.ensures.later c.next.follows.holds-at-none refl refl

pub returns-in-LeafEnd : goal.returns-in-LeafEnd
returns-in-LeafEnd g c =
    let l = c.loop-item in
    l.invariant.rest _ _ (alts-end l.came c.args.tag.now (pairs_of c.args.set.now) l.cursor c.next.follows.lender-at-none (at g l.folder l.sink) (at g c.next.new.folder l.sink) c.in-Ok.item (gave g (goal.at.returns-in-LeafEnd g c).In-Ok) (ap shown_item c.in-LeafEnd.is))

pub returns-in_default : goal.returns-in_default
returns-in_default g c =
    let l = c.loop-item in
    l.invariant.rest _ _ (alts-damage l.came c.args.tag.now (pairs_of c.args.set.now) l.cursor c.next.follows.lender-at-none (at g l.folder l.sink) (at g c.next.new.folder l.sink) c.in-Ok.item (gave g (goal.at.returns-in_default g c).In-Ok)
    (no-alt c.in-Ok.item c.in_default.not-Alt) (no-end c.in-Ok.item c.in_default.not-LeafEnd))

-- the alternative that came
abbrev came : StampView → BodyView → PlainAlt
came s b = record { stamp = shown_stamp s; body = shown_body b }

pub returns-then-not-may_come : goal.returns-then-not-may_come
returns-then-not-may_come g c =
    let l = c.loop-item in
    let x = came c.in-Alt.stamp c.in-Alt.body in
    l.invariant.rest _ _ (alts-astray l.came c.args.tag.now (pairs_of c.args.set.now) l.cursor c.next.follows.lender-at-none (at g l.folder l.sink) (at g c.next.new.folder l.sink) c.in-Ok.item (gave g (goal.at.returns-then-not-may_come g c).In-Ok) x (ap shown_item c.in-Alt.is)
    (may-as l.came x _ _ false c.is_stored-stored.ensures c.may_come.ensures c.if-not-may_come.true))

pub returns-in_err-put_entry-in-Alt : goal.returns-in_err-put_entry-in-Alt
returns-in_err-put_entry-in-Alt g c =
    let l = c.loop-item in
    let tag = c.args.tag.now in
    let set = pairs_of c.args.set.now in
    let t = at g c.next.new.folder c.put_entry.new.sink in
    let x = came c.in-Alt.stamp c.in-Alt.body in
    let may = may-as l.came x _ _ true c.is_stored-stored.ensures c.may_come.ensures c.if-not-may_come.false in
    let e = c.in_err-put_entry-in-Alt.field-0.0 in
    let r = c.from_residual in
    at-err r.result e r.ensures.1 (λ z. AltsWritten None tag set c.args.cursor.now (at g c.args.folder.now c.args.sink.now) t z)
    (l.invariant.rest t (Some e) (alts-cut l.came tag set l.cursor c.next.follows.lender-at-none (at g l.folder l.sink) (at g c.next.new.folder l.sink) c.in-Ok.item (gave g (goal.at.returns-in_err-put_entry-in-Alt g c).In-Ok) x (ap shown_item c.in-Alt.is) may t refl refl refl refl e c.in_err-put_entry-in-Alt.ensures))

pub loop-item-preserved : goal.loop-item-preserved
loop-item-preserved g c =
    let l = c.loop-item in
    let tag = c.args.tag.now in
    let set = pairs_of c.args.set.now in
    let t = at g c.next.new.folder c.put_entry.new.sink in
    let x = came c.in-Alt.stamp c.in-Alt.body in
    let may = may-as l.came x _ _ true c.is_stored-stored.ensures c.may_come.ensures c.if-not-may_come.false in
    record {
      rest = λ u e h. l.invariant.rest u e (alts-then l.came tag set l.cursor c.next.follows.lender-at-none (at g l.folder l.sink) (at g c.next.new.folder l.sink) c.in-Ok.item (gave g (goal.at.loop-item-preserved g c).In-Ok) x (ap shown_item c.in-Alt.is) may t refl refl refl refl u e c.in_ok-put_entry-in-Alt.ensures
          (subst (λ (b : Bool). AltsWritten (Some b) tag set c.next.follows.lender-at-none t u e) c.is_stored-stored.ensures h));
    }
