use Rattle.std.proofs.Common.{◌≡◌, ◌∙◌, ◌≤◌, None, List, ℕ, ap, subst}
use Rattle.std.specs.Result.{IfErr, OnErr, OnOk}
use Rattle.std.proofs.Math.Nat.{le_trans}
use Rattle.xa_outside.specs.Causes.{Rose}
use Rattle.xa_outside.specs.Folder.{Drafts, Lengthens}
use Rattle.version_notes.specs.Faults.{IfDamage, IfFolder}
use Rattle.version_notes.specs.Reader.{file_of}
use Rattle.version_notes.specs.Reading.{notes_from}
use Rattle.version_notes.specs.Walk.{Copies}
use Rattle.version_notes.specs.Writer.{after, appended}
use Rattle.version_notes.specs.declared.fault.NotesFault.TheVariants.{Folder}
use Rattle.version_notes.proofs.Walks.{at-err, cause-then, no-note, note-due}
use Rattle.version_notes.proofs.Copied.{copied-ahead, copied-all, copied-damage, copied-drafted, copied-gap, copied-later, copied-next, copied-none, copied-pulls, copied-room, copied-stopped, stopped-gap, stopped-pulls}
use Rattle.xa_outside.specs.Numbers.{lead}
use Rattle.version_notes.proofs.walk.copy_notes.Goals as goal

pub loop-reader-init : goal.loop-reader-init
loop-reader-init g c =
    let f = g.F.Folder in
    (_, copied-none f.files f.draft f.numbers f.faults c.args.folder.now c.args.reader c.args.writer.now (g.met.F.Folder.metered c.args.folder.now))

pub push-requires-clause-few : goal.push-requires-clause-few
push-requires-clause-few g c =
    let f = g.F.Folder in
    let i = c.loop-reader.invariant in
    copied-room f.files f.draft f.numbers f.faults c.args.folder.now c.loop-reader.folder c.args.reader c.loop-reader.reader c.args.writer.now c.loop-reader.writer i.0 i.1 c.requires (note-due c.loop-reader.reader c.next.new.self c.in_ok-note.field-0 c.in-Some.note c.in-Some.is c.in_ok-note.ensures.after)

pub loop-reader-preserved : goal.loop-reader-preserved
loop-reader-preserved g c =
    let f = g.F.Folder in
    let i = c.loop-reader.invariant in
    let n = c.in_ok-note.ensures in
    let p = c.in_ok-push.ensures in
    let same = c.deref.ensures in
    let read = c.next.new.folder in
    let new = c.push.new.folder in (
      _,
      copied-next f.files f.draft f.numbers f.faults c.args.folder.now c.loop-reader.folder c.args.reader c.loop-reader.reader c.args.writer.now c.loop-reader.writer i.0 i.1 read new
          c.in_ok-note.field-0 c.in-Some.note c.next.new.self c.push.new.self c.in-Some.is n.after n.told n.files n.draft n.later n.numbers n.pulls (g.met.F.Folder.metered read)
          p.folder.same_files (subst (λ (l : List ℕ). Drafts (f.draft read) (f.draft new) (f.numbers read) (f.numbers new) (appended c.loop-reader.writer l)) same p.folder.gains)
          p.folder.cause.later (p.after ∙ ap (after c.loop-reader.writer) same),
    )

pub returns-in_err-note : goal.returns-in_err-note
returns-in_err-note g c =
    let f = g.F.Folder in
    let old = c.args.folder.now in
    let mid = c.loop-reader.folder in
    let read = c.next.new.folder in
    let start = c.args.reader in
    let now = c.loop-reader.reader in
    let w = c.args.writer.now in
    let v = c.loop-reader.writer in
    let i = c.loop-reader.invariant in
    let n = c.in_err-note.ensures in
    let e = c.in_err-note.field-0.0 in
    let r = c.from_residual in
    record {
      files = n.files ∙ i.1.same_files;
      copies = at-err r.result e r.ensures.1 (λ r. OnOk r (Copies (f.files old) start w v (f.draft old) (f.draft read))) tt;
      drafted = at-err r.result e r.ensures.1 (λ r. OnErr r (Lengthens (f.draft old) (f.draft read))) (copied-drafted f.files f.draft f.numbers f.faults old mid start now w v i.0 i.1 read n.draft);
      pulls = copied-pulls f.files f.draft f.numbers f.faults old mid start now w v i.0 i.1 read n.pulls;
      later = copied-later f.files f.draft f.numbers f.faults old mid start now w v i.0 i.1 read n.later;
      cause = at-err r.result e r.ensures.1 (λ r. IfErr r (λ e. IfFolder e (Rose (f.faults old) (f.faults read)))) (cause-then _ _ _ e i.1.later n.later n.cause);
      told = λ told is. at-err r.result e r.ensures.1 (λ r. IfErr r (λ e. IfDamage e (notes_from start (file_of told start.name) ≡ None)))
          (copied-damage f.files f.draft f.numbers f.faults old mid start now w v i.0 i.1 e n.told told is);
      gap = copied-gap f.files f.draft f.numbers f.faults old mid start now w v i.0 i.1 read n.pulls;
      ahead = λ prompt. at-err r.result e r.ensures.1 (λ r. OnOk r (lead (f.numbers read) ≤ lead (f.numbers old))) tt;
    }

pub returns-in_err-push : goal.returns-in_err-push
returns-in_err-push g c =
    let f = g.F.Folder in
    let old = c.args.folder.now in
    let mid = c.loop-reader.folder in
    let read = c.next.new.folder in
    let new = c.push.new.folder in
    let start = c.args.reader in
    let now = c.loop-reader.reader in
    let w = c.args.writer.now in
    let v = c.loop-reader.writer in
    let i = c.loop-reader.invariant in
    let n = c.in_ok-note.ensures in
    let p = c.in_err-push.ensures.folder in
    let r = c.from_residual-in_err-push in
    let piece = appended v c.deref.result.now in
    let later = copied-later f.files f.draft f.numbers f.faults old mid start now w v i.0 i.1 read n.later in
    let both = copied-later f.files f.draft f.numbers f.faults old mid start now w v i.0 i.1 new (le_trans n.later p.cause.later) in
    record {
      files = p.same_files ∙ n.files ∙ i.1.same_files;
      copies = at-err r.result Folder r.ensures.1 (λ r. OnOk r (Copies (f.files old) start w c.push.new.self (f.draft old) (f.draft new))) tt;
      drafted = at-err r.result Folder r.ensures.1 (λ r. OnErr r (Lengthens (f.draft old) (f.draft new)))
          (copied-stopped f.files f.draft f.numbers f.faults old mid start now w v i.0 i.1 read new piece n.draft p.gains);
      pulls = stopped-pulls f.files f.draft f.numbers f.faults old mid start now w v i.0 i.1 read new piece (g.met.F.Folder.metered read) n.pulls p.gains;
      later = both;
      cause = at-err r.result Folder r.ensures.1 (λ r. IfErr r (λ e. IfFolder e (Rose (f.faults old) (f.faults new)))) (cause-then _ _ _ Folder later p.cause.later p.cause.failed);
      told = λ told is. at-err r.result Folder r.ensures.1 (λ r. IfErr r (λ e. IfDamage e (notes_from start (file_of told start.name) ≡ None))) tt;
      gap = stopped-gap f.files f.draft f.numbers f.faults old mid start now w v i.0 i.1 read new piece n.pulls p.gains;
      ahead = λ prompt. at-err r.result Folder r.ensures.1 (λ r. OnOk r (lead (f.numbers new) ≤ lead (f.numbers old))) tt;
    }

pub returns : goal.returns
returns g c =
    let f = g.F.Folder in
    let old = c.args.folder.now in
    let mid = c.loop-reader.folder in
    let read = c.next.new.folder in
    let start = c.args.reader in
    let now = c.loop-reader.reader in
    let w = c.args.writer.now in
    let v = c.loop-reader.writer in
    let i = c.loop-reader.invariant in
    let n = c.in_ok-note.ensures in
    let last = no-note now c.next.new.self c.in_ok-note.field-0 c.in_default.not-Some n.after in
    record {
      files = n.files ∙ i.1.same_files;
      copies = copied-all f.files f.draft f.numbers f.faults old mid start now w v i.0 i.1 read c.in_ok-note.field-0 c.next.new.self last.0 n.after n.told n.settled n.draft;
      drafted = tt;
      pulls = copied-pulls f.files f.draft f.numbers f.faults old mid start now w v i.0 i.1 read n.pulls;
      later = copied-later f.files f.draft f.numbers f.faults old mid start now w v i.0 i.1 read n.later;
      cause = tt;
      told = λ told is. tt;
      gap = copied-gap f.files f.draft f.numbers f.faults old mid start now w v i.0 i.1 read n.pulls;
      ahead = copied-ahead f.files f.draft f.numbers f.faults old mid start now w v i.0 i.1 read c.in_ok-note.field-0 last.0 n.numbers;
    }
