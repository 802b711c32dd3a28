use Rattle.std.proofs.Common.{◌≡◌, ◌||◌, not, true, List, ℕ, [], ◌∷◌, ◌++◌, Some, None, length, map, rules, ap, ◌∙◌, sym, subst}
use Rattle.std.specs.Prelude.{String, string_bytes}
use Rattle.std.specs.Global.{Global}
use Rattle.std.specs.List.{AllByRecursion}
use Rattle.std.specs.Result.{IfErr, IfOk, MatchResult}
use Rattle.std.proofs.lemmas.List.{length-map, map-append}
use Rattle.xa_outside.specs.Causes.{Rose}
use Rattle.version_notes.specs.Faults.{IfDamage, IfFolder}
use Rattle.version_notes.specs.Notes.{IsNote, are_empty}
use Rattle.version_notes.specs.Reader.{file_of}
use Rattle.version_notes.specs.Reading.{notes_from}
use Rattle.version_notes.proofs.Walks.{Walked, at-err, cause-then, gives-count, no-note, of-none, of-place, walked-damage, walked-last, walked-later, walked-next, walked-none, walked-pulls, walked-some}
use Rattle.version_notes.proofs.walk.read_notes.Goals as goal

pub loop-notes-init : goal.loop-notes-init
loop-notes-init g c =
    let f = g.F.Folder in
    let none : c.new-notes.result.items ≡ [] = search rules in
    subst (λ (l : List (String Global)). Walked f.files f.draft f.numbers f.faults c.args.folder.now c.args.folder.now c.args.reader c.args.reader (map string_bytes l)) (sym none)
    (walked-none f.files f.draft f.numbers f.faults c.args.folder.now c.args.reader (g.met.F.Folder.metered c.args.folder.now))

pub loop-notes-preserved : goal.loop-notes-preserved
loop-notes-preserved g c =
    let f = g.F.Folder in
    let old = c.loop-notes.invariant in
    let n = c.in_ok-note.ensures in
    let grown : c.push.new.self.items ≡ c.loop-notes.notes.items ++ c.in-Some.note ∷ [] = search rules in
    let before = c.loop-notes.notes.items in
    let done : List (List ℕ) = map string_bytes before in
    let same : done ++ string_bytes c.in-Some.note ∷ [] ≡ map string_bytes c.push.new.self.items = sym (map-append string_bytes before (c.in-Some.note ∷ [])) ∙ ap (map string_bytes) (sym grown) in
    subst (Walked f.files f.draft f.numbers f.faults c.args.folder.now c.next.new.folder c.args.reader c.next.new.self) same
    (walked-next f.files f.draft f.numbers f.faults c.args.folder.now c.loop-notes.folder c.next.new.folder c.args.reader c.loop-notes.reader done old
    c.in_ok-note.field-0 c.in-Some.note c.next.new.self c.in-Some.is n.after n.told n.files n.draft n.later n.numbers n.pulls)

pub returns-in_err-note : goal.returns-in_err-note
returns-in_err-note g c =
    let f = g.F.Folder in
    let old = c.loop-notes.invariant in
    let n = c.in_err-note.ensures in
    let e = c.in_err-note.field-0.0 in
    let r = c.from_residual in
    let start = c.args.reader in
    let read = c.next.new.folder in
    record {
      files = n.files ∙ old.same_files;
      draft = n.draft ∙ old.same_draft;
      pulls = walked-pulls f.files f.draft f.numbers f.faults c.args.folder.now c.loop-notes.folder read start c.loop-notes.reader _ old n.pulls;
      later = walked-later f.files f.draft f.numbers f.faults c.args.folder.now c.loop-notes.folder read start c.loop-notes.reader _ old n.later;
      cause = at-err r.result e r.ensures.1 (λ r. IfErr r (λ e. IfFolder e (Rose (f.faults c.args.folder.now) (f.faults read)))) (cause-then _ _ _ e old.later n.later n.cause);
      count = of-none r.result e r.ensures.1 (λ notes. length notes.items ≡ start.due);
      each = of-none r.result e r.ensures.1 (λ notes. AllByRecursion IsNote (map string_bytes notes.items));
      some = of-place start.place (λ p. IfOk r.result (λ notes. (p.used || not (are_empty (map string_bytes notes.items))) ≡ true))
          (λ p. of-none r.result e r.ensures.1 (λ notes. (p.used || not (are_empty (map string_bytes notes.items))) ≡ true));
      told = λ told is. at-err r.result e r.ensures.1
          (λ r. MatchResult r (λ notes. notes_from start (file_of told start.name) ≡ Some (map string_bytes notes.items)) (λ e. IfDamage e (notes_from start (file_of told start.name) ≡ None)))
          (walked-damage f.files f.draft f.numbers f.faults c.args.folder.now c.loop-notes.folder read start c.loop-notes.reader _ old e n.told told is);
    }

pub returns-then-is_err : goal.returns-then-is_err
returns-then-is_err g c =
    let f = g.F.Folder in
    let old = c.loop-notes.invariant in
    let n = c.in_ok-note.ensures in
    let start = c.args.reader in
    let read = c.next.new.folder in
    record {
      files = n.files ∙ old.same_files;
      draft = n.draft ∙ old.same_draft;
      pulls = walked-pulls f.files f.draft f.numbers f.faults c.args.folder.now c.loop-notes.folder read start c.loop-notes.reader _ old n.pulls;
      later = walked-later f.files f.draft f.numbers f.faults c.args.folder.now c.loop-notes.folder read start c.loop-notes.reader _ old n.later;
      cause = tt;
      count = tt;
      each = tt;
      some = of-place start.place _ (λ p. tt);
      told = λ told is. tt;
    }

pub returns : goal.returns
returns g c =
    let f = g.F.Folder in
    let old = c.loop-notes.invariant in
    let n = c.in_ok-note.ensures in
    let start = c.args.reader in
    let read = c.next.new.folder in
    let notes = c.loop-notes.notes.items in
    let last = no-note c.loop-notes.reader c.next.new.self c.in_ok-note.field-0 c.in_default.not-Some n.after in
    record {
      files = n.files ∙ old.same_files;
      draft = n.draft ∙ old.same_draft;
      pulls = walked-pulls f.files f.draft f.numbers f.faults c.args.folder.now c.loop-notes.folder read start c.loop-notes.reader _ old n.pulls;
      later = walked-later f.files f.draft f.numbers f.faults c.args.folder.now c.loop-notes.folder read start c.loop-notes.reader _ old n.later;
      cause = tt;
      count = sym (length-map notes string_bytes) ∙ gives-count (f.files c.args.folder.now) start c.loop-notes.reader (map string_bytes notes) old.gives last.1;
      each = old.gives.each;
      some = walked-some f.files f.draft f.numbers f.faults c.args.folder.now c.loop-notes.folder read start c.loop-notes.reader _ old c.in_ok-note.field-0 last.0 last.1 n.settled;
      told = λ told is. walked-last f.files f.draft f.numbers f.faults c.args.folder.now c.loop-notes.folder read start c.loop-notes.reader _ old c.in_ok-note.field-0 last.0 n.told told is;
    }
