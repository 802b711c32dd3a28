use Rattle.std.proofs.Common.{◌≡◌, ◌≢◌, ◌+◌, ◌-◌, ◌≤◌, Err, List, [], ◌∷◌, ◌++◌, ℕ, sym, ap, subst, ◌∙◌, arith, ◌↔◌}
use Rattle.std.specs.Result.{IfErr, OnOk, OnErr}
use Rattle.key_annotate.specs.LentView.{lent_view}
use Rattle.xa_outside.specs.Causes.{Rose}
use Rattle.xa_outside.specs.Numbers.{Numbers, PullsAndDrafts, lead}
use Rattle.record_cursor.specs.View.{header_view}
use Rattle.record_format.specs.Files.{FileOf}
use Rattle.record_parts.specs.declared.limits.TheConstants.{MOST_VERSIONS}
use Rattle.stream_merge.specs.Added.{Added, Overfull, IfTooLong, IfFailed}
use Rattle.xa_outside.specs.Folder.{Lengthens}
use Rattle.stream_merge.specs.declared.fault.AddFault.TheVariants.{Damage, Limit}
use Rattle.stream_merge.proofs.Adding.{at-err, commit-adds, commit-fails, commit-err, no-commit-limit, if-failed, on-ok}
use Rattle.stream_merge.proofs.add.stream_add.Goals as goal

pub returns-in_err-stream_append : goal.returns-in_err-stream_append
returns-in_err-stream_append g c =
    let f = g.F.Folder in
    let h = header_view c.args.header.now in
    let k = lent_view c.args.new.now in
    let e = c.in_err-stream_append in
    let v = e.ensures in
    let r = c.from_residual in
    let old = c.args.folder.now in
    let now = c.stream_append.new.folder in
    record {
      added = at-err r.result e.field-0.0 r.ensures.1 (λ r. OnOk r (Added h c.args.name.now k (f.files old) (f.files now) (f.draft old) (f.draft now))) tt;
      refused = at-err r.result e.field-0.0 r.ensures.1 (λ r. OnErr r (f.files now ≡ f.files old)) v.files;
      drafted = at-err r.result e.field-0.0 r.ensures.1 (λ r. OnErr r (Lengthens (f.draft old) (f.draft now))) v.drafted;
      too_long = λ bytes rules vs tells is sound. at-err r.result e.field-0.0 r.ensures.1 (λ r. IfErr r (λ d. IfTooLong d ((file : List ℕ) → ¬ FileOf rules (vs ++ k ∷ []) file))) (v.too_long bytes rules vs tells is sound);
      no_room = λ b file tree. at-err r.result e.field-0.0 r.ensures.1 (λ r. IfErr r (λ d. IfTooLong d (Overfull b h.rules (h.versions + 1) (f.draft now)))) (v.no_room b file tree);
      undamaged = λ bytes rules vs tells is sound. at-err r.result e.field-0.0 r.ensures.1 (λ r. IfErr r (λ d. d ≢ Damage)) (v.undamaged bytes rules vs tells is sound);
      limit = at-err r.result e.field-0.0 r.ensures.1 (λ r. (r ≡ Err Limit) ↔ (h.versions ≡ MOST_VERSIONS)) v.limit;
      later = v.later;
      cause = at-err r.result e.field-0.0 r.ensures.1 (λ r. IfFailed r (Rose (f.faults old) (f.faults now))) v.cause;
      pulls = v.pulls;
      gap = v.gap;
      ahead = λ bytes tells is. at-err r.result e.field-0.0 r.ensures.1 (λ r. OnOk r (lead (f.numbers now) ≤ lead (f.numbers old) - h.first)) tt;
    }

pub returns : goal.returns
returns g c =
    let f = g.F.Folder in
    let h = header_view c.args.header.now in
    let k = lent_view c.args.new.now in
    let v = c.in_ok-stream_append.ensures in
    let old = c.args.folder.now in
    let mid = c.stream_append.new.folder in
    let now = c.commit.new.folder in
    let r = c.commit.result in
    let e = c.commit.ensures in
    let first = v.later in
    let second = e.later in
    record {
      added = commit-adds h k c.args.name.now (f.files old) (f.files mid) (f.files now) (f.draft old) (f.draft mid) (f.draft now) r v.appended v.files e.files e.draft;
      refused = commit-fails r (f.files now ≡ f.files mid) (f.files now ≡ f.files old) (λ same. same ∙ v.files) e.refused;
      drafted = commit-fails r (f.draft now ≡ f.draft mid) (Lengthens (f.draft old) (f.draft now)) (λ kept. record { bytes = v.drafted.bytes; is = kept ∙ v.drafted.is }) e.kept;
      too_long = λ bytes rules vs tells is sound. commit-err r (λ d. IfTooLong d ((file : List ℕ) → ¬ FileOf rules (vs ++ k ∷ []) file)) e.fault tt;
      no_room = λ b file tree. commit-err r (λ d. IfTooLong d (Overfull b h.rules (h.versions + 1) (f.draft now))) e.fault tt;
      undamaged = λ bytes rules vs tells is sound. commit-err r (λ d. d ≢ Damage) e.fault (λ q. absurd cc);
      limit = (λ q. absurd (no-commit-limit r e.fault q), λ most. (let wrong = v.limit.1 most in absurd cc));
      later = omega (arith, first, second);
      cause = if-failed r (Rose (f.faults old) (f.faults now)) (commit-fails r (Rose (f.faults mid) (f.faults now)) (Rose (f.faults old) (f.faults now)) (λ rose. omega (arith, rose, first)) e.cause);
      pulls = subst (λ (m : Numbers). PullsAndDrafts (h.length - h.first) (f.numbers old) m) (sym e.numbers) v.pulls;
      gap = λ bytes rules vs a tells is sound of. (let gap = v.gap bytes rules vs a tells is sound of in let same = ap (λ (m : Numbers). m.gap) e.numbers in omega (arith, gap, same));
      ahead = λ bytes tells is. on-ok r (lead (f.numbers now) ≤ lead (f.numbers old) - h.first) (let ahead = v.ahead bytes tells is in let same = ap lead e.numbers in omega (arith, ahead, same));
    }
