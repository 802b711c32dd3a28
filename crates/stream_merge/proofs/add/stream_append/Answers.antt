use Rattle.std.proofs.Common.{◌≢◌, ◌+◌, ◌-◌, ◌≤◌, Err, List, [], ◌∷◌, ◌++◌, ℕ, refl, sym, ap, subst, ◌∙◌, arith}
use Rattle.std.specs.Result.{IfErr, OnOk}
use Rattle.key_annotate.specs.LentView.{lent_view}
use Rattle.xa_outside.specs.Causes.{Rose}
use Rattle.xa_outside.specs.NumberLaws.{PullsAndDrafts-none}
use Rattle.record_cursor.specs.Moves.{TellsFront}
use Rattle.record_cursor.specs.View.{PlainCursor, header_view}
use Rattle.record_format.specs.Files.{FileOf}
use Rattle.stream_merge.specs.Added.{Appended, Overfull, of_merge, IfTooLong, IfFailed}
use Rattle.xa_outside.specs.Numbers.{lead}
use Rattle.stream_merge.specs.declared.fault.AddFault.TheVariants.{Damage, Limit}
use Rattle.stream_merge.proofs.Adding.{header-first, at-err, none-longer, overfull, no-damage, no-limit, failed-of}
use Rattle.stream_merge.proofs.add.stream_append.Goals as goal
use Rattle.record_copy.proofs.Passing.{blank-one, lengthens-none}

pub append_version-requires : goal.append_version-requires
append_version-requires g c =
    let r = c.requires in
    record {
      room = (let few = r.header.few in omega (arith, few, c.if-header-ge-MOST_VERSIONS.false));
      within = r.header.within;
      length = ap (λ (p : PlainCursor). p.length) r.cursor;
      standing = ap (λ (p : PlainCursor). p.standing) r.cursor;
      first = ap (λ (p : PlainCursor). p.at) r.cursor;
      keyed = r.keyed;
      texts = r.texts;
    }

pub returns-then-header-ge-MOST_VERSIONS : goal.returns-then-header-ge-MOST_VERSIONS
returns-then-header-ge-MOST_VERSIONS g c =
    let f = g.F.Folder in
    let h = header_view c.args.header.now in
    let few = c.requires.header.few in
    record {
      appended = tt;
      files = refl;
      drafted = record { bytes = []; is = lengthens-none (f.draft c.args.folder.now) (f.draft c.args.folder.now) refl };
      too_long = λ bytes rules vs tells is sound. tt;
      no_room = λ b file tree. tt;
      undamaged = λ bytes rules vs tells is sound e. absurd cc;
      limit = (λ e. omega (arith, few, c.if-header-ge-MOST_VERSIONS.true), λ e. refl);
      later = omega arith;
      cause = tt;
      pulls = PullsAndDrafts-none (h.length - h.first) (f.numbers c.args.folder.now) (g.met.F.Folder.metered c.args.folder.now);
      gap = λ bytes rules vs a tells is sound of. omega arith;
      ahead = λ bytes tells is. tt;
    }

pub returns-in_err-append_version : goal.returns-in_err-append_version
returns-in_err-append_version g c =
    let f = g.F.Folder in
    let h = header_view c.args.header.now in
    let k = lent_view c.args.new.now in
    let e = c.in_err-append_version in
    let v = e.ensures in
    let r = c.from_residual in
    let old = c.args.folder.now in
    let now = c.append_version.new.folder in
    let told : (bytes : List ℕ) → TellsFront (f.files old) c.args.name.now h.length bytes → TellsFront (f.files old) c.args.cursor.name c.args.cursor.length bytes =
    λ bytes tells. subst (λ (p : PlainCursor). TellsFront (f.files old) p.name p.length bytes) (sym c.requires.cursor) tells in
    record {
      appended = at-err r.result (of_merge e.field-0.0) r.ensures.1 (λ r. OnOk r (Appended h c.args.name.now k (f.files old) (f.draft old) (f.draft now))) tt;
      files = v.reads.same_files;
      drafted = record { bytes = v.appended; is = v.reads.lengthens };
      too_long = λ bytes rules vs tells is sound. at-err r.result (of_merge e.field-0.0) r.ensures.1 (λ r. IfErr r (λ d. IfTooLong d ((file : List ℕ) → ¬ FileOf rules (vs ++ k ∷ []) file)))
          (none-longer v.appended rules vs k e.field-0.0 (v.grows bytes rules vs (told bytes tells) is sound));
      no_room = λ b file tree. at-err r.result (of_merge e.field-0.0) r.ensures.1 (λ r. IfErr r (λ d. IfTooLong d (Overfull b h.rules (h.versions + 1) (f.draft now)))) (overfull b h v.appended (f.draft old) (f.draft now) e.field-0.0 c.requires.draft v.reads.lengthens (v.no_room b file tree));
      undamaged = λ bytes rules vs tells is sound. at-err r.result (of_merge e.field-0.0) r.ensures.1 (λ r. IfErr r (λ d. d ≢ Damage)) (no-damage v.appended rules vs k e.field-0.0 (v.grows bytes rules vs (told bytes tells) is sound));
      limit = (λ q. absurd (at-err r.result (of_merge e.field-0.0) r.ensures.1 (λ r. r ≢ Err Limit) (no-limit e.field-0.0) q), λ v. absurd (omega (arith, v, c.if-header-ge-MOST_VERSIONS.false)));
      later = v.reads.later;
      cause = (let raised = Rose (f.faults old) (f.faults now) in at-err r.result (of_merge e.field-0.0) r.ensures.1 (λ r. IfFailed r raised) (failed-of (Unit {0}) e.field-0.0 raised v.reads.cause));
      pulls = v.reads.pulls;
      gap = λ bytes rules vs a tells is sound of. v.gap bytes rules vs a (told bytes tells) is sound of;
      ahead = λ bytes tells is. at-err r.result (of_merge e.field-0.0) r.ensures.1 (λ r. OnOk r (lead (f.numbers now) ≤ lead (f.numbers old) - h.first)) tt;
    }

pub returns : goal.returns
returns g c =
    let f = g.F.Folder in
    let h = header_view c.args.header.now in
    let v = c.in_ok-append_version.ensures in
    let old = c.args.folder.now in
    let now = c.append_version.new.folder in
    let told : (bytes : List ℕ) → TellsFront (f.files old) c.args.name.now h.length bytes → TellsFront (f.files old) c.args.cursor.name c.args.cursor.length bytes =
    λ bytes tells. subst (λ (p : PlainCursor). TellsFront (f.files old) p.name p.length bytes) (sym c.requires.cursor) tells in
    record {
      appended = record {
        bytes = v.appended;
        drafted = v.reads.lengthens ∙ blank-one (f.draft old) v.appended c.requires.draft;
        sound = λ bytes rules vs tells. v.grows bytes rules vs (told bytes tells);
      };
      files = v.reads.same_files;
      drafted = record { bytes = v.appended; is = v.reads.lengthens };
      too_long = λ bytes rules vs tells is sound. tt;
      no_room = λ b file tree. tt;
      undamaged = λ bytes rules vs tells is sound. tt;
      limit = (λ q. absurd cc, λ v. absurd (omega (arith, v, c.if-header-ge-MOST_VERSIONS.false)));
      later = v.reads.later;
      cause = tt;
      pulls = v.reads.pulls;
      gap = λ bytes rules vs a tells is sound of. v.gap bytes rules vs a (told bytes tells) is sound of;
      ahead = λ bytes tells is. (
          let ahead = v.reads.ahead in
          let long = header-first h (f.files old) c.args.name.now bytes (h.versions + 1) tells is c.requires.header.within in
          omega (arith, ahead, long));
    }
