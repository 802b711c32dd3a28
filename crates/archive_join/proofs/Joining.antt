-- The file of the versions of two sound archives.
use Rattle.std.proofs.Common.{◌≡◌, ◌↔◌, ℕ, ◌+◌, ◌≤◌, List, [], ◌∷◌, ◌++◌, Option, refl, sym, subst, ◌∙◌, arith}
use Rattle.std.specs.List.{AllByRecursion}
use Rattle.jsonml_text.specs.Texts.{AreTexts}
use Rattle.key_spec.specs.Canonical.{canonical}
use Rattle.key_spec.specs.Data.{PlainRule}
use Rattle.keyed_tree.specs.Alike.{AllAlike}
use Rattle.keyed_tree.specs.Data.{PlainKeyed}
use Rattle.keyed_tree.specs.Plain.{plain as document}
use Rattle.version_set.specs.Members.{upto_pairs}
use Rattle.xa_outside.specs.Folder.{Files}
use Rattle.archive_tree.specs.Data.{nodes_list, PlainArchive}
use Rattle.archive_tree.specs.Stands.{ArchiveOf}
use Rattle.archive_tree.proofs.OneArchive.{one_archive}
use Rattle.nested_merge.proofs.Picked.{all_append}
use Rattle.record_parts.specs.Bounds.{most}
use Rattle.record_parts.specs.declared.limits.TheConstants.{MOST_VERSIONS}
use Rattle.record_format.specs.Files.{header_bytes, file_bytes, HasFile, FileOf}
use Rattle.archive_file.specs.KeyedBy.{IsKeyedBy, AreKeyedBy}
use Rattle.archive_file.specs.Sound.{SoundAs}
use Rattle.archive_file.proofs.AlikeLaws.{keyed-alike}
use Rattle.archive_file.proofs.ShapedArchives.{archive-shaped, sound-texts}
use Rattle.record_copy.specs.Raised.{raised, raised_nodes}
use Rattle.record_cursor.specs.View.{PlainHeader}
use Rattle.record_writer.specs.Calls.{started, all_appended, after_all, Fits, AllFit}
use Rattle.record_writer.specs.Data.{PlainWriter, WriterCall, call_finish}
use Rattle.record_writer.specs.Walks.{row_calls, walk_of}
use Rattle.record_writer.proofs.FitLaws.{walk-fits-exactly, fit-both}
use Rattle.record_writer.proofs.WalkLaws.{walk-spells}
use Rattle.archive_join.specs.Join.{IsArchive}
use Rattle.archive_join.specs.Joined.{joined_row, joined}
use Rattle.archive_join.specs.Walked.{RowsFit}
use Rattle.archive_join.proofs.Archives.{archives_join}
use Rattle.archive_join.proofs.Coming.{Heads, sound-heads}
use Rattle.archive_join.proofs.Meeting.{rows_fit}

module _ (told : Option Files) (name other : List ℕ) (h g : PlainHeader) (rules : List PlainRule) (vs us : List PlainKeyed) (one : IsArchive told name h rules vs) (two : IsArchive told other g rules us) (few : h.versions + g.versions ≤ MOST_VERSIONS) where
  abbrev pub ours : PlainArchive
  ours = one.sound.file.archive

  abbrev pub theirs : PlainArchive
  theirs = two.sound.file.archive

  abbrev new : PlainArchive
  new = joined ours theirs

  abbrev all : List PlainKeyed
  all = vs ++ us

  first : Heads h rules ours
  first = sound-heads h rules vs one.bytes one.sound one.header

  second : Heads g rules theirs
  second = sound-heads g rules us two.bytes two.sound two.header

  keyed : AreKeyedBy rules all
  keyed = all_append (IsKeyedBy rules) vs us one.sound.keyed two.sound.keyed

  texts : AllByRecursion (λ v. AreTexts (document v)) all
  texts = all_append (λ v. AreTexts (document v)) vs us (sound-texts rules vs one.bytes one.sound) (sound-texts rules us two.bytes two.sound)

  alike : AllAlike all
  alike = keyed-alike rules all keyed

  stands : ArchiveOf all new
  stands = archives_join vs us ours theirs one.sound.file.is two.sound.file.is alike

  many : new.n ≤ most
  many = (let e = first in let f = second in let n = e.count in let m = f.count in omega (arith, few, n, m))

  exactly : HasFile rules new ↔ AllFit (started rules new.n) (walk_of new)
  exactly = walk-fits-exactly rules new one.sound.file.has.text (archive-shaped rules all new (canonical rules, one.sound.specification) keyed texts stands many)

  sound : AllFit (started rules new.n) (walk_of new) → SoundAs rules all (file_bytes rules new)
  sound fit = record {
    specification = one.sound.specification;
    keyed = keyed;
    few = (let count = stands.count in let m = many in omega (arith, count, m));
    file = record { archive = new; is = stands; has = exactly.1 fit; spelled = refl };
  }

  none : ¬ AllFit (started rules new.n) (walk_of new) → (file : List ℕ) → ¬ FileOf rules all file
  none over file f = over (exactly.0 (subst (HasFile rules) (one_archive all f.archive new f.is stands) f.has))

  -- the rows of both can stand in one
  pub rows-fit : RowsFit ours.kids (raised_nodes h.versions theirs.kids)
  rows-fit = (let e = first in subst (λ n. RowsFit ours.kids (raised_nodes n theirs.kids)) (sym e.count) (rows_fit vs us ours theirs one.sound.file.is two.sound.file.is alike))

  abbrev pub calls : List WriterCall
  calls = row_calls (upto_pairs (h.versions + g.versions)) (joined_row (upto_pairs h.versions) (raised h.versions (upto_pairs g.versions)) ours.kids (nodes_list (raised_nodes h.versions theirs.kids))) ++ call_finish ∷ []

  walks : calls ≡ walk_of new
  walks =
      let e = first in
      let f = second in
      λ x. row_calls (upto_pairs (e.count x + f.count x)) (joined_row (upto_pairs (e.count x)) (raised (e.count x) (upto_pairs (f.count x))) ours.kids (nodes_list (raised_nodes (e.count x) theirs.kids))) ++ call_finish ∷ []

  abbrev begin : PlainWriter
  begin = started h.rules (h.versions + g.versions)

  begun : begin ≡ started rules new.n
  begun = (let e = first in let f = second in λ x. started (e.rules_are x) (e.count x + f.count x))

  -- where all calls were made, the bytes are the file
  pub sound-of : (made : List WriterCall) (bytes : List ℕ) → made ≡ calls → AllFit begin made → bytes ≡ header_bytes h.rules (h.versions + g.versions) ++ all_appended begin made → SoundAs rules all bytes
  sound-of made bytes is fit spelled =
      let e = first in
      let f = second in
      let w = begun in
      let whole : made ≡ walk_of new = is ∙ walks in
      let file : bytes ≡ file_bytes rules new = spelled ∙ (λ x. header_bytes (e.rules_are x) (e.count x + f.count x) ++ all_appended (w x) (whole x)) ∙ walk-spells rules new in
      subst (SoundAs rules all) (sym file) (sound (subst (λ (u : PlainWriter). AllFit u (walk_of new)) w (subst (AllFit begin) whole fit)))

  -- where one of them did not fit, there is no file
  pub none-of : (made more : List WriterCall) (next : WriterCall) → calls ≡ made ++ next ∷ more → ¬ Fits (after_all begin made) next → (file : List ℕ) → ¬ FileOf rules all file
  none-of made more next is over = none (λ fit. (
      let whole : AllFit begin (made ++ next ∷ more) = subst (AllFit begin) (sym walks ∙ is) (subst (λ (u : PlainWriter). AllFit u (walk_of new)) (sym begun) fit) in
      over ((fit-both begin made (next ∷ more)).0 whole).1.0))
