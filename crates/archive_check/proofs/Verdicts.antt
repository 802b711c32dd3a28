-- What is judged of the parts of a file is judged of the file.
use Rattle.std.proofs.Common.{◌≡◌, ℕ, List, Some, Result, Ok, Err, sym, ap, subst, ◌∙◌}
use Rattle.key_spec.specs.Data.{PlainRule}
use Rattle.archive_tree.specs.Data.{PlainArchive}
use Rattle.archive_tree.specs.Stands.{Kept}
use Rattle.xa_outside.specs.Causes.{Rose}
use Rattle.record_cursor.specs.Faults.{IfDamage}
use Rattle.record_cursor.specs.Steps.{IsCause}
use Rattle.record_cursor.specs.declared.fault.CursorFault.{CursorFault}
use Rattle.record_cursor.specs.declared.fault.CursorFault.TheVariants as cursor
use Rattle.node_judge.specs.InPlace.{LiesSound}
use Rattle.node_walk.specs.Nodes.{FolderSeen}
use Rattle.archive_check.specs.Judged.{PartsJudged, FileJudged}
use Rattle.archive_check.specs.declared.fault.CheckFault.{CheckFault}
use Rattle.archive_check.specs.declared.fault.CheckFault.TheVariants.{Damage, Folder, Memory}
use Rattle.archive_check.proofs.Parts.{SoundLaw}

module _ (name : List ℕ) (size : ℕ) (s t : FolderSeen) where
  -- ---- its parts are not those of an archive

  abbrev check_fault : CursorFault → CheckFault
  check_fault cursor.Damage = Damage
  check_fault cursor.Folder = Folder
  check_fault cursor.Memory = Memory

  no-folder : (e : CursorFault) → IsCause s.faults t.faults (Some e) → ◌≡◌ {A = Result ℕ CheckFault} (Err (check_fault e)) (Err Folder) → Rose s.faults t.faults
  no-folder cursor.Damage h e = absurd cc
  no-folder cursor.Folder h e = h
  no-folder cursor.Memory h e = absurd cc

  failed : (e : CursorFault) → PartsJudged name size s t (Err e) → FileJudged name size s t (Err (check_fault e))
  failed e p = record {
    same_files = p.same_files;
    same_draft = p.same_draft;
    later = p.later;
    cause = no-folder e p.cause;
    pulls = p.pulls;
    sound = λ bytes tells. tt;
    versions = λ bytes tells rules vs is. tt;
    damage = λ bytes tells is sound. no-damage e is (p.found bytes tells sound);
    short = λ files tells none. tt;
  }
    where
      no-damage : (f : CursorFault) → ◌≡◌ {A = Result ℕ CheckFault} (Err (check_fault f)) (Err Damage) → IfDamage f ⊥ → ⊥
      no-damage cursor.Damage e h = h
      no-damage cursor.Folder e h = absurd cc
      no-damage cursor.Memory e h = absurd cc

  pub file-failed : (e f : CursorFault) → e ≡ f → PartsJudged name size s t (Err e) → FileJudged name size s t (Err (check_fault f))
  file-failed e f is p = subst (λ (g : CursorFault). FileJudged name size s t (Err (check_fault g))) is (failed e p)

  -- ---- they are

  module _ (law : SoundLaw) (kept : (rules : List PlainRule) (a : PlainArchive) (bytes : List ℕ) → LiesSound rules a bytes → Kept a)
      (one : (rules others : List PlainRule) (a b : PlainArchive) (bytes : List ℕ) → LiesSound rules a bytes → LiesSound others b bytes → (rules ≡ others) × (a ≡ b)) where
    pub file-judged : (n : ℕ) → PartsJudged name size s t (Ok n) → FileJudged name size s t (Ok n)
    file-judged n p = record {
      same_files = p.same_files;
      same_draft = p.same_draft;
      later = p.later;
      cause = λ e. absurd cc;
      pulls = p.pulls;
      sound = λ bytes tells. (
          let x = p.lies bytes tells in
          let k = kept x.rules x.archive bytes x.lies in
          let count = k.is.count in
          (record { rules = x.rules; versions = k.versions; is = (law x.rules k.versions bytes).1 (x.archive, (k.is, x.lies)) }, count ∙ x.count));
      versions = λ bytes tells rules vs is. (
          let x = p.lies bytes tells in
          let b = (law rules vs bytes).0 is in
          let same = (one x.rules rules x.archive b.0 bytes x.lies b.1.1).1 in
          let at = b.1.0 in
          let count = at.count in
          sym x.count ∙ ap (λ (a : PlainArchive). a.n) same ∙ sym count);
      damage = λ bytes tells e is. absurd cc;
      short = λ files tells none. absurd (p.short files tells none);
    }
