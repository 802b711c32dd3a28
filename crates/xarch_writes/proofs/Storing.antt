-- How an archive under other keys is drafted and stored.
use Rattle.std.proofs.Common.{◌≡◌, ℕ, ◌≤◌, List, [], ◌++◌, length, Option, Some, None, Result, Ok, Err, IfErr, OnOk, sym, subst, arith}
use Rattle.std.specs.FinMap as map
use Rattle.xa_outside.specs.Folder.{Files, IsBlank}
use Rattle.xa_outside.specs.Numbers.{Numbers}
use Rattle.key_spec.specs.Canonical.{canonical}
use Rattle.key_spec.specs.Closed.{closed}
use Rattle.key_spec.specs.Data.{PlainRule}
use Rattle.archive_tree.specs.Data.{PlainArchive}
use Rattle.archive_tree.specs.Stands.{ArchiveOf}
use Rattle.keyed_tree.specs.Data.{PlainKeyed}
use Rattle.record_format.specs.Files.{FileOf}
use Rattle.record_writer.specs.declared.fault.WriteFault.{WriteFault}
use Rattle.archive_rekey.specs.Drafted.{Drafted}
use Rattle.version_notes.specs.Notes.{notes_part}
use Rattle.xarch_words.specs.Refusal.{PlainFault, refused, folder_fault, out_fault, in_fault, memory}
use Rattle.xarch_words.specs.View.{fault_view}
use Rattle.xarch_words.specs.declared.fault.Fault.{Fault}
use Rattle.xarch_parts.proofs.Pushing.{drafted-more}
use Rattle.xarch_parts.specs.Ends.{IsOfFolder, TellsOnly, fault_of}
use Rattle.xarch_parts.specs.FolderLaws.{writes-drafted}
use Rattle.xarch_writes.specs.Rekeyed.{CanBeWritten, DraftEnds, DraftsArchive, IsSoundFileOf, StoreEnds}

-- bytes that are a file of the archive are a sound one
pub sound-file : (rules : List PlainRule) (a : PlainArchive) (bytes : List ℕ) → closed (canonical rules) ≡ Ok rules → CanBeWritten rules a → ((us : List PlainKeyed) → ArchiveOf us a → FileOf rules us bytes) → IsSoundFileOf rules a bytes
sound-file rules a bytes specification written file = λ us at. record {
  specification = specification;
  keyed = written.keyed us at;
  few = (let count = at.count in let few = written.shaped.count in omega (arith, count, few));
  file = file us at;
}

module _ {S : Type 0} {files : S → Option Files} {draft : S → Option (List ℕ)} {numbers : S → Numbers} {faults : S → ℕ} where
  -- what was drafted, and how it is told
  pub drafts-archive : {T : Type 0} (rules : List PlainRule) (a : PlainArchive) (old new : S) (whole : List ℕ → Type 0) (r : Result T WriteFault) (v : Option PlainFault) → IsBlank (draft old) → (d : Drafted files draft numbers faults old new whole r)
      → DraftEnds rules a d.bytes v → IsOfFolder (faults old) (faults new) v → DraftsArchive files draft numbers faults rules a old new v
  drafts-archive rules a old new whole r v blank d ends cause = record {
    writes = writes-drafted old new None d.bytes d.same_files d.drafts;
    same_files = d.same_files;
    bytes = d.bytes;
    drafted = drafted-more (draft old) (draft new) [] d.bytes blank (let grown = d.drafts in grown.draft);
    ends = ends;
    later = d.later;
    cause = cause;
  }

module _ (files : Files) (name : List ℕ) (rules : List PlainRule) (a : PlainArchive) (notes : List (List ℕ)) (after : Option Files) where
  -- it was not drafted
  pub undrafted : (bytes : List ℕ) (v : PlainFault) → DraftEnds rules a bytes (Some v) → StoreEnds files name rules a notes after (Some v)
  undrafted bytes (refused q) ends = ends
  undrafted bytes folder_fault ends = tt
  undrafted bytes out_fault ends = tt
  undrafted bytes in_fault ends = tt
  undrafted bytes memory ends = tt

  outside : (v : PlainFault) → v ≡ folder_fault → StoreEnds files name rules a notes after (Some v)
  outside v is = subst (λ (z : PlainFault). StoreEnds files name rules a notes after (Some z)) (sym is) tt

  -- it was drafted, and its notes, and then the draft became a file, or the folder failed
  pub stored-ends : (bytes : List ℕ) (r : Result Unit Fault) → IsSoundFileOf rules a bytes → OnOk r (TellsOnly after (map.insert files name (bytes ++ notes_part notes))) → IfErr r (λ f. fault_view f ≡ folder_fault) → StoreEnds files name rules a notes after (fault_of r)
  stored-ends bytes (Ok u) file tells fault = record { bytes = bytes; file = file; tells = tells }
  stored-ends bytes (Err f) file tells fault = outside (fault_view f) fault
