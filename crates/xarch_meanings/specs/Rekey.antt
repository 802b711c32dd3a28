-- What `rekey` does: it gives the versions of an archive the keys of another specification.
use Rattle.std.specs.Prelude.{◌≡◌, ◌⊎◌, ℕ, List, Result, Err, ◌+◌, Ok}
use Rattle.xa_outside.specs.Folder.{Files}
use Rattle.key_spec.specs.Data.{PlainRule}
use Rattle.key_rules.specs.Faults.{PlainKeyFault}
use Rattle.keyed_tree.specs.Data.{PlainKeyed}
use Rattle.archive_rekey.specs.Rekeyed.{AreRekeyed, IsFirstBad}
use Rattle.noted_file.specs.Contents.{Contents, with_keys}
use Rattle.xarch_words.specs.Refusal.{specification, Refusal, key_fault_in}
use Rattle.xarch_words.specs.declared.limits.TheConstants.{SPECIFICATION}
use Rattle.xarch_parts.specs.Archives.{GoesOn, Stores}
use Rattle.xarch_parts.specs.Inputs.{file_length, length_in, read_in, size_in}
use Rattle.xarch_parts.specs.Outcome.{Outcome, and_then}
use Rattle.xarch_parts.specs.Readings.{front_in, rules_of}
use Rattle.record_format.specs.Files.{FileOf}
use Rattle.xarch_meanings.specs.Meaning.{Meaning, next_archive, on_archive, stores}
use Rattle.xarch_meanings.specs.Over.{DamagedOrSound, HasArchiveWith}

-- The new rules, or the first refusal: the archive is there, the specification is there and short enough, a header stands in front of the archive, and
-- the specification has a closed reading.
abbrev pub rekey_rules : Files → List ℕ → List ℕ → Result (List PlainRule) Refusal
rekey_rules files archive spec =
    and_then (file_length files archive) (λ _.
    and_then (length_in files spec specification SPECIFICATION) (λ _.
    and_then (read_in files archive (front_in archive)) (λ _.
    read_in files spec rules_of)))

-- Each version satisfies the rules, and the archive file of the versions under them, with the notes that there are, comes under the name, where there is
-- one.
pub record StoresRekeyed (files : Files) (archive : List ℕ) (c : Contents) (rules : List PlainRule) (r : Result Outcome Refusal) : Type 0 where
  pub versions : List PlainKeyed
  pub are : AreRekeyed rules c.versions versions
  pub rest : Stores files archive (with_keys c rules versions) r

-- One does not, and the first such is told.
pub record TellsFirstBad (rules : List PlainRule) (vs : List PlainKeyed) (r : Result Outcome Refusal) : Type 0 where
  pub number : ℕ
  pub fault : PlainKeyFault
  pub first : IsFirstBad rules vs number fault
  pub is : r ≡ Err (key_fault_in number fault)

-- what comes of what an archive holds under the rules
abbrev pub RekeysTo : Files → List ℕ → Contents → List PlainRule → Result Outcome Refusal → Type 0
RekeysTo files archive c rules r = StoresRekeyed files archive c rules r ⊎ TellsFirstBad rules c.versions r

-- what comes where the archive holds this
abbrev pub RekeysFrom : Files → List ℕ → List ℕ → Contents → Result Outcome Refusal → Type 0
RekeysFrom files archive spec c r = GoesOn (rekey_rules files archive spec) (RekeysTo files archive c) r

-- ---- when a specification is handed in

-- The specification in this file is handed in to the archive of this name, which holds the first before it and the second behind it: it is there, short
-- enough, and has a closed reading, each version satisfies it, and the versions under it have a file. The notes stay.
pub record IsRekeyed (files : Files) (name spec : List ℕ) (h i : Contents) : Type 0 where
  pub specified : rekey_rules files name spec ≡ Ok i.rules
  pub satisfied : AreRekeyed i.rules h.versions i.versions
  pub noted : i.notes ≡ h.notes
  pub bytes : List ℕ
  pub file : FileOf i.rules i.versions bytes

-- it is not handed in, and all is as it was
pub record StaysKeyed (files : Files) (name spec : List ℕ) (h i : Contents) : Type 0 where
  pub none : (j : Contents) → ¬ IsRekeyed files name spec h j
  pub is : i ≡ h

-- what an archive holds before a specification comes to it and behind that
abbrev pub ChangesKeys : Files → List ℕ → List ℕ → Contents → Contents → Type 0
ChangesKeys files name spec h i = IsRekeyed files name spec h i ⊎ StaysKeyed files name spec h i

-- ---- all that is said of it

-- It should succeed where the specification is handed in. It reads the header of the archive before its whole.
abbrev pub rekey_meaning : List ℕ → List ℕ → Meaning
rekey_meaning archive spec = record (on_archive (stores (next_archive archive)) archive (λ files. rekey_rules files archive spec) (λ files. DamagedOrSound files archive) (λ files. RekeysFrom files archive spec)) {
  Should = λ files. HasArchiveWith files archive (λ c. (i : Contents) × IsRekeyed files archive spec c i);
  most = λ told. size_in told archive + (16 + SPECIFICATION + size_in told archive);
  Changes = λ files. ChangesKeys files archive spec;
}
