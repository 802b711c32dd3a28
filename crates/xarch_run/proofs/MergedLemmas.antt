-- The file of versions that are keyed by one specification.
use Rattle.std.proofs.Common.{◌≡◌, ◌≢◌, ℕ, ◌≤◌, List, [], ◌∷◌, ◌++◌, map, length, Some, Result, Ok, Err, IfOk, IfErr, Vec, Global, ap, sym, ◌∙◌, subst}
use Rattle.std.proofs.lemmas.List.{length-map}
use Rattle.std.specs.FinMap as finite
use Rattle.std.specs.List.{AllByRecursion}
use Rattle.xa_outside.specs.Folder.{Files}
use Rattle.key_spec.specs.Data.{PlainRule}
use Rattle.keyed_tree.specs.Data.{PlainKeyed}
use Rattle.archive_tree.specs.Data.{PlainArchive}
use Rattle.archive_tree.specs.Stands.{ArchiveOf}
use Rattle.record_parts.specs.declared.limits.TheConstants.{MOST_VERSIONS}
use Rattle.record_format.specs.Files.{FileOf}
use Rattle.archive_file.specs.Faults.{IfTooLong}
use Rattle.archive_file.specs.KeyedBy.{AreKeyedBy}
use Rattle.archive_file.specs.declared.fault.EncodeFault.{EncodeFault}
use Rattle.archive_file.specs.declared.fault.EncodeFault.TheVariants.{TooLong, Memory}
use Rattle.version_notes.specs.Notes.{notes_part}
use Rattle.xarch_parts.specs.Archives.{ArchiveIs}

-- what holds of each that is one holds of all
pub all_more : (P Q : PlainKeyed → Type 0) → ((k : PlainKeyed) → P k → Q k) → (vs : List PlainKeyed) → AllByRecursion P vs → AllByRecursion Q vs
all_more P Q f [] h = tt
all_more P Q f (v ∷ vs) h = (f v h.0, all_more P Q f vs h.1)

-- the archive that they have has no others
pub only_keyed : ((vs us : List PlainKeyed) (a : PlainArchive) → ArchiveOf vs a → ArchiveOf us a → vs ≡ us)
    → (rules : List PlainRule) (vs : List PlainKeyed) → AreKeyedBy rules vs → (a : PlainArchive) → ArchiveOf vs a → (us : List PlainKeyed) → ArchiveOf us a → AreKeyedBy rules us
only_keyed one_list rules vs keyed a is us h = subst (AreKeyedBy rules) (one_list vs us a is h) keyed

-- it counts as many as there are
pub few_merged : {X : Type 0} (view : X → PlainKeyed) (xs : List X) (a : PlainArchive) → ArchiveOf (map view xs) a → length xs ≤ MOST_VERSIONS → a.n ≤ MOST_VERSIONS
few_merged view xs a is few = subst (λ n. n ≤ MOST_VERSIONS) (sym (length-map xs view) ∙ is.count) few

-- ---- the file of versions, from that of their archive

module _ (rules : List PlainRule) (vs : List PlainKeyed) where
  abbrev pub IsFile : Result (Vec ℕ Global) EncodeFault → Type 0
  IsFile r = IfOk r (λ v. FileOf rules vs v.items)

  abbrev pub IsRefused : Result (Vec ℕ Global) EncodeFault → Type 0
  IsRefused r = IfErr r (λ e. IfTooLong e ((bytes : List ℕ) → ¬ FileOf rules vs bytes))

  module _ (a : PlainArchive) (is : ArchiveOf vs a) where
    pub of_archive : (r : Result (Vec ℕ Global) EncodeFault) → IfOk r (λ v. (us : List PlainKeyed) → ArchiveOf us a → FileOf rules us v.items) → IsFile r
    of_archive (Ok v) h = h vs is
    of_archive (Err e) h = tt

    pub none_of_archive : (r : Result (Vec ℕ Global) EncodeFault) → IfErr r (λ e. IfTooLong e ((us : List PlainKeyed) (bytes : List ℕ) → ArchiveOf us a → ¬ FileOf rules us bytes)) → IsRefused r
    none_of_archive (Ok v) h = tt
    none_of_archive (Err TooLong) h = λ bytes. h vs bytes is
    none_of_archive (Err Memory) h = tt

  -- where a folder has an archive of them, its file is this one
  module _ (files : Files) (name : List ℕ) (notes : List (List ℕ)) (there : ArchiveIs files name (record { rules = rules; versions = vs; notes = notes })) where
    pub held_there : ((rules : List PlainRule) (vs : List PlainKeyed) (a b : List ℕ) → FileOf rules vs a → FileOf rules vs b → a ≡ b)
        → (r : Result (Vec ℕ Global) EncodeFault) → IsFile r → IfOk r (λ v. finite.get files name ≡ Some (v.items ++ notes_part notes))
    held_there one (Ok v) h = there.there ∙ ap (λ b. Some b) (there.full.spelled ∙ ap (λ (core : List ℕ). core ++ notes_part notes) (one rules vs there.full.core v.items there.full.is.file h))
    held_there one (Err e) h = tt

    pub fits_there : (r : Result (Vec ℕ Global) EncodeFault) → IsRefused r → IfErr r (λ e. e ≢ TooLong)
    fits_there (Ok v) h = tt
    fits_there (Err TooLong) h = absurd (h there.full.core there.full.is.file)
    fits_there (Err Memory) h = λ e. cc
