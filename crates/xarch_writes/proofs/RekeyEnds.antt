-- How the parts of `rekey` lead to its end.
use Rattle.std.proofs.Common.{◌≡◌, inl, inr, ℕ, ◌+◌, ◌≤◌, Bool, true, false, List, [], ◌∷◌, ◌++◌, length, take, Option, Some, None, IfSome, IsSome, Result, Ok, Err, refl, sym, ap, ◌∙◌, subst, arith}
use Rattle.std.specs.FinMap as map
use Rattle.std.specs.List.{AllByRecursion}
use Rattle.xa_outside.specs.Folder.{Files, bytes_or_none}
use Rattle.xa_outside.specs.Numbers.{Numbers}
use Rattle.xa_outside.specs.Taken.{Taken}
use Rattle.xa_outside.specs.TakenLaws.{Takes-nil}
use Rattle.key_spec.specs.Data.{PlainRule}
use Rattle.key_rules.specs.Faults.{PlainKeyFault}
use Rattle.keyed_tree.specs.Data.{PlainKeyed}
use Rattle.archive_tree.specs.Data.{PlainArchive}
use Rattle.archive_tree.specs.Stands.{ArchiveOf}
use Rattle.record_parts.specs.declared.limits.TheConstants.{MOST_VERSIONS}
use Rattle.archive_file.specs.Sound.{SoundAs}
use Rattle.archive_rekey.specs.Rekeyed.{AreRekeyed, IsArchiveUnder}
use Rattle.version_notes.specs.Notes.{IsNote, are_empty, notes_part}
use Rattle.version_notes.specs.Parts.{parts_behind, parts_in}
use Rattle.version_notes.specs.Reader.{at_first, file_of}
use Rattle.version_notes.specs.Reading.{notes_from}
use Rattle.version_notes.specs.declared.parts.Parts.{Parts}
use Rattle.noted_file.specs.Contents.{Contents}
use Rattle.noted_file.specs.Full.{Full, FullAs}
use Rattle.xarch_words.specs.Commands.{rekey}
use Rattle.xarch_words.specs.Refusal.{Refusal, key_fault_in, PlainFault, refused, folder_fault, out_fault, in_fault, memory}
use Rattle.xarch_words.specs.declared.limits.TheConstants.{SPECIFICATION}
use Rattle.xarch_parts.specs.Allowed.{MayEnd}
use Rattle.xarch_parts.specs.AllowedLaws.{MayEnd-did, MayEnd-stopped}
use Rattle.xarch_parts.specs.Archives.{ArchiveIs, CoreIs, GoesOn, PartsAre}
use Rattle.xarch_parts.specs.CoreLaws.{core-sound, of-parts, same-file}
use Rattle.xarch_parts.specs.Folders.{ReadsOnly}
use Rattle.xarch_parts.specs.Inputs.{size_in}
use Rattle.xarch_parts.specs.Noted.{CanFollow}
use Rattle.xarch_parts.specs.Outcome.{Outcome}
use Rattle.xarch_meanings.specs.Over.{DamagedOrSound}
use Rattle.xarch_meanings.specs.Meanings.{MayBe}
use Rattle.xarch_meanings.specs.Rekey.{RekeysTo, rekey_rules}
use Rattle.xarch_writes.specs.Added.{IsDamaged}
use Rattle.xarch_writes.specs.Appending.{NotesEnd}
use Rattle.xarch_writes.specs.Rekeyed.{IsBadTold, IsNoArchive, IsOpened, IsRefusedLong, IsSoundFileOf, IsSoundOf, MayStore, StoreEnds}

-- ---- faults

-- the refusal that tells a version
pub told-version : (i : ℕ) (f : PlainKeyFault) (q : Refusal) → refused (key_fault_in i f) ≡ refused q → q ≡ key_fault_in i f
told-version i f q e = cc

-- want of memory is none
pub no-memory : {X : Type 0} (q : Refusal) → memory ≡ refused q → X
no-memory q e = absurd cc

-- ---- versions under other keys

many : (rules : List PlainRule) (vs us : List PlainKeyed) → AreRekeyed rules vs us → length us ≡ length vs
many rules [] [] h = refl
many rules [] (k ∷ ks) h = absurd h
many rules (v ∷ vs) [] h = absurd h
many rules (v ∷ vs) (k ∷ ks) h = (let rest = many rules vs ks h.1 in omega (arith, rest))

-- ---- the archive that is read

-- From what is known of all archive files with notes.
module _ (has_parts : (c : Contents) (bytes : List ℕ) (full : FullAs c bytes) → parts_in bytes ≡ Some (parts_behind full.core c.notes))
    (files : Files) (name : List ℕ) (parts : Parts) (are : PartsAre files name parts) where
  pub core-damaged : (q : Refusal) → IsNoArchive name (take parts.core are.bytes) q → IsDamaged files name q
  core-damaged q w = (w.is, (λ c a. w.unsound c.rules c.versions (core-sound has_parts files name c a parts.core (take parts.core are.bytes) (of-parts files name parts are))))

-- the first bytes of a file that has this core
pub core-bytes : (files : Files) (name : List ℕ) (size : ℕ) (core read : List ℕ) → CoreIs files name size core → read ≡ take size (bytes_or_none (map.get files name)) → read ≡ core
core-bytes files name size core read c is = is ∙ ap (λ (o : Option (List ℕ)). take size (bytes_or_none o)) c.there ∙ sym c.is

module _ (files : Files) (name : List ℕ) (parts : Parts) (are : PartsAre files name parts) (vs : List PlainKeyed) (n : ℕ) (sound : IsSoundOf vs (take parts.core are.bytes)) (count : n ≡ length vs) where
  from-file : (found : Option (List (List ℕ))) → notes_from (at_first name parts n) (file_of files name) ≡ found → notes_from (at_first name parts (length vs)) are.bytes ≡ found
  from-file found e = (λ i. notes_from (at_first name parts (sym count i)) (bytes_or_none (sym are.there i))) ∙ e

  pub opened-by : ((c : Contents) (bytes name : List ℕ) (parts : Parts) → parts_in bytes ≡ Some parts → SoundAs c.rules c.versions (take parts.core bytes)
      → notes_from (at_first name parts (length c.versions)) bytes ≡ Some c.notes → FullAs c bytes)
      → (notes : List (List ℕ)) → notes_from (at_first name parts n) (file_of files name) ≡ Some notes → IsOpened files name vs notes
  opened-by full notes e = record { rules = sound.rules; is = record { bytes = are.bytes; there = are.there; full = full (record { rules = sound.rules; versions = vs; notes = notes }) are.bytes name parts are.are sound.is (from-file (Some notes) e) } }

  pub damaged-notes : ((rules : List PlainRule) (vs : List PlainKeyed) (bytes name : List ℕ) (parts : Parts) → parts_in bytes ≡ Some parts → SoundAs rules vs (take parts.core bytes) → notes_from (at_first name parts (length vs)) bytes ≡ None → ¬ Full bytes)
      → (q : Refusal) → NotesEnd files name parts n (Some (refused q)) → IsDamaged files name q
  damaged-notes none q d = (
    d.0,
    (λ c a.
        let same : a.bytes ≡ are.bytes = same-file files name a.bytes are.bytes a.there are.there in
        none sound.rules vs are.bytes name parts are.are sound.is (from-file None d.1) (record { contents = c; is = subst (λ (b : List ℕ). FullAs c b) same a.full })),
  )

-- notes that were read can be appended
pub can-follow : (notes : List (List ℕ)) (n : ℕ) (there : Option ℕ) (noted : Bool) → length notes ≡ n → n ≤ MOST_VERSIONS → AllByRecursion IsNote notes → IfSome there (λ k. are_empty notes ≡ false) → (noted ≡ true → IsSome there) → CanFollow noted notes
can-follow notes n None noted count few each some known = record { few = omega (arith, count, few); each = each; some = λ e. (let wrong = known e in absurd cc) }
can-follow notes n (Some k) noted count few each some known = record { few = omega (arith, count, few); each = each; some = λ e. some }

-- ---- the whole command

-- what only read, behind a call that kept files
pub reads-sized : {S : Type 0} {files : S → Option Files} {draft : S → Option (List ℕ)} {numbers : S → Numbers} {faults : S → ℕ} (name : List ℕ) (a b c : S) (v : Option PlainFault) → files b ≡ files a
    → ReadsOnly files draft numbers faults (size_in (files b) name + (16 + SPECIFICATION + size_in (files b) name)) b c v
    → ReadsOnly files draft numbers faults (size_in (files a) name + (16 + SPECIFICATION + size_in (files a) name)) b c v
reads-sized {S} {files} {draft} {numbers} {faults} name a b c v same p = subst (λ f. ReadsOnly files draft numbers faults (size_in f name + (16 + SPECIFICATION + size_in f name)) b c v) same p

module _ (files : Files) (name spec : List ℕ) where
  -- a refusal before the archive is read
  pub rekey_refused_early : (q : Refusal) → rekey_rules files name spec ≡ Err q → MayBe files (rekey name spec) (Err q)
  rekey_refused_early q e = record {
    whatever = subst (λ x. GoesOn x (λ _. DamagedOrSound files name) (Err q)) (sym e) refl;
    sound = λ c is. subst (λ x. GoesOn x (RekeysTo files name c) (Err q)) (sym e) refl;
  }

  module _ (rules : List PlainRule) (input : rekey_rules files name spec ≡ Ok rules) where
    -- what the end of it says, behind the new keys
    ends : (r : Result Outcome Refusal) → DamagedOrSound files name r → ((c : Contents) → ArchiveIs files name c → RekeysTo files name c rules r) → MayBe files (rekey name spec) r
    ends r may to = record {
      whatever = subst (λ x. GoesOn x (λ _. DamagedOrSound files name) r) (sym input) may;
      sound = λ c is. subst (λ x. GoesOn x (RekeysTo files name c) r) (sym input) (to c is);
    }

    -- it is damaged
    pub rekey_damaged : (q : Refusal) → IsDamaged files name q → MayBe files (rekey name spec) (Err q)
    rekey_damaged q d = ends (Err q) (inl (ap (λ s. Err s) d.0)) (λ c is. absurd (d.1 c is))

    module _ (one : (c d : Contents) (bytes : List ℕ) → FullAs c bytes → FullAs d bytes → c ≡ d)
        (vs : List PlainKeyed) (notes : List (List ℕ)) (is : IsOpened files name vs notes) where
      abbrev held : Contents
      held = record { rules = is.rules; versions = vs; notes = notes }

      -- it is sound, and these are its versions and notes
      opened : (r : Result Outcome Refusal) → RekeysTo files name held rules r → MayBe files (rekey name spec) r
      opened r to =
          ends r (inr (record { contents = held; archive = is.is; rest = tt }))
          (λ c a.
          let bytes : a.bytes ≡ is.is.bytes = same-file files name a.bytes is.is.bytes a.there is.is.there in
          let same = one held c is.is.bytes is.is.full (subst (λ (b : List ℕ). FullAs c b) bytes a.full) in
          subst (λ (x : Contents). RekeysTo files name x rules r) same to)

      -- one of them does not satisfy the keys
      pub rekey_bad : (q : Refusal) → IsBadTold rules vs q → MayBe files (rekey name spec) (Err q)
      rekey_bad q bad = opened (Err q) (inr (record { number = bad.number; fault = bad.fault; first = bad.first; is = ap (λ s. Err s) bad.is }))

      module _ (a : PlainArchive) (under : IsArchiveUnder rules vs a) where
        -- the file of their archive under the keys comes
        filed : (core : List ℕ) → IsSoundFileOf rules a core → MayBe files (rekey name spec) (Ok (record { files = map.insert files name (core ++ notes_part notes); output = [] }))
        filed core file =
            let bytes = core ++ notes_part notes in
            let count = is.is.full.as_many ∙ sym (many rules vs under.versions under.are) in
            let sound = file under.versions under.archive in
            opened (Ok (record { files = map.insert files name bytes; output = [] }))
            (inl (record { versions = under.versions; are = under.are; rest = inl (record { bytes = bytes; full = record { core = core; is = sound; as_many = count; each = is.is.full.each; spelled = refl }; is = refl }) }))

        -- there is none
        unfiled : (q : Refusal) → IsRefusedLong rules a q → MayBe files (rekey name spec) (Err q)
        unfiled q long = opened (Err q) (inl (record { versions = under.versions; are = under.are; rest = inr (record { none = λ bytes file. long.none under.versions bytes under.archive file; is = ap (λ s. Err s) long.is }) }))

        pub may-store : MayStore files name spec rules a notes
        may-store = record { stored = filed; refused = unfiled }

-- with what the storing ends, the command may
module _ (files : Files) (name spec : List ℕ) (rules : List PlainRule) (a : PlainArchive) (notes : List (List ℕ)) (may : MayStore files name spec rules a notes) where
  pub stored-may : (after : Option Files) (t : Taken) (ended : Option PlainFault) → StoreEnds files name rules a notes after ended → MayEnd (MayBe files (rekey name spec)) ended after t t
  stored-may after t None s = MayEnd-did (MayBe files (rekey name spec)) (record { files = map.insert files name (s.bytes ++ notes_part notes); output = [] }) after t t (may.stored s.bytes s.file) s.tells (Takes-nil t)
  stored-may after t (Some (refused q)) s = MayEnd-stopped (MayBe files (rekey name spec)) (refused q) after t (λ p e. (let same : q ≡ p = cc in subst (λ z. MayBe files (rekey name spec) (Err z)) same (may.refused q s)))
  stored-may after t (Some folder_fault) s = MayEnd-stopped (MayBe files (rekey name spec)) folder_fault after t (λ q e. absurd cc)
  stored-may after t (Some out_fault) s = MayEnd-stopped (MayBe files (rekey name spec)) out_fault after t (λ q e. absurd cc)
  stored-may after t (Some in_fault) s = MayEnd-stopped (MayBe files (rekey name spec)) in_fault after t (λ q e. absurd cc)
  stored-may after t (Some memory) s = MayEnd-stopped (MayBe files (rekey name spec)) memory after t (λ q e. absurd cc)
