-- How the parts of `cut` lead to an end that it may have.
use Rattle.std.proofs.Common.{◌≡◌, inl, inr, ℕ, ◌+◌, ◌-◌, ◌≤◌, List, [], ◌++◌, length, take, drop, Option, Some, None, option_map, Result, Ok, Err, refl, sym, ap, ◌∙◌, subst, length-take, length-drop, arith}
use Rattle.std.specs.FinMap as map
use Rattle.xa_outside.specs.Folder.{Files}
use Rattle.xa_outside.specs.Taken.{Taken}
use Rattle.xa_outside.specs.TakenLaws.{Takes-nil}
use Rattle.key_spec.specs.Canonical.{canonical}
use Rattle.key_spec.specs.Closed.{closed}
use Rattle.key_spec.specs.Data.{PlainRule}
use Rattle.keyed_tree.specs.Data.{PlainKeyed}
use Rattle.record_cursor.specs.View.{header_view}
use Rattle.record_format.specs.Files.{FileOf}
use Rattle.record_format.specs.Fronts.{header}
use Rattle.record_format.specs.declared.limits.TheConstants.{LONGEST}
use Rattle.archive_cut.specs.Sliced.{items}
use Rattle.version_notes.specs.Notes.{notes_part}
use Rattle.version_notes.specs.Parts.{parts_behind, parts_in}
use Rattle.version_notes.specs.Reader.{at_first}
use Rattle.version_notes.specs.Reading.{notes_from}
use Rattle.version_notes.specs.declared.parts.Parts.{Parts}
use Rattle.noted_file.specs.Contents.{Contents}
use Rattle.noted_file.specs.Full.{FullAs}
use Rattle.xarch_words.specs.Commands as command
use Rattle.xarch_words.specs.Refusal.{archive, Refusal, no_file, damaged, limit, PlainFault, refused}
use Rattle.xarch_parts.specs.Allowed.{MayEnd}
use Rattle.xarch_parts.specs.AllowedLaws.{MayEnd-did, MayEnd-stopped, commit-tells}
use Rattle.xarch_parts.specs.Archives.{ArchiveIs, GoesOn, IsFrontOf, PartsAre, Stores, free_in}
use Rattle.xarch_parts.specs.CoreLaws.{front-sound}
use Rattle.xarch_parts.specs.Inputs.{read_in}
use Rattle.xarch_parts.specs.Outcome.{Outcome, and_then, or_refuse}
use Rattle.xarch_parts.specs.Readings.{front_in}
use Rattle.xarch_parts.specs.declared.front.Front.{Front}
use Rattle.xarch_meanings.specs.Cut.{are_versions, cut_checked, cut_input, noted_items, slice}
use Rattle.xarch_meanings.specs.Meanings.{MayBe}
use Rattle.xarch_meanings.specs.Over.{MayMake}
use Rattle.xarch_copies.specs.Cutting.{Comes, CutEnds, NotesEnd, RecordsEnd}
use Rattle.xarch_copies.proofs.Checking.{IsSeen, checked-given, checked-once, checked-refused, drafted, seen}

-- ---- the number of versions

pub items-many : {A : Type 0} (i j : ℕ) (xs : List A) → 1 ≤ i → i ≤ j → j ≤ length xs → length (take (j + 1 - i) (drop (i - 1) xs)) ≡ j + 1 - i
items-many i j xs from order most = omega (arith, from, order, most, length-take (j + 1 - i) (drop (i - 1) xs), length-drop (i - 1) xs)

-- ---- what is decided before the records are looked at

-- From what is known of all archive files with notes: where their parts stand, and the header in front.
module _ (has_parts : (c : Contents) (bytes : List ℕ) (full : FullAs c bytes) → parts_in bytes ≡ Some (parts_behind full.core c.notes))
    (fronted : (rules : List PlainRule) (vs : List PlainKeyed) (bytes : List ℕ) → closed (canonical rules) ≡ Ok rules → FileOf rules vs bytes → header bytes ≡ Some (rules, length vs))
    (files : Files) (name new : List ℕ) (i j : ℕ) where
  -- over a sound archive its rules and the number of its versions are read
  input-sound : (c : Contents) → ArchiveIs files name c → cut_input files name new i j ≡ and_then (cut_checked files new i j (length c.versions)) (λ _. Ok (c.rules, length c.versions))
  input-sound c a =
      let h : List PlainRule × ℕ = (c.rules, length c.versions) in
      let front = front-sound has_parts files name c a fronted in
      ap (λ o. and_then (and_then (or_refuse o (no_file name)) (λ bytes. Ok (length bytes))) (λ _.
      and_then (free_in files new) (λ _.
      and_then (read_in files name (front_in name)) (λ h.
      and_then (are_versions i j h.1) (λ _.
      Ok h))))) a.there
      ∙ ap (λ x. and_then (free_in files new) (λ _. and_then x (λ h. and_then (are_versions i j h.1) (λ _. Ok h)))) front
      ∙ checked-once (free_in files new) (are_versions i j (length c.versions)) (Ok h)

  -- a refusal before the records are looked at
  pub may-refuse : (q : Refusal) → cut_input files name new i j ≡ Err q → MayBe files (command.cut name new i j) (Err q)
  may-refuse q e = record {
    whatever = subst (λ x. GoesOn x (λ _. MayMake files name new) (Err q)) (sym e) refl;
    sound = λ c a.
        let none = checked-refused (cut_checked files new i j (length c.versions)) (c.rules, length c.versions) q (sym (input-sound c a) ∙ e) in
        subst (λ x. GoesOn x (λ _. Stores files new (slice i j c)) (Err q)) (sym none) refl;
  }

  module _ (h : List PlainRule × ℕ) (read : cut_input files name new i j ≡ Ok h) where
    checked : (c : Contents) → ArchiveIs files name c → cut_checked files new i j (length c.versions) ≡ Ok tt
    checked c a = checked-given (cut_checked files new i j (length c.versions)) (c.rules, length c.versions) h (sym (input-sound c a) ∙ read)

    -- the new file comes
    may-come : (bytes : List ℕ) → ((c : Contents) → ArchiveIs files name c → FullAs (slice i j c) bytes)
        → MayBe files (command.cut name new i j) (Ok (record { files = map.insert files new bytes; output = [] }))
    may-come bytes full =
        let r : Result Outcome Refusal = Ok (record { files = map.insert files new bytes; output = [] }) in
        record {
          whatever = subst (λ x. GoesOn x (λ _. MayMake files name new) r) (sym read) (inr (inr (record { bytes = bytes; is = refl })));
          sound = λ c a.
              subst (λ x. GoesOn x (λ _. Stores files new (slice i j c)) r) (sym (checked c a)) (inl (record { bytes = bytes; full = full c a; is = refl }));
        }

    may-be-damaged : ((c : Contents) → ¬ ArchiveIs files name c) → MayBe files (command.cut name new i j) (Err (damaged name))
    may-be-damaged none = record {
      whatever = subst (λ x. GoesOn x (λ _. MayMake files name new) (Err (damaged name))) (sym read) (inl refl);
      sound = λ c a. absurd (none c a);
    }

    may-be-long : ((c : Contents) → ArchiveIs files name c → (bytes : List ℕ) → ¬ FileOf c.rules (items i j c.versions) bytes)
        → MayBe files (command.cut name new i j) (Err (limit archive LONGEST))
    may-be-long none =
        let r : Result Outcome Refusal = Err (limit archive LONGEST) in
        record {
          whatever = subst (λ x. GoesOn x (λ _. MayMake files name new) r) (sym read) (inr (inl refl));
          sound = λ c a.
              subst (λ x. GoesOn x (λ _. Stores files new (slice i j c)) r) (sym (checked c a)) (inr (record { none = none c a; is = refl }));
        }

  -- ---- by what stands in front

  -- And of how their notes are read.
  module _ (come : (c : Contents) (bytes name : List ℕ) (parts : Parts) → FullAs c bytes → parts_in bytes ≡ Some parts → notes_from (at_first name parts (length c.versions)) bytes ≡ Some c.notes)
      (told : Option Files) (tells : told ≡ Some files) (front : Front) (are : PartsAre files name front.parts) (stands : IsFrontOf files name (header_view front.header))
      (read : cut_input files name new i j ≡ Ok ((header_view front.header).rules, (header_view front.header).versions)) (from : 1 ≤ i) (order : i ≤ j) (most : j ≤ (header_view front.header).versions) where
    module _ (held : Contents) (a : ArchiveIs files name held) where
      of-archive : IsSeen told files name front held stands.core
      of-archive = seen has_parts fronted come files name told tells front are stands held a

      full-slice : (draft : Option (List ℕ)) (now : Option Files) (c : Comes told draft name new front i j now) → FullAs (slice i j held) (c.core ++ notes_part c.notes)
      full-slice draft now c =
          let s = of-archive in
          let these : c.notes ≡ noted_items i j held.notes = c.given files held.notes tells s.read in
          let count = s.versions in
          let many = c.many in
          let all : length (items i j held.versions) ≡ j + 1 - i = items-many i j held.versions from order (omega (arith, count, most)) in
          subst (λ (l : List (List ℕ)). FullAs (record { rules = held.rules; versions = items i j held.versions; notes = l }) (c.core ++ notes_part c.notes)) these
          (record { core = c.core; is = c.slice stands.core held.rules held.versions s.at s.heads s.sound; as_many = many ∙ sym all; each = c.each; spelled = refl })

    records-may : (q : Refusal) → RecordsEnd told name (header_view front.header) i j (refused q) → MayBe files (command.cut name new i j) (Err q)
    records-may q (inl d) =
        subst (λ s. MayBe files (command.cut name new i j) (Err s)) (sym d.0) (may-be-damaged ((header_view front.header).rules, (header_view front.header).versions) read (λ c a. (let s = of-archive c a in d.1 stands.core c.rules c.versions s.at s.heads s.sound)))
    records-may q (inr l) =
        subst (λ s. MayBe files (command.cut name new i j) (Err s)) (sym l.0) (may-be-long ((header_view front.header).rules, (header_view front.header).versions) read (λ c a. (let s = of-archive c a in l.1 stands.core c.rules c.versions s.at s.heads s.sound)))

    notes-may : (q : Refusal) → NotesEnd told name front.parts (header_view front.header).versions (refused q) → MayBe files (command.cut name new i j) (Err q)
    notes-may q d =
        subst (λ s. MayBe files (command.cut name new i j) (Err s)) (sym d.0) (may-be-damaged ((header_view front.header).rules, (header_view front.header).versions) read
        (λ c a. (let wrong : None ≡ Some c.notes = sym (d.1 files tells) ∙ (of-archive c a).read in absurd cc)))

    refused-may : (v : PlainFault) → RecordsEnd told name (header_view front.header) i j v → (q : Refusal) → v ≡ refused q → MayBe files (command.cut name new i j) (Err q)
    refused-may v ends q is = records-may q (subst (λ (z : PlainFault). RecordsEnd told name (header_view front.header) i j z) is ends)

    unnoted-may : (v : PlainFault) → NotesEnd told name front.parts (header_view front.header).versions v → (q : Refusal) → v ≡ refused q → MayBe files (command.cut name new i j) (Err q)
    unnoted-may v ends q is = notes-may q (subst (λ (z : PlainFault). NotesEnd told name front.parts (header_view front.header).versions z) is ends)

    -- with what the new archive ends, the command may end
    pub may-end : (draft : Option (List ℕ)) (after : Option Files) (t : Taken) (ended : Option PlainFault) → CutEnds told draft name new front i j after ended → MayEnd (MayBe files (command.cut name new i j)) ended after t t
    may-end draft after t None c =
        let bytes = c.core ++ notes_part c.notes in
        let stored = commit-tells (Ok tt) files after told (option_map (λ (d : List ℕ). bytes) draft) new bytes c.stored tells (drafted draft bytes) in
        MayEnd-did (MayBe files (command.cut name new i j)) (record { files = map.insert files new bytes; output = [] }) after t t
        (may-come ((header_view front.header).rules, (header_view front.header).versions) read bytes (λ held a. full-slice held a draft after c)) stored (Takes-nil t)
    may-end draft after t (Some v) (inl ends) = MayEnd-stopped (MayBe files (command.cut name new i j)) v after t (refused-may v ends)
    may-end draft after t (Some v) (inr ends) = MayEnd-stopped (MayBe files (command.cut name new i j)) v after t (unnoted-may v ends)
