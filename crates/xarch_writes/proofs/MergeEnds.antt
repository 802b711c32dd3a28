-- With what the merge of a new version ends.
use Rattle.std.proofs.Common.{◌≡◌, ◌≢◌, ◌↔◌, inl, inr, ℕ, ◌+◌, ◌-◌, ◌≤◌, List, [], ◌∷◌, ◌++◌, length, Option, Some, None, Result, Ok, Err, refl, sym, ap, ◌∙◌, subst, length-append, arith}
use Rattle.std.specs.Prelude.{max}
use Rattle.std.specs.Option.{option_map}
use Rattle.std.specs.FinMap as map
use Rattle.std.specs.Result.{IfErr, IsErrAnd, OnOk}
use Rattle.xa_outside.specs.Causes.{Rose}
use Rattle.xa_outside.specs.Folder.{Files, bytes_or_none, committed}
use Rattle.xa_outside.specs.Numbers.{Numbers, IsMeter}
use Rattle.xa_outside.specs.NumberLaws.{PullsAndDrafts-none}
use Rattle.key_spec.specs.Canonical.{canonical}
use Rattle.key_spec.specs.Closed.{closed}
use Rattle.key_spec.specs.Data.{PlainRule}
use Rattle.keyed_tree.specs.Data.{PlainKeyed}
use Rattle.archive_tree.specs.Data.{PlainArchive}
use Rattle.archive_tree.specs.Stands.{ArchiveOf}
use Rattle.record_parts.specs.declared.limits.TheConstants.{MOST_VERSIONS}
use Rattle.archive_file.specs.Sound.{SoundAs}
use Rattle.record_cursor.specs.Moves.{TellsFront, IsHeaderOf}
use Rattle.record_cursor.specs.View.{PlainHeader}
use Rattle.record_format.specs.Files.{FileOf, header_bytes, largest}
use Rattle.record_format.specs.Fronts.{header}
use Rattle.record_format.specs.declared.limits.TheConstants.{LONGEST}
use Rattle.stream_merge.specs.Added.{Appended, IfTooLong, IfFailed}
use Rattle.stream_merge.specs.declared.fault.AddFault.{AddFault}
use Rattle.stream_merge.specs.declared.fault.AddFault.TheVariants.{Damage, Folder, Limit, TooLong, Memory}
use Rattle.version_notes.specs.Notes.{IsNote, notes_part}
use Rattle.version_notes.specs.Parts.{parts_behind, parts_in}
use Rattle.version_notes.specs.Reader.{at_first, file_of}
use Rattle.version_notes.specs.Reading.{notes_from}
use Rattle.version_notes.specs.declared.parts.Parts.{Parts}
use Rattle.noted_file.specs.Contents.{Contents}
use Rattle.noted_file.specs.Full.{FullAs}
use Rattle.xarch_words.specs.Refusal.{archive, versions, Refusal, damaged, limit, PlainFault, refused, folder_fault, out_fault, in_fault, memory}
use Rattle.xarch_words.specs.View.{fault_view}
use Rattle.xarch_words.specs.declared.fault.Fault.{Fault}
use Rattle.xarch_parts.specs.Archives.{ArchiveIs, IsFrontOf, PartsAre}
use Rattle.xarch_parts.specs.CoreLaws.{core-sound, same-file}
use Rattle.xarch_parts.specs.Ends.{IsDefined, IsInside, IsOfFolder, TellsOnly, fault_of}
use Rattle.xarch_parts.specs.Folders.{Streams}
use Rattle.xarch_meanings.specs.FrontLaws.{front-told, header-is}
use Rattle.xarch_writes.specs.Added.{AddEnds, IsDamaged, IsNotAdded, IsToldAs, KeepsUp, Merges, RecordsEnd, TreeEnds, most_ahead}
use Rattle.xarch_writes.specs.Appending.{GainsNotes, NotesEnd}
use Rattle.xarch_writes.proofs.NotesEnds.{each-more}

-- the cause of a fault that is told
pub told-cause : (T : Type 0) (name : List ℕ) (e : AddFault) (v : PlainFault) (a b : ℕ) → IsToldAs name e v → IfFailed {T = T} (Err e) (Rose a b) → IsOfFolder a b (Some v)
unfolding IsInside IsOfFolder
told-cause T name Damage v a b (inl is) h = subst (λ (z : PlainFault). IsOfFolder a b (Some z)) (sym is) tt
told-cause T name Damage v a b (inr is) h = subst (λ (z : PlainFault). IsOfFolder a b (Some z)) (sym is) tt
told-cause T name Folder v a b is h = subst (λ (z : PlainFault). IsOfFolder a b (Some z)) (sym is) h
told-cause T name Limit v a b is h = subst (λ (z : PlainFault). IsOfFolder a b (Some z)) (sym is) tt
told-cause T name TooLong v a b is h = subst (λ (z : PlainFault). IsOfFolder a b (Some z)) (sym is) tt
told-cause T name Memory v a b is h = subst (λ (z : PlainFault). IsOfFolder a b (Some z)) (sym is) tt

-- what was appended has room for its version
pub roomy : {T : Type 0} (x : T) (n : ℕ) → ((◌≡◌ {A = Result T AddFault} (Ok x) (Err Limit)) ↔ (n ≡ MOST_VERSIONS)) → n ≢ MOST_VERSIONS
roomy x n most full = (let wrong = most.1 full in absurd cc)

-- a file that came by way of a draft is told, where files are
stored-tells : (files : Files) (told after : Option Files) (draft : Option (List ℕ)) (bytes name : List ℕ) → told ≡ Some files → after ≡ committed told (option_map (λ (d : List ℕ). bytes) draft) name → TellsOnly after (map.insert files name bytes)
stored-tells files told after None bytes name is stored now e =
    let none : after ≡ None = stored ∙ ap (λ (o : Option Files). committed o (option_map (λ (d : List ℕ). bytes) None) name) is in
    let wrong : None ≡ Some now = sym none ∙ e in
    absurd cc
stored-tells files told after (Some d) bytes name is stored now e =
    let some : after ≡ Some (map.insert files name bytes) = stored ∙ ap (λ (o : Option Files). committed o (Some bytes) name) is in
    let same : Some (map.insert files name bytes) ≡ Some now = sym some ∙ e in
    let is : map.insert files name bytes ≡ now = cc in
    sym is

grown-twice : (d : Option (List ℕ)) (x y : List ℕ) → option_map (λ l. l ++ y) (option_map (λ (l : List ℕ). x) d) ≡ option_map (λ (l : List ℕ). x ++ y) d
grown-twice None x y = refl
grown-twice (Some d) x y = refl

-- From what is known of all archive files with notes: where their parts stand.
module _ (has_parts : (c : Contents) (bytes : List ℕ) (full : FullAs c bytes) → parts_in bytes ≡ Some (parts_behind full.core c.notes)) where
  -- The header stands in front of the file of this name, among files that are told.
  module _ (files : Files) (told : Option Files) (name : List ℕ) (h : PlainHeader) (new : PlainKeyed) (tells : told ≡ Some files) (front : IsFrontOf files name h) where
    at-front : TellsFront told name h.length front.core
    at-front = front-told files told name h tells front

    heads : IsHeaderOf h front.core
    heads = header-is files told name h tells front

    sound-front : (c : Contents) → ArchiveIs files name c → SoundAs c.rules c.versions front.core
    sound-front c a = core-sound has_parts files name c a h.length front.core front.of

    refused-as : (v : PlainFault) (q : Refusal) → v ≡ refused q → IsNotAdded files name h new q → RecordsEnd files name h new (Some v)
    refused-as v q is ends = subst (λ (z : PlainFault). RecordsEnd files name h new (Some z)) (sym is) ends

    -- its records were not appended
    pub records-failed : {T : Type 0} (e : AddFault) (v : PlainFault) → IsToldAs name e v → ((◌≡◌ {A = Result T AddFault} (Err e) (Err Limit)) ↔ (h.versions ≡ MOST_VERSIONS))
        → ((bytes : List ℕ) (rules : List PlainRule) (vs : List PlainKeyed) → TellsFront told name h.length bytes → IsHeaderOf h bytes → SoundAs rules vs bytes → e ≢ Damage)
        → ((bytes : List ℕ) (rules : List PlainRule) (vs : List PlainKeyed) → TellsFront told name h.length bytes → IsHeaderOf h bytes → SoundAs rules vs bytes → IfTooLong e ((file : List ℕ) → ¬ FileOf rules (vs ++ new ∷ []) file))
        → RecordsEnd files name h new (Some v)
    records-failed Damage v (inl is) most undamaged long =
        refused-as v (damaged name) is (inr ((λ full. (let wrong = most.1 full in absurd cc)), inl (refl, (λ c a. undamaged front.core c.rules c.versions at-front heads (sound-front c a) refl))))
    records-failed Damage v (inr is) most undamaged long = subst (λ (z : PlainFault). RecordsEnd files name h new (Some z)) (sym is) tt
    records-failed Folder v is most undamaged long = subst (λ (z : PlainFault). RecordsEnd files name h new (Some z)) (sym is) tt
    records-failed Limit v is most undamaged long = refused-as v (limit versions MOST_VERSIONS) is (inl (most.0 refl, refl))
    records-failed TooLong v is most undamaged long =
        refused-as v (limit archive LONGEST) is (inr ((λ full. (let wrong = most.1 full in absurd cc)), inr (refl, (λ c a. long front.core c.rules c.versions at-front heads (sound-front c a)))))
    records-failed Memory v is most undamaged long = subst (λ (z : PlainFault). RecordsEnd files name h new (Some z)) (sym is) tt

    -- over a sound archive what was read is little ahead
    pub gap-of : (x y : Numbers)
        → ((bytes : List ℕ) (rules : List PlainRule) (vs : List PlainKeyed) (a : PlainArchive) → TellsFront told name h.length bytes → IsHeaderOf h bytes → SoundAs rules vs bytes → ArchiveOf vs a
        → y.gap ≤ max x.gap (x.since - x.drafted - length (header_bytes rules a.n) + largest rules a))
        → (c : Contents) (a : PlainArchive) → ArchiveIs files name c → ArchiveOf c.versions a → y.gap ≤ max x.gap (x.since - x.drafted - length (header_bytes c.rules a.n) + largest c.rules a)
    gap-of x y gap c a is of = gap front.core c.rules c.versions a at-front heads (sound-front c is) of

    pub keeps-up : {T : Type 0} (r : Result T AddFault) (ended : Option PlainFault) (x y : Numbers) → (ended ≡ None → (t : T) × (r ≡ Ok t))
        → ((bytes : List ℕ) (rules : List PlainRule) (vs : List PlainKeyed) (a : PlainArchive) → TellsFront told name h.length bytes → IsHeaderOf h bytes → SoundAs rules vs bytes → ArchiveOf vs a
        → y.gap ≤ max x.gap (x.since - x.drafted - length (header_bytes rules a.n) + largest rules a))
        → ((bytes : List ℕ) → TellsFront told name h.length bytes → IsHeaderOf h bytes → OnOk r (y.since - y.drafted ≤ x.since - x.drafted - h.first)) → KeepsUp files name h x y ended
    keeps-up {T} r ended x y done gap ahead = record {
      gap = gap-of x y gap;
      ahead = λ none. (let t = done none in let all = ahead front.core at-front heads in subst (λ (z : Result T AddFault). OnOk z (y.since - y.drafted ≤ x.since - x.drafted - h.first)) t.1 all);
    }

    -- ---- its notes

    -- From what is known of the headers of archive files, and of how their notes are read.
    module _ (fronted : (rules : List PlainRule) (vs : List PlainKeyed) (bytes : List ℕ) → closed (canonical rules) ≡ Ok rules → FileOf rules vs bytes → header bytes ≡ Some (rules, length vs))
        (come : (c : Contents) (bytes name : List ℕ) (parts : Parts) → FullAs c bytes → parts_in bytes ≡ Some parts → notes_from (at_first name parts (length c.versions)) bytes ≡ Some c.notes)
        (parts : Parts) (are : PartsAre files name parts) where
      versions-are : (c : Contents) → ArchiveIs files name c → h.versions ≡ length c.versions
      versions-are c a =
          let s = sound-front c a in
          let one : Some (c.rules, length c.versions) ≡ Some (h.rules, h.versions) = sym (fronted c.rules c.versions front.core s.specification s.file) ∙ ap (option_map (λ (x : (List PlainRule × ℕ) × List ℕ). x.0)) front.is in
          let same : (c.rules, length c.versions) ≡ (h.rules, h.versions) = cc in
          sym (ap (λ (x : List PlainRule × ℕ). x.1) same)

      -- the notes of the archive are those that are read
      pub read-notes : (c : Contents) → ArchiveIs files name c → notes_from (at_first name parts h.versions) (file_of files name) ≡ Some c.notes
      read-notes c a =
          let same : are.bytes ≡ a.bytes = same-file files name are.bytes a.bytes are.there a.there in
          let parted : parts_in a.bytes ≡ Some parts = ap parts_in (sym same) ∙ are.are in
          (λ i. notes_from (at_first name parts (versions-are c a i)) (bytes_or_none (a.there i))) ∙ come c a.bytes name parts a.full parted

      -- they were not read
      pub notes-damaged : (q : Refusal) → NotesEnd files name parts h.versions (Some (refused q)) → IsDamaged files name q
      notes-damaged q d = (d.0, (λ c a. (let wrong : None ≡ Some c.notes = sym d.1 ∙ read-notes c a in absurd cc)))

      pub notes-stopped : (note : List ℕ) (after : Option Files) (v : PlainFault) → h.versions ≢ MOST_VERSIONS → NotesEnd files name parts h.versions (Some v) → AddEnds files name h new note after (Some v)
      notes-stopped note after (refused q) room d = inr (room, inl (notes-damaged q d))
      notes-stopped note after folder_fault room d = tt
      notes-stopped note after out_fault room d = tt
      notes-stopped note after in_fault room d = tt
      notes-stopped note after memory room d = tt

      -- the new file came
      pub ends-added : (note : List ℕ) (draft mid last : Option (List ℕ)) (between after : Option Files) → IsNote note → h.versions ≢ MOST_VERSIONS → Appended h name new told draft mid → between ≡ told
          → GainsNotes between name parts h.versions note mid last → after ≡ committed told last name → AddEnds files name h new note after None
      ends-added note draft mid last between after is room added same gains stored = (
        room,
        (let part = notes_part (gains.notes ++ note ∷ []) in
            let bytes = added.bytes ++ part in
            let drafted : last ≡ option_map (λ (d : List ℕ). bytes) draft = gains.gains ∙ ap (option_map (λ d. d ++ part)) added.drafted ∙ grown-twice draft added.bytes part in
            record {
              bytes = bytes;
              tells = stored-tells files told after draft bytes name tells (stored ∙ ap (λ (o : Option (List ℕ)). committed told o name) drafted);
              full = λ c a.
                  let both : Some gains.notes ≡ Some c.notes = sym (gains.given files (same ∙ tells)) ∙ read-notes c a in
                  let all : gains.notes ≡ c.notes = cc in
                  let count = versions-are c a in
                  let many = gains.count in
                  let grown : FullAs (record { rules = c.rules; versions = c.versions ++ new ∷ []; notes = gains.notes ++ note ∷ [] }) bytes = record {
                    core = added.bytes;
                    is = added.sound front.core c.rules c.versions at-front heads (sound-front c a);
                    as_many = omega (arith, count, many, length-append gains.notes (note ∷ []), length-append c.versions (new ∷ []));
                    each = each-more gains.notes note gains.each is;
                    spelled = refl;
                  } in
                  subst (λ (l : List (List ℕ)). FullAs (record { rules = c.rules; versions = c.versions ++ new ∷ []; notes = l ++ note ∷ [] }) bytes) all grown;
            }),
      )

-- its records were refused
pub records-stopped : (files : Files) (name : List ℕ) (h : PlainHeader) (new : PlainKeyed) (note : List ℕ) (after : Option Files) (v : PlainFault) → RecordsEnd files name h new (Some v) → AddEnds files name h new note after (Some v)
records-stopped files name h new note after (refused q) d = d
records-stopped files name h new note after folder_fault d = tt
records-stopped files name h new note after out_fault d = tt
records-stopped files name h new note after in_fault d = tt
records-stopped files name h new note after memory d = tt

-- what comes of a fault of the folder
pub folder-stopped : (files : Files) (name : List ℕ) (h : PlainHeader) (new : PlainKeyed) (note : List ℕ) (after : Option Files) (v : PlainFault) → v ≡ folder_fault → AddEnds files name h new note after (Some v)
folder-stopped files name h new note after v is = subst (λ (z : PlainFault). AddEnds files name h new note after (Some z)) (sym is) tt

-- the commit came, or failed
pub ends-committed : (files : Files) (name : List ℕ) (h : PlainHeader) (new : PlainKeyed) (note : List ℕ) (after : Option Files) (r : Result Unit Fault) (before : Option Files) (draft : Option (List ℕ)) → OnOk r (after ≡ committed before draft name)
    → IfErr r (λ f. fault_view f ≡ folder_fault) → (after ≡ committed before draft name → AddEnds files name h new note after None) → AddEnds files name h new note after (fault_of r)
ends-committed files name h new note after (Ok u) before draft done fault ends = ends done
ends-committed files name h new note after (Err f) before draft done fault ends = folder-stopped files name h new note after (fault_view f) fault

-- ---- how far ahead

pub ahead-records : (h : PlainHeader) (rules : List PlainRule) (a : PlainArchive) (x y : Numbers) → y.gap ≤ max x.gap (x.since - x.drafted - length (header_bytes rules a.n) + largest rules a) → y.gap ≤ max x.gap (most_ahead h rules a x)
ahead-records h rules a x y gap = omega (arith, gap)

pub ahead-notes : (h : PlainHeader) (rules : List PlainRule) (a : PlainArchive) (x y z : Numbers) → y.gap ≤ max x.gap (x.since - x.drafted - length (header_bytes rules a.n) + largest rules a) → y.since - y.drafted ≤ x.since - x.drafted - h.first
    → z.gap ≤ max y.gap (y.since - y.drafted + 1028) → z.gap ≤ max x.gap (most_ahead h rules a x)
ahead-notes h rules a x y z gap ahead more = omega (arith, gap, ahead, more)

pub ahead-same : (n : ℕ) (y z : Numbers) → z.gap ≡ y.gap → y.gap ≤ n → z.gap ≤ n
ahead-same n y z same fits = omega (arith, same, fits)

-- ---- a document that is not merged

module _ (files : Files) (name : List ℕ) (h : PlainHeader) (new : Result PlainKeyed Refusal) (note : List ℕ) (after : Option Files) (x : Numbers) where
  tree-stopped : (new : Result PlainKeyed Refusal) (v : PlainFault) → IsDefined new v → TreeEnds files name h new note after (Some v)
  unfolding IsDefined
  tree-stopped (Ok k) (refused q) is = absurd cc
  tree-stopped (Ok k) folder_fault is = tt
  tree-stopped (Ok k) out_fault is = tt
  tree-stopped (Ok k) in_fault is = tt
  tree-stopped (Ok k) memory is = tt
  tree-stopped (Err q) v is = is

  -- nothing was read or written
  pub merges-stopped : {T : Type 0} (r : Result T Fault) (f : Fault) → IsErrAnd r (λ g. g ≡ f) → IsDefined new (fault_view f) → Merges files name h new note after x x (fault_of r)
  merges-stopped (Ok u) f e is = absurd e
  merges-stopped (Err g) f e is = subst (λ (z : Fault). Merges files name h new note after x x (Some (fault_view z))) (sym e) (record { ends = tree-stopped new (fault_view f) is; gap = λ c a is of. omega arith })

-- the folder stays as it is
pub streams-none : {S : Type 0} {files : S → Option Files} {draft : S → Option (List ℕ)} {numbers : S → Numbers} (n : ℕ) (a : S) (v : Option PlainFault) → IsMeter (numbers a) → Streams files draft numbers n a a v
streams-none n a v meter = record { refused = λ e. refl; untold = λ e. e; draft_untold = λ e. e; told = λ e. e; counted = PullsAndDrafts-none n _ meter }
