-- How the parts of `versions` lead to its end.
use Rattle.std.proofs.Common.{◌≡◌, inl, inr, ℕ, ◌+◌, ◌≤◌, List, [], length, take, Option, Some, None, option_map, Result, Ok, Err, refl, sym, ap, ◌∙◌, subst, arith}
use Rattle.std.specs.Result.{is_ok}
use Rattle.xa_outside.specs.Causes.{Rose}
use Rattle.xa_outside.specs.Folder.{Files, bytes_or_none}
use Rattle.xa_outside.specs.Numbers.{Numbers, PullsAtMost}
use Rattle.xa_outside.specs.Taken.{Taken, Takes, TakesNone, TakesPrefix}
use Rattle.xa_outside.specs.TakenLaws.{Takes-kept, TakesPrefix-all}
use Rattle.xa_outside.specs.Buffered.{buffered_faults, buffered_taken, waiting_bytes}
use Rattle.xa_outside.specs.BufferedLaws.{TakesPrefix-through, Takes-through}
use Rattle.xa_outside.specs.declared.buffered.Buffered.{Buffered}
use Rattle.key_spec.specs.Canonical.{canonical}
use Rattle.key_spec.specs.Closed.{closed}
use Rattle.key_spec.specs.Data.{PlainRule}
use Rattle.keyed_tree.specs.Data.{PlainKeyed}
use Rattle.record_format.specs.Files.{FileOf}
use Rattle.record_format.specs.Fronts.{header}
use Rattle.version_notes.specs.Parts.{parts_behind, parts_in}
use Rattle.version_notes.specs.Reader.{PlainReader, at_first, file_of, first_place}
use Rattle.version_notes.specs.Reading.{all_from, all_read, notes_from}
use Rattle.version_notes.specs.declared.parts.Parts.{Parts}
use Rattle.noted_file.specs.Contents.{Contents}
use Rattle.noted_file.specs.Full.{FullAs}
use Rattle.xarch_words.specs.Commands.{versions}
use Rattle.xarch_words.specs.Refusal.{Refusal, damaged, PlainFault, refused, folder_fault, out_fault, in_fault, memory}
use Rattle.xarch_parts.specs.Allowed.{MayEndLate}
use Rattle.xarch_parts.specs.AllowedLaws.{MayEnd-did, MayEnd-outside}
use Rattle.xarch_parts.specs.Archives.{ArchiveIs, GoesOn, NoRefusal, PartsAre}
use Rattle.xarch_parts.specs.CoreLaws.{front-sound, same-file}
use Rattle.xarch_parts.specs.Ends.{EndsGained, Gained, IsInside, IsOfCommand, IsOfFolder, TellsOnly}
use Rattle.xarch_parts.specs.Ends as ends
use Rattle.xarch_parts.specs.FolderLaws.{caused-read, caused-then, keeps-read, reads-then}
use Rattle.xarch_parts.specs.Folders.{Counts, Keeps, ReadsOnly}
use Rattle.xarch_parts.specs.Noted.{AreWithin, notes_bytes}
use Rattle.xarch_meanings.specs.ReadLaws.{reads-once}
use Rattle.xarch_parts.specs.Outcome.{Outcome}
use Rattle.xarch_meanings.specs.Meanings.{GainsBy, MayBe, MayComeLate}
use Rattle.xarch_meanings.specs.Over.{MayWrite}
use Rattle.xarch_meanings.specs.Versions.{versions_input, versions_text}
use Rattle.xarch_reads.specs.Listed.{ListEnds, Lists}
use Rattle.xarch_reads.specs.Written.{WrittenState, written_state}

-- ---- through a buffer

module _ {S O : Type 0} (files : S → Option Files) (draft : S → Option (List ℕ)) (numbers : S → Numbers) (faults : S → ℕ) (taken : O → Taken) (out_faults : O → ℕ) (name : List ℕ) (reader : PlainReader) (a b : S) (made used : Buffered O) (x y : O)
    (same : made.out.now ≡ x) (none : waiting_bytes made ≡ []) where
  abbrev outer : S → O → WrittenState
  outer a o = written_state files draft numbers faults taken out_faults a o

  abbrev inner : S → Buffered O → WrittenState
  inner a b = written_state files draft numbers faults (buffered_taken taken) (buffered_faults out_faults) a b

  through : (last : Buffered O) → y ≡ last.out.now → (piece : List ℕ) → TakesPrefix (buffered_taken taken made) (buffered_taken taken last) piece → TakesPrefix (taken x) (taken y) piece
  through last is piece p = subst (λ t. TakesPrefix t (taken y) piece) (ap taken same) (subst (λ u. TakesPrefix (taken made.out.now) u piece) (ap taken (sym is)) (TakesPrefix-through _ _ _ _ (waiting_bytes made) (waiting_bytes last) piece none p))

  all-through : (last : Buffered O) → y ≡ last.out.now → waiting_bytes last ≡ [] → (piece : List ℕ) → Takes (buffered_taken taken made) (buffered_taken taken last) piece → Takes (taken x) (taken y) piece
  all-through last is empty piece p = subst (λ t. Takes t (taken y) piece) (ap taken same) (subst (λ u. Takes (taken made.out.now) u piece) (ap taken (sym is)) (Takes-through _ _ _ _ (waiting_bytes made) (waiting_bytes last) piece none empty p))

  gained-through : (last : Buffered O) → y ≡ last.out.now → Gained (buffered_taken taken made) (buffered_taken taken last) → Gained (taken x) (taken y)
  gained-through last is g = let p = through last is g.bytes (TakesPrefix-all _ _ g.bytes g.takes) in record { bytes = take p.count g.bytes; takes = p.takes }

  ends-through : (last : Buffered O) → y ≡ last.out.now → (left : Option (List (List ℕ))) (v : PlainFault) → ListEnds name left (buffered_taken taken made) (buffered_taken taken last) (Some v) → ListEnds name left (taken x) (taken y) (Some v)
  ends-through last is left (refused q) h = h
  ends-through last is left folder_fault h = λ notes are. through last is (versions_text notes) (h notes are)
  ends-through last is left out_fault h = λ notes are. through last is (versions_text notes) (h notes are)
  ends-through last is left in_fault h = λ notes are. through last is (versions_text notes) (h notes are)
  ends-through last is left memory h = λ notes are. through last is (versions_text notes) (h notes are)

  cause-through : (last : Buffered O) → y ≡ last.out.now → (c d : ℕ) (v : PlainFault) → IsOfCommand c d (buffered_faults out_faults made) (buffered_faults out_faults last) (Some v) → IsOfCommand c d (out_faults x) (out_faults y) (Some v)
  unfolding IsOfCommand IsOfFolder IsInside
  cause-through last is c d (refused q) h = h
  cause-through last is c d folder_fault h = h
  cause-through last is c d out_fault h = let p = ap out_faults same in let q = ap out_faults is in omega (arith, p, q, h)
  cause-through last is c d in_fault h = h
  cause-through last is c d memory h = h

  later-through : (last : Buffered O) → y ≡ last.out.now → buffered_faults out_faults made ≤ buffered_faults out_faults last → out_faults x ≤ out_faults y
  later-through last is h = let p = ap out_faults same in let q = ap out_faults is in omega (arith, p, q, h)

  -- the lines were not written to their end
  pub unflushed : (v : PlainFault) → y ≡ used.out.now → Lists name reader (inner a made) (inner b used) (Some v) → Lists name reader (outer a x) (outer b y) (Some v)
  unflushed v is h = record {
    same_files = h.same_files;
    same_draft = h.same_draft;
    pulls = h.pulls;
    later = h.later;
    out_later = later-through used is h.out_later;
    cause = cause-through used is (faults a) (faults b) v h.cause;
    gained = gained-through used is h.gained;
    only = h.only;
    ends = λ fs told. ends-through used is (notes_from reader (file_of fs reader.name)) v (h.ends fs told);
  }

  module _ (last : Buffered O) (is : y ≡ last.out.now) (kept : TakesNone (buffered_taken taken used) (buffered_taken taken last)) (h : Lists name reader (inner a made) (inner b used) None) where
    -- all of them were
    pub flushed : waiting_bytes last ≡ [] → buffered_faults out_faults used ≤ buffered_faults out_faults last → Lists name reader (outer a x) (outer b y) None
    unfolding IsOfCommand IsOfFolder IsInside
    flushed empty more = record {
      same_files = h.same_files;
      same_draft = h.same_draft;
      pulls = h.pulls;
      later = h.later;
      out_later = later-through last is (let l = h.out_later in omega (arith, l, more));
      cause = tt;
      only = h.only;
      gained = record { bytes = h.gained.bytes; takes = all-through last is empty h.gained.bytes (Takes-kept _ _ _ h.gained.bytes h.gained.takes kept) };
      ends = λ fs told. (let l = h.ends fs told in record { notes = l.notes; are = l.are; output = all-through last is empty (versions_text l.notes) (Takes-kept _ _ _ (versions_text l.notes) l.output kept) });
    }

    -- the last of them were not
    pub unflushed-last : buffered_faults out_faults used ≤ buffered_faults out_faults last → Rose (buffered_faults out_faults used) (buffered_faults out_faults last) → Lists name reader (outer a x) (outer b y) (Some out_fault)
    unfolding IsOfCommand
    unflushed-last more rose = record {
      same_files = h.same_files;
      same_draft = h.same_draft;
      pulls = h.pulls;
      later = h.later;
      out_later = later-through last is (let l = h.out_later in omega (arith, l, more));
      cause = (let l = h.out_later in let p = ap out_faults same in let q = ap out_faults is in omega (arith, l, p, q, rose));
      only = λ q e. absurd cc;
      gained = gained-through last is (record { bytes = h.gained.bytes; takes = Takes-kept _ _ _ h.gained.bytes h.gained.takes kept });
      ends = λ fs told notes are.
          let l = h.ends fs told in
          let both : Some l.notes ≡ Some notes = sym l.are ∙ are in
          let one : l.notes ≡ notes = cc in
          subst (λ (ns : List (List ℕ)). TakesPrefix (taken x) (taken y) (versions_text ns)) one (through last is (versions_text l.notes) (TakesPrefix-all _ _ (versions_text l.notes) (Takes-kept _ _ _ (versions_text l.notes) l.output kept)));
    }

-- ---- what may come

-- From what is known of all archives with notes: where their parts stand, their header, and what a reader gives of them.
module _ (has_parts : (c : Contents) (bytes : List ℕ) (full : FullAs c bytes) → parts_in bytes ≡ Some (parts_behind full.core c.notes))
    (fronted : (rules : List PlainRule) (vs : List PlainKeyed) (bytes : List ℕ) → closed (canonical rules) ≡ Ok rules → FileOf rules vs bytes → header bytes ≡ Some (rules, length vs))
    (come : (c : Contents) (bytes name : List ℕ) (parts : Parts) → FullAs c bytes → parts_in bytes ≡ Some parts → notes_from (at_first name parts (length c.versions)) bytes ≡ Some c.notes)
    (files : Files) (name : List ℕ) where
  clash : (q : Refusal) (h : List PlainRule × ℕ) → ◌≡◌ {A = Result (List PlainRule × ℕ) Refusal} (Err q) (Ok h) → ⊥
  clash q h e = cc

  -- a refusal before a note is read
  pub may_refuse_early : (q : Refusal) → versions_input files name ≡ Err q → MayBe files (versions name) (Err q)
  may_refuse_early q e = record {
    whatever = subst (λ x. GoesOn x (λ _. MayWrite files name) (Err q)) (sym e) refl;
    sound = λ c a. absurd (clash q (c.rules, length c.versions) (sym e ∙ front-sound has_parts files name c a fronted));
  }

  module _ (h : List PlainRule × ℕ) (input : versions_input files name ≡ Ok h) (parts : Parts) (p : PartsAre files name parts) where
    abbrev reader : PlainReader
    reader = at_first name parts h.1

    abbrev left : Option (List (List ℕ))
    left = notes_from reader (file_of files name)

    counted : (c : Contents) → ArchiveIs files name c → h.1 ≡ length c.versions
    counted c a = let both : Ok h ≡ Ok (c.rules, length c.versions) = sym input ∙ front-sound has_parts files name c a fronted in let same : h ≡ (c.rules, length c.versions) = cc in ap (λ (z : List PlainRule × ℕ). z.1) same

    -- the notes of an archive are those that are left
    own-notes : (c : Contents) → ArchiveIs files name c → left ≡ Some c.notes
    own-notes c a =
        let same = same-file files name a.bytes p.bytes a.there p.there in
        let here = come c a.bytes name parts a.full (ap parts_in same ∙ p.are) in
        ap (λ n. notes_from (at_first name parts n) (file_of files name)) (counted c a) ∙ ap (notes_from (at_first name parts (length c.versions))) (ap bytes_or_none a.there) ∙ here

    -- something is written, and the lines of the notes of an archive
    may-write : (output : List ℕ) → ((notes : List (List ℕ)) → left ≡ Some notes → output ≡ versions_text notes) → MayBe files (versions name) (Ok (record { files = files; output = output }))
    may-write output told =
        let r : Result Outcome Refusal = Ok (record { files = files; output = output }) in
        record {
          whatever = subst (λ x. GoesOn x (λ _. MayWrite files name) r) (sym input) (inr (record { output = output; is = refl }));
          sound = λ c a. ap (λ (o : List ℕ). Ok (record { files = files; output = o })) (told c.notes (own-notes c a));
        }

    no-notes : (notes : List (List ℕ)) → left ≡ None → left ≡ Some notes → ⊥
    no-notes notes e f = let wrong : None ≡ Some notes = sym e ∙ f in cc

    same-notes : (ns notes : List (List ℕ)) → left ≡ Some ns → left ≡ Some notes → versions_text ns ≡ versions_text notes
    same-notes ns notes e f = let both : Some ns ≡ Some notes = sym e ∙ f in let same : ns ≡ notes = cc in ap versions_text same

    -- the archive is damaged
    may-refuse : left ≡ None → MayBe files (versions name) (Err (damaged name))
    may-refuse e = record {
      whatever = subst (λ x. GoesOn x (λ _. MayWrite files name) (Err (damaged name))) (sym input) (inl refl);
      sound = λ c a. absurd (no-notes c.notes e (own-notes c a));
    }

    module _ (after : Option Files) (same : after ≡ Some files) (old new : Taken) (gained : Gained old new) where
      abbrev Ends : Option PlainFault → Type 0
      Ends ended = MayEndLate (MayComeLate files (Some (versions name))) (MayBe files (versions name)) ended after old new

      tells : TellsOnly after files
      tells = λ f now. (let both : Some files ≡ Some f = sym same ∙ now in cc)

      outside : (v : PlainFault) → NoRefusal v → (o : Option (List (List ℕ))) → left ≡ o → ((notes : List (List ℕ)) → left ≡ Some notes → TakesPrefix old new (versions_text notes)) → Ends (Some v)
      outside v other None e h = inl (MayEnd-outside (MayBe files (versions name)) v after old new other (inr (record {
        outcome = Ok (record { files = files; output = gained.bytes });
        may = may-write gained.bytes (λ notes f. absurd (no-notes notes e f));
        output = TakesPrefix-all old new gained.bytes gained.takes;
      })))
      outside v other (Some notes) e h = inl (MayEnd-outside (MayBe files (versions name)) v after old new other (inr (record {
        outcome = Ok (record { files = files; output = versions_text notes });
        may = may-write (versions_text notes) (λ ns f. same-notes notes ns e f);
        output = h notes e;
      })))

      no-folder : NoRefusal folder_fault
      no-folder q e = cc

      no-out : NoRefusal out_fault
      no-out q e = cc

      no-in : NoRefusal in_fault
      no-in q e = cc

      no-memory : NoRefusal memory
      no-memory q e = cc

      pub list-ends : (ended : Option PlainFault) → ListEnds name left old new ended → Ends ended
      list-ends None l = inl (MayEnd-did (MayBe files (versions name)) (record { files = files; output = versions_text l.notes }) after old new (may-write (versions_text l.notes) (λ ns f. same-notes l.notes ns l.are f)) tells l.output)
      list-ends (Some (refused q)) l = inr (record {
        refusal = q;
        is = refl;
        late = (l.0, ap is_ok input);
        may = subst (λ (r : Refusal). MayBe files (versions name) (Err r)) (sym l.0) (may-refuse l.1);
        output = gained;
      })
      list-ends (Some folder_fault) l = outside folder_fault no-folder left refl l
      list-ends (Some out_fault) l = outside out_fault no-out left refl l
      list-ends (Some in_fault) l = outside in_fault no-in left refl l
      list-ends (Some memory) l = outside memory no-memory left refl l

-- what the output gained, whatever the folder tells: a listing is refused as damaged, and by nothing else
pub list-gained : (name : List ℕ) (ended : Option PlainFault) (old new : Taken) → ((q : Refusal) → ended ≡ Some (refused q) → q ≡ damaged name) → Gained old new → GainsBy (Some (versions name)) ended old new
unfolding EndsGained
list-gained name None old new only g = inl g
list-gained name (Some (refused q)) old new only g = inr (ap (λ (r : Refusal). Some (refused r)) (only q refl), g)
list-gained name (Some folder_fault) old new only g = inl g
list-gained name (Some out_fault) old new only g = inl g
list-gained name (Some in_fault) old new only g = inl g
list-gained name (Some memory) old new only g = inl g

-- ---- behind the front of the archive

notes-read : (core : ℕ) (notes : Option ℕ) → all_from (option_map (λ n. first_place core n) notes) ≡ notes_bytes notes
notes-read core None = refl
notes-read core (Some n) = omega arith

module _ {S K : Type 0} (files : S → Option Files) (draft : S → Option (List ℕ)) (numbers : S → Numbers) (faults : S → ℕ) (taken : K → Taken) (out_faults : K → ℕ) (name : List ℕ) (parts : Parts) (count first n most : ℕ) (a b c : S) (k l : K) (v : Option PlainFault)
    (asked : ReadsOnly files draft numbers faults n a b None) (once : PullsAtMost (16 + first) (numbers a) (numbers b)) (fits : first ≤ parts.core) (within : AreWithin most parts)
    (h : Lists name (at_first name parts count) (written_state files draft numbers faults taken out_faults b k) (written_state files draft numbers faults taken out_faults c l) v) where
  pub list-keeps : Keeps files draft numbers None (Counts None (most + 16)) a c v
  unfolding IsInside IsOfFolder
  list-keeps =
      let all = within.within in
      let read = notes-read parts.core parts.notes in
      keeps-read (most + 16) a c None v
      (reads-then (16 + first) (all_read (at_first name parts count)) (most + 16) a b c None (omega (arith, fits, all, read)) (reads-once n (16 + first) a b None asked once)
      (record { same_files = h.same_files; same_draft = h.same_draft; pulls = h.pulls; later = h.later; cause = tt }))

  pub list-caused : ends.IsCaused (faults a) (faults c) (out_faults k) (out_faults l) v
  list-caused = caused-then (faults a) (faults b) (faults c) (out_faults k) (out_faults k) (out_faults l) v (caused-read n a b None (out_faults k) asked) (record { folder_later = h.later; out_later = h.out_later; cause = h.cause })
