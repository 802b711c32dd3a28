-- How the versions of two archives go into one.
use Rattle.std.proofs.Common.{◌≡◌, inl, inr, ℕ, ◌+◌, ◌-◌, ◌≤◌, true, false, List, [], ◌++◌, length, Option, Some, None, option_map, Result, Ok, Err, IfErr, OnOk, refl, sym, ap, ◌∙◌, subst, length-append, arith}
use Rattle.std.specs.Prelude.{Bool}
use Rattle.std.specs.Result.{IsErrAnd}
use Rattle.xa_outside.specs.Causes.{Rose}
use Rattle.xa_outside.specs.Folder.{Files, committed, Lengthens}
use Rattle.xa_outside.specs.Numbers.{Numbers, IsMeter, PullsAndDrafts}
use Rattle.key_spec.specs.Data.{PlainRule}
use Rattle.keyed_tree.specs.Data.{PlainKeyed}
use Rattle.record_cursor.specs.View.{PlainHeader, header_view}
use Rattle.record_format.specs.Files.{FileOf}
use Rattle.record_format.specs.declared.limits.TheConstants.{LONGEST}
use Rattle.archive_join.specs.Join.{Appended, IfDamaged, IfFailed, IfTooLong, IsArchive, Overfull}
use Rattle.archive_join.specs.declared.fault.JoinFault.{JoinFault}
use Rattle.archive_join.specs.declared.fault.JoinFault.TheVariants.{Damage, Folder, TooLong, Memory}
use Rattle.version_notes.specs.Notes.{are_empty, notes_part}
use Rattle.version_notes.specs.Faults.{IfDamage, IfFolder}
use Rattle.version_notes.specs.Reader.{PlainReader, file_of}
use Rattle.version_notes.specs.Reading.{all_read, notes_from}
use Rattle.version_notes.specs.Walk.{Copies}
use Rattle.version_notes.specs.Writer.{Appends, PlainWriter, after_all, all_appended, fresh, last_appended}
use Rattle.version_notes.specs.declared.fault.NotesFault.{NotesFault}
use Rattle.xarch_words.specs.Refusal.{archive, damaged, limit, PlainFault, refused, folder_fault, memory}
use Rattle.xarch_words.specs.View.{fault_view}
use Rattle.xarch_words.specs.declared.fault.Fault.{Fault}
use Rattle.xarch_parts.specs.Ends.{IsCaused, IsInside, IsOfFolder, fault_of}
use Rattle.xarch_parts.specs.Folders.{WritesOnly}
use Rattle.xarch_parts.specs.Noted.{notes_bytes}
use Rattle.xarch_parts.specs.declared.front.Front.{Front}
use Rattle.xarch_meanings.specs.Meanings.{IsLimited}
use Rattle.xarch_copies.specs.Cutting.{IsUnsound}
use Rattle.xarch_copies.specs.Extending.{Extends}
use Rattle.xarch_copies.specs.Joining.{Assembles, BothNotesEnd, Carries, Comes, CopiesAll, FrontNotesEnd, IsToldAs, Joins, RecordsEnd, Unjoined, front_reader}
use Rattle.xarch_copies.specs.Making.{Fails, behind_front}
use Rattle.xarch_copies.specs.Slicing.{Stops}
use Rattle.xarch_copies.specs.declared.join.Both.{Both}
use Rattle.xarch_copies.proofs.Cutting.{notes-unlimited}
use Rattle.xarch_copies.proofs.Extending.{extends-appended, extends-more, extends-then}
use Rattle.xarch_copies.proofs.Making.{fails-appended, fails-memory, fails-then, grown-twice, makes-failed, makes-stored}
use Rattle.xarch_copies.proofs.Slicing.{after-then, appended-then, each-then}
use Rattle.xarch_parts.proofs.Pushing.{gained-more}
use Rattle.xarch_parts.proofs.NoteLaws.{all-read}

-- ---- the records

told-cause : (T : Type 0) (one two : List ℕ) (e : JoinFault) (v : PlainFault) (a b : ℕ) → IsToldAs one two e v → IfFailed {T = T} (Err e) (Rose a b) → IsOfFolder a b (Some v)
unfolding IsInside IsOfFolder
told-cause T one two (Damage false) v a b (inl is) h = subst (λ (z : PlainFault). IsOfFolder a b (Some z)) (sym is) tt
told-cause T one two (Damage false) v a b (inr is) h = subst (λ (z : PlainFault). IsOfFolder a b (Some z)) (sym is) tt
told-cause T one two (Damage true) v a b (inl is) h = subst (λ (z : PlainFault). IsOfFolder a b (Some z)) (sym is) tt
told-cause T one two (Damage true) v a b (inr is) h = subst (λ (z : PlainFault). IsOfFolder a b (Some z)) (sym is) tt
told-cause T one two TooLong v a b is h = subst (λ (z : PlainFault). IsOfFolder a b (Some z)) (sym is) tt
told-cause T one two Folder v a b is h = subst (λ (z : PlainFault). IsOfFolder a b (Some z)) (sym is) h
told-cause T one two Memory v a b is h = subst (λ (z : PlainFault). IsOfFolder a b (Some z)) (sym is) tt

not-limited : (v w : PlainFault) (P : Type 0) → v ≡ w → (IsLimited (Some w) → ⊥) → IsLimited (Some v) → P
not-limited v w P is none limited = absurd (none (subst (λ (z : PlainFault). IsLimited (Some z)) is limited))

-- it is refused by a limit where it is too long
told-limit : (P : Type 0) (one two : List ℕ) (e : JoinFault) (v : PlainFault) → IsToldAs one two e v → IfTooLong e P → IsLimited (Some v) → P
told-limit P one two (Damage false) v (inl is) full limited = not-limited v (refused (damaged one)) P is (λ x. x) limited
told-limit P one two (Damage false) v (inr is) full limited = not-limited v memory P is (λ x. x) limited
told-limit P one two (Damage true) v (inl is) full limited = not-limited v (refused (damaged two)) P is (λ x. x) limited
told-limit P one two (Damage true) v (inr is) full limited = not-limited v memory P is (λ x. x) limited
told-limit P one two TooLong v is full limited = full
told-limit P one two Folder v is full limited = not-limited v folder_fault P is (λ x. x) limited
told-limit P one two Memory v is full limited = not-limited v memory P is (λ x. x) limited

-- what no archive can be is unsound
unsound : (files : Option Files) (name : List ℕ) (h : PlainHeader) → ((rules : List PlainRule) (vs : List PlainKeyed) → IsArchive files name h rules vs → ⊥) → IsUnsound files name h
unsound files name h none = λ front rules vs tells heads sound. none rules vs (record { bytes = front; tells = tells; header = heads; sound = sound })

module _ (files : Option Files) (one : List ℕ) (h : PlainHeader) (two : List ℕ) (g : PlainHeader) where
  end-by : (v w : PlainFault) → v ≡ w → RecordsEnd files one h two g w → RecordsEnd files one h two g v
  end-by v w is ends = subst (λ (z : PlainFault). RecordsEnd files one h two g z) (sym is) ends

  records-end : (e : JoinFault) (v : PlainFault) → IsToldAs one two e v
      → ((rules : List PlainRule) (vs : List PlainKeyed) → IsArchive files one h rules vs → IfDamaged false e ⊥)
      → ((rules : List PlainRule) (us : List PlainKeyed) → IsArchive files two g rules us → IfDamaged true e ⊥)
      → ((rules : List PlainRule) (vs us : List PlainKeyed) → IsArchive files one h rules vs → IsArchive files two g rules us → IfTooLong e ((file : List ℕ) → ¬ FileOf rules (vs ++ us) file))
      → RecordsEnd files one h two g v
  records-end (Damage false) v (inl is) first second long = end-by v (refused (damaged one)) is (inl (refl, unsound files one h (λ rules vs a. first rules vs a refl)))
  records-end (Damage false) v (inr is) first second long = end-by v memory is tt
  records-end (Damage true) v (inl is) first second long = end-by v (refused (damaged two)) is (inr (inl (refl, unsound files two g (λ rules us a. second rules us a refl))))
  records-end (Damage true) v (inr is) first second long = end-by v memory is tt
  records-end TooLong v is first second long = end-by v (refused (limit archive LONGEST)) is (inr (inr (refl, long)))
  records-end Folder v is first second long = end-by v folder_fault is tt
  records-end Memory v is first second long = end-by v memory is tt

module _ {S : Type 0} {files : S → Option Files} {draft : S → Option (List ℕ)} {numbers : S → Numbers} {faults : S → ℕ} where
  module _ (one : List ℕ) (h : PlainHeader) (two : List ℕ) (g : PlainHeader) where
    pub unjoined-memory : (s : S) → IsMeter (numbers s) → Unjoined files draft numbers faults one h two g s s memory
    unjoined-memory s meter = record { fails = fails-memory ((h.length - h.first) + (g.length - g.first)) (RecordsEnd (files s) one h two g) s meter tt; fills = λ limited. absurd limited }

    -- what a join does to the folder, with cursors of these names
    module _ (old now : S) (same : files now ≡ files old) (drafts : Lengthens (draft old) (draft now)) (pulls : PullsAndDrafts ((h.length - h.first) + (g.length - g.first)) (numbers old) (numbers now)) (later : faults old ≤ faults now) where
      lengthened : Extends files draft numbers faults ((h.length - h.first) + (g.length - g.first)) old now
      lengthened = record { same_files = same; bytes = drafts.bytes; grown = drafts.is; counted = pulls; later = later }

      pub joins : (name other : List ℕ) → name ≡ one → other ≡ two → Appended h name g other (files old) (draft old) (draft now) → Joins files draft numbers faults one h two g old now
      joins name other is same p = record { extends = lengthened; appended = subst (λ (m : List ℕ). Appended h one g m (files old) (draft old) (draft now)) same (subst (λ (n : List ℕ). Appended h n g other (files old) (draft old) (draft now)) is p) }

      pub unjoined : (T : Type 0) (name other : List ℕ) → name ≡ one → other ≡ two → (e : JoinFault) (v : PlainFault) → IsToldAs one two e v → IfFailed {T = T} (Err e) (Rose (faults old) (faults now))
          → ((rules : List PlainRule) (vs : List PlainKeyed) → IsArchive (files old) name h rules vs → IfDamaged false e ⊥)
          → ((rules : List PlainRule) (us : List PlainKeyed) → IsArchive (files old) other g rules us → IfDamaged true e ⊥)
          → ((rules : List PlainRule) (vs us : List PlainKeyed) → IsArchive (files old) name h rules vs → IsArchive (files old) other g rules us → IfTooLong e ((file : List ℕ) → ¬ FileOf rules (vs ++ us) file))
          → ((b : ℕ) → h.length + 12 ≤ b → g.length + 12 ≤ b → IfTooLong e (Overfull b h.rules h.versions g.versions (draft now))) → Unjoined files draft numbers faults one h two g old now v
      unjoined T name other is alike e v told cause first second long full = record {
        fails = record {
          extends = lengthened;
          cause = told-cause T one two e v (faults old) (faults now) told cause;
          ends = records-end (files old) one h two g e v told
              (λ rules vs a. first rules vs (subst (λ (n : List ℕ). IsArchive (files old) n h rules vs) (sym is) a))
              (λ rules us b. second rules us (subst (λ (n : List ℕ). IsArchive (files old) n g rules us) (sym alike) b))
              (λ rules vs us a b. long rules vs us (subst (λ (n : List ℕ). IsArchive (files old) n h rules vs) (sym is) a) (subst (λ (n : List ℕ). IsArchive (files old) n g rules us) (sym alike) b));
        };
        fills = λ limited b fits more. told-limit (Overfull b h.rules h.versions g.versions (draft now)) one two e v told (full b fits more) limited;
      }

-- ---- the notes

module _ {S : Type 0} {files : S → Option Files} {draft : S → Option (List ℕ)} {numbers : S → Numbers} {faults : S → ℕ} where
  -- all went from a reader to a writer
  pub copied-all : (old new : S) (start : PlainReader) (w v : PlainWriter) → files new ≡ files old → Copies (files old) start w v (draft old) (draft new) → PullsAndDrafts (all_read start) (numbers old) (numbers new) → faults old ≤ faults new → CopiesAll files draft numbers faults old new start w v
  copied-all old new start w v same copies counted later = record { extends = record { same_files = same; bytes = all_appended w copies.notes; grown = copies.gains; counted = counted; later = later }; copies = copies }

  -- or it was stopped
  pub copied-some : (old new : S) (start : PlainReader) (e : NotesFault) → files new ≡ files old → Lengthens (draft old) (draft new) → PullsAndDrafts (all_read start) (numbers old) (numbers new) → faults old ≤ faults new → IfFolder e (Rose (faults old) (faults new))
      → ((told : Files) → files old ≡ Some told → IfDamage e (notes_from start (file_of told start.name) ≡ None)) → Stops files draft numbers faults old new start e
  copied-some old new start e same drafted counted later cause told = record { told = told; extends = record { same_files = same; bytes = drafted.bytes; grown = drafted.is; counted = counted; later = later }; cause = cause }

  -- the notes of two readers went to one writer
  module _ (old mid end : S) (start other : PlainReader) (w v : PlainWriter) (p : CopiesAll files draft numbers faults old mid start (fresh false) w) (q : CopiesAll files draft numbers faults mid end other w v) where
    pub both-written : v ≡ after_all (fresh false) (p.copies.notes ++ q.copies.notes)
    both-written = q.copies.pushed ∙ ap (λ (x : PlainWriter). after_all x q.copies.notes) p.copies.pushed ∙ sym (after-then (fresh false) p.copies.notes q.copies.notes)

    pub both-copied : Extends files draft numbers faults (all_read start + all_read other) old end
    both-copied = extends-then (all_read start) (all_read other) (all_read start + all_read other) old mid end (omega arith) p.extends q.extends

    -- and were closed
    pub carries : {T E : Type 0} (new : S) (u : T) → IsMeter (numbers end)
        → ((at_once : Bool) (notes : List (List ℕ)) → (at_once ≡ true → are_empty notes ≡ false) → all_appended (fresh at_once) notes ++ last_appended (after_all (fresh at_once) notes) ≡ notes_part notes)
        → Appends {E = E} files draft numbers faults end new (last_appended v) (Ok u) → Carries files draft numbers faults old new start other
    carries {T = T} {E = E} new u meter part a =
        let notes = p.copies.notes in
        let more = q.copies.notes in
        let all = notes ++ more in
        let first = p.copies.count in
        let second = q.copies.count in
        let texts : all_appended (fresh false) notes ++ all_appended w more ≡ all_appended (fresh false) all =
        ap (λ (x : PlainWriter). all_appended (fresh false) notes ++ all_appended x more) p.copies.pushed ∙ sym (appended-then (fresh false) notes more) in
        let whole : (all_appended (fresh false) notes ++ all_appended w more) ++ last_appended v ≡ notes_part all =
        ap (λ (l : List ℕ). l ++ last_appended v) texts ∙ ap (λ (x : PlainWriter). all_appended (fresh false) all ++ last_appended x) both-written ∙ part false all (λ once. absurd cc) in
        record {
          notes = all;
          many = omega (arith, first, second, length-append notes more);
          each = each-then notes more p.copies.each q.copies.each;
          first = notes;
          second = more;
          are = refl;
          given = λ told at. (p.copies.given told at, q.copies.given told (p.extends.same_files ∙ at));
          extends = extends-then (all_read start + all_read other) 0 (all_read start + all_read other) old end new (omega arith) both-copied (extends-appended {T = T} {E = E} end new (last_appended v) (Ok u) meter a);
          gains = gained-more (draft old) (draft end) (draft new) _ _ (gained-more (draft old) (draft mid) (draft end) _ _ p.copies.gains q.copies.gains) a.gains.draft
              ∙ ap (λ (l : List ℕ). option_map (λ d. d ++ l) (draft old)) whole;
        }

  -- the second archive's notes failed
  pub fails-second : (old mid now : S) (one : List ℕ) (first : Front) (two : List ℕ) (second : Front) (w v : PlainWriter) (f : PlainFault) → CopiesAll files draft numbers faults old mid (front_reader one first) w v
      → Fails files draft numbers faults (notes_bytes second.parts.notes) (FrontNotesEnd (files mid) two second) mid now f
      → Fails files draft numbers faults (notes_bytes first.parts.notes + notes_bytes second.parts.notes) (BothNotesEnd (files old) one first two second) old now f
  fails-second old mid now one first two second w v f p q =
      let n = notes_bytes first.parts.notes in
      let k = notes_bytes second.parts.notes in
      let read = subst (λ (m : ℕ). Extends files draft numbers faults m old mid) (all-read one first.parts (header_view first.header).versions) p.extends in
      fails-then n k (n + k) (FrontNotesEnd (files mid) two second) (BothNotesEnd (files old) one first two second) old mid now f (omega arith) read q
      (λ ends. inr (subst (λ (fs : Option Files). FrontNotesEnd fs two second f) p.extends.same_files ends))

  -- what closes the notes of both was not appended
  pub fails-unclosed : {T E : Type 0} (old mid end now : S) (one : List ℕ) (first : Front) (two : List ℕ) (second : Front) (w v : PlainWriter) → CopiesAll files draft numbers faults old mid (front_reader one first) (fresh false) w → CopiesAll files draft numbers faults mid end (front_reader two second) w v
      → (bytes : List ℕ) (e : E) → IsMeter (numbers end) → Appends {T = T} files draft numbers faults end now bytes (Err e)
      → Fails files draft numbers faults (notes_bytes first.parts.notes + notes_bytes second.parts.notes) (BothNotesEnd (files old) one first two second) old now folder_fault
  fails-unclosed {T = T} {E = E} old mid end now one first two second w v p q bytes e meter a =
      let n = notes_bytes first.parts.notes + notes_bytes second.parts.notes in
      let size = all-read one first.parts (header_view first.header).versions in
      let other = all-read two second.parts (header_view second.header).versions in
      let read = both-copied old mid end (front_reader one first) (front_reader two second) w v p q in
      fails-appended {T = T} {E = E} n (BothNotesEnd (files old) one first two second) old end now bytes e (extends-more (all_read (front_reader one first) + all_read (front_reader two second)) n old end (omega (arith, size, other)) read) meter a (inl tt)

-- no notes of archives are refused by a limit
both-unlimited : (files : Option Files) (one : List ℕ) (first : Front) (two : List ℕ) (second : Front) (v : PlainFault) → BothNotesEnd files one first two second v → IsLimited (Some v) → ⊥
both-unlimited files one first two second v (inl ends) limited = notes-unlimited files one first.parts (header_view first.header).versions v ends limited
both-unlimited files one first two second v (inr ends) limited = notes-unlimited files two second.parts (header_view second.header).versions v ends limited

-- ---- the new archive

module _ {S : Type 0} {files : S → Option Files} {draft : S → Option (List ℕ)} {numbers : S → Numbers} {faults : S → ℕ} (one two new : List ℕ) (both : Both) (old mid : S) where
  -- the records of both were not appended
  pub assembles-unjoined : (r : Result Unit Fault) (f : Fault) → IsErrAnd r (λ g. g ≡ f) → Unjoined files draft numbers faults one (header_view both.one.header) two (header_view both.two.header) old mid (fault_view f)
      → Assembles files draft numbers faults one two new both old mid (fault_of r)
  assembles-unjoined r f is p =
      let h = header_view both.one.header in
      let g = header_view both.two.header in
      makes-failed ((h.length - h.first) + (g.length - g.first)) (RecordsEnd (files old) one h two g) old mid r f is (omega arith) p.fails (λ ends. inl ends) p.fills

  module _ (j : Joins files draft numbers faults one (header_view both.one.header) two (header_view both.two.header) old mid) where
    -- nor the notes of both
    pub assembles-unnoted : (end : S) (r : Result Unit Fault) (f : Fault) → IsErrAnd r (λ g. g ≡ f)
        → Fails files draft numbers faults (notes_bytes both.one.parts.notes + notes_bytes both.two.parts.notes) (BothNotesEnd (files mid) one both.one two both.two) mid end (fault_view f)
        → Assembles files draft numbers faults one two new both old end (fault_of r)
    assembles-unnoted end r f is p =
        let h = header_view both.one.header in
        let g = header_view both.two.header in
        let n = (h.length - h.first) + (g.length - g.first) in
        let k = notes_bytes both.one.parts.notes + notes_bytes both.two.parts.notes in
        let most = behind_front both.one + behind_front both.two in
        let v = fault_view f in
        let ends = BothNotesEnd (files old) one both.one two both.two in
        let stay : BothNotesEnd (files mid) one both.one two both.two v → ends v = λ e. subst (λ (fs : Option Files). BothNotesEnd fs one both.one two both.two v) j.extends.same_files e in
        makes-failed most ends old end r f is (omega arith) (fails-then n k most (BothNotesEnd (files mid) one both.one two both.two) ends old mid end v (omega arith) j.extends p stay) (λ e. inr e)
        (λ limited. absurd (both-unlimited (files mid) one both.one two both.two v p.ends limited))

    module _ (end : S) (c : Carries files draft numbers faults mid end (front_reader one both.one) (front_reader two both.two)) where
      all-extends : Extends files draft numbers faults (behind_front both.one + behind_front both.two) old end
      all-extends =
          let h = header_view both.one.header in
          let g = header_view both.two.header in
          let first = all-read one both.one.parts h.versions in
          let second = all-read two both.two.parts g.versions in
          extends-then ((h.length - h.first) + (g.length - g.first)) (all_read (front_reader one both.one) + all_read (front_reader two both.two)) (behind_front both.one + behind_front both.two) old mid end (omega (arith, first, second)) j.extends c.extends

      comes : (after : Option Files) → after ≡ committed (files end) (draft end) new → Comes (files old) (draft old) one two new both after
      comes after stored =
          let part = notes_part c.notes in
          let core = j.appended.bytes in
          let same : files end ≡ files old = c.extends.same_files ∙ j.extends.same_files in
          let drafted : draft end ≡ option_map (λ (d : List ℕ). core ++ part) (draft old) = c.gains ∙ ap (option_map (λ d. d ++ part)) j.appended.drafted ∙ grown-twice (draft old) core part in
          record {
            core = core;
            notes = c.notes;
            joined = j.appended.sound;
            many = c.many;
            each = c.each;
            first = c.first;
            second = c.second;
            are = c.are;
            given = λ told at. c.given told (j.extends.same_files ∙ at);
            stored = stored ∙ (λ k. committed (same k) (drafted k) new);
          }

      -- the file came, or the folder failed
      pub assembles-stored : (now : S) (r : Result Unit Fault) → IsMeter (numbers end) → WritesOnly files draft numbers end now (fault_of r) → ((out : ℕ) → IsCaused (faults end) (faults now) out out (fault_of r))
          → OnOk r (files now ≡ committed (files end) (draft end) new) → IfErr r (λ f. fault_view f ≡ folder_fault) → Assembles files draft numbers faults one two new both old now (fault_of r)
      assembles-stored now r meter writes caused stored fault = makes-stored (behind_front both.one + behind_front both.two) new old end now r (omega arith) all-extends meter writes caused stored fault (comes (files now)) (inl tt)
