-- How some versions of an archive go into another.
use Rattle.std.proofs.Common.{◌≡◌, inl, inr, ℕ, ◌+◌, ◌-◌, ◌≤◌, List, ◌++◌, Option, Some, option_map, Result, Err, IfErr, OnOk, refl, sym, ap, ◌∙◌, subst, arith}
use Rattle.std.specs.Result.{IsErrAnd}
use Rattle.xa_outside.specs.Causes.{Rose}
use Rattle.xa_outside.specs.Folder.{Files, committed, Lengthens}
use Rattle.xa_outside.specs.Numbers.{Numbers, IsMeter, PullsAndDrafts}
use Rattle.key_spec.specs.Data.{PlainRule}
use Rattle.keyed_tree.specs.Data.{PlainKeyed}
use Rattle.archive_file.specs.Sound.{SoundAs}
use Rattle.record_cursor.specs.Moves.{IsHeaderOf, TellsFront}
use Rattle.record_cursor.specs.Places.{among_nodes}
use Rattle.record_cursor.specs.View.{PlainCursor, PlainHeader, header_view}
use Rattle.record_format.specs.Files.{FileOf}
use Rattle.record_format.specs.declared.limits.TheConstants.{LONGEST}
use Rattle.archive_cut.specs.Cut.{IfTooLong, IfFailed, Overfull}
use Rattle.archive_cut.specs.Sliced.{items}
use Rattle.archive_cut.specs.declared.fault.CutFault.{CutFault}
use Rattle.archive_cut.specs.declared.fault.CutFault.TheVariants.{Damage, Folder, TooLong, Memory}
use Rattle.version_notes.specs.Notes.{notes_part}
use Rattle.version_notes.specs.Reader.{at_first}
use Rattle.version_notes.specs.declared.parts.Parts.{Parts}
use Rattle.xarch_words.specs.Refusal.{archive, damaged, limit, PlainFault, refused, folder_fault, out_fault, in_fault, memory, Refusal}
use Rattle.xarch_words.specs.View.{fault_view}
use Rattle.xarch_words.specs.declared.fault.Fault.{Fault}
use Rattle.xarch_parts.specs.Ends.{IsCaused, IsInside, IsOfFolder, fault_of}
use Rattle.xarch_parts.specs.Folders.{WritesOnly}
use Rattle.xarch_parts.specs.Noted.{notes_bytes}
use Rattle.xarch_parts.specs.declared.front.Front.{Front}
use Rattle.xarch_meanings.specs.Meanings.{IsLimited}
use Rattle.xarch_copies.specs.Cutting.{Comes, Cuts, IsToldAs, Makes, NotesEnd, RecordsEnd, Uncut, Unnoted}
use Rattle.xarch_copies.specs.Extending.{Extends}
use Rattle.xarch_copies.specs.Making.{behind_front}
use Rattle.xarch_copies.specs.Slicing.{Slices}
use Rattle.xarch_copies.proofs.Extending.{extends-then}
use Rattle.xarch_copies.proofs.Making.{fails-memory, fails-then, grown-twice, makes-failed, makes-stored}
use Rattle.xarch_parts.proofs.NoteLaws.{all-read}

-- ---- the records

told-cause : (T : Type 0) (name : List ℕ) (e : CutFault) (v : PlainFault) (a b : ℕ) → IsToldAs name e v → IfFailed {T = T} (Err e) (Rose a b) → IsOfFolder a b (Some v)
unfolding IsInside IsOfFolder
told-cause T name Damage v a b (inl is) h = subst (λ (z : PlainFault). IsOfFolder a b (Some z)) (sym is) tt
told-cause T name Damage v a b (inr is) h = subst (λ (z : PlainFault). IsOfFolder a b (Some z)) (sym is) tt
told-cause T name TooLong v a b is h = subst (λ (z : PlainFault). IsOfFolder a b (Some z)) (sym is) tt
told-cause T name Folder v a b is h = subst (λ (z : PlainFault). IsOfFolder a b (Some z)) (sym is) h
told-cause T name Memory v a b is h = subst (λ (z : PlainFault). IsOfFolder a b (Some z)) (sym is) tt

-- it is refused by a limit where it is too long
told-limit : (P : Type 0) (name : List ℕ) (e : CutFault) (v : PlainFault) → IsToldAs name e v → IfTooLong e P → IsLimited (Some v) → P
told-limit P name Damage v (inl is) full limited = absurd (subst (λ (z : PlainFault). IsLimited (Some z)) is limited)
told-limit P name Damage v (inr is) full limited = absurd (subst (λ (z : PlainFault). IsLimited (Some z)) is limited)
told-limit P name TooLong v is full limited = full
told-limit P name Folder v is full limited = absurd (subst (λ (z : PlainFault). IsLimited (Some z)) is limited)
told-limit P name Memory v is full limited = absurd (subst (λ (z : PlainFault). IsLimited (Some z)) is limited)

module _ (files : Option Files) (name : List ℕ) (h : PlainHeader) (i j : ℕ) where
  end-by : (v w : PlainFault) → v ≡ w → RecordsEnd files name h i j w → RecordsEnd files name h i j v
  end-by v w is ends = subst (λ (z : PlainFault). RecordsEnd files name h i j z) (sym is) ends

  records-end : (e : CutFault) (v : PlainFault) → IsToldAs name e v
      → ((front : List ℕ) (rules : List PlainRule) (vs : List PlainKeyed) → TellsFront files name h.length front → IsHeaderOf h front → SoundAs rules vs front → ¬ (e ≡ Damage))
      → ((front : List ℕ) (rules : List PlainRule) (vs : List PlainKeyed) → TellsFront files name h.length front → IsHeaderOf h front → SoundAs rules vs front → IfTooLong e ((file : List ℕ) → ¬ FileOf rules (items i j vs) file))
      → RecordsEnd files name h i j v
  records-end Damage v (inl is) undamaged long = end-by v (refused (damaged name)) is (inl (refl, λ front rules vs tells heads sound. undamaged front rules vs tells heads sound refl))
  records-end Damage v (inr is) undamaged long = end-by v memory is tt
  records-end TooLong v is undamaged long = end-by v (refused (limit archive LONGEST)) is (inr (refl, long))
  records-end Folder v is undamaged long = end-by v folder_fault is tt
  records-end Memory v is undamaged long = end-by v memory is tt

module _ {S : Type 0} {files : S → Option Files} {draft : S → Option (List ℕ)} {numbers : S → Numbers} {faults : S → ℕ} where
  pub uncut : (T : Type 0) (old now : S) (name : List ℕ) (h : PlainHeader) (i j : ℕ) (e : CutFault) (v : PlainFault) → IsToldAs name e v → Extends files draft numbers faults (h.length - h.first) old now → IfFailed {T = T} (Err e) (Rose (faults old) (faults now))
      → ((front : List ℕ) (rules : List PlainRule) (vs : List PlainKeyed) → TellsFront (files old) name h.length front → IsHeaderOf h front → SoundAs rules vs front → ¬ (e ≡ Damage))
      → ((front : List ℕ) (rules : List PlainRule) (vs : List PlainKeyed) → TellsFront (files old) name h.length front → IsHeaderOf h front → SoundAs rules vs front → IfTooLong e ((file : List ℕ) → ¬ FileOf rules (items i j vs) file))
      → ((b : ℕ) → h.length + 12 ≤ b → IfTooLong e (Overfull b h.rules i j (draft now))) → Uncut files draft numbers faults name h i j old now v
  uncut T old now name h i j e v is extends cause undamaged long full = record {
    fails = record { extends = extends; cause = told-cause T name e v (faults old) (faults now) is cause; ends = records-end (files old) name h i j e v is undamaged long };
    fills = λ limited b fits. told-limit (Overfull b h.rules i j (draft now)) name e v is (full b fits) limited;
  }

  pub uncut-memory : (s : S) (name : List ℕ) (h : PlainHeader) (i j : ℕ) → IsMeter (numbers s) → Uncut files draft numbers faults name h i j s s memory
  uncut-memory s name h i j meter = record { fails = fails-memory (h.length - h.first) (RecordsEnd (files s) name h i j) s meter tt; fills = λ limited. absurd limited }

  -- what a cut does to the folder
  pub lengthened : (n : ℕ) (old now : S) → files now ≡ files old → Lengthens (draft old) (draft now) → PullsAndDrafts n (numbers old) (numbers now) → faults old ≤ faults now → Extends files draft numbers faults n old now
  lengthened n old now same drafted pulls later = record { same_files = same; bytes = drafted.bytes; grown = drafted.is; counted = pulls; later = later }

-- a cursor that was started has some name
pub named-cursor : (c : PlainCursor) (name : List ℕ) (length at : ℕ) → c ≡ record { name = name; length = length; standing = among_nodes 0; at = at } → c ≡ record { name = c.name; length = length; standing = among_nodes 0; at = at }
named-cursor c name length at is = subst (λ (n : List ℕ). c ≡ record { name = n; length = length; standing = among_nodes 0; at = at }) (sym (ap (λ (x : PlainCursor). x.name) is)) is

-- ---- no notes of an archive are refused by a limit

pub notes-unlimited : (files : Option Files) (name : List ℕ) (parts : Parts) (versions : ℕ) (v : PlainFault) → NotesEnd files name parts versions v → IsLimited (Some v) → ⊥
notes-unlimited files name parts versions (refused q) ends limited = subst (λ (r : Refusal). IsLimited (Some (refused r))) ends.0 limited
notes-unlimited files name parts versions folder_fault ends limited = limited
notes-unlimited files name parts versions out_fault ends limited = limited
notes-unlimited files name parts versions in_fault ends limited = limited
notes-unlimited files name parts versions memory ends limited = limited

-- ---- the new archive

module _ {S : Type 0} {files : S → Option Files} {draft : S → Option (List ℕ)} {numbers : S → Numbers} {faults : S → ℕ} (name new : List ℕ) (front : Front) (i j : ℕ) (old mid : S) where
  -- its records were not appended
  pub makes-uncut : (r : Result Unit Fault) (f : Fault) → IsErrAnd r (λ g. g ≡ f) → Uncut files draft numbers faults name (header_view front.header) i j old mid (fault_view f) → Makes files draft numbers faults name new front i j old mid (fault_of r)
  makes-uncut r f is p =
      let h = header_view front.header in
      makes-failed (h.length - h.first) (RecordsEnd (files old) name h i j) old mid r f is (omega arith) p.fails (λ ends. inl ends) p.fills

  module _ (cuts : Cuts files draft numbers faults name (header_view front.header) i j old mid) where
    -- nor its notes
    pub makes-unnoted : (end : S) (r : Result Unit Fault) (f : Fault) → IsErrAnd r (λ g. g ≡ f) → Unnoted files draft numbers faults name front.parts (header_view front.header).versions mid end (fault_view f) → Makes files draft numbers faults name new front i j old end (fault_of r)
    makes-unnoted end r f is p =
        let h = header_view front.header in
        let n = notes_bytes front.parts.notes in
        let v = fault_view f in
        let ends = NotesEnd (files old) name front.parts h.versions in
        let stay : NotesEnd (files mid) name front.parts h.versions v → ends v = λ e. subst (λ (fs : Option Files). NotesEnd fs name front.parts h.versions v) cuts.extends.same_files e in
        makes-failed (behind_front front) ends old end r f is (omega arith) (fails-then (h.length - h.first) n (behind_front front) (NotesEnd (files mid) name front.parts h.versions) ends old mid end v (omega arith) cuts.extends p stay) (λ e. inr e)
        (λ limited. absurd (notes-unlimited (files mid) name front.parts h.versions v p.ends limited))

    module _ (end : S) (notes : Slices files draft numbers faults mid end (at_first name front.parts (header_view front.header).versions) (i - 1) (j + 1 - i)) where
      both : Extends files draft numbers faults (behind_front front) old end
      both =
          let h = header_view front.header in
          let n = notes_bytes front.parts.notes in
          let last = subst (λ (k : ℕ). Extends files draft numbers faults k mid end) (all-read name front.parts h.versions) notes.extends in
          extends-then (h.length - h.first) n (behind_front front) old mid end (omega arith) cuts.extends last

      comes : (after : Option Files) → after ≡ committed (files end) (draft end) new → Comes (files old) (draft old) name new front i j after
      comes after stored =
          let part = notes_part notes.notes in
          let core = cuts.appended.bytes in
          let same : files end ≡ files old = notes.extends.same_files ∙ cuts.extends.same_files in
          let drafted : draft end ≡ option_map (λ (d : List ℕ). core ++ part) (draft old) = notes.gains ∙ ap (option_map (λ d. d ++ part)) cuts.appended.drafted ∙ grown-twice (draft old) core part in
          record {
            core = core;
            notes = notes.notes;
            slice = cuts.appended.sound;
            many = notes.many;
            each = notes.each;
            given = λ told all at is. notes.given told all (cuts.extends.same_files ∙ at) is;
            stored = stored ∙ (λ k. committed (same k) (drafted k) new);
          }

      -- the file came, or the folder failed
      pub makes-cut : (now : S) (r : Result Unit Fault) → IsMeter (numbers end) → WritesOnly files draft numbers end now (fault_of r) → ((out : ℕ) → IsCaused (faults end) (faults now) out out (fault_of r))
          → OnOk r (files now ≡ committed (files end) (draft end) new) → IfErr r (λ f. fault_view f ≡ folder_fault) → Makes files draft numbers faults name new front i j old now (fault_of r)
      makes-cut now r meter writes caused stored fault = makes-stored (behind_front front) new old end now r (omega arith) both meter writes caused stored fault (comes (files now)) (inl tt)
