-- How the notes of an archive go behind another.
use Rattle.std.proofs.Common.{◌≡◌, ◌⊎◌, inl, inr, ℕ, ◌≤◌, ◌==◌, ◌&&◌, ◌||◌, not, nat_le, if◌then◌else◌, Bool, true, false, List, [], ◌∷◌, ◌++◌, length, Option, Some, None, IfSome, IsTrue, IsUtf8, option_map, Result, Ok, Err, refl, sym, ap, ◌∙◌, subst, append_assoc, arith}
use Rattle.std.specs.List.{AllByRecursion}
use Rattle.std.specs.Option.{is_some}
use Rattle.std.specs.Result.{IfErr, MatchResult, OnOk}
use Rattle.std.proofs.lemmas.Bool.{le-leb, leb-true}
use Rattle.xa_outside.specs.Folder.{Drafts, DraftsPrefix, Files}
use Rattle.xa_outside.specs.Numbers.{Numbers}
use Rattle.version_notes.specs.Faults.{IfDamage}
use Rattle.version_notes.specs.Notes.{IsNote, are_empty, is_note, is_printed, notes_part}
use Rattle.version_notes.specs.Reader.{PlainReader, at_first, file_of, first_place}
use Rattle.version_notes.specs.Reading.{notes_from}
use Rattle.version_notes.specs.Walk.{Copies, IsPrompt}
use Rattle.version_notes.specs.Writer.{PlainWriter, after, after_all, all_appended, appended, fresh, last_appended}
use Rattle.version_notes.specs.declared.fault.NotesFault.{NotesFault}
use Rattle.version_notes.specs.declared.fault.NotesFault.TheVariants.{Damage, Folder, Memory}
use Rattle.version_notes.specs.declared.parts.Parts.{Parts}
use Rattle.version_notes.specs.declared.limits.TheConstants.{LONGEST_NOTE}
use Rattle.xarch_words.specs.Refusal as refusal
use Rattle.xarch_words.specs.Refusal.{damaged, Refusal, limit, PlainFault, refused, folder_fault, out_fault, in_fault, memory}
use Rattle.xarch_words.specs.View.{fault_view}
use Rattle.xarch_words.specs.declared.fault.Fault.{Fault}
use Rattle.xarch_parts.specs.Archives.{short_note}
use Rattle.xarch_parts.specs.Ends.{IsDefined, fault_of}
use Rattle.xarch_parts.specs.Inputs.{at_most}
use Rattle.xarch_parts.specs.Noted.{IsOfNotes}
use Rattle.xarch_writes.specs.Appending.{GainsNotes, NotesEnd}
use Rattle.xarch_meanings.specs.Meanings.{IsLimited}
use Rattle.xarch_parts.proofs.Pushing.{after-more, appended-more, at-once-after, gained-more}

-- ---- lists of notes with one more

none-empty : (b c : Bool) → not b ≡ true → (b && c) ≡ false
none-empty true c e = absurd cc
none-empty false c e = refl

some-by : (b c d : Bool) → (not c ≡ true → d ≡ false) → not (b && c) ≡ true → (b && d) ≡ false
some-by true c d h e = h e
some-by false c d h e = refl

some-more : (notes : List (List ℕ)) (note : List ℕ) → not (are_empty notes) ≡ true → are_empty (notes ++ note ∷ []) ≡ false
some-more [] note e = absurd cc
some-more (x ∷ xs) note e = some-by (length x == 0) (are_empty xs) (are_empty (xs ++ note ∷ [])) (some-more xs note) e

pub each-more : (notes : List (List ℕ)) (note : List ℕ) → AllByRecursion IsNote notes → IsNote note → AllByRecursion IsNote (notes ++ note ∷ [])
each-more [] note h p = (p, tt)
each-more (x ∷ xs) note h p = (h.0, each-more xs note h.1 p)

both-true : (a b : Bool) → (a && b) ≡ true → a ≡ true
both-true true b e = refl
both-true false b e = absurd cc

-- a note that is text
pub is-note : (note : List ℕ) → IsUtf8 note → IsTrue (is_note note) → IsNote note
is-note note utf8 is =
    let short = leb-true (length note) LONGEST_NOTE (both-true (nat_le (length note) LONGEST_NOTE) (is_printed note) is) in
    (record { short = omega (arith, short); utf8 = utf8 }, is)

-- ---- where a reader begins

pub some-there : (o : Option ℕ) → is_some o ≡ true → (n : ℕ) × (o ≡ Some n)
some-there None e = absurd cc
some-there (Some n) e = (n, refl)

prompt-from : (core : ℕ) (o : Option ℕ) → (is_some o ≡ true) ⊎ (option_map (λ n. first_place core n) o ≡ None)
prompt-from core None = inr refl
prompt-from core (Some n) = inl refl

pub prompt : (name : List ℕ) (parts : Parts) (versions : ℕ) (r : PlainReader) (w : PlainWriter) → r ≡ at_first name parts versions → w ≡ fresh (is_some parts.notes) → IsPrompt r w
prompt name parts versions r w reads writes =
    let begun : IsPrompt (at_first name parts versions) (fresh (is_some parts.notes)) = prompt-from parts.core parts.notes in
    subst (λ (x : PlainReader). IsPrompt x w) (sym reads) (subst (λ (x : PlainWriter). IsPrompt (at_first name parts versions) x) (sym writes) begun)

-- ---- the notes that were copied

copied-some : (place : Option ℕ) (core : ℕ) (notes : List (List ℕ)) → IfSome (option_map (λ n. first_place core n) place) (λ p. (p.used || not (are_empty notes)) ≡ true) → is_some place ≡ true → not (are_empty notes) ≡ true
copied-some None core notes h e = absurd cc
copied-some (Some n) core notes h e = h

module _ (files : Option Files) (name : List ℕ) (parts : Parts) (versions : ℕ) (r : PlainReader) (v w : PlainWriter) (d e : Option (List ℕ)) (reads : r ≡ at_first name parts versions) (writes : v ≡ fresh (is_some parts.notes))
    (copies : Copies files r v w d e) where
  begun-notes : Copies files (at_first name parts versions) (fresh (is_some parts.notes)) w d e
  begun-notes = subst (λ (x : PlainReader). Copies files x (fresh (is_some parts.notes)) w d e) reads (subst (λ (x : PlainWriter). Copies files r x w d e) writes copies)

  pub copied-used : ((at_once : Bool) (notes : List (List ℕ)) → (after_all (fresh at_once) notes).used ≡ not (are_empty notes)) → w.at_once ≡ true → w.used ≡ true
  copied-used used once =
      let c = begun-notes in
      let began : is_some parts.notes ≡ true = sym (at-once-after (fresh (is_some parts.notes)) c.notes) ∙ ap (λ (x : PlainWriter). x.at_once) (sym c.pushed) ∙ once in
      ap (λ (x : PlainWriter). x.used) c.pushed ∙ used (is_some parts.notes) c.notes ∙ copied-some parts.notes parts.core c.notes c.some began

  pub copied-pushed : ((at_once : Bool) (notes : List (List ℕ)) → (after_all (fresh at_once) notes).pushed ≡ length notes) → w.pushed ≡ versions
  copied-pushed pushed = (let c = begun-notes in ap (λ (x : PlainWriter). x.pushed) c.pushed ∙ pushed (is_some parts.notes) c.notes ∙ c.count)

  -- and one more behind them
  pub gains-notes : ((at_once : Bool) (notes : List (List ℕ)) → (at_once ≡ true → are_empty notes ≡ false) → all_appended (fresh at_once) notes ++ last_appended (after_all (fresh at_once) notes) ≡ notes_part notes)
      → (note : List ℕ) (f : Option (List ℕ)) → f ≡ option_map (λ x. x ++ (appended w note ++ last_appended (after w note))) e → GainsNotes files name parts versions note d f
  gains-notes part note f gained =
      let c = begun-notes in
      let w0 = fresh (is_some parts.notes) in
      let all = c.notes ++ note ∷ [] in
      let behind : after_all w0 all ≡ after w note = after-more w0 c.notes note ∙ ap (λ (x : PlainWriter). after x note) (sym c.pushed) in
      let grown : all_appended w0 all ≡ all_appended w0 c.notes ++ appended w note = appended-more w0 c.notes note ∙ ap (λ (x : PlainWriter). all_appended w0 c.notes ++ appended x note) (sym c.pushed) in
      let whole : all_appended w0 c.notes ++ (appended w note ++ last_appended (after w note)) ≡ notes_part all =
      sym (append_assoc (all_appended w0 c.notes) (appended w note) (last_appended (after w note)))
      ∙ (λ i. sym grown i ++ last_appended (sym behind i))
      ∙ part (is_some parts.notes) all (λ once. some-more c.notes note (copied-some parts.notes parts.core c.notes c.some once)) in
      record {
        notes = c.notes;
        count = c.count;
        each = c.each;
        given = c.given;
        gains = gained-more d e f (all_appended w0 c.notes) (appended w note ++ last_appended (after w note)) c.gains gained ∙ ap (λ (l : List ℕ). option_map (λ x. x ++ l) d) whole;
      }

  pub gains-behind : ((at_once : Bool) (notes : List (List ℕ)) → (at_once ≡ true → are_empty notes ≡ false) → all_appended (fresh at_once) notes ++ last_appended (after_all (fresh at_once) notes) ≡ notes_part notes)
      → (note : List ℕ) (q : Result Unit Fault) (f : Option (List ℕ)) (m k : Numbers)
      → MatchResult q (λ _. Drafts e f m k (appended w note ++ last_appended (after w note))) (λ _. DraftsPrefix e f m k (appended w note ++ last_appended (after w note))) → OnOk q (GainsNotes files name parts versions note d f)
  gains-behind part note (Ok u) f m k gains = gains-notes part note f gains.draft
  gains-behind part note (Err x) f m k gains = tt

-- ---- faults

pub notes-unlimited : (name : List ℕ) (e : NotesFault) (v : PlainFault) → IsOfNotes name e v → ¬ IsLimited (Some v)
notes-unlimited name Damage v (inl is) h = subst (λ (z : PlainFault). IsLimited (Some z)) is h
notes-unlimited name Damage v (inr is) h = subst (λ (z : PlainFault). IsLimited (Some z)) is h
notes-unlimited name Folder v is h = subst (λ (z : PlainFault). IsLimited (Some z)) is h
notes-unlimited name Memory v is h = subst (λ (z : PlainFault). IsLimited (Some z)) is h

-- a fault of the folder, or none
pub folder-unlimited : (r : Result Unit Fault) → IfErr r (λ f. fault_view f ≡ folder_fault) → ¬ IsLimited (fault_of r)
folder-unlimited (Ok u) is h = h
folder-unlimited (Err f) is h = subst (λ (z : PlainFault). IsLimited (Some z)) is h

module _ (files : Files) (name : List ℕ) (parts : Parts) (versions : ℕ) where
  end-by : (v w : PlainFault) → v ≡ w → NotesEnd files name parts versions (Some w) → NotesEnd files name parts versions (Some v)
  end-by v w is h = subst (λ (z : PlainFault). NotesEnd files name parts versions (Some z)) (sym is) h

  pub notes-end : (r : PlainReader) → r ≡ at_first name parts versions → (e : NotesFault) (v : PlainFault) → IsOfNotes name e v → IfDamage e (notes_from r (file_of files r.name) ≡ None) → NotesEnd files name parts versions (Some v)
  notes-end r reads Damage v (inl is) none = end-by v (refused (damaged name)) is (refl, subst (λ (x : PlainReader). notes_from x (file_of files x.name) ≡ None) reads none)
  notes-end r reads Damage v (inr is) none = end-by v memory is tt
  notes-end r reads Folder v is none = end-by v folder_fault is tt
  notes-end r reads Memory v is none = end-by v memory is tt

  pub folder-end : (r : Result Unit Fault) → IfErr r (λ f. fault_view f ≡ folder_fault) → NotesEnd files name parts versions (fault_of r)
  folder-end (Ok u) is = tt
  folder-end (Err f) is = end-by (fault_view f) folder_fault is tt

-- ---- a note that is too long

refused-by : (b : Bool) (n : ℕ) (r : Refusal) (v : PlainFault) → IsDefined {A = ℕ} (if b then Ok n else Err r) v → IsDefined {A = Unit} (if b then Ok tt else Err r) v
unfolding IsDefined
refused-by true n r (refused q) e = absurd cc
refused-by false n r (refused q) e = (let same : r ≡ q = cc in ap (λ (z : Refusal). Err z) same)
refused-by b n r folder_fault e = tt
refused-by b n r out_fault e = tt
refused-by b n r in_fault e = tt
refused-by b n r memory e = tt

short-by : (b : Bool) (n m : ℕ) (r : Refusal) → ◌≡◌ {A = Result ℕ Refusal} (if b then Ok n else Err r) (Ok m) → ◌≡◌ {A = Result Unit Refusal} (if b then Ok tt else Err r) (Ok tt)
short-by true n m r e = refl
short-by false n m r e = absurd cc

pub note-refused : (text : List ℕ) (v : PlainFault) → IsDefined (at_most refusal.note LONGEST_NOTE (length text)) v → IsDefined (short_note text) v
note-refused text v e = refused-by (nat_le (length text) LONGEST_NOTE) (length text) (limit refusal.note LONGEST_NOTE) v e

pub note-short : (text : List ℕ) (m : ℕ) → at_most refusal.note LONGEST_NOTE (length text) ≡ Ok m → short_note text ≡ Ok tt
note-short text m e = short-by (nat_le (length text) LONGEST_NOTE) (length text) m (limit refusal.note LONGEST_NOTE) e

-- one that is not, and that is printed, is a note
both : (a b : Bool) → a ≡ true → b ≡ true → (a && b) ≡ true
both true true p q = refl
both true false p q = absurd cc
both false b p q = absurd cc

pub note-is : (text : List ℕ) → IsTrue (is_printed text) → length text ≤ LONGEST_NOTE → IsTrue (is_note text)
note-is text printed short = both (nat_le (length text) LONGEST_NOTE) (is_printed text) (le-leb (length text) LONGEST_NOTE short) printed
