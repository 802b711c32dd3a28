-- Listing versions, line by line.
use Rattle.std.proofs.Common.{◌≡◌, inl, inr, ℕ, zero, suc, ◌+◌, ◌≤◌, ◌<◌, true, false, List, [], ◌∷◌, ◌++◌, length, take, Option, Some, None, IfSome, option_map, Result, Ok, Err, refl, sym, ap, ◌∙◌, subst, arith, append_assoc, append-nil}
use Rattle.std.specs.Result.{is_err}
use Rattle.xa_outside.specs.Causes.{HasCause, Rose}
use Rattle.xa_outside.specs.Folder.{Files}
use Rattle.xa_outside.specs.Numbers.{IsMeter, PullsAtMost, after_pull}
use Rattle.xa_outside.specs.NumberLaws.{PullsAtMost-more, PullsAtMost-none, PullsAtMost-of, PullsAtMost-trans}
use Rattle.xa_outside.specs.Taken.{Puts, Taken, Takes, TakesPrefix}
use Rattle.xa_outside.specs.TakenLaws.{Takes-nil, Takes-trans, TakesPrefix-after, TakesPrefix-all, TakesPrefix-in, TakesPrefix-more}
use Rattle.version_notes.specs.Faults.{IfDamage, IfFolder}
use Rattle.version_notes.specs.Reader.{PlainReader, behind, file_of, most_from, most_read, next_of, place_behind, read_for, read_from}
use Rattle.version_notes.specs.Reading.{all_from, all_read, notes_from}
use Rattle.version_notes.specs.declared.place.Place.{Place}
use Rattle.version_notes.specs.declared.fault.NotesFault.{NotesFault}
use Rattle.version_notes.specs.declared.fault.NotesFault.TheVariants.{Damage, Folder, Memory}
use Rattle.xarch_words.specs.Refusal.{Refusal, damaged, PlainFault, refused, folder_fault, out_fault, in_fault, memory}
use Rattle.xarch_parts.specs.Ends.{IsInside, IsOfCommand, IsOfFolder}
use Rattle.xarch_parts.specs.Noted.{IsOfNotes}
use Rattle.xarch_meanings.specs.Versions.{lines_from, version_line, versions_text}
use Rattle.xarch_reads.specs.Listed.{Listed, ListEnds, Lists}
use Rattle.xarch_reads.specs.Written.{WrittenState}

-- ---- what is read

place-left : (p : Option Place) (note : List ℕ) → IfSome (option_map (λ (q : Place). place_behind q note) p) (λ q. q.at ≤ q.end) → read_from p (Some note) + all_from (option_map (λ (q : Place). place_behind q note) p) ≤ all_from p
place-left None note h = omega arith
place-left (Some q) note h = omega (arith, h)

-- ---- what is written

abbrev lines_behind : List ℕ → ℕ → Option (List (List ℕ)) → Option (List ℕ)
lines_behind written number left = option_map (λ notes. written ++ lines_from (number + 1) notes) left

one-more : (written : List ℕ) (number : ℕ) (note : List ℕ) (left : Option (List (List ℕ)))
    → lines_behind written number (option_map (λ others. note ∷ others) left) ≡ lines_behind (written ++ version_line (number + 1) note) (number + 1) left
one-more written number note None = refl
one-more written number note (Some others) = ap (λ (l : List ℕ). Some l) (sym (append_assoc written (version_line (number + 1) note) (lines_from (number + 1 + 1) others)))

-- So many lines were written, and what the reader still gives are the others.
pub record SoFar (start reader : PlainReader) (number : ℕ) (s t : WrittenState) : Type 0 where
  pub same_files : t.files ≡ s.files
  pub same_draft : t.draft ≡ s.draft
  pub read : ℕ
  pub pulls : PullsAtMost read s.numbers t.numbers
  pub within : read + all_read reader ≤ all_read start
  pub later : s.faults ≤ t.faults
  pub out_later : s.out_faults ≤ t.out_faults
  pub name : reader.name ≡ start.name
  pub count : number + reader.due ≡ start.due
  pub written : List ℕ
  pub takes : Takes s.taken t.taken written
  pub rest : (files : Files) → s.files ≡ Some files → option_map versions_text (notes_from start (file_of files start.name)) ≡ lines_behind written number (notes_from reader (file_of files start.name))

-- nothing was written yet
pub begun : (start : PlainReader) (s : WrittenState) → IsMeter s.numbers → SoFar start start 0 s s
begun start s meter = record {
  same_files = refl;
  same_draft = refl;
  read = 0;
  pulls = PullsAtMost-none 0 s.numbers meter;
  within = omega arith;
  later = omega arith;
  out_later = omega arith;
  name = refl;
  count = omega arith;
  written = [];
  takes = Takes-nil s.taken;
  rest = λ files told. refl;
}

-- From what is known of what a reader gives.
module _ (gives : (r : PlainReader) (file note : List ℕ) → next_of r file ≡ Some (Some note) → notes_from r file ≡ option_map (λ others. note ∷ others) (notes_from (behind r note) file))
    (ends : (r : PlainReader) (file : List ℕ) → next_of r file ≡ Some None → notes_from r file ≡ Some [])
    (breaks : (r : PlainReader) (file : List ℕ) → next_of r file ≡ None → notes_from r file ≡ None)
    (start reader : PlainReader) (number : ℕ) (s t : WrittenState) (f : SoFar start reader number s t) where
  -- a note came next
  module _ (note : List ℕ) (u : WrittenState) (next : PlainReader) (files_same : u.files ≡ t.files) (draft_same : u.draft ≡ t.draft) (numbers : u.numbers ≡ after_pull t.numbers (read_for reader (Some note))) (later : t.faults ≤ u.faults)
      (out_same : t.out_faults ≤ u.out_faults) (due : 0 < reader.due) (is : next ≡ behind reader note) (fits : IfSome next.place (λ p. p.at ≤ p.end)) (tells : (files : Files) → t.files ≡ Some files → next_of reader (file_of files reader.name) ≡ Some (Some note)) where
    fits-behind : IfSome (behind reader note).place (λ p. p.at ≤ p.end)
    fits-behind = subst (λ (r : PlainReader). IfSome r.place (λ p. p.at ≤ p.end)) is fits

    left : all_read next ≡ all_read (behind reader note)
    left = ap all_read is

    pulled : PullsAtMost (f.read + read_for reader (Some note)) s.numbers u.numbers
    pulled = PullsAtMost-trans f.read (read_for reader (Some note)) s.numbers t.numbers u.numbers f.pulls (PullsAtMost-of (read_for reader (Some note)) (read_for reader (Some note)) t.numbers u.numbers (omega arith) numbers)

    in-all : f.read + read_for reader (Some note) + all_read next ≤ all_read start
    in-all = let one = place-left reader.place note fits-behind in let all = f.within in let l = left in omega (arith, one, all, l)

    more : (files : Files) → s.files ≡ Some files → option_map versions_text (notes_from start (file_of files start.name)) ≡ lines_behind (f.written ++ version_line (number + 1) note) (number + 1) (notes_from next (file_of files start.name))
    more files told =
        let file = file_of files start.name in
        let here : next_of reader file ≡ Some (Some note) = subst (λ n. next_of reader (file_of files n) ≡ Some (Some note)) f.name (tells files (f.same_files ∙ told)) in
        f.rest files told
        ∙ ap (lines_behind f.written number) (gives reader file note here)
        ∙ one-more f.written number note (notes_from (behind reader note) file)
        ∙ ap (λ (r : PlainReader). lines_behind (f.written ++ version_line (number + 1) note) (number + 1) (notes_from r file)) (sym is)

    -- its line was written
    pub went-on : Takes t.taken u.taken (version_line (number + 1) note) → SoFar start next (number + 1) s u
    went-on line = record {
      same_files = files_same ∙ f.same_files;
      same_draft = draft_same ∙ f.same_draft;
      read = f.read + read_for reader (Some note);
      pulls = pulled;
      within = in-all;
      later = let a = f.later in omega (arith, a, later);
      out_later = let a = f.out_later in omega (arith, a, out_same);
      name = ap (λ (r : PlainReader). r.name) is ∙ f.name;
      count = let d = ap (λ (r : PlainReader). r.due) is in let c = f.count in omega (arith, d, c, due);
      written = f.written ++ version_line (number + 1) note;
      takes = Takes-trans s.taken t.taken u.taken f.written (version_line (number + 1) note) f.takes line;
      rest = more;
    }

    front-of-more : (left : Option (List (List ℕ))) (notes : List (List ℕ)) → option_map versions_text (Some notes) ≡ lines_behind (f.written ++ version_line (number + 1) note) (number + 1) left → (more : List ℕ) × (versions_text notes ≡ f.written ++ (version_line (number + 1) note ++ more))
    front-of-more None notes e = absurd cc
    front-of-more (Some others) notes e =
        let same : versions_text notes ≡ f.written ++ version_line (number + 1) note ++ lines_from (number + 1 + 1) others = cc in
        (lines_from (number + 1 + 1) others, same ∙ append_assoc f.written (version_line (number + 1) note) (lines_from (number + 1 + 1) others))

    -- its line was not written to its end
    pub stopped-writing : (name : List ℕ) → TakesPrefix t.taken u.taken (version_line (number + 1) note) → Rose s.out_faults u.out_faults → Lists name start s u (Some out_fault)
    unfolding IsOfCommand
    stopped-writing name p rose = record {
      same_files = files_same ∙ f.same_files;
      same_draft = draft_same ∙ f.same_draft;
      pulls = PullsAtMost-more (f.read + read_for reader (Some note)) (all_read start) s.numbers u.numbers (let all = in-all in omega (arith, all)) pulled;
      later = let a = f.later in omega (arith, a, later);
      out_later = let a = f.out_later in omega (arith, a, out_same);
      cause = rose;
      only = λ q e. absurd cc;
      gained = (let q = TakesPrefix-after s.taken t.taken u.taken f.written (version_line (number + 1) note) f.takes p in record { bytes = take q.count (f.written ++ version_line (number + 1) note); takes = q.takes });
      ends = λ files told notes are.
          let shown = front-of-more (notes_from next (file_of files start.name)) notes (sym (ap (option_map versions_text) are) ∙ more files told) in
          TakesPrefix-in s.taken t.taken u.taken (versions_text notes) f.written (version_line (number + 1) note) shown.0 shown.1 f.takes p;
    }

  -- none comes any more, or the reading failed
  module _ (u : WrittenState) (files_same : u.files ≡ t.files) (draft_same : u.draft ≡ t.draft) (later : t.faults ≤ u.faults) (out_same : u.out_faults ≡ t.out_faults) (taken_same : u.taken ≡ t.taken) where
    takes-still : Takes s.taken u.taken f.written
    takes-still = subst (λ (z : Taken). Takes s.taken z f.written) (sym taken_same) f.takes

    whole-of : (start_notes : Option (List (List ℕ))) → option_map versions_text start_notes ≡ Some (f.written ++ []) → Listed start_notes s.taken u.taken
    whole-of None e = absurd cc
    whole-of (Some notes) e =
        let same : versions_text notes ≡ f.written ++ [] = cc in
        record { notes = notes; are = refl; output = subst (λ l. Takes s.taken u.taken l) (sym (same ∙ append-nil f.written)) takes-still }

    pub finished : (name : List ℕ) → u.numbers ≡ after_pull t.numbers (read_for reader None) → ((files : Files) → t.files ≡ Some files → next_of reader (file_of files reader.name) ≡ Some None) → Lists name start s u None
    unfolding IsOfCommand IsOfFolder IsInside
    finished name numbers tells = record {
      same_files = files_same ∙ f.same_files;
      same_draft = draft_same ∙ f.same_draft;
      pulls = PullsAtMost-more (f.read + read_for reader None) (all_read start) s.numbers u.numbers (let all = f.within in let none = reads-none reader.place in omega (arith, all, none))
          (PullsAtMost-trans f.read (read_for reader None) s.numbers t.numbers u.numbers f.pulls (PullsAtMost-of (read_for reader None) (read_for reader None) t.numbers u.numbers (omega arith) numbers));
      later = let a = f.later in omega (arith, a, later);
      out_later = let a = f.out_later in omega (arith, a, out_same);
      cause = tt;
      only = λ q e. absurd cc;
      gained = record { bytes = f.written; takes = takes-still };
      ends = λ files told.
          let file = file_of files start.name in
          let here : next_of reader file ≡ Some None = subst (λ n. next_of reader (file_of files n) ≡ Some None) f.name (tells files (f.same_files ∙ told)) in
          whole-of (notes_from start file) (f.rest files told ∙ ap (lines_behind f.written number) (ends reader file here));
    }
      where
        reads-none : (p : Option Place) → read_from p None ≡ 0
        reads-none None = refl
        reads-none (Some q) = refl

    front-of : (left start_notes : Option (List (List ℕ))) (notes : List (List ℕ)) → option_map versions_text start_notes ≡ lines_behind f.written number left → start_notes ≡ Some notes → TakesPrefix s.taken u.taken (versions_text notes)
    front-of None start_notes notes e are = let wrong : Some (versions_text notes) ≡ None = sym (ap (option_map versions_text) are) ∙ e in absurd cc
    front-of (Some others) start_notes notes e are =
        let both : Some (versions_text notes) ≡ Some (f.written ++ lines_from (number + 1) others) = sym (ap (option_map versions_text) are) ∙ e in
        let same : versions_text notes ≡ f.written ++ lines_from (number + 1) others = cc in
        subst (λ l. TakesPrefix s.taken u.taken l) (sym same) (TakesPrefix-more s.taken u.taken f.written (lines_from (number + 1) others) (TakesPrefix-all s.taken u.taken f.written takes-still))

    none-left : (start_notes : Option (List (List ℕ))) → option_map versions_text start_notes ≡ None → start_notes ≡ None
    none-left None e = refl
    none-left (Some notes) e = absurd cc

    ended-by : (name : List ℕ) (v : PlainFault) (files : Files) → s.files ≡ Some files → ((q : Refusal) → v ≡ refused q → (q ≡ damaged name) × (next_of reader (file_of files start.name) ≡ None)) → ListEnds name (notes_from start (file_of files start.name)) s.taken u.taken (Some v)
    ended-by name (refused q) files told h =
        let d = h q refl in
        let file = file_of files start.name in
        (d.0, none-left (notes_from start file) (f.rest files told ∙ ap (lines_behind f.written number) (breaks reader file d.1)))
    ended-by name folder_fault files told h = λ notes are. front-of (notes_from reader (file_of files start.name)) (notes_from start (file_of files start.name)) notes (f.rest files told) are
    ended-by name out_fault files told h = λ notes are. front-of (notes_from reader (file_of files start.name)) (notes_from start (file_of files start.name)) notes (f.rest files told) are
    ended-by name in_fault files told h = λ notes are. front-of (notes_from reader (file_of files start.name)) (notes_from start (file_of files start.name)) notes (f.rest files told) are
    ended-by name memory files told h = λ notes are. front-of (notes_from reader (file_of files start.name)) (notes_from start (file_of files start.name)) notes (f.rest files told) are

    cause-of : (name : List ℕ) (e : NotesFault) (v : PlainFault) → IsOfNotes name e v → IfFolder e (Rose t.faults u.faults) → IsOfCommand s.faults u.faults s.out_faults u.out_faults (Some v)
    unfolding IsOfCommand IsOfFolder IsInside
    cause-of name Damage v (inl is) h = subst (λ (z : PlainFault). IsOfCommand s.faults u.faults s.out_faults u.out_faults (Some z)) (sym is) tt
    cause-of name Damage v (inr is) h = subst (λ (z : PlainFault). IsOfCommand s.faults u.faults s.out_faults u.out_faults (Some z)) (sym is) tt
    cause-of name Folder v is h = subst (λ (z : PlainFault). IsOfCommand s.faults u.faults s.out_faults u.out_faults (Some z)) (sym is) (let a = f.later in omega (arith, a, h))
    cause-of name Memory v is h = subst (λ (z : PlainFault). IsOfCommand s.faults u.faults s.out_faults u.out_faults (Some z)) (sym is) tt

    refusal-of : (name : List ℕ) (e : NotesFault) (v : PlainFault) (file : List ℕ) → IsOfNotes name e v → IfDamage e (next_of reader file ≡ None) → (q : Refusal) → v ≡ refused q → (q ≡ damaged name) × (next_of reader file ≡ None)
    refusal-of name Damage v file (inl is) h q e = let both : refused q ≡ refused (damaged name) = sym e ∙ is in let same : q ≡ damaged name = cc in (same, h)
    refusal-of name Damage v file (inr is) h q e = let wrong : memory ≡ refused q = sym is ∙ e in absurd cc
    refusal-of name Folder v file is h q e = let wrong : folder_fault ≡ refused q = sym is ∙ e in absurd cc
    refusal-of name Memory v file is h q e = let wrong : memory ≡ refused q = sym is ∙ e in absurd cc

    named : (name : List ℕ) (e : NotesFault) (v : PlainFault) → IsOfNotes name e v → (q : Refusal) → v ≡ refused q → q ≡ damaged name
    named name Damage v (inl is) q e = let both : refused q ≡ refused (damaged name) = sym e ∙ is in cc
    named name Damage v (inr is) q e = let wrong : memory ≡ refused q = sym is ∙ e in absurd cc
    named name Folder v is q e = let wrong : folder_fault ≡ refused q = sym is ∙ e in absurd cc
    named name Memory v is q e = let wrong : memory ≡ refused q = sym is ∙ e in absurd cc

    pub stopped-reading : (name : List ℕ) (e : NotesFault) (v : PlainFault) → IsOfNotes name e v → IfFolder e (Rose t.faults u.faults) → PullsAtMost (most_read reader) t.numbers u.numbers → ((files : Files) → t.files ≡ Some files → IfDamage e (next_of reader (file_of files reader.name) ≡ None))
        → Lists name start s u (Some v)
    stopped-reading name e v is rose pulls tells = record {
      same_files = files_same ∙ f.same_files;
      same_draft = draft_same ∙ f.same_draft;
      pulls = PullsAtMost-more (f.read + most_read reader) (all_read start) s.numbers u.numbers (let all = f.within in let m = most-within reader.due reader.place in omega (arith, all, m)) (PullsAtMost-trans f.read (most_read reader) s.numbers t.numbers u.numbers f.pulls pulls);
      later = let a = f.later in omega (arith, a, later);
      out_later = let a = f.out_later in omega (arith, a, out_same);
      cause = cause-of name e v is rose;
      only = λ q w. (let both : Some v ≡ Some (refused q) = w in let same : v ≡ refused q = cc in named name e v is q same);
      gained = record { bytes = f.written; takes = takes-still };
      ends = λ files told.
          let tells_here : IfDamage e (next_of reader (file_of files start.name) ≡ None) = subst (λ n. IfDamage e (next_of reader (file_of files n) ≡ None)) f.name (tells files (f.same_files ∙ told)) in
          ended-by name v files told (refusal-of name e v (file_of files start.name) is tells_here);
    }
      where
        most-within : (due : ℕ) (p : Option Place) → most_from due p ≤ all_from p
        most-within due None = omega arith
        most-within zero (Some q) = omega arith
        most-within (suc n) (Some q) = omega arith

-- ---- of calls

pub none-shorter : (l : List ℕ) → length l < 1 → l ≡ []
none-shorter [] h = refl
none-shorter (x ∷ xs) h = absurd (omega (arith, h))

pub put-whole : {T E : Type 0} (a b : Taken) (r : Result T E) (x : List ℕ) → is_err r ≡ false → Puts a b r x → Takes a b x
put-whole a b (Ok v) x e p = p
put-whole a b (Err f) x e p = absurd cc

pub put-front : {T E : Type 0} (a b : Taken) (r : Result T E) (x : List ℕ) → is_err r ≡ true → Puts a b r x → TakesPrefix a b x
put-front a b (Ok v) x e p = absurd cc
put-front a b (Err f) x e p = p

pub put-rose : {T E : Type 0} (m n : ℕ) (r : Result T E) → is_err r ≡ true → HasCause m n r → Rose m n
put-rose m n (Ok v) e h = absurd cc
put-rose m n (Err f) e h = h.failed
