-- Some notes of an archive go from a reader to a writer.
use Rattle.std.proofs.Common.{◌≡◌, ℕ, zero, suc, ◌+◌, ◌-◌, ◌<◌, ◌≤◌, leb, true, inl, inr, List, [], ◌∷◌, ◌++◌, length, take, drop, Option, Some, None, Ok, Err, refl, sym, ap, subst, ◌∙◌, append_assoc, append-nil, length-append, arith}
use Rattle.std.specs.Prelude.{Bool, false, option_map, String, string_bytes}
use Rattle.std.specs.Global.{Global}
use Rattle.std.specs.List.{AllByRecursion}
use Rattle.std.proofs.Math.Seq.{take-append_seam, drop-append_seam}
use Rattle.std.proofs.lemmas.Bool.{cases_Bool, leb-true, leb-false}
use Rattle.xa_outside.specs.Causes.{Rose}
use Rattle.xa_outside.specs.CauseLaws.{Rose-later}
use Rattle.xa_outside.specs.Folder.{Files}
use Rattle.xa_outside.specs.Numbers.{Numbers, IsMeter, PullsAtMost, after_pull}
use Rattle.xa_outside.specs.NumberLaws.{PullsAtMost-of, PullsAtMost-more}
use Rattle.version_notes.specs.Faults.{IfDamage, IfFolder}
use Rattle.version_notes.specs.Notes.{IsNote, are_empty, most, notes_part}
use Rattle.version_notes.specs.Reader.{PlainReader, Moves, TellsNext, behind, file_of, most_from, most_read, next_of, place_behind, read_from, read_for}
use Rattle.version_notes.specs.Reading.{all_from, all_read, notes_from}
use Rattle.version_notes.specs.Writer.{Appends, PlainWriter, after, after_all, all_appended, appended, fresh, last_appended}
use Rattle.version_notes.specs.declared.fault.NotesFault.{NotesFault}
use Rattle.version_notes.specs.declared.fault.NotesFault.TheVariants.{Damage, Folder, Memory}
use Rattle.version_notes.specs.declared.place.Place.{Place}
use Rattle.xarch_copies.specs.Extending.{Extends}
use Rattle.xarch_copies.specs.Slicing.{Gives, Skips, Pushes, Slices, Stops}
use Rattle.xarch_copies.proofs.Extending.{extends-appended, extends-none, extends-read, extends-then}
use Rattle.xarch_parts.proofs.Pushing.{gained-more, gained-none, at-once-after}

-- ---- what is read

left-least : (due : ℕ) (place : Option Place) → most_from due place ≤ all_from place
left-least due None = omega arith
left-least zero (Some p) = omega arith
left-least (suc n) (Some p) = omega arith

fewer-behind : (place : Option Place) (note : List ℕ) → all_from (option_map (λ p. place_behind p note) place) ≤ all_from place
fewer-behind None note = omega arith
fewer-behind (Some p) note = omega arith

-- what was read for a note is gone from what is left
pulled-note : (due : ℕ) (place : Option Place) (note : List ℕ) (m k : Numbers) → k ≡ after_pull m (read_from place (Some note)) → PullsAtMost (most_from due place) m k
    → PullsAtMost (all_from place - all_from (option_map (λ p. place_behind p note) place)) m k
pulled-note due None note m k is fits = PullsAtMost-more (most_from due None) _ m k (omega arith) fits
pulled-note due (Some p) note m k is fits =
    elim (cases_Bool (leb (4 + length note) (p.end - p.at))) [
      | inl within ↦ let within : 4 + length note ≤ p.end - p.at = leb-true _ _ within in PullsAtMost-of _ (4 + length note) m k (omega (arith, within)) is
      | inr over ↦
          let over : p.end - p.at < 4 + length note = leb-false _ _ over in
          let few = left-least due (Some p) in
          PullsAtMost-more (most_from due (Some p)) _ m k (omega (arith, over, few)) fits
    ]

-- ---- what is written

pub after-then : (w : PlainWriter) (notes more : List (List ℕ)) → after_all w (notes ++ more) ≡ after_all (after_all w notes) more
after-then w [] more = refl
after-then w (x ∷ xs) more = after-then (after w x) xs more

pub appended-then : (w : PlainWriter) (notes more : List (List ℕ)) → all_appended w (notes ++ more) ≡ all_appended w notes ++ all_appended (after_all w notes) more
appended-then w [] more = refl
appended-then w (x ∷ xs) more = ap (λ (l : List ℕ). appended w x ++ l) (appended-then (after w x) xs more) ∙ sym (append_assoc (appended w x) (all_appended (after w x) xs) (all_appended (after_all (after w x) xs) more))

appended-more : (w : PlainWriter) (notes : List (List ℕ)) (note : List ℕ) → all_appended w (notes ++ note ∷ []) ≡ all_appended w notes ++ appended (after_all w notes) note
appended-more w notes note = appended-then w notes (note ∷ []) ∙ ap (λ (l : List ℕ). all_appended w notes ++ l) (append-nil (appended (after_all w notes) note))

pub pushed-after : (w : PlainWriter) (notes : List (List ℕ)) → (after_all w notes).pushed ≡ w.pushed + length notes
pushed-after w [] = omega arith
pushed-after w (x ∷ xs) = (let rest = pushed-after (after w x) xs in omega (arith, rest))

-- a writer that lets the empty ones at the front wait need not have met another
pub waits-still : (w : PlainWriter) (notes : List (List ℕ)) → w ≡ after_all (fresh false) notes → w.at_once ≡ true → w.used ≡ true
waits-still w notes is once =
    let wrong : false ≡ true = sym (at-once-after (fresh false) notes) ∙ ap (λ (x : PlainWriter). x.at_once) (sym is) ∙ once in
    absurd cc

-- ---- notes that the reader gave

pub each-then : (notes more : List (List ℕ)) → AllByRecursion IsNote notes → AllByRecursion IsNote more → AllByRecursion IsNote (notes ++ more)
each-then [] more h p = p
each-then (x ∷ xs) more h p = (h.0, each-then xs more h.1 p)

map-none : (o : Option (List (List ℕ))) → o ≡ option_map (λ rest. [] ++ rest) o
map-none None = refl
map-none (Some x) = refl

map-more : (notes : List (List ℕ)) (note : List ℕ) (o : Option (List (List ℕ))) → option_map (λ rest. notes ++ rest) (option_map (λ others. note ∷ others) o) ≡ option_map (λ rest. (notes ++ note ∷ []) ++ rest) o
map-more notes note None = refl
map-more notes note (Some x) = ap (λ (l : List (List ℕ)). Some l) (sym (append_assoc notes (note ∷ []) x))

gives-none : (files : Option Files) (r : PlainReader) → Gives files r r []
gives-none files r = record { same_name = refl; due = omega arith; each = tt; fewer = omega arith; left = λ told is. map-none (notes_from r (file_of told r.name)) }

-- the file of the name with which the reader began
at-start : (files : Option Files) (start now : PlainReader) (notes : List (List ℕ)) (h : Gives files start now notes) (P : List ℕ → Type 0) (told : Files) → P (file_of told now.name) → P (file_of told start.name)
at-start files start now notes h P told all = subst (λ (name : List ℕ). P (file_of told name)) h.same_name all

-- a note is due, and a writer has room for it
pub note-due : (fs : Option Files) (start now : PlainReader) (notes : List (List ℕ)) (h : Gives fs start now notes) (n count : ℕ) → length notes ≡ n → n < count → count ≤ start.due → 0 < now.due
note-due fs start now notes h n count many more due = (let all = h.due in omega (arith, all, many, more, due))

pub note-fits : (w v : PlainWriter) (notes : List (List ℕ)) (n count : ℕ) → v ≡ after_all w notes → length notes ≡ n → n < count → w.pushed + count ≤ most → v.pushed < most
note-fits w v notes n count is many more few =
    let pushed : v.pushed ≡ w.pushed + length notes = ap (λ (x : PlainWriter). x.pushed) is ∙ pushed-after w notes in
    omega (arith, pushed, many, more, few)

-- where none comes, none is due
pub none-due : (now next : PlainReader) (o : Option (String Global)) → ((x : String Global) → o ≡ Some x → ⊥) → Moves now (Ok o) next → 0 < now.due → ⊥
none-due now next None none moved due = (let last = moved.0 in omega (arith, last, due))
none-due now next (Some x) none moved due = none x refl

-- From what is known of readers: what comes, and what comes behind that.
module _ (comes : (r : PlainReader) (file note : List ℕ) → next_of r file ≡ Some (Some note) → notes_from r file ≡ option_map (λ others. note ∷ others) (notes_from (behind r note) file)) where
  gives-note : (fs : Option Files) (start now : PlainReader) (notes : List (List ℕ)) (h : Gives fs start now notes) (note : List ℕ) (next : PlainReader) → 0 < now.due → IsNote note → next ≡ behind now note
      → ((told : Files) → fs ≡ Some told → next_of now (file_of told now.name) ≡ Some (Some note)) → Gives fs start next (notes ++ note ∷ [])
  gives-note fs start now notes h note next due is moved given =
      let fewer = fewer-behind now.place note in
      let before = h.fewer in
      let count = h.due in
      subst (λ (r : PlainReader). Gives fs start r (notes ++ note ∷ [])) (sym moved) (record {
        same_name = h.same_name;
        due = omega (arith, count, due, length-append notes (note ∷ []));
        each = each-then notes (note ∷ []) h.each (is, tt);
        fewer = omega (arith, fewer, before);
        left = λ told at.
            h.left told at
            ∙ ap (option_map (λ rest. notes ++ rest)) (comes now (file_of told start.name) note (at-start fs start now notes h (λ file. next_of now file ≡ Some (Some note)) told (given told at)))
            ∙ map-more notes note (notes_from (behind now note) (file_of told start.name));
      })

-- From what is known of readers: where nothing comes, there are no notes.
module _ (damage : (r : PlainReader) (file : List ℕ) → next_of r file ≡ None → notes_from r file ≡ None) where
  gives-damage : (fs : Option Files) (start now : PlainReader) (notes : List (List ℕ)) (h : Gives fs start now notes) (e : NotesFault) → ((told : Files) → fs ≡ Some told → IfDamage e (next_of now (file_of told now.name) ≡ None)) → (told : Files) → fs ≡ Some told → IfDamage e (notes_from start (file_of told start.name) ≡ None)
  gives-damage fs start now notes h Damage none told at =
      h.left told at ∙ ap (option_map (λ rest. notes ++ rest)) (damage now (file_of told start.name) (at-start fs start now notes h (λ file. next_of now file ≡ None) told (none told at)))
  gives-damage fs start now notes h Folder none told at = tt
  gives-damage fs start now notes h Memory none told at = tt

cause-then : (a b c : ℕ) (e : NotesFault) → a ≤ b → b ≤ c → IfFolder e (Rose b c) → IfFolder e (Rose a c)
cause-then a b c Damage first second h = tt
cause-then a b c Folder first second h = Rose-later a b c c first h (omega arith)
cause-then a b c Memory first second h = tt

module _ {S : Type 0} {files : S → Option Files} {draft : S → Option (List ℕ)} {numbers : S → Numbers} {faults : S → ℕ} where
  pub skips-none : (s : S) (r : PlainReader) → IsMeter (numbers s) → Skips files draft numbers faults s s r r 0
  skips-none s r is = record { notes = []; many = refl; gives = gives-none (files s) r; extends = extends-none _ s is; same_draft = refl }

  pub pushes-none : (s : S) (r : PlainReader) (w : PlainWriter) → IsMeter (numbers s) → Pushes files draft numbers faults s s r r w w 0
  pushes-none s r w is = record { notes = []; many = refl; gives = gives-none (files s) r; extends = extends-none _ s is; writer = refl; gains = gained-none (draft s) }

  -- ---- one more

  -- it was read
  extends-note : (old mid new : S) (start now next : PlainReader) (notes : List (List ℕ)) (note : List ℕ) → Gives (files old) start now notes → Extends files draft numbers faults (all_read start - all_read now) old mid → next ≡ behind now note
      → Extends files draft numbers faults (all_read now - all_read (behind now note)) mid new → Extends files draft numbers faults (all_read start - all_read next) old new
  extends-note old mid new start now next notes note h first moved last =
      let fewer = fewer-behind now.place note in
      let within = h.fewer in
      subst (λ (r : PlainReader). Extends files draft numbers faults (all_read start - all_read r) old new) (sym moved)
      (extends-then (all_read start - all_read now) (all_read now - all_read (behind now note)) (all_read start - all_read (behind now note)) old mid new (omega (arith, fewer, within)) first last)

  reads-note : (mid new : S) (now : PlainReader) (note : List ℕ) → files new ≡ files mid → draft new ≡ draft mid → faults mid ≤ faults new → numbers new ≡ after_pull (numbers mid) (read_for now (Some note)) → PullsAtMost (most_read now) (numbers mid) (numbers new)
      → Extends files draft numbers faults (all_read now - all_read (behind now note)) mid new
  reads-note mid new now note same_files same_draft later exact fits = extends-read _ mid new same_files same_draft (pulled-note now.due now.place note (numbers mid) (numbers new) exact fits) later

  -- by what comes
  module _ (comes : (r : PlainReader) (file note : List ℕ) → next_of r file ≡ Some (Some note) → notes_from r file ≡ option_map (λ others. note ∷ others) (notes_from (behind r note) file)) where
    pub skips-next : (old mid new : S) (start now : PlainReader) (count : ℕ) (h : Skips files draft numbers faults old mid start now count) (o : Option (String Global)) (next : PlainReader) → 0 < now.due → Moves now (Ok o) next
        → ((told : Files) → files mid ≡ Some told → TellsNext (Ok o) (next_of now (file_of told now.name)))
        → files new ≡ files mid → draft new ≡ draft mid → faults mid ≤ faults new → numbers new ≡ after_pull (numbers mid) (read_for now (option_map string_bytes o)) → PullsAtMost (most_read now) (numbers mid) (numbers new)
        → Skips files draft numbers faults old new start next (count + 1)
    skips-next old mid new start now count h None next due moved given same_files same_draft later exact fits = (let none = moved.0 in absurd (omega (arith, due, none)))
    skips-next old mid new start now count h (Some s) next due moved given same_files same_draft later exact fits =
        let note = string_bytes s in
        let many = h.many in
        record {
          notes = h.notes ++ note ∷ [];
          many = omega (arith, many, length-append h.notes (note ∷ []));
          gives = gives-note comes (files old) start now h.notes h.gives note next due moved.1 moved.2 (λ told at. given told (h.extends.same_files ∙ at));
          extends = extends-note old mid new start now next h.notes note h.gives h.extends moved.2 (reads-note mid new now note same_files same_draft later exact fits);
          same_draft = same_draft ∙ h.same_draft;
        }

    module _ (old mid read new : S) (start now : PlainReader) (w v : PlainWriter) (count : ℕ) (h : Pushes files draft numbers faults old mid start now w v count) where
      pushes-note : {T E : Type 0} (note : List ℕ) (next : PlainReader) (x : PlainWriter) (u : T) → 0 < now.due → IsNote note → next ≡ behind now note
          → ((told : Files) → files mid ≡ Some told → next_of now (file_of told now.name) ≡ Some (Some note))
          → files read ≡ files mid → draft read ≡ draft mid → faults mid ≤ faults read → numbers read ≡ after_pull (numbers mid) (read_for now (Some note)) → PullsAtMost (most_read now) (numbers mid) (numbers read)
          → IsMeter (numbers read) → Appends {E = E} files draft numbers faults read new (appended v note) (Ok u) → x ≡ after v note
          → Pushes files draft numbers faults old new start next w x (count + 1)
      pushes-note note next x u due is moved given same_files same_draft later exact fits meter p writer =
          let many = h.many in
          let both = extends-then (all_read now - all_read (behind now note)) 0 (all_read now - all_read (behind now note)) mid read new (omega arith) (reads-note mid read now note same_files same_draft later exact fits) (extends-appended read new (appended v note) (Ok u) meter p) in
          record {
            notes = h.notes ++ note ∷ [];
            many = omega (arith, many, length-append h.notes (note ∷ []));
            gives = gives-note comes (files old) start now h.notes h.gives note next due is moved (λ told at. given told (h.extends.same_files ∙ at));
            extends = extends-note old mid new start now next h.notes note h.gives h.extends moved both;
            writer = writer ∙ ap (λ (x : PlainWriter). after x note) h.writer ∙ sym (after-then w h.notes (note ∷ []));
            gains = gained-more (draft old) (draft read) (draft new) _ _ (same_draft ∙ h.gains) p.gains.draft
                ∙ ap (λ (l : List ℕ). option_map (λ d. d ++ l) (draft old)) (ap (λ (x : PlainWriter). all_appended w h.notes ++ appended x note) h.writer ∙ sym (appended-more w h.notes note));
          }

      -- as the reader gives it
      pub pushes-next : {T E : Type 0} (o : Option (String Global)) (note : String Global) (text : List ℕ) (next : PlainReader) (x : PlainWriter) (u : T) → o ≡ Some note → text ≡ string_bytes note → Moves now (Ok o) next
          → ((told : Files) → files mid ≡ Some told → TellsNext (Ok o) (next_of now (file_of told now.name)))
          → files read ≡ files mid → draft read ≡ draft mid → faults mid ≤ faults read → numbers read ≡ after_pull (numbers mid) (read_for now (option_map string_bytes o)) → PullsAtMost (most_read now) (numbers mid) (numbers read)
          → IsMeter (numbers read) → Appends {E = E} files draft numbers faults read new (appended v text) (Ok u) → x ≡ after v text
          → Pushes files draft numbers faults old new start next w x (count + 1)
      pushes-next None note text next x u e same moved given same_files same_draft later exact fits meter p writer = absurd cc
      pushes-next {T = T} {E = E} (Some s) note text next x u e same moved given same_files same_draft later exact fits meter p writer =
          let is : s ≡ note = cc in
          let all : text ≡ string_bytes s = same ∙ ap string_bytes (sym is) in
          pushes-note {T = T} {E = E} (string_bytes s) next x u moved.0 moved.1 moved.2 given same_files same_draft later exact fits meter
          (subst (λ (l : List ℕ). Appends {E = E} files draft numbers faults read new (appended v l) (Ok u)) all p) (writer ∙ ap (after v) all)

  -- ---- it was stopped

  module _ (damage : (r : PlainReader) (file : List ℕ) → next_of r file ≡ None → notes_from r file ≡ None) where
    -- by a note that was not read
    pub stops-unread : (old mid new : S) (start now : PlainReader) (notes : List (List ℕ)) (e : NotesFault) → Gives (files old) start now notes → Extends files draft numbers faults (all_read start - all_read now) old mid
        → ((told : Files) → files mid ≡ Some told → IfDamage e (next_of now (file_of told now.name) ≡ None))
        → files new ≡ files mid → draft new ≡ draft mid → faults mid ≤ faults new → IfFolder e (Rose (faults mid) (faults new)) → PullsAtMost (most_read now) (numbers mid) (numbers new) → Stops files draft numbers faults old new start e
    stops-unread old mid new start now notes e h first none same_files same_draft later cause fits =
        let fewer = h.fewer in
        let few = left-least now.due now.place in
        record {
          told = gives-damage damage (files old) start now notes h e (λ told at. none told (first.same_files ∙ at));
          extends = extends-then (all_read start - all_read now) (most_read now) (all_read start) old mid new (omega (arith, fewer, few)) first (extends-read (most_read now) mid new same_files same_draft fits later);
          cause = cause-then (faults old) (faults mid) (faults new) e first.later later cause;
        }

  -- by what was not written
  stops-unwritten : {T E : Type 0} (old read new : S) (start : PlainReader) (bytes : List ℕ) (e : E) → Extends files draft numbers faults (all_read start) old read → IsMeter (numbers read) → Appends {T = T} files draft numbers faults read new bytes (Err e) → Stops files draft numbers faults old new start Folder
  stops-unwritten old read new start bytes e first meter p = record {
    told = λ told at. tt;
    extends = extends-then (all_read start) 0 (all_read start) old read new (omega arith) first (extends-appended read new bytes (Err e) meter p);
    cause = Rose-later (faults old) (faults read) (faults new) (faults new) first.later p.cause.failed (omega arith);
  }

  -- the push of a note that was read
  pub stops-unpushed : {T E : Type 0} (old mid read new : S) (start now : PlainReader) (notes : List (List ℕ)) (bytes : List ℕ) (e : E) → Gives (files old) start now notes → Extends files draft numbers faults (all_read start - all_read now) old mid
      → files read ≡ files mid → draft read ≡ draft mid → faults mid ≤ faults read → PullsAtMost (most_read now) (numbers mid) (numbers read) → IsMeter (numbers read) → Appends {T = T} files draft numbers faults read new bytes (Err e) → Stops files draft numbers faults old new start Folder
  stops-unpushed {T = T} {E = E} old mid read new start now notes bytes e h first same_files same_draft later fits meter p =
      let fewer = h.fewer in
      let few = left-least now.due now.place in
      stops-unwritten {T = T} {E = E} old read new start bytes e (extends-then (all_read start - all_read now) (most_read now) (all_read start) old mid read (omega (arith, fewer, few)) first (extends-read (most_read now) mid read same_files same_draft fits later)) meter p

  -- ---- some were skipped, and others pushed behind them

  module _ (old mid : S) (start now : PlainReader) (before : ℕ) (s : Skips files draft numbers faults old mid start now before) where
    none-left : (e : NotesFault) (told : Files) → files old ≡ Some told → IfDamage e (notes_from now (file_of told now.name) ≡ None) → IfDamage e (notes_from start (file_of told start.name) ≡ None)
    none-left Damage told at none =
        s.gives.left told at ∙ ap (option_map (λ rest. s.notes ++ rest)) (at-start (files old) start now s.notes s.gives (λ file. notes_from now file ≡ None) told none)
    none-left Folder told at none = tt
    none-left Memory told at none = tt

    pub stops-behind : (new : S) (e : NotesFault) → Stops files draft numbers faults mid new now e → Stops files draft numbers faults old new start e
    stops-behind new e p =
        let fewer = s.gives.fewer in
        record {
          told = λ told at. none-left e told at (p.told told (s.extends.same_files ∙ at));
          extends = extends-then (all_read start - all_read now) (all_read now) (all_read start) old mid new (omega (arith, fewer)) s.extends p.extends;
          cause = cause-then (faults old) (faults mid) (faults new) e s.extends.later p.extends.later p.cause;
        }

    module _ (end : S) (next : PlainReader) (w : PlainWriter) (count : ℕ) (p : Pushes files draft numbers faults mid end now next (fresh false) w count) where
      both-extend : Extends files draft numbers faults (all_read start) old end
      both-extend =
          let fewer = s.gives.fewer in
          extends-then (all_read start - all_read now) (all_read now - all_read next) (all_read start) old mid end (omega (arith, fewer)) s.extends p.extends

      -- they are not closed
      pub stops-unclosed : {T E : Type 0} (new : S) (bytes : List ℕ) (e : E) → IsMeter (numbers end) → Appends {T = T} files draft numbers faults end new bytes (Err e) → Stops files draft numbers faults old new start Folder
      stops-unclosed {T = T} {E = E} new bytes e meter a = stops-unwritten {T = T} {E = E} old end new start bytes e both-extend meter a

      between : (a b rest all : List (List ℕ)) → length a ≡ before → length b ≡ count → a ++ (b ++ rest) ≡ all → b ≡ take count (drop before all)
      between a b rest all first second is =
          sym ((λ i. take (sym second i) (drop (sym first i) (sym is i))) ∙ ap (take (length b)) (drop-append_seam a (b ++ rest)) ∙ take-append_seam b rest)

      given-by : (o : Option (List (List ℕ))) (all : List (List ℕ)) → option_map (λ rest. s.notes ++ rest) (option_map (λ rest. p.notes ++ rest) o) ≡ Some all → p.notes ≡ take count (drop before all)
      given-by None all e = absurd cc
      given-by (Some rest) all e = (let is : s.notes ++ (p.notes ++ rest) ≡ all = cc in between s.notes p.notes rest all s.many p.many is)

      pub slices : {T E : Type 0} (new : S) (u : T) → IsMeter (numbers end)
          → ((at_once : Bool) (notes : List (List ℕ)) → (at_once ≡ true → are_empty notes ≡ false) → all_appended (fresh at_once) notes ++ last_appended (after_all (fresh at_once) notes) ≡ notes_part notes)
          → Appends {E = E} files draft numbers faults end new (last_appended w) (Ok u) → Slices files draft numbers faults old new start before count
      slices new u meter part a =
          let whole : all_appended (fresh false) p.notes ++ last_appended w ≡ notes_part p.notes =
          ap (λ (x : PlainWriter). all_appended (fresh false) p.notes ++ last_appended x) p.writer ∙ part false p.notes (λ once. absurd cc) in
          record {
            notes = p.notes;
            many = p.many;
            each = p.gives.each;
            given = λ told all at is.
                let now_left = p.gives.left told (s.extends.same_files ∙ at) in
                let here = at-start (files old) start now s.notes s.gives (λ file. notes_from now file ≡ option_map (λ rest. p.notes ++ rest) (notes_from next file)) told now_left in
                given-by (notes_from next (file_of told start.name)) all (ap (option_map (λ rest. s.notes ++ rest)) (sym here) ∙ sym (s.gives.left told at) ∙ is);
            extends = extends-then (all_read start) 0 (all_read start) old end new (omega arith) both-extend (extends-appended end new (last_appended w) (Ok u) meter a);
            gains = gained-more (draft old) (draft end) (draft new) _ _ (p.gains ∙ ap (option_map (λ d. d ++ all_appended (fresh false) p.notes)) s.same_draft) a.gains.draft
                ∙ ap (λ (l : List ℕ). option_map (λ d. d ++ l) (draft old)) whole;
          }
