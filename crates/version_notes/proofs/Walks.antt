-- Notes that are read one after another, to the end.
use Rattle.std.proofs.Common.{◌≡◌, ℕ, zero, suc, ◌+◌, ◌-◌, ◌<◌, ◌≤◌, ◌==◌, ◌||◌, ◌&&◌, not, Bool, true, false, if◌then◌else◌, IfSome, leb, List, [], ◌∷◌, ◌++◌, length, Option, Some, None, Result, Ok, Err, refl, sym, ap, subst, ◌∙◌, append-nil, append_assoc, length-append, arith, inl, inr}
use Rattle.std.specs.Prelude.{option_map, String, string_bytes}
use Rattle.std.specs.Global.{Global}
use Rattle.std.specs.List.{AllByRecursion}
use Rattle.std.specs.Result.{IfOk, IsErrAnd}
use Rattle.std.proofs.lemmas.Bool.{cases_Bool, leb-true, leb-false}
use Rattle.xa_outside.specs.Causes.{Rose}
use Rattle.xa_outside.specs.Folder.{Files}
use Rattle.xa_outside.specs.Numbers.{Numbers, IsMeter, PullsAtMost, after_pull}
use Rattle.xa_outside.specs.NumberLaws.{PullsAtMost-none, PullsAtMost-of, PullsAtMost-more, PullsAtMost-trans}
use Rattle.xa_fields.proofs.Fields.{some_is}
use Rattle.version_notes.specs.Faults.{IfDamage, IfFolder}
use Rattle.version_notes.specs.Notes.{IsNote, are_empty}
use Rattle.version_notes.specs.Reader.{PlainReader, IsNext, IsSettled, IsSettledFrom, Moves, behind, file_of, most_from, most_read, next_from, next_of, place_behind, read_from, read_for}
use Rattle.version_notes.specs.Reading.{all_from, all_read, notes_from}
use Rattle.version_notes.specs.declared.fault.NotesFault.{NotesFault}
use Rattle.version_notes.specs.declared.fault.NotesFault.TheVariants.{Damage, Folder, Memory}
use Rattle.version_notes.specs.declared.place.Place.{Place}
use Rattle.version_notes.proofs.Written.{used_more}
use Rattle.version_notes.proofs.Left.{one_note, no_more, no_note}

-- ---- what is read

pub most-all : (due : ℕ) (place : Option Place) → most_from due place ≤ all_from place
most-all due None = omega arith
most-all zero (Some p) = omega arith
most-all (suc n) (Some p) = omega arith

pub most-one : (due : ℕ) (place : Option Place) → most_from due place ≤ 1028
most-one due None = omega arith
most-one zero (Some p) = omega arith
most-one (suc n) (Some p) = omega arith

pub behind-fewer : (place : Option Place) (note : List ℕ) → all_from (option_map (λ p. place_behind p note) place) ≤ all_from place
behind-fewer None note = omega arith
behind-fewer (Some p) note = omega arith

-- what was read for a note is gone from what is left
pub pulled-note : (due : ℕ) (place : Option Place) (note : List ℕ) (m k : Numbers) → k ≡ after_pull m (read_from place (Some note)) → PullsAtMost (most_from due place) m k
    → PullsAtMost (all_from place - all_from (option_map (λ p. place_behind p note) place)) m k
pulled-note due None note m k is most = PullsAtMost-more (most_from due None) _ m k (omega arith) most
pulled-note due (Some p) note m k is most =
    elim (cases_Bool (leb (4 + length note) (p.end - p.at))) [
      | inl fits ↦ let fits : 4 + length note ≤ p.end - p.at = leb-true _ _ fits in PullsAtMost-of _ (4 + length note) m k (omega (arith, fits)) is
      | inr over ↦
          let over : p.end - p.at < 4 + length note = leb-false _ _ over in
          let few = most-all due (Some p) in
          PullsAtMost-more (most_from due (Some p)) _ m k (omega (arith, over, few)) most
    ]

-- ---- some notes were given

-- behind some notes
pub past : Place → List (List ℕ) → Place
past p [] = p
past p (note ∷ notes) = past (place_behind p note) notes

past-more : (p : Place) (done : List (List ℕ)) (note : List ℕ) → past p (done ++ note ∷ []) ≡ place_behind (past p done) note
unfolding past
past-more p [] note = refl
past-more p (x ∷ xs) note = past-more (place_behind p x) xs note

past-used : (p : Place) (done : List (List ℕ)) → (past p done).used ≡ (p.used || not (are_empty done))
unfolding past
past-used p [] = or-none p.used
  where
    or-none : (u : Bool) → u ≡ (u || not true)
    or-none true = refl
    or-none false = refl
past-used p (x ∷ xs) = past-used (place_behind p x) xs ∙ used_more p.used (length x == 0) (are_empty xs)

past-none : (o : Option Place) → o ≡ option_map (λ p. past p []) o
unfolding past
past-none None = refl
past-none (Some p) = refl

past-next : (o : Option Place) (done : List (List ℕ)) (note : List ℕ) → option_map (λ p. place_behind p note) (option_map (λ p. past p done) o) ≡ option_map (λ p. past p (done ++ note ∷ [])) o
past-next None done note = refl
past-next (Some p) done note = ap Some (sym (past-more p done note))

used-by : (a u : Bool) → ◌≡◌ {A = Option (Option (List ℕ))} (if a && u then Some None else None) (Some None) → u ≡ true
used-by true true e = refl
used-by true false e = absurd cc
used-by false u e = absurd cc

-- where none comes any more, and there is a place, some note was not empty
settled-used : (due : ℕ) (place : Option Place) (q : Place) (o : Option (String Global)) → o ≡ None → due ≡ 0 → place ≡ Some q → (IsSettledFrom due place → (file : List ℕ) → IsNext (Ok o) (next_from due place file)) → q.used ≡ true
settled-used due place q o none last there next =
    let here : IsSettledFrom due place = subst (λ (n : ℕ). IsSettledFrom n place) (sym last) (subst (IsSettledFrom 0) (sym there) tt) in
    let comes : next_from due place [] ≡ Some (option_map string_bytes o) = next here [] in
    let first : next_from 0 (Some q) [] ≡ next_from due place [] = (λ i. next_from (sym last i) (sym there i) []) in
    used-by (q.at == q.end) q.used (first ∙ comes ∙ ap (λ (x : Option (String Global)). Some (option_map string_bytes x)) none)

past-some : (start : Option Place) (due : ℕ) (place : Option Place) (done : List (List ℕ)) (o : Option (String Global)) → place ≡ option_map (λ p. past p done) start → o ≡ None → due ≡ 0
    → (IsSettledFrom due place → (file : List ℕ) → IsNext (Ok o) (next_from due place file)) → IfSome start (λ p. (p.used || not (are_empty done)) ≡ true)
past-some None due place done o there none last next = tt
past-some (Some p) due place done o there none last next = sym (past-used p done) ∙ settled-used due place (past p done) o none last there next

-- The reader gave these notes, one after another.
pub record Gives (files : Option Files) (start now : PlainReader) (done : List (List ℕ)) : Type 0 where
  pub same_name : now.name ≡ start.name
  pub count : start.due ≡ length done + now.due
  pub each : AllByRecursion IsNote done
  pub fewer : all_read now ≤ all_read start
  pub place : now.place ≡ option_map (λ p. past p done) start.place
  pub left : (told : Files) → files ≡ Some told → notes_from start (file_of told start.name) ≡ option_map (λ rest. done ++ rest) (notes_from now (file_of told start.name))

-- the note that comes next in the file, where files are told
abbrev pub IsGiven : Option Files → PlainReader → Option (Option (List ℕ)) → Type 0
IsGiven files r next = (told : Files) → files ≡ Some told → next_of r (file_of told r.name) ≡ next

map_none : (o : Option (List (List ℕ))) → o ≡ option_map (λ rest. [] ++ rest) o
map_none None = refl
map_none (Some x) = refl

map_more : (done : List (List ℕ)) (note : List ℕ) (o : Option (List (List ℕ))) → option_map (λ rest. done ++ rest) (option_map (λ others. note ∷ others) o) ≡ option_map (λ rest. (done ++ note ∷ []) ++ rest) o
map_more done note None = refl
map_more done note (Some x) = ap Some (sym (append_assoc done (note ∷ []) x))

each_more : (P : List ℕ → Type 0) (done : List (List ℕ)) (note : List ℕ) → AllByRecursion P done → P note → AllByRecursion P (done ++ note ∷ [])
each_more P [] note h p = (p, tt)
each_more P (x ∷ xs) note h p = (h.0, each_more P xs note h.1 p)

pub gives-none : (files : Option Files) (r : PlainReader) → Gives files r r []
gives-none files r = record { same_name = refl; count = omega arith; each = tt; fewer = omega arith; place = past-none r.place; left = λ told is. map_none (notes_from r (file_of told r.name)) }

module _ (files : Option Files) (start now : PlainReader) (done : List (List ℕ)) (h : Gives files start now done) where
  given-there : (next : Option (Option (List ℕ))) → IsGiven files now next → (told : Files) → files ≡ Some told → next_of now (file_of told start.name) ≡ next
  given-there next given told is = subst (λ (name : List ℕ). next_of now (file_of told name) ≡ next) h.same_name (given told is)

  pub gives-note : (note : List ℕ) (next : PlainReader) → 0 < now.due → IsNote note → next ≡ behind now note → IsGiven files now (Some (Some note)) → Gives files start next (done ++ note ∷ [])
  gives-note note next due is moved given =
      let fewer = behind-fewer now.place note in
      let before = h.fewer in
      let count = h.count in
      subst (λ (r : PlainReader). Gives files start r (done ++ note ∷ [])) (sym moved) (record {
        same_name = h.same_name;
        count = omega (arith, count, due, length-append done (note ∷ []));
        each = each_more IsNote done note h.each is;
        fewer = omega (arith, fewer, before);
        place = ap (option_map (λ p. place_behind p note)) h.place ∙ past-next start.place done note;
        left = λ told at. (
            let file = file_of told start.name in
            h.left told at ∙ ap (option_map (λ rest. done ++ rest)) (one_note now file note (given-there (Some (Some note)) given told at)) ∙ map_more done note (notes_from (behind now note) file));
      })

  -- these are all
  pub gives-all : IsGiven files now (Some None) → (told : Files) → files ≡ Some told → notes_from start (file_of told start.name) ≡ Some done
  gives-all given told at =
      h.left told at ∙ ap (option_map (λ rest. done ++ rest)) (no_more now (file_of told start.name) (given-there (Some None) given told at)) ∙ ap Some (append-nil done)

  pub gives-some : (o : Option (String Global)) → o ≡ None → now.due ≡ 0 → (IsSettled now → (file : List ℕ) → IsNext (Ok o) (next_of now file)) → IfSome start.place (λ p. (p.used || not (are_empty done)) ≡ true)
  gives-some o none last next = past-some start.place now.due now.place done o h.place none last next

  pub gives-count : now.due ≡ 0 → length done ≡ start.due
  gives-count last = (let count = h.count in omega (arith, count, last))

  -- where none comes, there were none
  pub gives-damage : (e : NotesFault) → ((told : Files) → files ≡ Some told → IfDamage e (next_of now (file_of told now.name) ≡ None)) → (told : Files) → files ≡ Some told → IfDamage e (notes_from start (file_of told start.name) ≡ None)
  gives-damage Damage none told at =
      h.left told at ∙ ap (option_map (λ rest. done ++ rest)) (no_note now (file_of told start.name) (given-there None none told at))
  gives-damage Folder none told at = tt
  gives-damage Memory none told at = tt

-- where what was given is no note, none was due any more
pub no-note : (now next : PlainReader) (o : Option (String Global)) → ((x : String Global) → o ≡ Some x → ⊥) → Moves now (Ok o) next → (o ≡ None) × (now.due ≡ 0)
no-note now next None none moved = (refl, moved.0)
no-note now next (Some x) none moved = absurd (none x refl)

-- a note was due
pub note-due : (now next : PlainReader) (o : Option (String Global)) (note : String Global) → o ≡ Some note → Moves now (Ok o) next → 0 < now.due
note-due now next None note is moved = absurd cc
note-due now next (Some x) note is moved = moved.0

-- ---- over a folder that is only read

pub cause-then : (a b c : ℕ) (e : NotesFault) → a ≤ b → b ≤ c → IfFolder e (Rose b c) → IfFolder e (Rose a c)
cause-then a b c Damage first second h = tt
cause-then a b c Folder first second h = omega (arith, first, second, h)
cause-then a b c Memory first second h = tt

-- the reader gave these notes, and nothing else changed
pub record Walked {S : Type 0} (files : S → Option Files) (draft : S → Option (List ℕ)) (numbers : S → Numbers) (faults : S → ℕ) (old new : S) (start now : PlainReader) (done : List (List ℕ)) : Type 0 where
  pub gives : Gives (files old) start now done
  pub same_files : files new ≡ files old
  pub same_draft : draft new ≡ draft old
  pub later : faults old ≤ faults new
  pub pulls : PullsAtMost (all_read start - all_read now) (numbers old) (numbers new)

pub at-err : {T : Type 0} (r : Result T NotesFault) (e : NotesFault) → IsErrAnd r (λ d. d ≡ e) → (P : Result T NotesFault → Type 0) → P (Err e) → P r
at-err (Ok x) e h P p = absurd h
at-err (Err d) e h P p = subst (λ (z : NotesFault). P (Err z)) (sym h) p

-- what is said of what was read, where nothing was
pub of-none : {T : Type 0} (r : Result T NotesFault) (e : NotesFault) → IsErrAnd r (λ d. d ≡ e) → (P : T → Type 0) → IfOk r P
of-none (Ok x) e h P = absurd h
of-none (Err d) e h P = tt

-- what is said of a place, if there is one
pub of-place : (place : Option Place) (P : Place → Type 0) → ((p : Place) → P p) → IfSome place P
of-place None P h = tt
of-place (Some p) P h = h p

module _ {S : Type 0} (files : S → Option Files) (draft : S → Option (List ℕ)) (numbers : S → Numbers) (faults : S → ℕ) where
  pub walked-none : (s : S) (r : PlainReader) → IsMeter (numbers s) → Walked files draft numbers faults s s r r []
  walked-none s r is = record { gives = gives-none (files s) r; same_files = refl; same_draft = refl; later = omega arith; pulls = PullsAtMost-none _ (numbers s) is }

  module _ (old mid new : S) (start now : PlainReader) (done : List (List ℕ)) (h : Walked files draft numbers faults old mid start now done) where
    given-old : (next : Option (Option (List ℕ))) → IsGiven (files mid) now next → IsGiven (files old) now next
    given-old next given = λ told is. given told (h.same_files ∙ is)

    pub walked-note : (note : List ℕ) (next : PlainReader) → 0 < now.due → IsNote note → next ≡ behind now note → IsGiven (files mid) now (Some (Some note))
        → files new ≡ files mid → draft new ≡ draft mid → faults mid ≤ faults new → numbers new ≡ after_pull (numbers mid) (read_for now (Some note)) → PullsAtMost (most_read now) (numbers mid) (numbers new)
        → Walked files draft numbers faults old new start next (done ++ note ∷ [])
    walked-note note next due is moved given same_files same_draft later read most =
        let fewer = h.gives.fewer in
        let behind_fewer = behind-fewer now.place note in
        let pulls = pulled-note now.due now.place note (numbers mid) (numbers new) read most in
        let all = PullsAtMost-trans (all_read start - all_read now) _ (numbers old) (numbers mid) (numbers new) h.pulls pulls in
        let before = h.later in
        record {
          gives = gives-note (files old) start now done h.gives note next due is moved (given-old (Some (Some note)) given);
          same_files = same_files ∙ h.same_files;
          same_draft = same_draft ∙ h.same_draft;
          later = omega (arith, before, later);
          pulls = subst (λ (r : PlainReader). PullsAtMost (all_read start - all_read r) (numbers old) (numbers new)) (sym moved)
              (PullsAtMost-more _ (all_read start - all_read (behind now note)) (numbers old) (numbers new) (omega (arith, fewer, behind_fewer)) all);
        }

    pub walked-pulls : PullsAtMost (most_read now) (numbers mid) (numbers new) → PullsAtMost (all_read start) (numbers old) (numbers new)
    walked-pulls most =
        let fewer = h.gives.fewer in
        let few = most-all now.due now.place in
        PullsAtMost-more _ (all_read start) (numbers old) (numbers new) (omega (arith, fewer, few)) (PullsAtMost-trans (all_read start - all_read now) (most_read now) (numbers old) (numbers mid) (numbers new) h.pulls most)

    pub walked-later : faults mid ≤ faults new → faults old ≤ faults new
    walked-later later = (let before = h.later in omega (arith, before, later))

    pub walked-damage : (e : NotesFault) → ((told : Files) → files mid ≡ Some told → IfDamage e (next_of now (file_of told now.name) ≡ None)) → (told : Files) → files old ≡ Some told → IfDamage e (notes_from start (file_of told start.name) ≡ None)
    walked-damage e none = gives-damage (files old) start now done h.gives e (λ told is. none told (h.same_files ∙ is))

    pub walked-all : IsGiven (files mid) now (Some None) → (told : Files) → files old ≡ Some told → notes_from start (file_of told start.name) ≡ Some done
    walked-all given = gives-all (files old) start now done h.gives (given-old (Some None) given)

    -- a note, as the reader gives it
    pub walked-next : (o : Option (String Global)) (note : String Global) (next : PlainReader) → o ≡ Some note → Moves now (Ok o) next → IsGiven (files mid) now (Some (option_map string_bytes o))
        → files new ≡ files mid → draft new ≡ draft mid → faults mid ≤ faults new → numbers new ≡ after_pull (numbers mid) (read_for now (option_map string_bytes o)) → PullsAtMost (most_read now) (numbers mid) (numbers new)
        → Walked files draft numbers faults old new start next (done ++ string_bytes note ∷ [])
    walked-next None note next e moved given same_files same_draft later read most = absurd cc
    walked-next (Some x) note next e moved given same_files same_draft later read most =
        subst (λ (x : String Global). Walked files draft numbers faults old new start next (done ++ string_bytes x ∷ [])) (some_is x note e)
        (walked-note (string_bytes x) next moved.0 moved.1 moved.2 given same_files same_draft later read most)

    pub walked-some : (o : Option (String Global)) → o ≡ None → now.due ≡ 0 → (IsSettled now → (file : List ℕ) → IsNext (Ok o) (next_of now file)) → IfSome start.place (λ p. (p.used || not (are_empty done)) ≡ true)
    walked-some o none last next = gives-some (files old) start now done h.gives o none last next

    -- no note
    pub walked-last : (o : Option (String Global)) → o ≡ None → IsGiven (files mid) now (Some (option_map string_bytes o)) → (told : Files) → files old ≡ Some told → notes_from start (file_of told start.name) ≡ Some done
    walked-last o e given = walked-all (λ told is. given told is ∙ ap (λ (o : Option (String Global)). Some (option_map string_bytes o)) e)
