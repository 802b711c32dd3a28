-- Notes that are copied one after another, to the end.
use Rattle.std.proofs.Common.{◌≡◌, ℕ, ◌+◌, ◌-◌, ◌<◌, ◌≤◌, ◌==◌, not, ◌&&◌, Bool, true, false, List, [], ◌∷◌, ◌++◌, length, take, Option, Some, None, Ok, refl, sym, ap, subst, ◌∙◌, append-nil, append_assoc, length-append, arith, inl, inr}
use Rattle.std.specs.Prelude.{option_map, max, String, string_bytes}
use Rattle.std.specs.Global.{Global}
use Rattle.xa_fields.proofs.Fields.{some_is}
use Rattle.xa_fields.specs.Spelling.{text_bytes}
use Rattle.xa_outside.specs.Folder.{Files, Drafts, DraftsPrefix, Lengthens}
use Rattle.xa_outside.specs.Numbers.{Numbers, IsMeter, PullsAtMost, PullsAndDrafts, after_draft, after_pull, lead}
use Rattle.xa_outside.specs.NumberLaws.{PullsAndDrafts-none, PullsAndDrafts-of_pulls, PullsAndDrafts-of_draft, PullsAndDrafts-more, PullsAndDrafts-trans}
use Rattle.version_notes.specs.Faults.{IfDamage}
use Rattle.version_notes.specs.Notes.{IsNote, most}
use Rattle.version_notes.specs.Reader.{PlainReader, IsNext, IsSettled, Moves, behind, file_of, most_read, next_of, place_behind, read_from, read_for}
use Rattle.version_notes.specs.Reading.{all_read, notes_from}
use Rattle.version_notes.specs.Walk.{Copies, IsPrompt}
use Rattle.version_notes.specs.Writer.{PlainWriter, after, after_all, all_appended, appended, empty_texts, waits}
use Rattle.version_notes.specs.declared.fault.NotesFault.{NotesFault}
use Rattle.version_notes.specs.declared.place.Place.{Place}
use Rattle.version_notes.proofs.Walks.{Gives, IsGiven, gives-all, gives-count, gives-damage, gives-none, gives-note, gives-some, behind-fewer, most-all, most-one, pulled-note}
use Rattle.version_notes.proofs.Written.{pushed_after}

-- ---- what is written

after-more : (w : PlainWriter) (done : List (List ℕ)) (note : List ℕ) → after_all w (done ++ note ∷ []) ≡ after (after_all w done) note
after-more w [] note = refl
after-more w (x ∷ xs) note = after-more (after w x) xs note

appended-more : (w : PlainWriter) (done : List (List ℕ)) (note : List ℕ) → all_appended w (done ++ note ∷ []) ≡ all_appended w done ++ appended (after_all w done) note
appended-more w [] note = append-nil (appended w note)
appended-more w (x ∷ xs) note = ap (λ (l : List ℕ). appended w x ++ l) (appended-more (after w x) xs note) ∙ sym (append_assoc (appended w x) (all_appended (after w x) xs) (appended (after_all (after w x) xs) note))

gained-none : (d : Option (List ℕ)) → d ≡ option_map (λ x. x ++ []) d
gained-none None = refl
gained-none (Some x) = ap Some (sym (append-nil x))

gained-more : (a b c : Option (List ℕ)) (x y : List ℕ) → b ≡ option_map (λ d. d ++ x) a → c ≡ option_map (λ d. d ++ y) b → c ≡ option_map (λ d. d ++ (x ++ y)) a
gained-more a b c x y first second = second ∙ ap (option_map (λ d. d ++ y)) first ∙ twice a where
  twice : (d : Option (List ℕ)) → option_map (λ l. l ++ y) (option_map (λ l. l ++ x) d) ≡ option_map (λ l. l ++ (x ++ y)) d
  twice None = refl
  twice (Some d) = ap Some (append_assoc d x y)

-- ---- how far what was read is ahead

prompt-read : (x y : Numbers) (m : ℕ) → m ≤ 1028 → PullsAtMost m x y → y.gap ≤ max x.gap (lead x + 1028)
prompt-read x y m small pulls =
    let few = pulls.within in
    let gap = ap (λ (m : Numbers). m.gap) pulls.pulled in
    omega (arith, few, gap, small)

prompt-more : (o x y : Numbers) → x.gap ≤ max o.gap (lead o + 1028) → lead x ≤ lead o → y.gap ≤ max x.gap (lead x + 1028) → y.gap ≤ max o.gap (lead o + 1028)
prompt-more o x y first ahead second = omega (arith, first, ahead, second)

written-same : (y z : Numbers) (n b : ℕ) → z ≡ after_draft y n → y.gap ≤ b → z.gap ≤ b
written-same y z n b is small = (let gap = ap (λ (m : Numbers). m.gap) is in omega (arith, gap, small))

paid : (x y z : Numbers) (k l : ℕ) → y ≡ after_pull x k → z ≡ after_draft y l → k ≤ l → lead z ≤ lead x
paid x y z k l read written le =
    let since = ap (λ (m : Numbers). m.since) read in
    let drafted = ap (λ (m : Numbers). m.drafted) read in
    let since' = ap (λ (m : Numbers). m.since) written in
    let drafted' = ap (λ (m : Numbers). m.drafted) written in
    omega (arith, since, drafted, since', drafted', le)

ahead-same : (x y : Numbers) → y ≡ after_pull x 0 → lead y ≤ lead x
ahead-same x y is =
    let since = ap (λ (m : Numbers). m.since) is in
    let drafted = ap (λ (m : Numbers). m.drafted) is in
    omega (arith, since, drafted)

-- where no note comes, nothing is read
nothing-read : (place : Option Place) (x y : Numbers) → y ≡ after_pull x (read_from place None) → lead y ≤ lead x
nothing-read None x y is = ahead-same x y is
nothing-read (Some p) x y is = ahead-same x y is

read-most : (r : PlainReader) (note : List ℕ) → read_for r (Some note) ≤ 4 + length note
read-most r note = by r.place where
  by : (place : Option Place) → read_from place (Some note) ≤ 4 + length note
  by None = omega arith
  by (Some p) = omega arith

none-waits : (a u e : Bool) → a ≡ true → (not a && not u && e) ≡ false
none-waits true u e h = refl
none-waits false u e h = absurd cc

written-least : (w : PlainWriter) (note : List ℕ) → w.at_once ≡ true → 4 + length note ≤ length (appended w note)
written-least w note once =
    let waits_not : waits w note ≡ false = none-waits w.at_once w.used (length note == 0) once in
    let is : appended w note ≡ empty_texts w.waiting ++ text_bytes note = rw waits_not refl in
    let size = length-append (empty_texts w.waiting) (text_bytes note) in
    let all = ap length is in
    omega (arith, all, size)

-- no more is read for a note than is written for it
read-written : (r : PlainReader) (w : PlainWriter) (note : List ℕ) → IsPrompt r w → read_for r (Some note) ≤ length (appended w note)
read-written r w note (inl once) = (let a = read-most r note in let b = written-least w note once in omega (arith, a, b))
read-written r w note (inr none) = (let a = ap (λ (place : Option Place). read_from place (Some note)) none in omega (arith, a))

prompt-behind : (r : PlainReader) (w : PlainWriter) (note : List ℕ) → IsPrompt r w → IsPrompt (behind r note) (after w note)
prompt-behind r w note (inl once) = inl once
prompt-behind r w note (inr none) = inr (ap (option_map (λ p. place_behind p note)) none)

-- ---- some notes were copied

-- The reader gave these notes, and the writer was given them.
pub record Copied {S : Type 0} (files : S → Option Files) (draft : S → Option (List ℕ)) (numbers : S → Numbers) (faults : S → ℕ) (old new : S) (start now : PlainReader) (before after : PlainWriter) (done : List (List ℕ)) : Type 0 where
  pub gives : Gives (files old) start now done
  pub same_files : files new ≡ files old
  pub later : faults old ≤ faults new
  pub pushed : after ≡ after_all before done
  pub gains : draft new ≡ option_map (λ d. d ++ all_appended before done) (draft old)
  pub pulls : PullsAndDrafts (all_read start - all_read now) (numbers old) (numbers new)
  pub prompt : IsPrompt start before → IsPrompt now after
  pub gap : IsPrompt start before → (numbers new).gap ≤ max (numbers old).gap (lead (numbers old) + 1028)
  pub ahead : IsPrompt start before → lead (numbers new) ≤ lead (numbers old)

module _ {S : Type 0} (files : S → Option Files) (draft : S → Option (List ℕ)) (numbers : S → Numbers) (faults : S → ℕ) where
  pub copied-none : (s : S) (r : PlainReader) (w : PlainWriter) → IsMeter (numbers s) → Copied files draft numbers faults s s r r w w []
  copied-none s r w is =
      record {
        gives = gives-none (files s) r;
        same_files = refl;
        later = omega arith;
        pushed = refl;
        gains = gained-none (draft s);
        pulls = PullsAndDrafts-none _ (numbers s) is;
        prompt = λ h. h;
        gap = λ h. omega arith;
        ahead = λ h. omega arith;
      }

  module _ (old mid : S) (start now : PlainReader) (w v : PlainWriter) (done : List (List ℕ)) (h : Copied files draft numbers faults old mid start now w v done) where
    -- there is room for another note
    pub copied-room : w.pushed + start.due ≤ most → 0 < now.due → v.pushed < most
    copied-room fits due =
        let count = h.gives.count in
        let pushed : v.pushed ≡ w.pushed + length done = ap (λ (u : PlainWriter). u.pushed) h.pushed ∙ pushed_after w done in
        omega (arith, fits, due, count, pushed)

    pub copied-damage : (e : NotesFault) → ((told : Files) → files mid ≡ Some told → IfDamage e (next_of now (file_of told now.name) ≡ None)) → (told : Files) → files old ≡ Some told → IfDamage e (notes_from start (file_of told start.name) ≡ None)
    copied-damage e none = gives-damage (files old) start now done h.gives e (λ told is. none told (h.same_files ∙ is))

    module _ (read : S) where
      -- the last read
      pub copied-pulls : PullsAtMost (most_read now) (numbers mid) (numbers read) → PullsAndDrafts (all_read start) (numbers old) (numbers read)
      copied-pulls pulls =
          let fewer = h.gives.fewer in
          let few = most-all now.due now.place in
          PullsAndDrafts-more _ (all_read start) (numbers old) (numbers read) (omega (arith, fewer, few))
          (PullsAndDrafts-trans (all_read start - all_read now) (most_read now) (numbers old) (numbers mid) (numbers read) h.pulls (PullsAndDrafts-of_pulls (most_read now) (numbers mid) (numbers read) pulls))

      pub copied-gap : PullsAtMost (most_read now) (numbers mid) (numbers read) → IsPrompt start w → (numbers read).gap ≤ max (numbers old).gap (lead (numbers old) + 1028)
      copied-gap pulls prompt = prompt-more (numbers old) (numbers mid) (numbers read) (h.gap prompt) (h.ahead prompt) (prompt-read (numbers mid) (numbers read) (most_read now) (most-one now.due now.place) pulls)

      pub copied-later : faults mid ≤ faults read → faults old ≤ faults read
      copied-later later = (let before = h.later in omega (arith, before, later))

      pub copied-ahead : (o : Option (String Global)) → o ≡ None → numbers read ≡ after_pull (numbers mid) (read_for now (option_map string_bytes o)) → IsPrompt start w → lead (numbers read) ≤ lead (numbers old)
      copied-ahead None e is prompt = (let before = h.ahead prompt in let same = nothing-read now.place (numbers mid) (numbers read) is in omega (arith, before, same))
      copied-ahead (Some x) e is prompt = absurd cc

      pub copied-drafted : draft read ≡ draft mid → Lengthens (draft old) (draft read)
      copied-drafted same = record { bytes = all_appended w done; is = same ∙ h.gains }

      -- the last note was given
      pub copied-all : (o : Option (String Global)) (next : PlainReader) → o ≡ None → Moves now (Ok o) next → IsGiven (files mid) now (Some (option_map string_bytes o)) → (IsSettled now → (file : List ℕ) → IsNext (Ok o) (next_of now file)) → draft read ≡ draft mid → Copies (files old) start w v (draft old) (draft read)
      copied-all None next e moved given settled same =
          record {
            notes = done;
            count = gives-count (files old) start now done h.gives moved.0;
            each = h.gives.each;
            some = gives-some (files old) start now done h.gives None refl moved.0 settled;
            given = gives-all (files old) start now done h.gives (λ told is. given told (h.same_files ∙ is));
            pushed = h.pushed;
            gains = same ∙ h.gains;
          }
      copied-all (Some x) next e moved given settled same = absurd cc

      module _ (new : S) where
        -- a front of what the next note appends was written
        pub copied-stopped : (piece : List ℕ) → draft read ≡ draft mid → DraftsPrefix (draft read) (draft new) (numbers read) (numbers new) piece → Lengthens (draft old) (draft new)
        copied-stopped piece same drafts =
            record { bytes = all_appended w done ++ take drafts.count piece; is = gained-more (draft old) (draft read) (draft new) _ _ (same ∙ h.gains) drafts.drafts.draft }

        pub stopped-pulls : (piece : List ℕ) → IsMeter (numbers read) → PullsAtMost (most_read now) (numbers mid) (numbers read) → DraftsPrefix (draft read) (draft new) (numbers read) (numbers new) piece
            → PullsAndDrafts (all_read start) (numbers old) (numbers new)
        stopped-pulls piece is pulls drafts =
            PullsAndDrafts-more _ (all_read start) (numbers old) (numbers new) (omega arith)
            (PullsAndDrafts-trans (all_read start) 0 (numbers old) (numbers read) (numbers new) (copied-pulls pulls) (PullsAndDrafts-of_draft 0 _ (numbers read) (numbers new) is drafts.drafts.numbers))

        pub stopped-gap : (piece : List ℕ) → PullsAtMost (most_read now) (numbers mid) (numbers read) → DraftsPrefix (draft read) (draft new) (numbers read) (numbers new) piece
            → IsPrompt start w → (numbers new).gap ≤ max (numbers old).gap (lead (numbers old) + 1028)
        stopped-gap piece pulls drafts prompt = written-same (numbers read) (numbers new) _ _ drafts.drafts.numbers (copied-gap pulls prompt)

        -- one note more
        copied-note : (note : List ℕ) (next : PlainReader) (u : PlainWriter) → 0 < now.due → IsNote note → next ≡ behind now note → IsGiven (files mid) now (Some (Some note))
            → files read ≡ files mid → draft read ≡ draft mid → faults mid ≤ faults read → numbers read ≡ after_pull (numbers mid) (read_for now (Some note)) → PullsAtMost (most_read now) (numbers mid) (numbers read)
            → IsMeter (numbers read) → files new ≡ files read → Drafts (draft read) (draft new) (numbers read) (numbers new) (appended v note) → faults read ≤ faults new → u ≡ after v note
            → Copied files draft numbers faults old new start next w u (done ++ note ∷ [])
        copied-note note next u due is moved given same_files same_draft later exact pulls meter files_stay drafts last pushed =
            let old_prompt : IsPrompt start w → IsPrompt now v = h.prompt in
            let prompts : IsPrompt start w → IsPrompt next u = λ p. subst (λ (r : PlainReader). IsPrompt r u) (sym moved) (subst (IsPrompt (behind now note)) (sym pushed) (prompt-behind now v note (old_prompt p))) in
            let fewer = h.gives.fewer in
            let less = behind-fewer now.place note in
            let first = PullsAndDrafts-trans (all_read start - all_read now) _ (numbers old) (numbers mid) (numbers read) h.pulls (PullsAndDrafts-of_pulls _ (numbers mid) (numbers read) (pulled-note now.due now.place note (numbers mid) (numbers read) exact pulls)) in
            let both = PullsAndDrafts-trans _ 0 (numbers old) (numbers read) (numbers new) first (PullsAndDrafts-of_draft 0 _ (numbers read) (numbers new) meter drafts.numbers) in
            record {
              gives = gives-note (files old) start now done h.gives note next due is moved (λ told at. given told (h.same_files ∙ at));
              same_files = files_stay ∙ same_files ∙ h.same_files;
              later = (let a = h.later in omega (arith, a, later, last));
              pushed = pushed ∙ ap (λ (x : PlainWriter). after x note) h.pushed ∙ sym (after-more w done note);
              gains = gained-more (draft old) (draft read) (draft new) _ _ (same_draft ∙ h.gains) drafts.draft
                  ∙ ap (λ (l : List ℕ). option_map (λ d. d ++ l) (draft old)) (ap (λ (x : PlainWriter). all_appended w done ++ appended x note) h.pushed ∙ sym (appended-more w done note));
              pulls = subst (λ (r : PlainReader). PullsAndDrafts (all_read start - all_read r) (numbers old) (numbers new)) (sym moved)
                  (PullsAndDrafts-more _ (all_read start - all_read (behind now note)) (numbers old) (numbers new) (omega (arith, fewer, less)) both);
              prompt = prompts;
              gap = λ p. written-same (numbers read) (numbers new) _ _ drafts.numbers (copied-gap pulls p);
              ahead = λ p. (
                  let a = paid (numbers mid) (numbers read) (numbers new) _ _ exact drafts.numbers (read-written now v note (old_prompt p)) in
                  let b = h.ahead p in
                  omega (arith, a, b));
            }

        -- a note, as the reader gives it
        pub copied-next : (o : Option (String Global)) (note : String Global) (next : PlainReader) (u : PlainWriter) → o ≡ Some note → Moves now (Ok o) next → IsGiven (files mid) now (Some (option_map string_bytes o))
            → files read ≡ files mid → draft read ≡ draft mid → faults mid ≤ faults read → numbers read ≡ after_pull (numbers mid) (read_for now (option_map string_bytes o)) → PullsAtMost (most_read now) (numbers mid) (numbers read)
            → IsMeter (numbers read) → files new ≡ files read → Drafts (draft read) (draft new) (numbers read) (numbers new) (appended v (string_bytes note)) → faults read ≤ faults new → u ≡ after v (string_bytes note)
            → Copied files draft numbers faults old new start next w u (done ++ string_bytes note ∷ [])
        copied-next None note next u e moved given same_files same_draft later exact pulls meter files_stay drafts last pushed = absurd cc
        copied-next (Some x) note next u e moved given same_files same_draft later exact pulls meter files_stay drafts last pushed =
            let same : string_bytes x ≡ string_bytes note = ap string_bytes (some_is x note e) in
            subst (λ (l : List ℕ). Copied files draft numbers faults old new start next w u (done ++ l ∷ [])) same
            (copied-note (string_bytes x) next u moved.0 moved.1 moved.2 given same_files same_draft later exact pulls meter files_stay
            (subst (λ (l : List ℕ). Drafts (draft read) (draft new) (numbers read) (numbers new) (appended v l)) (sym same) drafts) last (pushed ∙ ap (after v) (sym same)))
