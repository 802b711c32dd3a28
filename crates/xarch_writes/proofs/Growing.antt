-- What is appended to a draft, part after part.
use Rattle.std.proofs.Common.{◌≡◌, ℕ, ◌+◌, ◌≤◌, List, [], ◌++◌, take, Option, Some, None, IsSome, option_map, Result, Ok, Err, refl, sym, ap, ◌∙◌, subst, arith}
use Rattle.std.specs.Result.{IfErr, IsErrAnd}
use Rattle.xa_outside.specs.Folder.{Files}
use Rattle.xa_outside.specs.Numbers.{Numbers, IsMeter, PullsAndDrafts, after_draft}
use Rattle.xa_outside.specs.NumberLaws.{PullsAndDrafts-none, PullsAndDrafts-of_draft, PullsAndDrafts-more, PullsAndDrafts-trans}
use Rattle.xa_outside.proofs.DraftLemmas.{Drafts-trans, DraftsPrefix-after}
use Rattle.version_notes.specs.Writer.{Appends, PlainWriter, last_appended}
use Rattle.xarch_words.specs.Refusal.{PlainFault, folder_fault}
use Rattle.xarch_words.specs.View.{fault_view}
use Rattle.xarch_words.specs.declared.fault.Fault.{Fault}
use Rattle.xarch_parts.specs.EndLaws.{IsOfFolder-inside, IsOfFolder-later}
use Rattle.xarch_parts.specs.Ends.{IsCaused, IsInside, fault_of}
use Rattle.xarch_parts.proofs.Pushing.{gained-more, gained-none, no-fault, of-folder}
use Rattle.xarch_parts.specs.FolderLaws.{caused-folder}
use Rattle.xarch_parts.specs.Folders.{IsTold, Streams, WritesOnly}
use Rattle.xarch_writes.specs.Appending.{Grows}

-- a call ends with the fault of a part of it
pub ended-by : {T : Type 0} (r : Result T Fault) (f : Fault) → IsErrAnd r (λ g. g ≡ f) → (P : Option PlainFault → Type 0) → P (Some (fault_view f)) → P (fault_of r)
ended-by (Ok x) f h P p = absurd h
ended-by (Err g) f h P p = subst (λ (z : Fault). P (Some (fault_view z))) (sym h) p

-- ---- drafts

grown_untold : (d e : Option (List ℕ)) (x : List ℕ) → e ≡ option_map (λ b. b ++ x) d → d ≡ None → e ≡ None
grown_untold d e x grown none = grown ∙ ap (option_map (λ b. b ++ x)) none

appended_told : (d : Option (List ℕ)) (x : List ℕ) → IsSome d → IsSome (option_map (λ b. b ++ x) d)
appended_told None x some = some
appended_told (Some bytes) x some = refl

grown_told : (f g : Option Files) (d e : Option (List ℕ)) (x : List ℕ) → g ≡ f → e ≡ option_map (λ b. b ++ x) d → IsTold f d → IsTold g e
grown_told f g d e x same grown t = (subst (λ z. IsSome z) (sym same) t.0, subst (λ z. IsSome z) (sym grown) (appended_told d x t.1))

drafted-counts : (a b : Numbers) (n : ℕ) → IsMeter a → b ≡ after_draft a n → PullsAndDrafts 0 a b
drafted-counts a b n is counted = PullsAndDrafts-of_draft 0 n a b is counted

module _ {S : Type 0} {files : S → Option Files} {draft : S → Option (List ℕ)} {numbers : S → Numbers} {faults : S → ℕ} where
  -- nothing was appended yet
  pub grows-none : (n : ℕ) (a : S) (v : Option PlainFault) → IsMeter (numbers a) → IsInside v → Grows files draft numbers faults n a a v
  grows-none n a v is inside = record { same_files = refl; bytes = []; grown = gained-none (draft a); counted = PullsAndDrafts-none n (numbers a) is; later = omega arith; cause = IsOfFolder-inside _ _ v inside }

  pub grows-then : (n k : ℕ) (a b c : S) (v : Option PlainFault) → Grows files draft numbers faults n a b None → Grows files draft numbers faults k b c v → Grows files draft numbers faults (n + k) a c v
  grows-then n k a b c v p q =
      let first = p.later in
      let last = q.later in
      record {
        same_files = q.same_files ∙ p.same_files;
        bytes = p.bytes ++ q.bytes;
        grown = gained-more (draft a) (draft b) (draft c) p.bytes q.bytes p.grown q.grown;
        counted = PullsAndDrafts-trans n k (numbers a) (numbers b) (numbers c) p.counted q.counted;
        later = omega (arith, first, last);
        cause = IsOfFolder-later (faults a) (faults b) (faults c) (faults c) v first (omega arith) q.cause;
      }

  pub grows-more : (n most : ℕ) (a b : S) (v : Option PlainFault) → n ≤ most → Grows files draft numbers faults n a b v → Grows files draft numbers faults most a b v
  grows-more n most a b v fits p = record { same_files = p.same_files; bytes = p.bytes; grown = p.grown; counted = PullsAndDrafts-more n most _ _ fits p.counted; later = p.later; cause = p.cause }

  -- files stay, and the draft
  pub streams-grown : (n most : ℕ) (a b : S) (v w : Option PlainFault) → n ≤ most → Grows files draft numbers faults n a b v → Streams files draft numbers most a b w
  streams-grown n most a b v w fits p = record {
    refused = λ e. p.same_files;
    untold = λ e. p.same_files ∙ e;
    draft_untold = grown_untold (draft a) (draft b) p.bytes p.grown;
    told = grown_told (files a) (files b) (draft a) (draft b) p.bytes p.same_files p.grown;
    counted = PullsAndDrafts-more n most _ _ fits p.counted;
  }

  -- and then the draft became a file, or not
  pub streams-stored : (n : ℕ) (a b c : S) (v : Option PlainFault) → IsMeter (numbers b) → Grows files draft numbers faults n a b None → WritesOnly files draft numbers b c v → Streams files draft numbers n a c v
  streams-stored n a b c v is p q = record {
    refused = λ some. q.refused some ∙ p.same_files;
    untold = λ e. q.untold (p.same_files ∙ e);
    draft_untold = λ e. q.draft_untold (grown_untold (draft a) (draft b) p.bytes p.grown e);
    told = λ t. q.told (grown_told (files a) (files b) (draft a) (draft b) p.bytes p.same_files p.grown t);
    counted = PullsAndDrafts-more (n + 0) n _ _ (omega arith) (PullsAndDrafts-trans n 0 (numbers a) (numbers b) (numbers c) p.counted (drafted-counts (numbers b) (numbers c) q.drafted is q.counted));
  }

  pub caused-grown : (n : ℕ) (a b : S) (v : Option PlainFault) (out : ℕ) → Grows files draft numbers faults n a b v → IsCaused (faults a) (faults b) out out v
  caused-grown n a b v out p = caused-folder (faults a) (faults b) out v p.later p.cause

  -- bytes were appended, or a front of them where the folder failed
  pub grows-appends : (a b : S) (bytes : List ℕ) (r : Result Unit Fault) → IsMeter (numbers a) → Appends files draft numbers faults a b bytes r → IfErr r (λ f. fault_view f ≡ folder_fault) → Grows files draft numbers faults 0 a b (fault_of r)
  grows-appends a b bytes (Ok u) is p fault = record { same_files = p.same_files; bytes = bytes; grown = p.gains.draft; counted = drafted-counts _ _ _ is p.gains.numbers; later = p.cause.later; cause = no-fault _ _ }
  grows-appends a b bytes (Err f) is p fault =
      record { same_files = p.same_files; bytes = take p.gains.count bytes; grown = p.gains.drafts.draft; counted = drafted-counts _ _ _ is p.gains.drafts.numbers; later = p.cause.later; cause = of-folder _ _ (fault_view f) fault p.cause.failed }

  -- what was read is no further ahead then
  pub gap-appends : {E : Type 0} (a b : S) (bytes : List ℕ) (r : Result Unit E) → Appends files draft numbers faults a b bytes r → (numbers b).gap ≡ (numbers a).gap
  gap-appends a b bytes (Ok u) p = ap (λ (m : Numbers). m.gap) p.gains.numbers
  gap-appends a b bytes (Err e) p = ap (λ (m : Numbers). m.gap) p.gains.drafts.numbers

  -- one append behind another
  pub appends-more : {T E : Type 0} (a b c : S) (x y : List ℕ) (u : T) (r : Result T E) → Appends {E = E} files draft numbers faults a b x (Ok u) → Appends files draft numbers faults b c y r → Appends files draft numbers faults a c (x ++ y) r
  appends-more a b c x y u (Ok v) p q =
      let first = p.cause.later in
      let last = q.cause.later in
      record {
        same_files = q.same_files ∙ p.same_files;
        gains = Drafts-trans (draft a) (draft b) (draft c) (numbers a) (numbers b) (numbers c) x y p.gains q.gains;
        cause = record { later = omega (arith, first, last); failed = tt };
      }
  appends-more a b c x y u (Err e) p q =
      let first = p.cause.later in
      let last = q.cause.later in
      let rose = q.cause.failed in
      record {
        same_files = q.same_files ∙ p.same_files;
        gains = DraftsPrefix-after (draft a) (draft b) (draft c) (numbers a) (numbers b) (numbers c) x y p.gains q.gains;
        cause = record { later = omega (arith, first, last); failed = omega (arith, first, rose) };
      }

  -- what a writer appends at its end, behind a note
  pub appends-then : {T E : Type 0} (a b c : S) (v w : PlainWriter) (x : List ℕ) (u : T) (r : Result T E) → v ≡ w → Appends {E = E} files draft numbers faults a b x (Ok u) → Appends files draft numbers faults b c (last_appended v) r
      → Appends files draft numbers faults a c (x ++ last_appended w) r
  appends-then a b c v w x u r same p q = subst (λ (z : PlainWriter). Appends files draft numbers faults a c (x ++ last_appended z) r) same (appends-more a b c x (last_appended v) u r p q)
