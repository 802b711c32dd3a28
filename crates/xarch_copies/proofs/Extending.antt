-- What is appended to a draft, part after part.
use Rattle.std.proofs.Common.{◌≡◌, ℕ, ◌+◌, ◌≤◌, List, [], ◌++◌, take, Option, Some, None, IsSome, option_map, Result, Ok, Err, refl, sym, ap, ◌∙◌, subst, arith}
use Rattle.xa_outside.specs.Folder.{Files}
use Rattle.xa_outside.specs.Numbers.{Numbers, IsMeter, PullsAtMost}
use Rattle.xa_outside.specs.NumberLaws.{PullsAndDrafts-none, PullsAndDrafts-of_pulls, PullsAndDrafts-of_draft, PullsAndDrafts-more, PullsAndDrafts-trans}
use Rattle.version_notes.specs.Writer.{Appends}
use Rattle.xarch_words.specs.Refusal.{PlainFault}
use Rattle.xarch_parts.specs.EndLaws.{IsOfFolder-inside}
use Rattle.xarch_parts.specs.Ends.{IsCaused, IsInside, IsOfFolder}
use Rattle.xarch_parts.specs.FolderLaws.{caused-folder}
use Rattle.xarch_parts.specs.Folders.{IsTold, Streams, WritesOnly}
use Rattle.xarch_copies.specs.Extending.{Extends}
use Rattle.xarch_parts.proofs.Pushing.{gained-more, gained-none}

grown-untold : (d e : Option (List ℕ)) (x : List ℕ) → e ≡ option_map (λ b. b ++ x) d → d ≡ None → e ≡ None
grown-untold d e x grown none = grown ∙ ap (option_map (λ b. b ++ x)) none

appended-told : (d : Option (List ℕ)) (x : List ℕ) → IsSome d → IsSome (option_map (λ b. b ++ x) d)
appended-told None x some = some
appended-told (Some bytes) x some = refl

grown-told : (f g : Option Files) (d e : Option (List ℕ)) (x : List ℕ) → g ≡ f → e ≡ option_map (λ b. b ++ x) d → IsTold f d → IsTold g e
grown-told f g d e x same grown t = (subst (λ z. IsSome z) (sym same) t.0, subst (λ z. IsSome z) (sym grown) (appended-told d x t.1))

inside-none : IsInside None
unfolding IsInside
inside-none = tt

module _ {S : Type 0} {files : S → Option Files} {draft : S → Option (List ℕ)} {numbers : S → Numbers} {faults : S → ℕ} where
  pub extends-none : (n : ℕ) (a : S) → IsMeter (numbers a) → Extends files draft numbers faults n a a
  extends-none n a is = record { same_files = refl; bytes = []; grown = gained-none (draft a); counted = PullsAndDrafts-none n (numbers a) is; later = omega arith }

  pub extends-then : (n k most : ℕ) (a b c : S) → n + k ≤ most → Extends files draft numbers faults n a b → Extends files draft numbers faults k b c → Extends files draft numbers faults most a c
  extends-then n k most a b c fits p q =
      let first = p.later in
      let last = q.later in
      record {
        same_files = q.same_files ∙ p.same_files;
        bytes = p.bytes ++ q.bytes;
        grown = gained-more (draft a) (draft b) (draft c) p.bytes q.bytes p.grown q.grown;
        counted = PullsAndDrafts-more (n + k) most (numbers a) (numbers c) fits (PullsAndDrafts-trans n k (numbers a) (numbers b) (numbers c) p.counted q.counted);
        later = omega (arith, first, last);
      }

  pub extends-more : (n most : ℕ) (a b : S) → n ≤ most → Extends files draft numbers faults n a b → Extends files draft numbers faults most a b
  extends-more n most a b fits p = record { same_files = p.same_files; bytes = p.bytes; grown = p.grown; counted = PullsAndDrafts-more n most (numbers a) (numbers b) fits p.counted; later = p.later }

  -- it was only read from
  pub extends-read : (n : ℕ) (a b : S) → files b ≡ files a → draft b ≡ draft a → PullsAtMost n (numbers a) (numbers b) → faults a ≤ faults b → Extends files draft numbers faults n a b
  extends-read n a b same_files same_draft pulls later = record { same_files = same_files; bytes = []; grown = same_draft ∙ gained-none (draft a); counted = PullsAndDrafts-of_pulls n (numbers a) (numbers b) pulls; later = later }

  -- bytes were appended, or a front of them where the folder failed
  pub extends-appended : {T E : Type 0} (a b : S) (bytes : List ℕ) (r : Result T E) → IsMeter (numbers a) → Appends files draft numbers faults a b bytes r → Extends files draft numbers faults 0 a b
  extends-appended a b bytes (Ok u) is p = record { same_files = p.same_files; bytes = bytes; grown = p.gains.draft; counted = PullsAndDrafts-of_draft 0 _ (numbers a) (numbers b) is p.gains.numbers; later = p.cause.later }
  extends-appended a b bytes (Err e) is p =
      record { same_files = p.same_files; bytes = take p.gains.count bytes; grown = p.gains.drafts.draft; counted = PullsAndDrafts-of_draft 0 _ (numbers a) (numbers b) is p.gains.drafts.numbers; later = p.cause.later }

  -- ---- in a command

  pub caused-extended : (n : ℕ) (a b : S) (v : Option PlainFault) (out : ℕ) → Extends files draft numbers faults n a b → IsOfFolder (faults a) (faults b) v → IsCaused (faults a) (faults b) out out v
  caused-extended n a b v out p cause = caused-folder (faults a) (faults b) out v p.later cause

  -- without a fault
  pub caused-none : (n : ℕ) (a b : S) (out : ℕ) → Extends files draft numbers faults n a b → IsCaused (faults a) (faults b) out out None
  caused-none n a b out p = caused-extended n a b None out p (IsOfFolder-inside (faults a) (faults b) None inside-none)

  -- files stay
  pub streams-extended : (n : ℕ) (a b : S) (v : Option PlainFault) → Extends files draft numbers faults n a b → Streams files draft numbers n a b v
  streams-extended n a b v p = record {
    refused = λ e. p.same_files;
    untold = λ e. p.same_files ∙ e;
    draft_untold = grown-untold (draft a) (draft b) p.bytes p.grown;
    told = grown-told (files a) (files b) (draft a) (draft b) p.bytes p.same_files p.grown;
    counted = p.counted;
  }

  -- and then the draft became a file, or not
  pub streams-stored : (n : ℕ) (a b c : S) (v : Option PlainFault) → IsMeter (numbers b) → Extends files draft numbers faults n a b → WritesOnly files draft numbers b c v → Streams files draft numbers n a c v
  streams-stored n a b c v is p q = record {
    refused = λ some. q.refused some ∙ p.same_files;
    untold = λ e. q.untold (p.same_files ∙ e);
    draft_untold = λ e. q.draft_untold (grown-untold (draft a) (draft b) p.bytes p.grown e);
    told = λ t. q.told (grown-told (files a) (files b) (draft a) (draft b) p.bytes p.same_files p.grown t);
    counted = PullsAndDrafts-more (n + 0) n (numbers a) (numbers c) (omega arith) (PullsAndDrafts-trans n 0 (numbers a) (numbers b) (numbers c) p.counted (PullsAndDrafts-of_draft 0 q.drafted (numbers b) (numbers c) is q.counted));
  }
