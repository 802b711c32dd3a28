-- What the parts of a command do to a folder makes up what the command does to it.
use Rattle.std.proofs.Common.{◌≡◌, ◌⊎◌, inl, inr, ℕ, ◌+◌, ◌≤◌, List, [], ◌++◌, length, Option, Some, None, IsSome, option_map, Result, Ok, Err, refl, sym, ap, ◌∙◌, subst, arith}
use Rattle.std.specs.Result.{IsErrAnd}
use Rattle.xa_outside.specs.Folder.{Drafts, Files, committed, emptied, IsBlank}
use Rattle.xa_outside.specs.Numbers.{Numbers, IsMeter, PullsAtMost, PullsAndDrafts, after_begin, after_draft, after_pull}
use Rattle.xa_outside.specs.NumberLaws.{PullsAtMost-none, PullsAtMost-more, PullsAtMost-trans, PullsAndDrafts-of_pulls, PullsAndDrafts-more, PullsAndDrafts-trans, after_draft-none, after_draft-twice}
use Rattle.xa_outside.specs.CauseLaws.{Rose-later}
use Rattle.xarch_words.specs.Refusal.{PlainFault, refused, folder_fault, out_fault, in_fault, memory}
use Rattle.xarch_words.specs.View.{fault_view}
use Rattle.xarch_words.specs.declared.fault.Fault.{Fault}
use Rattle.xarch_parts.specs.Ends.{fault_of, IsInside, IsOfFolder, IsOfOutput, IsOfCommand, IsCaused}
use Rattle.xarch_parts.specs.Folders.{ReadsOnly, Begins, WritesOnly, Streams, Counts, CountsInTurn, Keeps, IsTold}
use Rattle.xarch_parts.specs.Inputs.{size_in}
use Rattle.xarch_parts.specs.EndLaws.{IsOfFolder-inside, IsOfFolder-later, IsOfCommand-inside, IsOfCommand-folder, IsOfCommand-output}

-- ---- what stays told

-- where files and draft stay
read_told : (f g : Option Files) (d e : Option (List ℕ)) → g ≡ f → e ≡ d → IsTold f d → IsTold g e
read_told f g d e same kept t = (subst (λ x. IsSome x) (sym same) t.0, subst (λ x. IsSome x) (sym kept) t.1)

-- where files stay, and the draft stays told
begin_told : (f g : Option Files) (d e : Option (List ℕ)) → g ≡ f → (IsSome d → IsSome e) → IsTold f d → IsTold g e
begin_told f g d e same kept t = (subst (λ x. IsSome x) (sym same) t.0, kept t.1)

emptied_told : (d : Option (List ℕ)) → IsSome d → IsSome (emptied d)
emptied_told None some = some
emptied_told (Some bytes) some = refl

committed_told : (f : Option Files) (d : Option (List ℕ)) (name : List ℕ) → IsTold f d → IsSome (committed f d name)
committed_told None d name t = t.0
committed_told (Some files) None name t = t.1
committed_told (Some files) (Some bytes) name t = refl

-- a draft that was emptied, or stays
pub begun_told : (d e : Option (List ℕ)) → (e ≡ emptied d) ⊎ (e ≡ d) → IsSome d → IsSome e
begun_told d e either some = elim either [ inl empty ↦ subst (λ x. IsSome x) (sym empty) (emptied_told d some) | inr kept ↦ subst (λ x. IsSome x) (sym kept) some ]

pub emptied_untold : (d e : Option (List ℕ)) → e ≡ emptied d → d ≡ None → e ≡ None
emptied_untold d e empty none = empty ∙ ap emptied none

pub emptied_blank : (d e : Option (List ℕ)) → e ≡ emptied d → IsBlank e
emptied_blank None e empty = λ bytes is. let wrong : None ≡ Some bytes = sym empty ∙ is in absurd cc
emptied_blank (Some old) e empty = λ bytes is. let same : Some [] ≡ Some bytes = sym empty ∙ is in cc

appended_told : (d : Option (List ℕ)) (piece : List ℕ) → IsSome d → IsSome (option_map (λ b. b ++ piece) d)
appended_told None piece some = some
appended_told (Some bytes) piece some = refl

-- a draft that grew
pub drafted_told : (f g : Option Files) (d e : Option (List ℕ)) (piece : List ℕ) → g ≡ f → e ≡ option_map (λ b. b ++ piece) d → IsTold f d → IsTold g e
drafted_told f g d e piece same grown = begin_told f g d e same (λ some. subst (λ x. IsSome x) (sym grown) (appended_told d piece some))

-- a draft that became a file
pub stored_told : (f g : Option Files) (d e : Option (List ℕ)) (name : List ℕ) → g ≡ committed f d name → e ≡ emptied d → IsTold f d → IsTold g e
stored_told f g d e name made empty t = (subst (λ x. IsSome x) (sym made) (committed_told f d name t), subst (λ x. IsSome x) (sym empty) (emptied_told d t.1))

-- ---- causes

pub caused-passed : {T : Type 0} (a b p q : ℕ) (r : Result T Fault) (f : Fault) → IsErrAnd r (λ g. g ≡ f) → IsCaused a b p q (Some (fault_view f)) → IsCaused a b p q (fault_of r)
caused-passed a b p q (Ok u) f h k = absurd h
caused-passed a b p q (Err g) f h k = subst (λ (z : Fault). IsCaused a b p q (Some (fault_view z))) (sym h) k

-- a part behind others
of_command-later : (a b c p q r : ℕ) (v : Option PlainFault) → a ≤ b → p ≤ q → IsOfCommand b c q r v → IsOfCommand a c p r v
unfolding IsInside IsOfFolder IsOfCommand
of_command-later a b c p q r None h i k = tt
of_command-later a b c p q r (Some (refused f)) h i k = k
of_command-later a b c p q r (Some folder_fault) h i k = Rose-later a b c c h k (omega arith)
of_command-later a b c p q r (Some out_fault) h i k = Rose-later p q r r i k (omega arith)
of_command-later a b c p q r (Some in_fault) h i k = k
of_command-later a b c p q r (Some memory) h i k = tt

pub caused-then : (a b c p q r : ℕ) (v : Option PlainFault) → IsCaused a b p q None → IsCaused b c q r v → IsCaused a c p r v
caused-then a b c p q r v first last =
    let f = first.folder_later in
    let o = first.out_later in
    let g = last.folder_later in
    let n = last.out_later in
    record { folder_later = omega arith; out_later = omega arith; cause = of_command-later a b c p q r v f o last.cause }

-- a part that leaves both alone
pub caused-inside : (a b p : ℕ) (v : Option PlainFault) → a ≤ b → IsInside v → IsCaused a b p p v
caused-inside a b p v later inside = record { folder_later = later; out_later = omega arith; cause = IsOfCommand-inside a b p p v inside }

-- a part that leaves the output alone
pub caused-folder : (a b p : ℕ) (v : Option PlainFault) → a ≤ b → IsOfFolder a b v → IsCaused a b p p v
caused-folder a b p v later cause = record { folder_later = later; out_later = omega arith; cause = IsOfCommand-folder a a b b p p v (omega arith) (omega arith) cause }

-- a part that leaves the folder alone
pub caused-output : (a b p q : ℕ) (v : Option PlainFault) → a ≤ b → p ≤ q → IsOfOutput p q v → IsCaused a b p q v
caused-output a b p q v later out cause = record { folder_later = later; out_later = out; cause = IsOfCommand-output a b p p q q v (omega arith) (omega arith) cause }

module _ {S : Type 0} {files : S → Option Files} {draft : S → Option (List ℕ)} {numbers : S → Numbers} where
  -- ---- parts that only write

  pub writes-then : (a b c : S) (v : Option PlainFault) → WritesOnly files draft numbers a b None → files b ≡ files a → WritesOnly files draft numbers b c v → WritesOnly files draft numbers a c v
  writes-then a b c v p same q = record {
    refused = λ some. q.refused some ∙ same;
    untold = λ e. q.untold (p.untold e);
    draft_untold = λ e. q.draft_untold (p.draft_untold e);
    told = λ t. q.told (p.told t);
    drafted = p.drafted + q.drafted;
    counted = q.counted ∙ ap (λ m. after_draft m q.drafted) p.counted ∙ after_draft-twice (numbers a) p.drafted q.drafted;
  }

  pub writes-none : (a : S) (v : Option PlainFault) → IsMeter (numbers a) → WritesOnly files draft numbers a a v
  writes-none a v is = record { refused = λ _. refl; untold = λ e. e; draft_untold = λ e. e; told = λ t. t; drafted = 0; counted = sym (after_draft-none (numbers a) is) }

  -- a piece was drafted, or a prefix of it
  pub writes-drafted : (a b : S) (v : Option PlainFault) (piece : List ℕ) → files b ≡ files a → Drafts (draft a) (draft b) (numbers a) (numbers b) piece → WritesOnly files draft numbers a b v
  writes-drafted a b v piece same p = record {
    refused = λ _. same;
    untold = λ none. same ∙ none;
    draft_untold = λ none. p.draft ∙ ap (option_map (λ d. d ++ piece)) none;
    told = drafted_told _ _ _ _ piece same p.draft;
    drafted = length piece;
    counted = p.numbers;
  }

  -- the draft became a file
  pub writes-committed : (a b : S) (name : List ℕ) → IsMeter (numbers a) → files b ≡ committed (files a) (draft a) name → draft b ≡ emptied (draft a) → numbers b ≡ numbers a → WritesOnly files draft numbers a b None
  writes-committed a b name is made empty same = record {
    refused = λ some. cc;
    untold = λ none. made ∙ ap (λ f. committed f (draft a) name) none;
    draft_untold = emptied_untold _ _ empty;
    told = stored_told _ _ _ _ name made empty;
    drafted = 0;
    counted = same ∙ sym (after_draft-none (numbers a) is);
  }

  -- nothing was written
  pub writes-refused : (a b : S) (v : Option PlainFault) → IsMeter (numbers a) → files b ≡ files a → draft b ≡ draft a → numbers b ≡ numbers a → WritesOnly files draft numbers a b v
  writes-refused a b v is same kept still = record {
    refused = λ _. same;
    untold = λ none. same ∙ none;
    draft_untold = λ none. kept ∙ none;
    told = read_told _ _ _ _ same kept;
    drafted = 0;
    counted = still ∙ sym (after_draft-none (numbers a) is);
  }

  -- it drafted, and files stay
  pub writes-kept : (a b : S) (v w : Option PlainFault) → WritesOnly files draft numbers a b v → files b ≡ files a → WritesOnly files draft numbers a b w
  writes-kept a b v w p same = record { refused = λ _. same; untold = p.untold; draft_untold = p.draft_untold; told = p.told; drafted = p.drafted; counted = p.counted }

  pub writes-passed : {T : Type 0} (a b : S) (r : Result T Fault) (f : Fault) → IsErrAnd r (λ g. g ≡ f) → WritesOnly files draft numbers a b (Some (fault_view f)) → WritesOnly files draft numbers a b (fault_of r)
  writes-passed a b (Ok u) f h p = absurd h
  writes-passed a b (Err g) f h p = subst (λ (z : Fault). WritesOnly files draft numbers a b (Some (fault_view z))) (sym h) p

  -- a command that has done nothing
  pub keeps-none : (name : List ℕ) (most : ℕ) (a : S) (w : Option PlainFault) → Keeps files draft numbers (Some name) (Counts (Some name) most) a a w
  keeps-none name most a w = record { refused = λ _. refl; same_files = λ _. refl; same_draft = λ _. refl; untold = λ e. e; draft_untold = λ e. e; told = λ t. t; counts = inl refl }

module _ {S : Type 0} {files : S → Option Files} {draft : S → Option (List ℕ)} {numbers : S → Numbers} {faults : S → ℕ} where
  -- ---- parts that only read

  pub reads-more : (n most : ℕ) (a b : S) (v : Option PlainFault) → n ≤ most → ReadsOnly files draft numbers faults n a b v → ReadsOnly files draft numbers faults most a b v
  reads-more n most a b v fits p = record { same_files = p.same_files; same_draft = p.same_draft; pulls = PullsAtMost-more n most _ _ fits p.pulls; later = p.later; cause = p.cause }

  pub reads-then : (n k most : ℕ) (a b c : S) (v : Option PlainFault) → n + k ≤ most → ReadsOnly files draft numbers faults n a b None → ReadsOnly files draft numbers faults k b c v
      → ReadsOnly files draft numbers faults most a c v
  reads-then n k most a b c v fits p q =
      let first = p.later in
      let last = q.later in
      record {
        same_files = q.same_files ∙ p.same_files;
        same_draft = q.same_draft ∙ p.same_draft;
        pulls = PullsAtMost-more (n + k) most _ _ fits (PullsAtMost-trans n k _ _ _ p.pulls q.pulls);
        later = omega arith;
        cause = IsOfFolder-later (faults a) (faults b) (faults c) (faults c) v first (omega arith) q.cause;
      }

  -- nothing is done with it yet
  pub reads-none : (most : ℕ) (a : S) (v : Option PlainFault) → IsMeter (numbers a) → IsInside v → ReadsOnly files draft numbers faults most a a v
  reads-none most a v is inside = record { same_files = refl; same_draft = refl; pulls = PullsAtMost-none most _ is; later = omega arith; cause = IsOfFolder-inside _ _ v inside }

  -- a part that leaves the folder alone comes behind
  pub reads-inside : (most : ℕ) (a b : S) (v : Option PlainFault) → ReadsOnly files draft numbers faults most a b None → IsInside v → ReadsOnly files draft numbers faults most a b v
  reads-inside most a b v p inside = record { same_files = p.same_files; same_draft = p.same_draft; pulls = p.pulls; later = p.later; cause = IsOfFolder-inside _ _ v inside }

  -- a read of a file whose length was asked before
  pub reads-behind : (n most : ℕ) (a b c : S) (v : Option PlainFault) → n ≤ most → ReadsOnly files draft numbers faults 0 a b None → files c ≡ files b → draft c ≡ draft b → PullsAtMost n (numbers b) (numbers c) → faults b ≤ faults c
      → IsOfFolder (faults b) (faults c) v → ReadsOnly files draft numbers faults most a c v
  reads-behind n most a b c v fits p same_files same_draft pulls later cause =
      reads-then 0 n most a b c v (omega arith) p (record { same_files = same_files; same_draft = same_draft; pulls = pulls; later = later; cause = cause })

  -- a call ends with the fault of a part of it
  pub reads-passed : {T : Type 0} (most : ℕ) (a b : S) (r : Result T Fault) (f : Fault) → IsErrAnd r (λ g. g ≡ f) → ReadsOnly files draft numbers faults most a b (Some (fault_view f))
      → ReadsOnly files draft numbers faults most a b (fault_of r)
  reads-passed most a b (Ok u) f h p = absurd h
  reads-passed most a b (Err g) f h p = subst (λ (z : Fault). ReadsOnly files draft numbers faults most a b (Some (fault_view z))) (sym h) p

  -- behind a call that kept files a size is the same
  pub sized : (name : List ℕ) (more : ℕ) (a b c : S) (v : Option PlainFault) → files b ≡ files a → ReadsOnly files draft numbers faults (size_in (files b) name + more) b c v → ReadsOnly files draft numbers faults (size_in (files a) name + more) b c v
  sized name more a b c v same p = subst (λ f. ReadsOnly files draft numbers faults (size_in f name + more) b c v) same p

  -- ---- commands that only read

  pub keeps-read : (most : ℕ) (a b : S) (v w : Option PlainFault) → ReadsOnly files draft numbers faults most a b v → Keeps files draft numbers None (Counts None most) a b w
  keeps-read most a b v w p = record {
    refused = λ _. p.same_files;
    same_files = λ _. p.same_files;
    same_draft = λ _. p.same_draft;
    untold = λ e. p.same_files ∙ e;
    draft_untold = λ e. p.same_draft ∙ e;
    told = read_told _ _ _ _ p.same_files p.same_draft;
    counts = p.pulls;
  }

  pub caused-read : (most : ℕ) (a b : S) (v : Option PlainFault) (p : ℕ) → ReadsOnly files draft numbers faults most a b v → IsCaused (faults a) (faults b) p p v
  caused-read most a b v p r = caused-folder (faults a) (faults b) p v r.later r.cause

  pub caused-written : (most : ℕ) (a b : S) (v : Option PlainFault) (p q : ℕ) → ReadsOnly files draft numbers faults most a b None → p ≤ q → IsOfOutput p q v → IsCaused (faults a) (faults b) p q v
  caused-written most a b v p q r out cause = caused-output (faults a) (faults b) p q v r.later out cause

  -- ---- commands that make a file

  module _ (name : List ℕ) (most : ℕ) where
    -- its begin failed
    pub keeps-not_begun : (a b : S) (v w : Option PlainFault) → IsSome v → Begins files draft numbers faults a b v → Keeps files draft numbers (Some name) (Counts (Some name) most) a b w
    keeps-not_begun a b v w failed p = record {
      refused = λ _. p.same_files;
      same_files = λ _. p.same_files;
      same_draft = λ e. cc;
      untold = λ e. p.same_files ∙ e;
      draft_untold = p.draft_untold;
      told = begin_told _ _ _ _ p.same_files p.draft_told;
      counts = inl (p.failed failed);
    }

    -- it read, and drafted nothing yet
    pub keeps-begun : (a b c : S) (v w : Option PlainFault) → Begins files draft numbers faults a b None → ReadsOnly files draft numbers faults most b c v → Keeps files draft numbers (Some name) (Counts (Some name) most) a c w
    keeps-begun a b c v w p q =
        let begun : numbers c ≡ after_pull (after_begin (numbers a)) q.pulls.count = q.pulls.pulled ∙ ap (λ m. after_pull m q.pulls.count) (p.begun refl) in
        record {
          refused = λ _. q.same_files ∙ p.same_files;
          same_files = λ _. q.same_files ∙ p.same_files;
          same_draft = λ e. cc;
          untold = λ e. q.same_files ∙ p.same_files ∙ e;
          draft_untold = λ e. q.same_draft ∙ p.draft_untold e;
          told = λ t. read_told _ _ _ _ q.same_files q.same_draft (begin_told _ _ _ _ p.same_files p.draft_told t);
          counts = inr (record { pulled = q.pulls.count; drafted = 0; within = q.pulls.within; is = begun });
        }

    -- it made its file, or failed when that was drafted
    pub keeps-made : (a b c d : S) (v : Option PlainFault) → Begins files draft numbers faults a b None → ReadsOnly files draft numbers faults most b c None → WritesOnly files draft numbers c d v
        → Keeps files draft numbers (Some name) (Counts (Some name) most) a d v
    keeps-made a b c d v p q w = record {
      refused = λ some. w.refused some ∙ q.same_files ∙ p.same_files;
      same_files = λ e. cc;
      same_draft = λ e. cc;
      untold = λ e. w.untold (q.same_files ∙ p.same_files ∙ e);
      draft_untold = λ e. w.draft_untold (q.same_draft ∙ p.draft_untold e);
      told = λ t. w.told (read_told _ _ _ _ q.same_files q.same_draft (begin_told _ _ _ _ p.same_files p.draft_told t));
      counts = inr (record {
        pulled = q.pulls.count;
        drafted = w.drafted;
        within = q.pulls.within;
        is = w.counted ∙ ap (λ m. after_draft m w.drafted) (q.pulls.pulled ∙ ap (λ m. after_pull m q.pulls.count) (p.begun refl));
      });
    }

  -- ---- commands that go over a file while they make the next

  module _ (name : List ℕ) (most : ℕ) where
    -- its begin failed
    pub streams-not_begun : (a b : S) (v w : Option PlainFault) → IsSome v → Begins files draft numbers faults a b v → Keeps files draft numbers (Some name) (CountsInTurn most) a b w
    streams-not_begun a b v w failed p =
        let k = keeps-not_begun name most a b v w failed p in
        record { refused = k.refused; same_files = k.same_files; same_draft = k.same_draft; untold = k.untold; draft_untold = k.draft_untold; told = k.told; counts = inl (p.failed failed) }

    -- it read, and drafted nothing yet
    pub streams-begun : (a b c : S) (v w : Option PlainFault) → Begins files draft numbers faults a b None → ReadsOnly files draft numbers faults most b c v → Keeps files draft numbers (Some name) (CountsInTurn most) a c w
    streams-begun a b c v w p q =
        let k = keeps-begun name most a b c v w p q in
        record {
          refused = k.refused;
          same_files = k.same_files;
          same_draft = k.same_draft;
          untold = k.untold;
          draft_untold = k.draft_untold;
          told = k.told;
          counts = inr (subst (λ m. PullsAndDrafts most m (numbers c)) (p.begun refl) (PullsAndDrafts-of_pulls most _ _ q.pulls));
        }

    -- it read, and then read and drafted in turn
    pub streams-made : (n k : ℕ) (a b c d : S) (v : Option PlainFault) → n + k ≤ most → Begins files draft numbers faults a b None → ReadsOnly files draft numbers faults n b c None → Streams files draft numbers k c d v
        → Keeps files draft numbers (Some name) (CountsInTurn most) a d v
    streams-made n k a b c d v fits p q w = record {
      refused = λ some. w.refused some ∙ q.same_files ∙ p.same_files;
      same_files = λ e. cc;
      same_draft = λ e. cc;
      untold = λ e. w.untold (q.same_files ∙ p.same_files ∙ e);
      draft_untold = λ e. w.draft_untold (q.same_draft ∙ p.draft_untold e);
      told = λ t. w.told (read_told _ _ _ _ q.same_files q.same_draft (begin_told _ _ _ _ p.same_files p.draft_told t));
      counts = inr (subst (λ m. PullsAndDrafts most m (numbers d)) (p.begun refl) (PullsAndDrafts-more (n + k) most _ _ fits (PullsAndDrafts-trans n k _ _ _ (PullsAndDrafts-of_pulls n _ _ q.pulls) w.counted)));
    }

  pub caused-begin : (a b : S) (v : Option PlainFault) (p : ℕ) → Begins files draft numbers faults a b v → IsCaused (faults a) (faults b) p p v
  caused-begin a b v p r = caused-folder (faults a) (faults b) p v r.later r.cause

  pub caused-begun : (most : ℕ) (a b c : S) (v : Option PlainFault) (p : ℕ) → Begins files draft numbers faults a b None → ReadsOnly files draft numbers faults most b c v → IsCaused (faults a) (faults c) p p v
  caused-begun most a b c v p r q = caused-then _ _ _ p p p v (caused-begin a b None p r) (caused-read most b c v p q)
