-- How parts that read make up a call that gives something.
use Rattle.std.proofs.Common.{◌≡◌, ℕ, ◌+◌, ◌≤◌, List, Option, Some, None, Result, Ok, Err, sym, ◌∙◌, subst}
use Rattle.std.proofs.lemmas.Result.{IfOk-weaker}
use Rattle.std.specs.Result.{IsErrAnd}
use Rattle.xa_outside.specs.Folder.{Files}
use Rattle.xa_outside.specs.Numbers.{Numbers}
use Rattle.xarch_words.specs.Refusal.{Refusal, refused}
use Rattle.xarch_words.specs.View.{fault_view}
use Rattle.xarch_words.specs.declared.fault.Fault.{Fault}
use Rattle.xarch_parts.specs.AllowedLaws.{IfErr-more}
use Rattle.xarch_parts.specs.Ends.{fault_of}
use Rattle.xarch_parts.specs.FolderLaws.{reads-then}
use Rattle.xarch_parts.specs.Folders.{ReadsOnly}
use Rattle.xarch_texts.specs.Giving.{Gives}

module _ {S : Type 0} {files : S → Option Files} {draft : S → Option (List ℕ)} {numbers : S → Numbers} {faults : S → ℕ} {T : Type 0} where
  -- it gives a value
  pub gives-value : (most : ℕ) (a b : S) (x : T) (P : Files → T → Type 0) (Q : Files → Refusal → Type 0) → ReadsOnly files draft numbers faults most a b None → ((told : Files) → files a ≡ Some told → P told x)
      → Gives files draft numbers faults most a b (Ok x) P Q
  gives-value most a b x P Q reads p = record { reads = reads; given = p; refuses = λ told q t. tt }

  -- it ends by a fault
  pub gives-fault : (most : ℕ) (a b : S) (f : Fault) (P : Files → T → Type 0) (Q : Files → Refusal → Type 0) → ReadsOnly files draft numbers faults most a b (Some (fault_view f))
      → ((told : Files) (q : Refusal) → files a ≡ Some told → fault_view f ≡ refused q → Q told q) → Gives files draft numbers faults most a b (Err f) P Q
  gives-fault most a b f P Q reads p = record { reads = reads; given = λ told t. tt; refuses = p }

  -- a call ends with the fault of a part of it
  pub gives-passed : (most : ℕ) (a b : S) (r : Result T Fault) (f : Fault) (P : Files → T → Type 0) (Q : Files → Refusal → Type 0) → IsErrAnd r (λ g. g ≡ f) → ReadsOnly files draft numbers faults most a b (Some (fault_view f))
      → ((told : Files) (q : Refusal) → files a ≡ Some told → fault_view f ≡ refused q → Q told q) → Gives files draft numbers faults most a b r P Q
  gives-passed most a b (Ok x) f P Q h reads p = absurd h
  gives-passed most a b (Err g) f P Q h reads p =
      gives-fault most a b g P Q (subst (λ (z : Fault). ReadsOnly files draft numbers faults most a b (Some (fault_view z))) (sym h) reads)
      (subst (λ (z : Fault). (told : Files) (q : Refusal) → files a ≡ Some told → fault_view z ≡ refused q → Q told q) (sym h) p)

  -- a part that only reads came before
  pub gives-then : (n k most : ℕ) (a b c : S) (r : Result T Fault) (P of_given : Files → T → Type 0) (Q of_refused : Files → Refusal → Type 0) → n + k ≤ most → ReadsOnly files draft numbers faults n a b None → Gives files draft numbers faults k b c r P Q
      → ((told : Files) → files a ≡ Some told → (x : T) → P told x → of_given told x) → ((told : Files) → files a ≡ Some told → (q : Refusal) → Q told q → of_refused told q) → Gives files draft numbers faults most a c r of_given of_refused
  gives-then n k most a b c r P of_given Q of_refused fits first last more worse = record {
    reads = reads-then n k most a b c (fault_of r) fits first last.reads;
    given = λ told t. IfOk-weaker r _ _ (more told t) (last.given told (first.same_files ∙ t));
    refuses = λ told q t. IfErr-more r _ _ (λ f h e. worse told t q (h e)) (last.refuses told q (first.same_files ∙ t));
  }
