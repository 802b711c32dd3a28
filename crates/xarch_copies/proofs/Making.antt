-- How an archive is made out of others.
use Rattle.std.proofs.Common.{◌≡◌, ℕ, ◌+◌, ◌≤◌, List, ◌++◌, Option, Some, None, option_map, Result, Ok, Err, IfErr, IfOk, OnOk, refl, sym, subst, ◌∙◌, arith}
use Rattle.std.specs.Prelude.{MatchResult}
use Rattle.std.specs.Result.{IsErrAnd}
use Rattle.xa_outside.specs.CauseLaws.{Rose-later}
use Rattle.xa_outside.specs.Folder.{Files, committed}
use Rattle.xa_outside.specs.Numbers.{Numbers, IsMeter, PullsAtMost}
use Rattle.xa_outside.specs.NumberLaws.{PullsAtMost-more, PullsAtMost-trans}
use Rattle.record_cursor.specs.View.{header_view}
use Rattle.version_notes.specs.Writer.{Appends}
use Rattle.xarch_words.specs.Refusal.{PlainFault, Refusal, folder_fault, memory}
use Rattle.xarch_words.specs.View.{fault_view}
use Rattle.xarch_words.specs.declared.fault.Fault.{Fault}
use Rattle.xarch_parts.specs.Archives.{IsFrontOf, PartsAre}
use Rattle.xarch_parts.specs.CoreLaws.{within-more}
use Rattle.xarch_parts.specs.EndLaws.{IfOk-passed, IsOfFolder-inside, IsOfFolder-later, Matches-passed}
use Rattle.xarch_parts.specs.Ends.{IsCaused, IsDefined, IsOfFolder, Matches, fault_of}
use Rattle.xarch_parts.specs.FolderLaws.{caused-then, reads-passed, reads-then}
use Rattle.xarch_parts.specs.Folders.{ReadsOnly, WritesOnly}
use Rattle.xarch_parts.specs.Inputs.{size_in}
use Rattle.xarch_parts.specs.Noted.{AreWithin}
use Rattle.xarch_parts.specs.declared.front.Front.{Front}
use Rattle.xarch_meanings.specs.Meanings.{IsLimited}
use Rattle.xarch_copies.specs.Extending.{Extends}
use Rattle.xarch_copies.specs.Making.{Asks, Fails, Makes, StandsBefore}
use Rattle.xarch_copies.proofs.Extending.{caused-extended, caused-none, extends-appended, extends-more, extends-none, extends-then, streams-extended, streams-stored}
use Rattle.xarch_parts.proofs.NoteLaws.{inside-memory}

-- a call ended with the fault of a part of it
pub at-err : {T E : Type 0} (r : Result T E) (e : E) (P : T → Type 0) (Q : E → Type 0) → IsErrAnd r (λ d. d ≡ e) → Q e → MatchResult r P Q
at-err (Ok x) e P Q h q = absurd h
at-err (Err d) e P Q h q = subst Q (sym h) q

pub no-memory : (a b : ℕ) → IsOfFolder a b (Some memory)
no-memory a b = IsOfFolder-inside a b (Some memory) inside-memory

of-folder : (a b c : ℕ) (v : PlainFault) → a ≤ b → IsOfFolder b c (Some v) → IsOfFolder a c (Some v)
of-folder a b c v later cause = IsOfFolder-later a b c c (Some v) later (omega arith) cause

-- ---- what is read first

-- what was read in front of a file of this size
pub stands-before : (files : Option Files) (name : List ℕ) (size : ℕ) (front : Front) → size ≤ size_in files name → AreWithin size front.parts
    → ((told : Files) → files ≡ Some told → PartsAre told name front.parts × IsFrontOf told name (header_view front.header)) → StandsBefore files name front
stands-before files name size front most within is = record {
  within = within-more size (size_in files name) front.parts most within;
  are = λ told at. (is told at).0;
  stands = λ told at. (is told at).1;
}

once-behind : {T : Type 0} (least : T → ℕ) (m k n : Numbers) (r : Result T Fault) → PullsAtMost 0 m k → IfOk r (λ x. PullsAtMost (least x) k n) → IfOk r (λ x. PullsAtMost (least x) m n)
once-behind least m k n (Ok x) first last = PullsAtMost-more (0 + least x) (least x) m n (omega arith) (PullsAtMost-trans 0 (least x) m k n first last)
once-behind least m k n (Err f) first last = tt

-- ---- how it ends

ends-stored : (Ends : Option Files → Option PlainFault → Type 0) (r : Result Unit Fault) (after made : Option Files) → OnOk r (after ≡ made) → IfErr r (λ f. fault_view f ≡ folder_fault) → (after ≡ made → Ends after None) → Ends after (Some folder_fault) → Ends after (fault_of r)
ends-stored Ends (Ok u) after made stored fault come failed = come stored
ends-stored Ends (Err f) after made stored fault come failed = subst (λ (z : PlainFault). Ends after (Some z)) (sym fault) failed

unlimited : (r : Result Unit Fault) → IfErr r (λ f. fault_view f ≡ folder_fault) → IsLimited (fault_of r) → ⊥
unlimited (Ok u) fault limited = limited
unlimited (Err f) fault limited = subst (λ (z : PlainFault). IsLimited (Some z)) fault limited

module _ {S : Type 0} {files : S → Option Files} {draft : S → Option (List ℕ)} {numbers : S → Numbers} {faults : S → ℕ} where
  module _ {T A : Type 0} {most : ℕ} {view : T → A} {asked : Files → Result A Refusal} {IsRight : Option Files → T → Type 0} {least : T → ℕ} where
    -- a call ends with the fault of a part of it
    pub asks-failed : (old now : S) (r : Result T Fault) (f : Fault) → IsErrAnd r (λ g. g ≡ f) → ReadsOnly files draft numbers faults most old now (Some (fault_view f)) → ((told : Files) → files old ≡ Some told → IsDefined (asked told) (fault_view f))
        → Asks files draft numbers faults most view asked IsRight least old now r
    asks-failed old now r f is reads told = record {
      reads = reads-passed most old now r f is reads;
      told = λ all at. Matches-passed view (asked all) r f is (told all at);
      found = IfOk-passed r f (IsRight (files old)) is;
      once = IfOk-passed r f (λ x. PullsAtMost (least x) (numbers old) (numbers now)) is;
    }

    -- a call reads behind others, which pulled nothing
    pub asks-behind : {later : Files → Result A Refusal} (n : ℕ) (old mid now : S) (r : Result T Fault) → n ≤ most → ReadsOnly files draft numbers faults 0 old mid None → ((told : Files) → files old ≡ Some told → asked told ≡ later told)
        → Asks files draft numbers faults n view later IsRight least mid now r → Asks files draft numbers faults most view asked IsRight least old now r
    asks-behind n old mid now r fits first same last = record {
      reads = reads-then 0 n most old mid now (fault_of r) (omega (arith, fits)) first last.reads;
      told = λ told at. subst (λ (x : Result A Refusal). Matches view x r) (sym (same told at)) (last.told told (first.same_files ∙ at));
      found = subst (λ (fs : Option Files). IfOk r (IsRight fs)) first.same_files last.found;
      once = once-behind least (numbers old) (numbers mid) (numbers now) r first.pulls last.once;
    }

  -- ---- parts that fail

  pub fails-memory : (n : ℕ) (Ends : PlainFault → Type 0) (s : S) → IsMeter (numbers s) → Ends memory → Fails files draft numbers faults n Ends s s memory
  fails-memory n Ends s meter ends = record { extends = extends-none n s meter; cause = no-memory (faults s) (faults s); ends = ends }

  -- behind one that did not
  pub fails-then : (n k most : ℕ) (Ends All : PlainFault → Type 0) (old mid now : S) (v : PlainFault) → n + k ≤ most → Extends files draft numbers faults n old mid → Fails files draft numbers faults k Ends mid now v → (Ends v → All v) → Fails files draft numbers faults most All old now v
  fails-then n k most Ends All old mid now v fits first last so = record {
    extends = extends-then n k most old mid now fits first last.extends;
    cause = of-folder (faults old) (faults mid) (faults now) v first.later last.cause;
    ends = so last.ends;
  }

  -- the folder failed where bytes were to be appended
  pub fails-appended : {T E : Type 0} (n : ℕ) (Ends : PlainFault → Type 0) (old mid now : S) (bytes : List ℕ) (e : E) → Extends files draft numbers faults n old mid → IsMeter (numbers mid) → Appends {T = T} files draft numbers faults mid now bytes (Err e) → Ends folder_fault
      → Fails files draft numbers faults n Ends old now folder_fault
  unfolding IsOfFolder
  fails-appended {T = T} {E = E} n Ends old mid now bytes e first meter p ends = record {
    extends = extends-then n 0 n old mid now (omega arith) first (extends-appended {T = T} {E = E} mid now bytes (Err e) meter p);
    cause = Rose-later (faults old) (faults mid) (faults now) (faults now) first.later p.cause.failed (omega arith);
    ends = ends;
  }

  -- ---- the making

  module _ {most : ℕ} {Ends : Option Files → Option PlainFault → Type 0} {IsFull : Option (List ℕ) → Type 0} where
    ended-by : (old now : S) (r : Result Unit Fault) (f : Fault) → IsErrAnd r (λ g. g ≡ f) → Makes files draft numbers faults most Ends IsFull old now (Some (fault_view f)) → Makes files draft numbers faults most Ends IsFull old now (fault_of r)
    ended-by old now (Ok u) f is p = absurd is
    ended-by old now (Err g) f is p = subst (λ (z : Fault). Makes files draft numbers faults most Ends IsFull old now (Some (fault_view z))) (sym is) p

    -- a part of it failed
    pub makes-failed : (n : ℕ) (PartEnds : PlainFault → Type 0) (old now : S) (r : Result Unit Fault) (f : Fault) → IsErrAnd r (λ g. g ≡ f) → n ≤ most → Fails files draft numbers faults n PartEnds old now (fault_view f)
        → (PartEnds (fault_view f) → Ends (files now) (Some (fault_view f))) → (IsLimited (Some (fault_view f)) → IsFull (draft now)) → Makes files draft numbers faults most Ends IsFull old now (fault_of r)
    makes-failed n PartEnds old now r f is fits p so fills =
        let v = fault_view f in
        ended-by old now r f is (record {
          streams = streams-extended most old now (Some v) (extends-more n most old now fits p.extends);
          caused = λ out. caused-extended n old now (Some v) out p.extends p.cause;
          ends = so p.ends;
          fills = fills;
        })

    -- the file came, or the folder failed
    pub makes-stored : (n : ℕ) (new : List ℕ) (old end now : S) (r : Result Unit Fault) → n ≤ most → Extends files draft numbers faults n old end → IsMeter (numbers end) → WritesOnly files draft numbers end now (fault_of r)
        → ((out : ℕ) → IsCaused (faults end) (faults now) out out (fault_of r)) → OnOk r (files now ≡ committed (files end) (draft end) new) → IfErr r (λ f. fault_view f ≡ folder_fault)
        → (files now ≡ committed (files end) (draft end) new → Ends (files now) None) → Ends (files now) (Some folder_fault) → Makes files draft numbers faults most Ends IsFull old now (fault_of r)
    makes-stored n new old end now r fits first meter writes caused stored fault come failed =
        let all = extends-more n most old end fits first in
        record {
          streams = streams-stored most old end now (fault_of r) meter all writes;
          caused = λ out. caused-then (faults old) (faults end) (faults now) out out out (fault_of r) (caused-none n old end out first) (caused out);
          ends = ends-stored Ends r (files now) (committed (files end) (draft end) new) stored fault come failed;
          fills = λ limited. absurd (unlimited r fault limited);
        }

-- what became a draft, and grew
pub grown-twice : (d : Option (List ℕ)) (x y : List ℕ) → option_map (λ (l : List ℕ). l ++ y) (option_map (λ (l : List ℕ). x) d) ≡ option_map (λ (l : List ℕ). x ++ y) d
grown-twice None x y = refl
grown-twice (Some d) x y = refl
