-- Calls of the writer, one part after the other.
use Rattle.std.proofs.Common.{◌≡◌, ℕ, ◌≤◌, List, [], ◌∷◌, ◌++◌, take, Option, Result, Ok, Err, refl, sym, ap, subst, ◌∙◌, arith, append-nil}
use Rattle.std.specs.Result.{IsErrAnd, OnOk}
use Rattle.xa_outside.specs.Causes.{Rose}
use Rattle.xa_outside.specs.Folder.{Drafts, Files}
use Rattle.xa_outside.specs.Numbers.{Numbers, IsMeter}
use Rattle.xa_outside.proofs.DraftLemmas.{Drafts-nil, Drafts-trans}
use Rattle.record_writer.specs.Calls.{AllFit, Fits, after, after_all, all_appended, appended}
use Rattle.record_writer.specs.Data.{PlainWriter, WriterCall}
use Rattle.record_writer.specs.Faults.{Appends, IfFolder, TooLongUnless}
use Rattle.record_writer.specs.declared.fault.WriteFault.{WriteFault}
use Rattle.record_writer.specs.declared.fault.WriteFault.TheVariants.{TooLong, Folder, Memory}
use Rattle.record_writer.proofs.FitLaws.{fit-both}
use Rattle.record_writer.proofs.WalkLaws.{after-append, appended-append}
use Rattle.archive_rekey.specs.Drafted.{Called, Drafted, OnlyIf}

-- ---- ends

-- a call ended with the fault of a part of it
pub at-err : {T : Type 0} (r : Result T WriteFault) (e : WriteFault) → IsErrAnd r (λ d. d ≡ e) → (P : Result T WriteFault → Type 0) → P (Err e) → P r
at-err (Ok x) e h P p = absurd h
at-err {T = T} (Err d) e h P p = subst (λ (z : WriteFault). P (Err z)) (sym h) p

ok-more : {T : Type 0} {P Q : Type 0} (r : Result T WriteFault) → (P → Q) → OnOk r P → OnOk r Q
ok-more (Ok x) h p = h p
ok-more (Err e) h p = tt

only-more : {T : Type 0} {P Q : Type 0} (r : Result T WriteFault) → (P → Q) → (Q → P) → OnlyIf P r → OnlyIf Q r
only-more (Ok x) to from p = to p
only-more (Err TooLong) to from p = λ q. p (from q)
only-more (Err Folder) to from p = tt
only-more (Err Memory) to from p = tt

cause-later : {T : Type 0} (a b c : ℕ) (r : Result T WriteFault) → a ≤ b → b ≤ c → IfFolder r (Rose b c) → IfFolder r (Rose a c)
cause-later a b c (Ok x) first last h = tt
cause-later a b c (Err TooLong) first last h = tt
cause-later a b c (Err Folder) first last h = omega (arith, first, last, h)
cause-later a b c (Err Memory) first last h = tt

module _ {S : Type 0} {files : S → Option Files} {draft : S → Option (List ℕ)} {numbers : S → Numbers} {faults : S → ℕ} where
  -- ---- what is drafted

  -- nothing was appended
  drafted-none : {T : Type 0} (a b : S) (P : List ℕ → Type 0) (r : Result T WriteFault) → IsMeter (numbers a) → files b ≡ files a → (draft b ≡ draft a) × (numbers b ≡ numbers a) → OnOk r (P []) → faults a ≤ faults b → IfFolder r (Rose (faults a) (faults b))
      → Drafted files draft numbers faults a b P r
  drafted-none a b P r meter same kept is later cause = record {
    same_files = same;
    bytes = [];
    drafts = subst (λ d. Drafts (draft a) d (numbers a) (numbers b) []) (sym kept.0) (subst (λ n. Drafts (draft a) (draft a) (numbers a) n []) (sym kept.1) (Drafts-nil (draft a) (numbers a) meter));
    is = is;
    later = later;
    cause = cause;
  }

  -- a piece was appended, a front of it, or nothing
  pub drafted-piece : {T : Type 0} (a b : S) (piece : List ℕ) (P : List ℕ → Type 0) (r : Result T WriteFault) → IsMeter (numbers a) → Appends files draft numbers faults a b piece r → P piece → Drafted files draft numbers faults a b P r
  drafted-piece a b piece P (Ok x) meter did is = record { same_files = did.same_files; bytes = piece; drafts = did.gains; is = is; later = did.later; cause = tt }
  drafted-piece {T = T} a b piece P (Err TooLong) meter did is = drafted-none {T = T} a b P (Err TooLong) meter did.same_files did.gains tt did.later tt
  drafted-piece a b piece P (Err Folder) meter did is = (let g = did.gains in record { same_files = did.same_files; bytes = take g.count piece; drafts = g.drafts; is = tt; later = did.later; cause = did.cause })
  drafted-piece {T = T} a b piece P (Err Memory) meter did is = drafted-none {T = T} a b P (Err Memory) meter did.same_files did.gains tt did.later tt

  -- one part behind another
  pub drafted-then : {T U : Type 0} (a b c : S) (P Q R : List ℕ → Type 0) (x : T) (r : Result U WriteFault) → ((m n : List ℕ) → P m → Q n → R (m ++ n)) → Drafted files draft numbers faults a b P (Ok x) → Drafted files draft numbers faults b c Q r
      → Drafted files draft numbers faults a c R r
  drafted-then a b c P Q R x r both h g =
      let first = h.later in
      let last = g.later in
      record {
        same_files = g.same_files ∙ h.same_files;
        bytes = h.bytes ++ g.bytes;
        drafts = Drafts-trans (draft a) (draft b) (draft c) (numbers a) (numbers b) (numbers c) h.bytes g.bytes h.drafts g.drafts;
        is = ok-more r (both h.bytes g.bytes h.is) g.is;
        later = omega (arith, first, last);
        cause = cause-later (faults a) (faults b) (faults c) r first last g.cause;
      }

  -- a fault says nothing of the bytes
  pub drafted-fault : {T U : Type 0} (a b : S) (P Q : List ℕ → Type 0) (e : WriteFault) → Drafted {T = T} files draft numbers faults a b P (Err e) → Drafted {T = U} files draft numbers faults a b Q (Err e)
  drafted-fault {T = T} {U = U} a b P Q e h = record { same_files = h.same_files; bytes = h.bytes; drafts = h.drafts; is = tt; later = h.later; cause = cause-of e h.cause }
    where
      cause-of : (e : WriteFault) → IfFolder {T = T} (Err e) (Rose (faults a) (faults b)) → IfFolder {T = U} (Err e) (Rose (faults a) (faults b))
      cause-of TooLong c = tt
      cause-of Folder c = c
      cause-of Memory c = tt

  -- ---- calls

  -- none is made
  pub called-none : {T : Type 0} (a : S) (v : PlainWriter) (x : T) → IsMeter (numbers a) → Called files draft numbers faults [] a a v v (Ok x)
  called-none {T = T} a v x meter = record { drafted = drafted-none {T = T} a a (λ bytes. bytes ≡ []) (Ok x) meter refl (refl, refl) refl (omega arith) tt; holds = refl; fit = tt }

  -- one is
  pub called-one : {T : Type 0} (c : WriterCall) (a b : S) (v w : PlainWriter) (r : Result T WriteFault) → IsMeter (numbers a) → Appends files draft numbers faults a b (appended v c) r → OnOk r (w ≡ after v c) → TooLongUnless (Fits v c) r
      → Called files draft numbers faults (c ∷ []) a b v w r
  called-one c a b v w r meter did holds fits = record { drafted = drafted-piece a b (appended v c) (λ bytes. bytes ≡ all_appended v (c ∷ [])) r meter did (sym (append-nil (appended v c))); holds = holds; fit = fit-one r fits }
    where
      fit-one : {T : Type 0} (r : Result T WriteFault) → TooLongUnless (Fits v c) r → OnlyIf (AllFit v (c ∷ [])) r
      fit-one (Ok x) f = (f, tt)
      fit-one (Err TooLong) f = λ all. f all.0
      fit-one (Err Folder) f = tt
      fit-one (Err Memory) f = tt

  -- some behind others
  pub called-then : {T U : Type 0} (cs ds : List WriterCall) (a b c : S) (v w z : PlainWriter) (x : T) (r : Result U WriteFault) → Called files draft numbers faults cs a b v w (Ok x) → Called files draft numbers faults ds b c w z r
      → Called files draft numbers faults (cs ++ ds) a c v z r
  called-then {T = T} {U = U} cs ds a b c v w z x r h g = record {
    drafted = drafted-then a b c (λ bytes. bytes ≡ all_appended v cs) (λ bytes. bytes ≡ all_appended w ds) (λ bytes. bytes ≡ all_appended v (cs ++ ds)) x r
        (λ m n first last. (λ i. first i ++ last i) ∙ ap (λ u. all_appended v cs ++ all_appended u ds) h.holds ∙ sym (appended-append v cs ds)) h.drafted g.drafted;
    holds = ok-more r (λ is. is ∙ ap (λ u. after_all u ds) h.holds ∙ sym (after-append v cs ds)) g.holds;
    fit = only-more r (λ rest. (fit-both v cs ds).1 (h.fit, subst (λ u. AllFit u ds) h.holds rest)) (λ all. subst (λ u. AllFit u ds) (sym h.holds) ((fit-both v cs ds).0 all).1) g.fit;
  }

  -- one failed, and no more is made
  pub called-fault : {T U : Type 0} (cs ds : List WriterCall) (a b : S) (v w z : PlainWriter) (e : WriteFault) → Called {T = T} files draft numbers faults cs a b v w (Err e) → Called {T = U} files draft numbers faults (cs ++ ds) a b v z (Err e)
  called-fault {T = T} {U = U} cs ds a b v w z e h = record {
    drafted = drafted-fault {T = T} {U = U} a b (λ bytes. bytes ≡ all_appended v cs) (λ bytes. bytes ≡ all_appended v (cs ++ ds)) e h.drafted;
    holds = tt;
    fit = fit-less e h.fit;
  }
    where
      fit-less : (e : WriteFault) → OnlyIf {T = T} (AllFit v cs) (Err e) → OnlyIf {T = U} (AllFit v (cs ++ ds)) (Err e)
      fit-less TooLong f = λ all. f ((fit-both v cs ds).0 all).0
      fit-less Folder f = tt
      fit-less Memory f = tt

  -- the same calls, told in another way
  pub called-as : {T : Type 0} (cs ds : List WriterCall) (a b : S) (v w : PlainWriter) (r : Result T WriteFault) → ds ≡ cs → Called files draft numbers faults cs a b v w r → Called files draft numbers faults ds a b v w r
  called-as cs ds a b v w r is h = subst (λ (z : List WriterCall). Called files draft numbers faults z a b v w r) (sym is) h

  -- what the writer holds behind them is told by them
  pub called-whole : {T : Type 0} (cs : List WriterCall) (a b : S) (v w : PlainWriter) (r : Result T WriteFault) → Called files draft numbers faults cs a b v w r → Called files draft numbers faults cs a b v (after_all v cs) r
  called-whole cs a b v w r h = record { drafted = h.drafted; holds = ok-more r (λ is. refl) h.holds; fit = h.fit }

  -- the last call takes the writer with it
  pub called-last : {T : Type 0} (c : WriterCall) (a b : S) (v : PlainWriter) (r : Result T WriteFault) → IsMeter (numbers a) → Appends files draft numbers faults a b (appended v c) r → TooLongUnless (Fits v c) r
      → Called files draft numbers faults (c ∷ []) a b v (after v c) r
  called-last c a b v r meter did fits = called-one c a b v (after v c) r meter did (same r) fits
    where
      same : {T : Type 0} (r : Result T WriteFault) → OnOk r (after v c ≡ after v c)
      same (Ok x) = refl
      same (Err e) = tt
