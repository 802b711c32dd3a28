-- Writing the text of a version through a buffer.
use Rattle.std.proofs.Common.{◌≡◌, ℕ, ◌+◌, ◌≤◌, List, [], take, Option, Some, None, Result, Ok, Err, OnOk, sym, ap, subst, arith}
use Rattle.xa_outside.specs.Causes.{HasCause}
use Rattle.xa_outside.specs.Folder.{Files}
use Rattle.xa_outside.specs.Numbers.{Numbers}
use Rattle.xa_outside.specs.Taken.{Taken, Takes, TakesNone, TakesPrefix}
use Rattle.xa_outside.specs.TakenLaws.{Takes-kept, TakesPrefix-all}
use Rattle.xa_outside.specs.Buffered.{buffered_taken, buffered_faults, waiting_bytes}
use Rattle.xa_outside.specs.BufferedLaws.{TakesPrefix-through, Takes-through}
use Rattle.xa_outside.specs.declared.Failed.{Failed}
use Rattle.xa_outside.specs.declared.buffered.Buffered.{Buffered}
use Rattle.jsonml_print.specs.Pen.{fresh}
use Rattle.std.specs.Result.{IsErrAnd}
use Rattle.record_format.specs.Seen.{steps_for}
use Rattle.content_print.proofs.Handed.{at-err}
use Rattle.file_get.specs.Told.{IsCaused, IsBehind, IsSound, fault_of}
use Rattle.file_get.specs.State.{State, state}
use Rattle.file_get.specs.Walks.{Prefixed}
use Rattle.file_get.specs.Roots.{TextPut}
use Rattle.file_get.specs.declared.fault.GetFault.{GetFault}
use Rattle.file_get.specs.declared.fault.GetFault.TheVariants.{NoVersion, Damage, Folder, Out, Memory}
use Rattle.file_get.proofs.States as states

module _ {S O : Type 0} (files : S → Option Files) (draft : S → Option (List ℕ)) (numbers : S → Numbers) (faults : S → ℕ) (taken : O → Taken) (out_faults : O → ℕ) (i : ℕ) (name : List ℕ) (size first : ℕ) where
  abbrev pub outer : S → O → ℕ → State
  outer a o n = state files draft numbers faults taken out_faults a o fresh n

  abbrev pub inner : S → Buffered O → ℕ → State
  inner a b n = state files draft numbers faults (buffered_taken taken) (buffered_faults out_faults) a b fresh n

  -- what the sink behind has of what went into the buffer
  through : (made used : Buffered O) (x y : O) (piece : List ℕ) → made.out.now ≡ x → waiting_bytes made ≡ [] → y ≡ used.out.now → TakesPrefix (buffered_taken taken made) (buffered_taken taken used) piece → TakesPrefix (taken x) (taken y) piece
  through made used x y piece same none last p =
      subst (λ t. TakesPrefix t (taken y) piece) (ap taken same) (subst (λ u. TakesPrefix (taken made.out.now) u piece) (ap taken (sym last)) (TakesPrefix-through _ _ _ _ (waiting_bytes made) (waiting_bytes used) piece none p))

  all-through : (made used : Buffered O) (x y : O) (piece : List ℕ) → made.out.now ≡ x → waiting_bytes made ≡ [] → waiting_bytes used ≡ [] → y ≡ used.out.now → Takes (buffered_taken taken made) (buffered_taken taken used) piece → Takes (taken x) (taken y) piece
  all-through made used x y piece same none empty last p =
      subst (λ t. Takes t (taken y) piece) (ap taken same) (subst (λ u. Takes (taken made.out.now) u piece) (ap taken (sym last)) (Takes-through _ _ _ _ (waiting_bytes made) (waiting_bytes used) piece none empty p))

  gained-of : (s t : Taken) (piece : List ℕ) → TakesPrefix s t piece → (bytes : List ℕ) × Takes s t bytes
  gained-of s t piece p = (take p.count piece, p.takes)

  faults-from : (made : Buffered O) (x : O) → made.out.now ≡ x → buffered_faults out_faults made ≡ out_faults x
  faults-from made x e = ap out_faults e

  cause-as : (a b c d e f : ℕ) (ended : Option GetFault) → c ≡ e → d ≡ f → IsCaused a b c d ended → IsCaused a b e f ended
  cause-as a b c d e f None p q h = tt
  cause-as a b c d e f (Some (NoVersion n)) p q h = tt
  cause-as a b c d e f (Some Damage) p q h = tt
  cause-as a b c d e f (Some Folder) p q h = h
  cause-as a b c d e f (Some Out) p q h = omega (arith, p, q, h)
  cause-as a b c d e f (Some Memory) p q h = tt

  -- the text was not written to its end
  pub unflushed : (a b : S) (made used : Buffered O) (x y : O) (m n : ℕ) (e : GetFault) → made.out.now ≡ x → waiting_bytes made ≡ [] → y ≡ used.out.now → TextPut i name size first (inner a made m) (inner b used n) (Some e) → TextPut i name size first (outer a x m) (outer b y n) (Some e)
  unflushed a b made used x y m n e same none last h = (
      let w = h.walks in
      let g = w.gained in
      let later = w.out_later in
      let ends : out_faults used.out.now ≡ out_faults y = ap out_faults (sym last) in
      let begins = ap out_faults same in
      record {
        short = h.short;
        walks = record {
          same_files = w.same_files;
          same_draft = w.same_draft;
          later = w.later;
          out_later = omega (arith, later, begins, ends);
          cause = cause-as (faults a) (faults b) (out_faults made.out.now) (out_faults used.out.now) (out_faults x) (out_faults y) (Some e) begins ends w.cause;
          behind = w.behind;
          pulls = w.pulls;
          gained = gained-of (taken x) (taken y) g.0 (through made used x y g.0 same none last (TakesPrefix-all (buffered_taken taken made) (buffered_taken taken used) g.0 g.1));
        };
        sound = λ bytes row c v r. (let s = h.sound bytes row c v (record { tells = r.tells; stands = r.stands; begins = r.begins; ends = r.ends; tail = r.tail; records = r.records; nested = r.nested; bodies = r.bodies; one = r.one; fits = r.fits; element = r.element; some = r.some }) in (s.0, through made used x y _ same none last s.1, s.2, s.3, tt));
      })

  put-through : {T : Type 0} (made used flushed : Buffered O) (x y : O) (piece : List ℕ) (r : Result T Failed) → made.out.now ≡ x → waiting_bytes made ≡ [] → y ≡ flushed.out.now → Takes (buffered_taken taken made) (buffered_taken taken used) piece
      → TakesNone (buffered_taken taken used) (buffered_taken taken flushed) → OnOk r (waiting_bytes flushed ≡ []) → Prefixed (taken x) (taken y) (states.out_fault r) piece
  put-through made used flushed x y piece (Ok u) same none last p q empty = all-through made flushed x y piece same none empty last (Takes-kept (buffered_taken taken made) (buffered_taken taken used) (buffered_taken taken flushed) piece p q)
  put-through made used flushed x y piece (Err u) same none last p q empty =
      through made flushed x y piece same none last (TakesPrefix-all (buffered_taken taken made) (buffered_taken taken flushed) piece (Takes-kept (buffered_taken taken made) (buffered_taken taken used) (buffered_taken taken flushed) piece p q))

  flush-cause : {T : Type 0} (a b c d e : ℕ) (r : Result T Failed) → c ≤ d → HasCause d e r → IsCaused a b c e (states.out_fault r)
  flush-cause a b c d e (Ok u) le h = tt
  flush-cause a b c d e (Err u) le h = (let f = h.failed in omega (arith, le, f))

  behind-out : {T : Type 0} (r : Result T Failed) → IsBehind (states.out_fault r)
  behind-out (Ok u) = tt
  behind-out (Err u) = tt

  sound-out : {T : Type 0} (r : Result T Failed) → IsSound (states.out_fault r)
  sound-out (Ok u) = tt
  sound-out (Err u) = tt

  -- the text was written, and flushed, or not
  pub flushed-put : {T : Type 0} (a b : S) (made used flushed : Buffered O) (x y : O) (m n : ℕ) (r : Result T Failed) → made.out.now ≡ x → waiting_bytes made ≡ [] → y ≡ flushed.out.now → TextPut i name size first (inner a made m) (inner b used n) None
      → TakesNone (buffered_taken taken used) (buffered_taken taken flushed) → OnOk r (waiting_bytes flushed ≡ []) → HasCause (buffered_faults out_faults used) (buffered_faults out_faults flushed) r
      → TextPut i name size first (outer a x m) (outer b y n) (states.out_fault r)
  flushed-put a b made used flushed x y m n r same none last h kept empty cause = (
      let w = h.walks in
      let g = w.gained in
      let later = w.out_later in
      let more = cause.later in
      let ends : out_faults flushed.out.now ≡ out_faults y = ap out_faults (sym last) in
      let begins = ap out_faults same in
      record {
        short = λ fs there none. absurd (h.short fs there none);
        walks = record {
          same_files = w.same_files;
          same_draft = w.same_draft;
          later = w.later;
          out_later = omega (arith, later, more, begins, ends);
          cause = cause-as (faults a) (faults b) (out_faults made.out.now) (out_faults flushed.out.now) (out_faults x) (out_faults y) (states.out_fault r) begins ends (flush-cause (faults a) (faults b) (out_faults made.out.now) (out_faults used.out.now) (out_faults flushed.out.now) r later cause);
          behind = behind-out r;
          pulls = w.pulls;
          gained = gained-of (taken x) (taken y) g.0 (through made flushed x y g.0 same none last (TakesPrefix-all (buffered_taken taken made) (buffered_taken taken flushed) g.0 (Takes-kept (buffered_taken taken made) (buffered_taken taken used) (buffered_taken taken flushed) g.0 g.1 kept)));
        };
        sound = λ bytes row c v z. (let s = h.sound bytes row c v (record { tells = z.tells; stands = z.stands; begins = z.begins; ends = z.ends; tail = z.tail; records = z.records; nested = z.nested; bodies = z.bodies; one = z.one; fits = z.fits; element = z.element; some = z.some }) in (sound-out r, put-through made used flushed x y _ r same none last s.1 kept empty, s.2, s.3, states.unless-out r (n ≡ m + steps_for c i) s.4));
      })

  pub unflushed-on : {T : Type 0} (z : Result T GetFault) (e : GetFault) → IsErrAnd z (λ d. d ≡ e) → (a b : S) (made used : Buffered O) (x y : O) (m n : ℕ) → made.out.now ≡ x → waiting_bytes made ≡ [] → y ≡ used.out.now → TextPut i name size first (inner a made m) (inner b used n) (Some e)
      → TextPut i name size first (outer a x m) (outer b y n) (fault_of z)
  unflushed-on z e is a b made used x y m n same none last h = at-err z e is (λ r. TextPut i name size first (outer a x m) (outer b y n) (fault_of r)) (unflushed a b made used x y m n e same none last h)

  pub flushed-on : {T U : Type 0} (z : Result T GetFault) (u : Failed) → IsErrAnd z (λ d. d ≡ Out) → (a b : S) (made used flushed : Buffered O) (x y : O) (m n : ℕ) → made.out.now ≡ x → waiting_bytes made ≡ [] → y ≡ flushed.out.now → TextPut i name size first (inner a made m) (inner b used n) None
      → TakesNone (buffered_taken taken used) (buffered_taken taken flushed) → HasCause {T = U} (buffered_faults out_faults used) (buffered_faults out_faults flushed) (Err u) → TextPut i name size first (outer a x m) (outer b y n) (fault_of z)
  flushed-on {U = U} z u is a b made used flushed x y m n same none last h kept cause =
      at-err z Out is (λ r. TextPut i name size first (outer a x m) (outer b y n) (fault_of r)) (flushed-put {T = U} a b made used flushed x y m n (Err u) same none last h kept tt cause)
