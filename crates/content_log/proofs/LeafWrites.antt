-- Writing one leaf, and a buffer in front of the output.
use Rattle.std.proofs.Common.{◌≡◌, ℕ, ◌-◌, ◌<◌, ◌≤◌, List, [], take, Option, Some, None, Result, Ok, Err, OnOk, refl, sym, ap, subst, arith}
use Rattle.version_set.specs.View.{pairs_of}
use Rattle.xa_outside.specs.Causes.{HasCause}
use Rattle.xa_outside.specs.Folder.{Files}
use Rattle.xa_outside.specs.Numbers.{Numbers, IsMeter}
use Rattle.xa_outside.specs.NumberLaws.{PullsAtMost-none}
use Rattle.xa_outside.specs.Taken.{Taken, Takes, TakesNone, TakesPrefix}
use Rattle.xa_outside.specs.TakenLaws.{Takes-nil, Takes-kept, TakesPrefix-none, TakesPrefix-all}
use Rattle.xa_outside.specs.Buffered.{buffered_taken, buffered_faults, waiting_bytes}
use Rattle.xa_outside.specs.BufferedLaws.{TakesPrefix-through, Takes-through}
use Rattle.xa_outside.specs.declared.Failed.{Failed}
use Rattle.xa_outside.specs.declared.buffered.Buffered.{Buffered}
use Rattle.std.specs.Result.{IsErrAnd}
use Rattle.record_cursor.specs.View.{PlainCursor}
use Rattle.file_rows.specs.View.{child_view}
use Rattle.file_history.specs.declared.leaf.LeafAt.{LeafAt}
use Rattle.file_history.proofs.Opening.{before_child}
use Rattle.content_log.specs.Told.{IsCaused, IsSound, fault_of}
use Rattle.content_log.specs.Written.{Seen, seen, Walks, Prefixed, Shows, AloneOrStored, alts_text, Lines, RecordsWritten, LeafWritten}
use Rattle.content_log.specs.declared.fault.LogFault.{LogFault}
use Rattle.content_log.specs.declared.fault.LogFault.TheVariants.{Damage, Folder, Out, Memory}
use Rattle.content_log.proofs.Coming.{walks-more, no-lines, lines-more}
use Rattle.content_log.proofs.Entering.{at-err}
use Rattle.content_log.proofs.Placed.{size-is, leaf-comes, leaf-fits}

-- no more is there than the file has
pub leaf-long : (name tag : List ℕ) (size : ℕ) (at : LeafAt) (s : Seen) → IsMeter s.numbers → size < at.child.end → LeafWritten name tag size at s s (Some Damage)
leaf-long name tag size at s meter long = record {
  walks = record { same_files = refl; same_draft = refl; later = omega arith; out_later = omega arith; cause = tt; pulls = PullsAtMost-none _ s.numbers meter; gained = ([], Takes-nil s.taken) };
  told = no-lines None tag (pairs_of at.set) size s.taken s.taken refl;
  shows = λ bytes parent l stamp xs may tells laid. absurd (let fits = leaf-fits s.files name bytes size (child_view at.child) (pairs_of at.set) parent l stamp xs tells laid in omega (arith, long, fits));
}

-- no memory for a cursor
pub leaf-unread : (name tag : List ℕ) (size : ℕ) (at : LeafAt) (s : Seen) → IsMeter s.numbers → LeafWritten name tag size at s s (Some Memory)
leaf-unread name tag size at s meter = record {
  walks = record { same_files = refl; same_draft = refl; later = omega arith; out_later = omega arith; cause = tt; pulls = PullsAtMost-none _ s.numbers meter; gained = ([], Takes-nil s.taken) };
  told = no-lines None tag (pairs_of at.set) size s.taken s.taken refl;
  shows = λ bytes parent l stamp xs may tells laid. record { sound = tt; bytes = TakesPrefix-none s.taken _; pulls = PullsAtMost-none _ s.numbers meter };
}

-- the leaf comes at the cursor
pub leaf-read : (name tag : List ℕ) (size : ℕ) (at : LeafAt) (c : PlainCursor) (s t : Seen) (e : Option LogFault) → c ≡ before_child name 0 (child_view at.child) → at.child.end ≤ size → RecordsWritten tag (pairs_of at.set) c s t e → LeafWritten name tag size at s t e
leaf-read name tag size at c s t e is within h = record {
  walks = walks-more (at.child.end - at.child.first) size s t e (omega (arith, within)) (subst (λ (k : PlainCursor). Walks (k.length - k.at) s t e) is h.walks);
  told = lines-more AloneOrStored tag (pairs_of at.set) (at.child.end - at.child.first) size s.taken t.taken (omega (arith, within)) (subst (λ (k : PlainCursor). Lines AloneOrStored tag (pairs_of at.set) (k.length - k.at) s.taken t.taken) is h.told);
  shows = λ bytes parent l stamp xs may tells laid. (
      let shows = h.shows l stamp xs may (leaf-comes s.files name bytes size (child_view at.child) (pairs_of at.set) parent l stamp xs c is tells laid) in
      subst (λ (n : ℕ). Shows (alts_text tag (pairs_of at.set) xs) n s t e) (sym (size-is parent l stamp xs)) shows);
}

abbrev pub out_fault : {T : Type 0} → Result T Failed → Option LogFault
out_fault (Ok x) = None
out_fault (Err e) = Some Out

module _ {S O : Type 0} (files : S → Option Files) (draft : S → Option (List ℕ)) (numbers : S → Numbers) (faults : S → ℕ) (taken : O → Taken) (out_faults : O → ℕ) (name tag : List ℕ) (size : ℕ) (at : LeafAt) where
  abbrev pub outer : S → O → Seen
  outer a o = seen files draft numbers faults taken out_faults a o

  abbrev pub inner : S → Buffered O → Seen
  inner a b = seen files draft numbers faults (buffered_taken taken) (buffered_faults out_faults) a b

  -- what the sink behind has of what went into the buffer
  through : (made used : Buffered O) (x y : O) (piece : List ℕ) → made.out.now ≡ x → waiting_bytes made ≡ [] → y ≡ used.out.now → TakesPrefix (buffered_taken taken made) (buffered_taken taken used) piece → TakesPrefix (taken x) (taken y) piece
  through made used x y piece same none last p =
      subst (λ t. TakesPrefix t (taken y) piece) (ap taken same) (subst (λ u. TakesPrefix (taken made.out.now) u piece) (ap taken (sym last)) (TakesPrefix-through _ _ _ _ (waiting_bytes made) (waiting_bytes used) piece none p))

  all-through : (made used : Buffered O) (x y : O) (piece : List ℕ) → made.out.now ≡ x → waiting_bytes made ≡ [] → waiting_bytes used ≡ [] → y ≡ used.out.now → Takes (buffered_taken taken made) (buffered_taken taken used) piece → Takes (taken x) (taken y) piece
  all-through made used x y piece same none empty last p =
      subst (λ t. Takes t (taken y) piece) (ap taken same) (subst (λ u. Takes (taken made.out.now) u piece) (ap taken (sym last)) (Takes-through _ _ _ _ (waiting_bytes made) (waiting_bytes used) piece none empty p))

  gained-of : (s t : Taken) (piece : List ℕ) → TakesPrefix s t piece → (bytes : List ℕ) × Takes s t bytes
  gained-of s t piece p = (take p.count piece, p.takes)

  prefix-kept : (a b c : Taken) (piece : List ℕ) → TakesPrefix a b piece → TakesNone b c → TakesPrefix a c piece
  prefix-kept a b c piece p q = record { count = p.count; takes = Takes-kept a b c (take p.count piece) p.takes q }

  cause-as : (a b c d e f : ℕ) (ended : Option LogFault) → c ≡ e → d ≡ f → IsCaused a b c d ended → IsCaused a b e f ended
  cause-as a b c d e f None p q h = tt
  cause-as a b c d e f (Some Damage) p q h = tt
  cause-as a b c d e f (Some Folder) p q h = h
  cause-as a b c d e f (Some Out) p q h = omega (arith, p, q, h)
  cause-as a b c d e f (Some Memory) p q h = tt

  -- the leaf was not written to its end
  unflushed : (a b : S) (made used : Buffered O) (x y : O) (e : LogFault) → made.out.now ≡ x → waiting_bytes made ≡ [] → y ≡ used.out.now → LeafWritten name tag size at (inner a made) (inner b used) (Some e) → LeafWritten name tag size at (outer a x) (outer b y) (Some e)
  unflushed a b made used x y e same none last h = (
      let w = h.walks in
      let g = w.gained in
      let later = w.out_later in
      let ends : out_faults used.out.now ≡ out_faults y = ap out_faults (sym last) in
      let begins = ap out_faults same in
      record {
        walks = record {
          same_files = w.same_files;
          same_draft = w.same_draft;
          later = w.later;
          out_later = omega (arith, later, begins, ends);
          cause = cause-as (faults a) (faults b) (out_faults made.out.now) (out_faults used.out.now) (out_faults x) (out_faults y) (Some e) begins ends w.cause;
          pulls = w.pulls;
          gained = gained-of (taken x) (taken y) g.0 (through made used x y g.0 same none last (TakesPrefix-all (buffered_taken taken made) (buffered_taken taken used) g.0 g.1));
        };
        told = record { alts = h.told.alts; are = h.told.are; fit = h.told.fit; takes = through made used x y _ same none last h.told.takes };
        shows = λ bytes parent l stamp xs may tells laid. (let s = h.shows bytes parent l stamp xs may tells laid in record { sound = s.sound; bytes = through made used x y _ same none last s.bytes; pulls = s.pulls });
      })

  put-through : {T : Type 0} (made used flushed : Buffered O) (x y : O) (piece : List ℕ) (r : Result T Failed) → made.out.now ≡ x → waiting_bytes made ≡ [] → y ≡ flushed.out.now → Takes (buffered_taken taken made) (buffered_taken taken used) piece
      → TakesNone (buffered_taken taken used) (buffered_taken taken flushed) → OnOk r (waiting_bytes flushed ≡ []) → Prefixed (taken x) (taken y) (out_fault r) piece
  put-through made used flushed x y piece (Ok u) same none last p q empty = all-through made flushed x y piece same none empty last (Takes-kept (buffered_taken taken made) (buffered_taken taken used) (buffered_taken taken flushed) piece p q)
  put-through made used flushed x y piece (Err u) same none last p q empty =
      through made flushed x y piece same none last (TakesPrefix-all (buffered_taken taken made) (buffered_taken taken flushed) piece (Takes-kept (buffered_taken taken made) (buffered_taken taken used) (buffered_taken taken flushed) piece p q))

  flush-cause : {T : Type 0} (a b c d e : ℕ) (r : Result T Failed) → c ≤ d → HasCause d e r → IsCaused a b c e (out_fault r)
  flush-cause a b c d e (Ok u) le h = tt
  flush-cause a b c d e (Err u) le h = (let f = h.failed in omega (arith, le, f))

  sound-out : {T : Type 0} (r : Result T Failed) → IsSound (out_fault r)
  sound-out (Ok u) = tt
  sound-out (Err u) = tt

  -- the leaf was written, and flushed, or not
  pub flushed-put : {T : Type 0} (a b : S) (made used flushed : Buffered O) (x y : O) (r : Result T Failed) → made.out.now ≡ x → waiting_bytes made ≡ [] → y ≡ flushed.out.now → LeafWritten name tag size at (inner a made) (inner b used) None
      → TakesNone (buffered_taken taken used) (buffered_taken taken flushed) → OnOk r (waiting_bytes flushed ≡ []) → HasCause (buffered_faults out_faults used) (buffered_faults out_faults flushed) r
      → LeafWritten name tag size at (outer a x) (outer b y) (out_fault r)
  flushed-put a b made used flushed x y r same none last h kept empty cause = (
      let w = h.walks in
      let g = w.gained in
      let later = w.out_later in
      let more = cause.later in
      let ends : out_faults flushed.out.now ≡ out_faults y = ap out_faults (sym last) in
      let begins = ap out_faults same in
      record {
        walks = record {
          same_files = w.same_files;
          same_draft = w.same_draft;
          later = w.later;
          out_later = omega (arith, later, more, begins, ends);
          cause = cause-as (faults a) (faults b) (out_faults made.out.now) (out_faults flushed.out.now) (out_faults x) (out_faults y) (out_fault r) begins ends (flush-cause (faults a) (faults b) (out_faults made.out.now) (out_faults used.out.now) (out_faults flushed.out.now) r later cause);
          pulls = w.pulls;
          gained = gained-of (taken x) (taken y) g.0 (through made flushed x y g.0 same none last (TakesPrefix-all (buffered_taken taken made) (buffered_taken taken flushed) g.0 (Takes-kept (buffered_taken taken made) (buffered_taken taken used) (buffered_taken taken flushed) g.0 g.1 kept)));
        };
        told = record {
          alts = h.told.alts;
          are = h.told.are;
          fit = h.told.fit;
          takes = through made flushed x y _ same none last (prefix-kept (buffered_taken taken made) (buffered_taken taken used) (buffered_taken taken flushed) _ h.told.takes kept);
        };
        shows = λ bytes parent l stamp xs may tells laid. (let s = h.shows bytes parent l stamp xs may tells laid in record { sound = sound-out r; bytes = put-through made used flushed x y _ r same none last s.bytes kept empty; pulls = s.pulls });
      })

  pub unflushed-on : {T : Type 0} (z : Result T LogFault) (e : LogFault) → IsErrAnd z (λ d. d ≡ e) → (a b : S) (made used : Buffered O) (x y : O) → made.out.now ≡ x → waiting_bytes made ≡ [] → y ≡ used.out.now → LeafWritten name tag size at (inner a made) (inner b used) (Some e)
      → LeafWritten name tag size at (outer a x) (outer b y) (fault_of z)
  unflushed-on z e is a b made used x y same none last h = at-err z e is (λ f. LeafWritten name tag size at (outer a x) (outer b y) f) (unflushed a b made used x y e same none last h)

  pub flushed-on : {T U : Type 0} (z : Result T LogFault) (u : Failed) → IsErrAnd z (λ d. d ≡ Out) → (a b : S) (made used flushed : Buffered O) (x y : O) → made.out.now ≡ x → waiting_bytes made ≡ [] → y ≡ flushed.out.now → LeafWritten name tag size at (inner a made) (inner b used) None
      → TakesNone (buffered_taken taken used) (buffered_taken taken flushed) → HasCause {T = U} (buffered_faults out_faults used) (buffered_faults out_faults flushed) (Err u) → LeafWritten name tag size at (outer a x) (outer b y) (fault_of z)
  flushed-on {U = U} z u is a b made used flushed x y same none last h kept cause =
      at-err z Out is (λ f. LeafWritten name tag size at (outer a x) (outer b y) f) (flushed-put {T = U} a b made used flushed x y (Err u) same none last h kept tt cause)
