-- Comparing part after part.
use Rattle.std.proofs.Common.{◌≡◌, ℕ, ◌+◌, ◌-◌, ◌<◌, ◌≤◌, Bool, List, [], ◌++◌, length, take, drop, bytes_eq, Option, Some, None, Result, Ok, Err, OnOk, IsErrAnd, refl, sym, ap, subst, ◌∙◌, append_assoc, append-nil, arith}
use Rattle.std.proofs.lemmas.List.{length-append}
use Rattle.xa_outside.specs.Folder.{Files}
use Rattle.xa_outside.specs.Numbers.{Numbers, IsMeter, PullsAtMost}
use Rattle.xa_outside.specs.NumberLaws.{PullsAtMost-none, PullsAtMost-more, PullsAtMost-trans}
use Rattle.record_cursor.specs.Moves.{TellsFront}
use Rattle.record_cursor.specs.Steps.{OnlyReads, IsCause, Filled, fault_of}
use Rattle.record_cursor.proofs.Fills.{front-length}
use Rattle.record_cursor.specs.declared.fault.CursorFault.{CursorFault}
use Rattle.record_cursor.specs.declared.fault.CursorFault.TheVariants as fault
use Rattle.row_ends.specs.Rooms.{PlainRoom, place, matches}
use Rattle.row_ends.specs.Expected.{Expected, Compared, Leads, Refuses, Answers, IsFound, answered, stop_fault}
use Rattle.row_ends.specs.declared.stop.Stop.{Stop}
use Rattle.row_ends.specs.declared.stop.Stop.TheVariants.{Differs, Fault}
use Rattle.row_ends.proofs.Same.{passed, failed, too-long, none-left}

cause-later : (a b c : ℕ) (e : Option CursorFault) → a ≤ b → IsCause b c e → IsCause a c e
cause-later a b c None le h = tt
cause-later a b c (Some fault.Damage) le h = tt
cause-later a b c (Some fault.Folder) le h = omega (arith, le, h)
cause-later a b c (Some fault.Memory) le h = tt

-- what is returned at the exit of a `?`
pub at-err : {U : Type 0} (r : Result U Stop) (e : Stop) → IsErrAnd r (λ g. g ≡ e) → (P : Result U Stop → Type 0) → P (Err e) → P r
at-err (Ok x) e h P p = absurd h
at-err (Err g) e h P p = subst (λ (z : Stop). P (Err z)) (sym h) p

-- ---- what is answered

pub fault-same : {T : Type 0} (r : Result T Stop) → stop_fault r ≡ fault_of (answered r)
fault-same (Ok x) = refl
fault-same (Err Differs) = refl
fault-same (Err (Fault e)) = refl

pub told-of : {T : Type 0} (r : Result T Stop) (m w : Bool) → m ≡ w → Answers m r → Filled (answered r) (λ b. b ≡ w)
told-of (Ok x) m w e h = sym h ∙ e
told-of (Err Differs) m w e h = sym h ∙ e
told-of (Err (Fault f)) m w e h = h

module _ {S : Type 0} (files : S → Option Files) (draft : S → Option (List ℕ)) (numbers : S → Numbers) (faults : S → ℕ) (name : List ℕ) where
  abbrev Does : {T : Type 0} → List ℕ → S → S → PlainRoom → PlainRoom → Result T Stop → Type 0
  Does text s t a b r = Expected files draft numbers faults name text s t a b r

  abbrev DoesAll : {T : Type 0} → List ℕ → S → S → PlainRoom → Result T Stop → Type 0
  DoesAll text s t a r = Compared files draft numbers faults name text s t a r

  reads-then : (s t u : S) (e : Option CursorFault) → OnlyReads files draft faults s t None → OnlyReads files draft faults t u e → OnlyReads files draft faults s u e
  reads-then s t u e h g = record {
    same_files = g.same_files ∙ h.same_files;
    same_draft = g.same_draft ∙ h.same_draft;
    later = (let x = h.later in let y = g.later in omega (arith, x, y));
    cause = cause-later (faults s) (faults t) (faults u) e h.later g.cause;
  }

  reads-none : (s : S) → OnlyReads files draft faults s s None
  reads-none s = record { same_files = refl; same_draft = refl; later = omega arith; cause = tt }

  -- the same bytes, put another way
  pub rewritten : {T : Type 0} (x y : List ℕ) (s t : S) (a b : PlainRoom) (r : Result T Stop) → x ≡ y → Does x s t a b r → Does y s t a b r
  rewritten {T} x y s t a b r e h = subst (λ (z : List ℕ). Does {T = T} z s t a b r) e h

  pub all-rewritten : {T : Type 0} (x y : List ℕ) (s t : S) (a : PlainRoom) (r : Result T Stop) → x ≡ y → DoesAll x s t a r → DoesAll y s t a r
  all-rewritten {T} x y s t a r e h = subst (λ (z : List ℕ). DoesAll {T = T} z s t a r) e h

  -- ---- the bytes x are expected, and then y in front of them

  module _ {T : Type 0} (x y : List ℕ) (s t u : S) (a b : PlainRoom) (v : T) (h : Does x s t a b (Ok v)) where
    regrouped : (bytes front : List ℕ) → matches a bytes (front ++ (y ++ x)) ≡ matches a bytes ((front ++ y) ++ x)
    regrouped bytes front = ap (matches a bytes) (sym (append_assoc front y x))

    still : (end : ℕ) (bytes : List ℕ) → TellsFront (files s) name end bytes → TellsFront (files t) name end bytes
    still end bytes tells = subst (λ (f : Option Files). TellsFront f name end bytes) (sym h.reads.same_files) tells

    moved-on : {U : Type 0} (c : PlainRoom) (q : Result U Stop) → OnOk q (place c + length y ≡ place b) → OnOk q (place c + length (y ++ x) ≡ place a)
    moved-on c (Ok w) e = (let first = h.moved in omega (arith, e, first, length-append y x))
    moved-on c (Err e) m = tt

    leads-on : {U : Type 0} (c : PlainRoom) (q : Result U Stop) (end : ℕ) (bytes : List ℕ) → TellsFront (files s) name end bytes → a.at ≤ end → Leads b c bytes y q → Leads a c bytes (y ++ x) q
    leads-on c (Ok w) end bytes tells fits g = λ front. regrouped bytes front ∙ h.leads end bytes tells fits (front ++ y) ∙ g front
    leads-on c (Err Differs) end bytes tells fits g = λ front. regrouped bytes front ∙ h.leads end bytes tells fits (front ++ y) ∙ g front
    leads-on c (Err (Fault e)) end bytes tells fits g = g

    pub then : {U : Type 0} (c : PlainRoom) (q : Result U Stop) → Does y t u b c q → Does (y ++ x) s u a c q
    then c q g =
        let back = h.back in
        let on = g.back in
        record {
          reads = reads-then s t u (stop_fault q) h.reads g.reads;
          same_low = g.same_low ∙ h.same_low;
          within = λ w. g.within (h.within w);
          back = omega (arith, back, on);
          pulls = PullsAtMost-more ((a.at - b.at) + (b.at - c.at)) (a.at - c.at) (numbers s) (numbers u) (omega (arith, back, on)) (PullsAtMost-trans (a.at - b.at) (b.at - c.at) (numbers s) (numbers t) (numbers u) h.pulls g.pulls);
          moved = moved-on c q g.moved;
          leads = λ end bytes tells fits. leads-on c q end bytes tells fits (g.leads end bytes (still end bytes tells) (omega (arith, back, fits)));
        }

    answers-on : {U : Type 0} (q : Result U Stop) (end : ℕ) (bytes : List ℕ) → TellsFront (files s) name end bytes → a.at ≤ end → Answers (matches b bytes y) q → Answers (matches a bytes (y ++ x)) q
    answers-on (Ok w) end bytes tells fits g = h.leads end bytes tells fits y ∙ g
    answers-on (Err Differs) end bytes tells fits g = h.leads end bytes tells fits y ∙ g
    answers-on (Err (Fault e)) end bytes tells fits g = g

    pub then-all : {U : Type 0} (q : Result U Stop) → a.low ≤ a.at → DoesAll y t u b q → DoesAll (y ++ x) s u a q
    then-all q w g =
        let back = h.back in
        let low = h.same_low in
        let within = h.within w in
        record {
          reads = reads-then s t u (stop_fault q) h.reads g.reads;
          pulls = PullsAtMost-more ((a.at - b.at) + (b.at - b.low)) (a.at - a.low) (numbers s) (numbers u) (omega (arith, back, low, within)) (PullsAtMost-trans (a.at - b.at) (b.at - b.low) (numbers s) (numbers t) (numbers u) h.pulls g.pulls);
          answers = λ end bytes tells fits. answers-on q end bytes tells fits (g.answers end bytes (still end bytes tells) (omega (arith, back, fits)));
        }

  -- another value is answered
  pub given : {T U : Type 0} (x : List ℕ) (s t : S) (a b : PlainRoom) (v : T) (w : U) → Does x s t a b (Ok v) → Does x s t a b (Ok w)
  given x s t a b v w h = record {
    reads = h.reads;
    same_low = h.same_low;
    within = h.within;
    back = h.back;
    pulls = h.pulls;
    moved = h.moved;
    leads = h.leads;
  }

  -- ---- it stops at the bytes x

  module _ {T : Type 0} (x y : List ℕ) (s t : S) (a b : PlainRoom) (e : Stop) (h : Does {T = T} x s t a b (Err e)) where
    refuses-on : (bytes : List ℕ) (f : Stop) → Refuses a bytes x f → Refuses a bytes (y ++ x) f
    refuses-on bytes Differs g = λ front. ap (matches a bytes) (sym (append_assoc front y x)) ∙ g (front ++ y)
    refuses-on bytes (Fault f) g = g

    pub stops : {U : Type 0} → Does {T = U} (y ++ x) s t a b (Err e)
    stops = record {
      reads = h.reads;
      same_low = h.same_low;
      within = h.within;
      back = h.back;
      pulls = h.pulls;
      moved = tt;
      leads = λ end bytes tells fits. refuses-on bytes e (h.leads end bytes tells fits);
    }

    answers-no : (U : Type 0) (bytes : List ℕ) (f : Stop) → Refuses a bytes x f → Answers {T = U} (matches a bytes (y ++ x)) (Err f)
    answers-no U bytes Differs g = g y
    answers-no U bytes (Fault f) g = g

    pub stops-all : {U : Type 0} → a.low ≤ a.at → DoesAll {T = U} (y ++ x) s t a (Err e)
    stops-all {U} w =
        let low = h.same_low in
        let within = h.within w in
        record {
          reads = h.reads;
          pulls = PullsAtMost-more (a.at - b.at) (a.at - a.low) (numbers s) (numbers t) (omega (arith, low, within)) h.pulls;
          answers = λ end bytes tells fits. answers-no U bytes e (h.leads end bytes tells fits);
        }

  -- the same at the exit of a `?`
  pub passes : {T U : Type 0} (x y : List ℕ) (s t : S) (a b : PlainRoom) (e : Stop) (r : Result U Stop) → IsErrAnd r (λ g. g ≡ e) → Does {T = T} x s t a b (Err e) → Does {T = U} (y ++ x) s t a b r
  passes {T} {U} x y s t a b e r is h = at-err r e is (λ (q : Result U Stop). Does {T = U} (y ++ x) s t a b q) (stops x y s t a b e h)

  pub passes-all : {T U : Type 0} (x y : List ℕ) (s t : S) (a b : PlainRoom) (e : Stop) (r : Result U Stop) → IsErrAnd r (λ g. g ≡ e) → a.low ≤ a.at → Does {T = T} x s t a b (Err e) → DoesAll {T = U} (y ++ x) s t a r
  passes-all {T} {U} x y s t a b e r is w h = at-err r e is (λ (q : Result U Stop). DoesAll {T = U} (y ++ x) s t a q) (stops-all x y s t a b e h w)

  -- behind the bytes x memory runs out
  pub out-of-memory : {T U : Type 0} (x y : List ℕ) (s t : S) (a b : PlainRoom) (v : T) (r : Result U Stop) → IsErrAnd r (λ g. g ≡ Fault fault.Memory) → Does x s t a b (Ok v) → Does {T = U} y s t a b r
  out-of-memory {T} {U} x y s t a b v r is h = at-err r (Fault fault.Memory) is (λ (q : Result U Stop). Does {T = U} y s t a b q) (record {
    reads = record { same_files = h.reads.same_files; same_draft = h.reads.same_draft; later = h.reads.later; cause = tt };
    same_low = h.same_low;
    within = h.within;
    back = h.back;
    pulls = h.pulls;
    moved = tt;
    leads = λ end bytes tells fits. tt;
  })

  -- ---- nothing is read

  module _ (s : S) (meter : IsMeter (numbers s)) where
    pub nothing : {T : Type 0} (a : PlainRoom) (v : T) → Does [] s s a a (Ok v)
    nothing a v = record {
      reads = reads-none s;
      same_low = refl;
      within = λ w. w;
      back = omega arith;
      pulls = PullsAtMost-none (a.at - a.at) (numbers s) meter;
      moved = omega arith;
      leads = λ end bytes tells fits front. ap (matches a bytes) (append-nil front);
    }

    pub no-room : {T : Type 0} (a : PlainRoom) (text : List ℕ) → a.at - a.low < length text + length a.pending → Does {T = T} text s s a a (Err Differs)
    no-room a text more = record {
      reads = reads-none s;
      same_low = refl;
      within = λ w. w;
      back = omega arith;
      pulls = PullsAtMost-none (a.at - a.at) (numbers s) meter;
      moved = tt;
      leads = λ end bytes tells fits front. too-long a bytes front text more;
    }

    pub put-front : {T : Type 0} (a b : PlainRoom) (text : List ℕ) (v : T) → b ≡ record { low = a.low; at = a.at; pending = text ++ a.pending } → a.low + length text ≤ place a → Does text s s a b (Ok v)
    put-front {T} a b text v is within =
        let c : PlainRoom = record { low = a.low; at = a.at; pending = text ++ a.pending } in
        subst (λ (r : PlainRoom). Does {T = T} text s s a r (Ok v)) (sym is) (record {
          reads = reads-none s;
          same_low = refl;
          within = λ w. w;
          back = omega arith;
          pulls = PullsAtMost-none (a.at - a.at) (numbers s) meter;
          moved = omega (arith, within, length-append text a.pending);
          leads = λ end bytes tells fits front. ap (λ (xs : List ℕ). bytes_eq xs (take (a.at - a.low) (drop a.low bytes))) (append_assoc front text a.pending);
        })

  -- ---- the bytes that are pending are looked for

  module _ {T : Type 0} (s t : S) (a : PlainRoom) (r : Result T Stop) (within : a.low + length a.pending ≤ a.at) where
    abbrev before : PlainRoom
    before = record { low = a.low; at = a.at - length a.pending; pending = [] }

    moved-by : (q : Result T Stop) → OnOk q (place before + length {A = ℕ} [] ≡ place a)
    moved-by (Ok v) = omega (arith, within)
    moved-by (Err e) = tt

    found : (bytes : List ℕ) (q : Result T Stop) → a.at ≤ length bytes → IsFound a.pending (take (length a.pending) (drop (a.at - length a.pending) bytes)) q → Leads a before bytes [] q
    found bytes (Ok v) fits g = passed bytes a.pending a.low a.at within fits g
    found bytes (Err Differs) fits g = failed bytes a.pending a.low a.at within fits g
    found bytes (Err (Fault e)) fits g = g

    module _ (x : List ℕ) (at : ℕ) (is : x ≡ a.pending) (there : at ≡ a.at - length a.pending) where
      found-as : (bytes : List ℕ) → IsFound x (take (length x) (drop at bytes)) r → IsFound a.pending (take (length a.pending) (drop (a.at - length a.pending) bytes)) r
      found-as bytes h = subst (λ (z : List ℕ). IsFound z (take (length z) (drop (a.at - length a.pending) bytes)) r) is (subst (λ (n : ℕ). IsFound x (take (length x) (drop n bytes)) r) there h)

      pub looked : (b : PlainRoom) → b ≡ before → OnlyReads files draft faults s t (stop_fault r) → PullsAtMost (length x) (numbers s) (numbers t)
          → ((end : ℕ) (bytes : List ℕ) → TellsFront (files s) name end bytes → at + length x ≤ end → IsFound x (take (length x) (drop at bytes)) r)
          → Does [] s t a b r
      looked b same reads pulls told =
          let size : length x ≡ length a.pending = ap length is in
          subst (λ (c : PlainRoom). Does {T = T} [] s t a c r) (sym same) (record {
            reads = reads;
            same_low = refl;
            within = λ w. omega (arith, within);
            back = omega arith;
            pulls = PullsAtMost-more (length x) (a.at - (a.at - length a.pending)) (numbers s) (numbers t) (omega (arith, within, size)) pulls;
            moved = moved-by r;
            leads = λ end bytes tells fits. found bytes r (omega (arith, fits, front-length (files s) name bytes end tells)) (found-as bytes (told end bytes tells (omega (arith, within, fits, size, there))));
          })

  -- and no others are left
  module _ {T : Type 0} (s t : S) (a b : PlainRoom) (r : Result T Stop) (none : b.pending ≡ []) (all : place a ≤ a.low) (within : a.low ≤ a.at) (h : Does [] s t a b r) where
    left-none : (bytes : List ℕ) (q : Result T Stop) → OnOk q (place b + length {A = ℕ} [] ≡ place a) → Leads a b bytes [] q → Answers (matches a bytes []) q
    left-none bytes (Ok v) m g =
        let low = h.same_low in
        let size : length b.pending ≡ 0 = ap length none in
        g [] ∙ none-left b bytes none (omega (arith, m, low, all, size))
    left-none bytes (Err Differs) m g = g []
    left-none bytes (Err (Fault e)) m g = g

    pub finished : DoesAll [] s t a r
    finished =
        let low = h.same_low in
        let w = h.within within in
        record {
          reads = h.reads;
          pulls = PullsAtMost-more (a.at - b.at) (a.at - a.low) (numbers s) (numbers t) (omega (arith, low, w)) h.pulls;
          answers = λ end bytes tells fits. left-none bytes r h.moved (h.leads end bytes tells fits);
        }
