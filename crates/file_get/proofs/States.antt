-- What parts of the printing do, one after the other.
use Rattle.std.proofs.Common.{◌≡◌, ℕ, ◌+◌, ◌≤◌, List, [], ◌++◌, take, Option, Some, None, Result, Ok, Err, refl, sym, ap, subst, ◌∙◌, arith}
use Rattle.std.specs.Option.{option_map}
use Rattle.xa_outside.specs.Causes.{HasCause}
use Rattle.xa_outside.specs.Folder.{Files}
use Rattle.xa_outside.specs.Numbers.{Numbers, IsMeter, PullsAtMost}
use Rattle.xa_outside.specs.NumberLaws.{PullsAtMost-none, PullsAtMost-more, PullsAtMost-trans}
use Rattle.xa_outside.specs.Taken.{Taken, Takes, TakesPrefix}
use Rattle.xa_outside.specs.TakenLaws.{Takes-nil, Takes-trans, TakesPrefix-none, TakesPrefix-after, TakesPrefix-more}
use Rattle.xa_outside.specs.declared.Failed.{Failed}
use Rattle.jsonml_print.specs.Calls.{Call, printed, reached, Prints}
use Rattle.jsonml_print.proofs.Walks.{printed-append, reached-append}
use Rattle.jsonml_print.specs.Pen.{Pen}
use Rattle.record_cursor.specs.Faults.{IfDamage}
use Rattle.record_cursor.specs.Steps as cursor
use Rattle.record_cursor.specs.declared.fault.CursorFault.{CursorFault}
use Rattle.record_cursor.specs.declared.fault.CursorFault.TheVariants as fault
use Rattle.file_get.specs.Told.{of_cursor, IsCaused, IsBehind, IsRefused, IsSound, Unless}
use Rattle.file_get.specs.State.{State, state}
use Rattle.file_get.specs.Walks.{Walks, Prefixed, Shows, Sends}
use Rattle.file_get.specs.declared.fault.GetFault.{GetFault}
use Rattle.file_get.specs.declared.fault.GetFault.TheVariants.{NoVersion, Damage, Folder, Out, Memory}

-- ---- whatever the file is

cause-then : (a b c x y z : ℕ) (e : Option GetFault) → a ≤ b → b ≤ c → x ≤ y → y ≤ z → IsCaused b c y z e → IsCaused a c x z e
cause-then a b c x y z None h g k l m = tt
cause-then a b c x y z (Some (NoVersion n)) h g k l m = tt
cause-then a b c x y z (Some Damage) h g k l m = tt
cause-then a b c x y z (Some Folder) h g k l m = omega (arith, h, g, m)
cause-then a b c x y z (Some Out) h g k l m = omega (arith, k, l, m)
cause-then a b c x y z (Some Memory) h g k l m = tt

pub walks-then : (s t u : State) (e : Option GetFault) (a b m : ℕ) → a + b ≤ m → Walks a s t None → Walks b t u e → Walks m s u e
walks-then s t u e a b m le h g = record {
  same_files = g.same_files ∙ h.same_files;
  same_draft = g.same_draft ∙ h.same_draft;
  later = (let x = h.later in let y = g.later in omega (arith, x, y));
  out_later = (let x = h.out_later in let y = g.out_later in omega (arith, x, y));
  cause = cause-then s.faults t.faults u.faults s.out_faults t.out_faults u.out_faults e h.later g.later h.out_later g.out_later g.cause;
  behind = g.behind;
  pulls = PullsAtMost-more (a + b) m s.numbers u.numbers le (PullsAtMost-trans a b s.numbers t.numbers u.numbers h.pulls g.pulls);
  gained = (h.gained.0 ++ g.gained.0, Takes-trans s.taken t.taken u.taken h.gained.0 g.gained.0 h.gained.1 g.gained.1);
}

pub walks-more : (s t : State) (e : Option GetFault) (a m : ℕ) → a ≤ m → Walks a s t e → Walks m s t e
walks-more s t e a m le h = record {
  same_files = h.same_files;
  same_draft = h.same_draft;
  later = h.later;
  out_later = h.out_later;
  cause = h.cause;
  behind = h.behind;
  pulls = PullsAtMost-more a m s.numbers t.numbers le h.pulls;
  gained = h.gained;
}

-- the same, where damage is found behind it
pub walks-damage : (s t : State) (a m : ℕ) → a ≤ m → Walks a s t None → Walks m s t (Some Damage)
walks-damage s t a m le h = record {
  same_files = h.same_files;
  same_draft = h.same_draft;
  later = h.later;
  out_later = h.out_later;
  cause = tt;
  behind = tt;
  pulls = PullsAtMost-more a m s.numbers t.numbers le h.pulls;
  gained = h.gained;
}

pub walks-none : (s : State) (m : ℕ) → IsMeter s.numbers → Walks m s s None
walks-none s m meter = record {
  same_files = refl;
  same_draft = refl;
  later = omega arith;
  out_later = omega arith;
  cause = tt;
  behind = tt;
  pulls = PullsAtMost-none m s.numbers meter;
  gained = ([], Takes-nil s.taken);
}

-- where a read is not answered, nothing else is said
pub refused-unread : (e : CursorFault) → IsRefused (Some (of_cursor e))
refused-unread fault.Damage = tt
refused-unread fault.Folder = tt
refused-unread fault.Memory = tt

-- ---- where the file is sound

prefixed-then : (a b c : Taken) (e : Option GetFault) (x y : List ℕ) → Takes a b x → Prefixed b c e y → Prefixed a c e (x ++ y)
prefixed-then a b c None x y h g = Takes-trans a b c x y h g
prefixed-then a b c (Some e) x y h g = TakesPrefix-after a b c x y h g

pen-then : (p q r : Pen) (e : Option GetFault) (cs ds : List Call) → q ≡ reached p cs → Unless e (r ≡ reached q ds) → Unless e (r ≡ reached p (cs ++ ds))
pen-then p q r None cs ds h g = g ∙ ap (λ (o : Pen). reached o ds) h ∙ sym (reached-append p cs ds)
pen-then p q r (Some e) cs ds h g = tt

exact-then : (a b c i j n : ℕ) (e : Option GetFault) → i + j ≡ n → b ≡ a + i → Unless e (c ≡ b + j) → Unless e (c ≡ a + n)
exact-then a b c i j n None all h g = omega (arith, all, h, g)
exact-then a b c i j n (Some e) all h g = tt

exact-as : (a b i n : ℕ) (e : Option GetFault) → i ≡ n → Unless e (b ≡ a + i) → Unless e (b ≡ a + n)
exact-as a b i n e same h = subst (λ (k : ℕ). Unless e (b ≡ a + k)) same h

pub shows-then : (s t u : State) (e : Option GetFault) (cs ds : List Call) (a b m i j n : ℕ) → a + b ≤ m → i + j ≡ n → Shows cs a i s t None → Shows ds b j t u e → Shows (cs ++ ds) m n s u e
shows-then s t u e cs ds a b m i j n le few h g = record {
  sound = g.sound;
  bytes = subst (Prefixed s.taken u.taken e) (ap (λ (p : Pen). printed s.pen cs ++ printed p ds) h.pen ∙ sym (printed-append s.pen cs ds)) (prefixed-then s.taken t.taken u.taken e (printed s.pen cs) (printed t.pen ds) h.bytes g.bytes);
  pen = pen-then s.pen t.pen u.pen e cs ds h.pen g.pen;
  pulls = PullsAtMost-more (a + b) m s.numbers u.numbers le (PullsAtMost-trans a b s.numbers t.numbers u.numbers h.pulls g.pulls);
  steps = (let x = h.steps in let y = g.steps in omega (arith, few, x, y));
  exact = exact-then s.steps t.steps u.steps i j n e few h.exact g.exact;
}

-- a fault before further calls
pub shows-fault : (s t : State) (e : GetFault) (cs ds : List Call) (a m i n : ℕ) → a ≤ m → i ≤ n → Shows cs a i s t (Some e) → Shows (cs ++ ds) m n s t (Some e)
shows-fault s t e cs ds a m i n le few h = record {
  sound = h.sound;
  bytes = subst (TakesPrefix s.taken t.taken) (sym (printed-append s.pen cs ds)) (TakesPrefix-more s.taken t.taken (printed s.pen cs) (printed (reached s.pen cs) ds) h.bytes);
  pen = tt;
  pulls = PullsAtMost-more a m s.numbers t.numbers le h.pulls;
  steps = (let x = h.steps in omega (arith, few, x));
  exact = tt;
}

-- the same, said in another way
pub shows-as : (s t : State) (e : Option GetFault) (cs ds : List Call) (a m i n : ℕ) → cs ≡ ds → a ≤ m → i ≡ n → Shows cs a i s t e → Shows ds m n s t e
shows-as s t e cs ds a m i n same le few h = record {
  sound = h.sound;
  bytes = subst (λ (xs : List Call). Prefixed s.taken t.taken e (printed s.pen xs)) same h.bytes;
  pen = subst (λ (xs : List Call). Unless e (t.pen ≡ reached s.pen xs)) same h.pen;
  pulls = PullsAtMost-more a m s.numbers t.numbers le h.pulls;
  steps = (let x = h.steps in omega (arith, few, x));
  exact = exact-as s.steps t.steps i n e few h.exact;
}

pub shows-none : (s : State) (m : ℕ) → IsMeter s.numbers → Shows [] m 0 s s None
shows-none s m meter = record { sound = tt; bytes = Takes-nil s.taken; pen = refl; pulls = PullsAtMost-none m s.numbers meter; steps = omega arith; exact = omega arith }

-- ---- parts

-- what an output that failed is answered with
abbrev pub out_fault : {T : Type 0} → Result T Failed → Option GetFault
out_fault (Ok x) = None
out_fault (Err e) = Some Out

pub unless-out : {T : Type 0} (r : Result T Failed) (P : Type 0) → P → Unless (out_fault r) P
unless-out (Ok x) P h = h
unless-out (Err e) P h = tt

module _ {S K : Type 0} (files : S → Option Files) (draft : S → Option (List ℕ)) (numbers : S → Numbers) (faults : S → ℕ) (taken : K → Taken) (out_faults : K → ℕ) where
  abbrev pub at : S → K → Pen → ℕ → State
  at = state files draft numbers faults taken out_faults

  pub sends : {T : Type 0} (folder : S) (a b : K) (p q : Pen) (n : ℕ) (calls : List Call) (r : Result T Failed) → IsMeter (numbers folder) → Prints (taken a) (taken b) p q calls r → HasCause (out_faults a) (out_faults b) r
      → Sends calls (at folder a p n) (at folder b q n) (out_fault r)
  sends folder a b p q n calls (Ok x) meter h c = record {
    walks = record { same_files = refl; same_draft = refl; later = omega arith; out_later = c.later; cause = tt; behind = tt; pulls = PullsAtMost-none 0 (numbers folder) meter; gained = (printed p calls, h.bytes) };
    shows = record { sound = tt; bytes = h.bytes; pen = h.pen; pulls = PullsAtMost-none 0 (numbers folder) meter; steps = omega arith; exact = omega arith };
  }
  sends folder a b p q n calls (Err x) meter h c = record {
    walks = record { same_files = refl; same_draft = refl; later = omega arith; out_later = c.later; cause = c.failed; behind = tt; pulls = PullsAtMost-none 0 (numbers folder) meter; gained = (let b = h.bytes in (take b.count (printed p calls), b.takes)) };
    shows = record { sound = tt; bytes = h.bytes; pen = tt; pulls = PullsAtMost-none 0 (numbers folder) meter; steps = omega arith; exact = tt };
  }

  caused : (a b x y : ℕ) (e : Option CursorFault) → cursor.IsCause a b e → IsCaused a b x y (option_map of_cursor e)
  caused a b x y None h = tt
  caused a b x y (Some fault.Damage) h = tt
  caused a b x y (Some fault.Folder) h = h
  caused a b x y (Some fault.Memory) h = tt

  behind : (e : Option CursorFault) → IsBehind (option_map of_cursor e)
  behind None = tt
  behind (Some fault.Damage) = tt
  behind (Some fault.Folder) = tt
  behind (Some fault.Memory) = tt

  pub reads : (old new : S) (k : K) (p : Pen) (m n : ℕ) (e : Option CursorFault) (most : ℕ) → cursor.OnlyReads files draft faults old new e → PullsAtMost most (numbers old) (numbers new) → Walks most (at old k p m) (at new k p n) (option_map of_cursor e)
  reads old new k p m n e most h pulls = record {
    same_files = h.same_files;
    same_draft = h.same_draft;
    later = h.later;
    out_later = omega arith;
    cause = caused (faults old) (faults new) (out_faults k) (out_faults k) e h.cause;
    behind = behind e;
    pulls = pulls;
    gained = ([], Takes-nil (taken k));
  }

  -- a read that was answered
  pub shows-read : (old new : S) (k : K) (p : Pen) (m n read walked : ℕ) → n ≡ m + walked → PullsAtMost read (numbers old) (numbers new) → Shows [] read walked (at old k p m) (at new k p n) None
  shows-read old new k p m n read walked few pulls = record { sound = tt; bytes = Takes-nil (taken k); pen = refl; pulls = pulls; steps = omega (arith, few); exact = few }

  sound-of : (e : CursorFault) → IfDamage e ⊥ → IsSound (Some (of_cursor e))
  sound-of fault.Damage h = absurd h
  sound-of fault.Folder h = tt
  sound-of fault.Memory h = tt

  -- a read that failed, where something stands there
  pub shows-unread : (old new : S) (k : K) (p : Pen) (m n read walked : ℕ) (e : CursorFault) (calls : List Call) → IfDamage e ⊥ → n ≤ m + walked → PullsAtMost read (numbers old) (numbers new)
      → Shows calls read walked (at old k p m) (at new k p n) (Some (of_cursor e))
  shows-unread old new k p m n read walked e calls d few pulls = record { sound = sound-of e d; bytes = TakesPrefix-none (taken k) (printed p calls); pen = tt; pulls = pulls; steps = few; exact = tt }
