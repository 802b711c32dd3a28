-- What parts of the join do, one after the other, whatever the archives are.
use Rattle.std.proofs.Common.{◌≡◌, ◌≢◌, ℕ, ◌+◌, ◌≤◌, List, [], ◌++◌, Option, Some, None, refl, sym, ap, subst, ◌∙◌, arith}
use Rattle.std.proofs.lemmas.List.{append-nil}
use Rattle.xa_outside.specs.Causes.{Rose}
use Rattle.xa_outside.specs.Numbers.{IsMeter}
use Rattle.xa_outside.specs.NumberLaws.{PullsAndDrafts-none, PullsAndDrafts-more, PullsAndDrafts-trans}
use Rattle.record_copy.specs.Faults.{IfFolder}
use Rattle.record_copy.specs.Passes as copy
use Rattle.record_copy.specs.declared.fault.CopyFault.{CopyFault}
use Rattle.record_copy.specs.declared.fault.CopyFault.TheVariants.{Damage, Folder, TooLong, Memory}
use Rattle.record_cursor.specs.View.{PlainCursor}
use Rattle.archive_join.specs.Passes.{GoesOn, may_pull, Passes}
use Rattle.archive_join.specs.State.{State, with_first, with_second}
use Rattle.record_copy.proofs.Passing.{cause-then, lengthens-then, lengthens-none}

-- ---- cursors

pub goes-none : (c : PlainCursor) → c.at ≤ c.length → GoesOn c c
goes-none c within = record { same_name = refl; same_length = refl; onward = omega arith; within = within }

pub goes-same : (c d : PlainCursor) → d ≡ c → c.at ≤ c.length → GoesOn c d
goes-same c d is within = subst (λ (x : PlainCursor). GoesOn c x) (sym is) (goes-none c within)

pub goes-then : (a b c : PlainCursor) → GoesOn a b → GoesOn b c → GoesOn a c
goes-then a b c h g = record {
  same_name = g.same_name ∙ h.same_name;
  same_length = g.same_length ∙ h.same_length;
  onward = (let x = h.onward in let y = g.onward in omega (arith, x, y));
  within = g.within;
}

-- ---- drafts

-- ---- parts

-- what one part may pull and what the next may are together what both may
pull-fits : (s t u : State) (e : Option CopyFault) → GoesOn s.first t.first → GoesOn s.second t.second → GoesOn t.first u.first → GoesOn t.second u.second → may_pull s t None + may_pull t u e ≤ may_pull s u e
pull-fits s t u None a b c d = (let x = a.onward in let y = b.onward in let z = c.onward in let w = d.onward in omega (arith, x, y, z, w))
pull-fits s t u (Some e) a b c d =
    let x = a.onward in let y = b.onward in let z = a.within in let w = b.within in let f = a.same_length in let g = b.same_length in
    omega (arith, x, y, z, w, f, g)

pub passes-then : (x y : List ℕ) (s t u : State) (e : Option CopyFault) → Passes x s t None → Passes y t u e → Passes (x ++ y) s u e
passes-then x y s t u e h g = record {
  same_files = g.same_files ∙ h.same_files;
  lengthens = lengthens-then s.draft t.draft u.draft x y h.lengthens g.lengthens;
  later = (let x = h.later in let y = g.later in omega (arith, x, y));
  cause = cause-then s.faults t.faults u.faults e h.later g.later g.cause;
  first = goes-then s.first t.first u.first h.first g.first;
  second = goes-then s.second t.second u.second h.second g.second;
  pulls = PullsAndDrafts-more (may_pull s t None + may_pull t u e) (may_pull s u e) s.numbers u.numbers (pull-fits s t u e h.first h.second g.first g.second)
      (PullsAndDrafts-trans (may_pull s t None) (may_pull t u e) s.numbers t.numbers u.numbers h.pulls g.pulls);
}

-- the same bytes, written in another way
pub passes-as : (x y : List ℕ) (s t : State) (e : Option CopyFault) → x ≡ y → Passes x s t e → Passes y s t e
passes-as x y s t e is h = subst (λ (z : List ℕ). Passes z s t e) is h

pub passes-none : (s : State) (e : Option CopyFault) → IsMeter s.numbers → s.first.at ≤ s.first.length → s.second.at ≤ s.second.length → e ≢ Some Folder → Passes [] s s e
passes-none s e meter left right n = record {
  same_files = refl;
  lengthens = lengthens-none s.draft s.draft refl;
  later = omega arith;
  cause = no-cause e n;
  first = goes-none s.first left;
  second = goes-none s.second right;
  pulls = PullsAndDrafts-none (may_pull s s e) s.numbers meter;
}
  where
    no-cause : (e : Option CopyFault) → e ≢ Some Folder → IfFolder e (Rose s.faults s.faults)
    no-cause None n = tt
    no-cause (Some Folder) n = absurd (n refl)
    no-cause (Some Damage) n = tt
    no-cause (Some TooLong) n = tt
    no-cause (Some Memory) n = tt

some-is : (f g : CopyFault) → ◌≡◌ {A = Option CopyFault} (Some f) (Some g) → f ≡ g
some-is f g e = cc

-- behind a part without a fault it stops
pub passes-stop : (x : List ℕ) (s t : State) (f : CopyFault) → IsMeter t.numbers → f ≢ Folder → Passes x s t None → Passes x s t (Some f)
passes-stop x s t f meter not h =
    passes-as (x ++ []) x s t (Some f) (append-nil x)
    (passes-then x [] s t t (Some f) h (passes-none t (Some f) meter h.first.within h.second.within (λ e. not (some-is f Folder e))))

-- ---- a part that goes along one of the cursors

first-fits : (s t : State) (e : Option CopyFault) → copy.may_pull (with_first s) (with_first t) e ≤ may_pull s t e
first-fits s t None = omega arith
first-fits s t (Some e) = omega arith

second-fits : (s t : State) (e : Option CopyFault) → copy.may_pull (with_second s) (with_second t) e ≤ may_pull s t e
second-fits s t None = omega arith
second-fits s t (Some e) = omega arith

pub first-goes : (x : List ℕ) (s t : State) (e : Option CopyFault) → copy.Passes x (with_first s) (with_first t) e → GoesOn s.first t.first
first-goes x s t e h = record { same_name = h.same_name; same_length = h.same_length; onward = h.onward; within = h.within }

pub second-goes : (x : List ℕ) (s t : State) (e : Option CopyFault) → copy.Passes x (with_second s) (with_second t) e → GoesOn s.second t.second
second-goes x s t e h = record { same_name = h.same_name; same_length = h.same_length; onward = h.onward; within = h.within }

pub first-passes : (x : List ℕ) (s t : State) (e : Option CopyFault) → s.second.at ≤ s.second.length → t.second ≡ s.second → copy.Passes x (with_first s) (with_first t) e → Passes x s t e
first-passes x s t e within same h = record {
  same_files = h.same_files;
  lengthens = h.lengthens;
  later = h.later;
  cause = h.cause;
  first = first-goes x s t e h;
  second = goes-same s.second t.second same within;
  pulls = PullsAndDrafts-more (copy.may_pull (with_first s) (with_first t) e) (may_pull s t e) s.numbers t.numbers (first-fits s t e) h.pulls;
}

pub second-passes : (x : List ℕ) (s t : State) (e : Option CopyFault) → s.first.at ≤ s.first.length → t.first ≡ s.first → copy.Passes x (with_second s) (with_second t) e → Passes x s t e
second-passes x s t e within same h = record {
  same_files = h.same_files;
  lengthens = h.lengthens;
  later = h.later;
  cause = h.cause;
  first = goes-same s.first t.first same within;
  second = second-goes x s t e h;
  pulls = PullsAndDrafts-more (copy.may_pull (with_second s) (with_second t) e) (may_pull s t e) s.numbers t.numbers (second-fits s t e) h.pulls;
}
