-- Calls of the writer, one part after the other, and what is known of each archive.
use Rattle.std.proofs.Common.{◌≡◌, ◌≢◌, ℕ, ◌+◌, ◌≤◌, Bool, true, false, List, [], ◌∷◌, ◌++◌, Option, Some, None, Result, Ok, Err, refl, sym, ap, subst, ◌∙◌, append_assoc, arith}
use Rattle.std.specs.Option.{option_map}
use Rattle.std.specs.Result.{result_map_both}
use Rattle.std.specs.List.{AllByRecursion}
use Rattle.archive_tree.specs.Data.{Stamp}
use Rattle.xa_outside.specs.Folder.{Files}
use Rattle.record_copy.specs.Faults as faults
use Rattle.record_copy.specs.Raised.{raised}
use Rattle.record_copy.specs.Runs as copy
use Rattle.record_copy.specs.Seen.{Coming}
use Rattle.record_copy.specs.State as at_one
use Rattle.record_copy.specs.Short.{AreShort, IfStored, IsRaisedOf, IsShortCall}
use Rattle.record_copy.specs.declared.fault.CopyFault.{CopyFault}
use Rattle.record_copy.specs.declared.fault.CopyFault.TheVariants.{Damage, Folder, TooLong, Memory}
use Rattle.record_cursor.specs.Items.{PlainItem}
use Rattle.record_cursor.specs.View.{PlainCursor}
use Rattle.record_writer.specs.Data.{PlainWriter, WriterCall, call_inner, call_leaf, call_alt, call_end_leaf, call_end_inner, call_finish}
use Rattle.record_writer.specs.Calls.{AllFit}
use Rattle.record_writer.proofs.FitLaws.{fit-both}
use Rattle.archive_join.specs.Faults.{of_side, of_any, fault_of, plain, SparesFirst, SparesSecond}
use Rattle.archive_join.specs.Passes.{Passes}
use Rattle.archive_join.specs.Runs.{Run, AreCalls}
use Rattle.archive_join.specs.Short.{IsMadeOf}
use Rattle.archive_join.specs.State.{State, with_first, with_second}
use Rattle.archive_join.specs.declared.fault.JoinFault.{JoinFault}
use Rattle.record_copy.proofs.Endings.{whole-map, whole-always, unless-map, unless-always, long-map, long-never, both-bytes, both-after, both-over}
use Rattle.archive_join.proofs.Passing.{passes-then, first-passes, second-passes}

-- ---- runs

pub run-then : (made more : List WriterCall) (over next : WriterCall) (s t u : State) (e : Option CopyFault) → Run made over s t None → Run more next t u e → Run (made ++ more) next s u e
run-then made more over next s t u e h g = record {
  bytes = h.bytes ++ g.bytes;
  passes = passes-then h.bytes g.bytes s t u e h.passes g.passes;
  same = whole-map e (both-bytes s.writer t.writer made more h.writer h.bytes g.bytes h.same) g.same;
  fit = (fit-both s.writer made more).1 (h.fit, subst (λ (v : PlainWriter). AllFit v more) h.writer g.fit);
  writer = unless-map e (both-after s.writer t.writer made more h.writer u.writer) g.writer;
  over = long-map e (both-over s.writer t.writer made more h.writer next) g.over;
}

-- nothing was written, and it is no want of room
pub run-none : (next : WriterCall) (s t : State) (e : Option CopyFault) → e ≢ Some TooLong → t.writer ≡ s.writer → Passes [] s t e → Run [] next s t e
run-none next s t e not same h = record {
  bytes = [];
  passes = h;
  same = whole-always e refl;
  fit = tt;
  writer = unless-always e same;
  over = long-never _ e not;
}

-- a part that goes along one of the cursors
pub first-run : (made : List WriterCall) (next : WriterCall) (s t : State) (e : Option CopyFault) → s.second.at ≤ s.second.length → t.second ≡ s.second → copy.Run made next (with_first s) (with_first t) e → Run made next s t e
first-run made next s t e within same h = record {
  bytes = h.bytes;
  passes = first-passes h.bytes s t e within same h.passes;
  same = h.same;
  fit = h.fit;
  writer = h.writer;
  over = h.over;
}

pub second-run : (made : List WriterCall) (next : WriterCall) (s t : State) (e : Option CopyFault) → s.first.at ≤ s.first.length → t.first ≡ s.first → copy.Run made next (with_second s) (with_second t) e → Run made next s t e
second-run made next s t e within same h = record {
  bytes = h.bytes;
  passes = second-passes h.bytes s t e within same h.passes;
  same = h.same;
  fit = h.fit;
  writer = h.writer;
  over = h.over;
}

-- the same run, of a fault that is written in another way
pub run-as : (made : List WriterCall) (next : WriterCall) (s t : State) (d e : Option CopyFault) → d ≡ e → Run made next s t d → Run made next s t e
run-as made next s t d e is h = subst (λ (z : Option CopyFault). Run made next s t z) is h

-- ---- calls that were to be made

-- one part behind another
pub calls-then : (cs ds made more : List WriterCall) (next : WriterCall) (e : Option CopyFault) → made ≡ cs → AreCalls ds more next e → AreCalls (cs ++ ds) (made ++ more) next e
calls-then cs ds made more next None is h = λ i. is i ++ h i
calls-then cs ds made more next (Some TooLong) is h = (h.0, (λ i. sym is i ++ h.1 i) ∙ sym (append_assoc made more (next ∷ h.0)))
calls-then cs ds made more next (Some Damage) is h = tt
calls-then cs ds made more next (Some Folder) is h = tt
calls-then cs ds made more next (Some Memory) is h = tt

-- after a fault what was to come behind does not matter
pub calls-fault : (cs ds made : List WriterCall) (next : WriterCall) (f : CopyFault) → AreCalls cs made next (Some f) → AreCalls (cs ++ ds) made next (Some f)
calls-fault cs ds made next TooLong h = (h.0 ++ ds, ap (λ (z : List WriterCall). z ++ ds) h.1 ∙ append_assoc made (next ∷ h.0) ds)
calls-fault cs ds made next Damage h = tt
calls-fault cs ds made next Folder h = tt
calls-fault cs ds made next Memory h = tt

-- a fault that is no want of room
pub calls-none : (cs : List WriterCall) (next : WriterCall) (f : CopyFault) → f ≢ TooLong → AreCalls cs [] next (Some f)
calls-none cs next TooLong n = absurd (n refl)
calls-none cs next Damage n = tt
calls-none cs next Folder n = tt
calls-none cs next Memory n = tt

pub calls-as : (cs ds made : List WriterCall) (next : WriterCall) (e : Option CopyFault) → cs ≡ ds → AreCalls cs made next e → AreCalls ds made next e
calls-as cs ds made next e is h = subst (λ (z : List WriterCall). AreCalls z made next e) is h

-- what one archive's part matched, or a part of the writer's calls
pub calls-match : (n : ℕ) (cs made : List WriterCall) (next : WriterCall) (behind : List PlainItem) (t : at_one.State) (e : Option CopyFault) → copy.Matches n cs made next behind t e → AreCalls cs made next e
calls-match n cs made next behind t None h = h.0
calls-match n cs made next behind t (Some TooLong) h = h
calls-match n cs made next behind t (Some Damage) h = tt
calls-match n cs made next behind t (Some Folder) h = tt
calls-match n cs made next behind t (Some Memory) h = tt

pub calls-part : (cs made : List WriterCall) (next : WriterCall) (e : Option CopyFault) → copy.IsPart cs made next e → AreCalls cs made next e
calls-part cs made next None h = h
calls-part cs made next (Some TooLong) h = h
calls-part cs made next (Some Damage) h = tt
calls-part cs made next (Some Folder) h = tt
calls-part cs made next (Some Memory) h = tt

-- ---- faults

pub any-side : (second : Bool) (f : CopyFault) → of_any (of_side second f) ≡ f
any-side second Damage = refl
any-side second TooLong = refl
any-side second Folder = refl
any-side second Memory = refl

pub plain-side : (second : Bool) (e : Option CopyFault) → plain (option_map (of_side second) e) ≡ e
plain-side second None = refl
plain-side second (Some f) = ap Some (any-side second f)

-- the fault of a call that was handed on
pub side-fault : {T : Type 0} (second : Bool) (r : Result T CopyFault) (z : Result T JoinFault) → z ≡ result_map_both (λ x. x) (of_side second) r → fault_of z ≡ option_map (of_side second) (faults.fault_of r)
side-fault {T = T} second (Ok x) z is = ap (λ (d : Result T JoinFault). fault_of d) is
side-fault {T = T} second (Err e) z is = ap (λ (d : Result T JoinFault). fault_of d) is

pub spares-first : (e : Option CopyFault) → SparesFirst (option_map (of_side true) e)
spares-first None = tt
spares-first (Some Damage) = tt
spares-first (Some TooLong) = tt
spares-first (Some Folder) = tt
spares-first (Some Memory) = tt

pub spares-second : (e : Option CopyFault) → SparesSecond (option_map (of_side false) e)
spares-second None = tt
spares-second (Some Damage) = tt
spares-second (Some TooLong) = tt
spares-second (Some Folder) = tt
spares-second (Some Memory) = tt

-- a part that its own archive's soundness keeps from damage
pub spares-own-first : (f : CopyFault) → f ≢ Damage → SparesFirst (Some (of_side false f))
spares-own-first Damage n = absurd (n refl)
spares-own-first TooLong n = tt
spares-own-first Folder n = tt
spares-own-first Memory n = tt

pub spares-own-second : (f : CopyFault) → f ≢ Damage → SparesSecond (Some (of_side true f))
spares-own-second Damage n = absurd (n refl)
spares-own-second TooLong n = tt
spares-own-second Folder n = tt
spares-own-second Memory n = tt

-- ---- what comes in an archive that was not read

pub comes-still : (n : ℕ) (told now : Option Files) (c d : PlainCursor) (xs : List PlainItem) → now ≡ told → d ≡ c → Coming n told c xs → Coming n now d xs
comes-still n told now c d xs files same h = subst (λ (f : Option Files). Coming n f d xs) (sym files) (subst (λ (x : PlainCursor). Coming n told x xs) (sym same) h)

-- ---- short calls

-- sets that pass one test pass another
stored-weaker : (S Z : List (ℕ × ℕ) → Type 0) (s : Stamp) → ((q : List (ℕ × ℕ)) → S q → Z q) → IfStored S s → IfStored Z s
stored-weaker S Z None f h = tt
stored-weaker S Z (Some q) f h = f q h

pub call-weaker : (S Z : List (ℕ × ℕ) → Type 0) (b : ℕ) (c : WriterCall) → ((q : List (ℕ × ℕ)) → S q → Z q) → IsShortCall S b c → IsShortCall Z b c
call-weaker S Z b (call_inner l s set) f h = (h.0, stored-weaker S Z s f h.1, f set h.2)
call-weaker S Z b (call_leaf l s set) f h = (h.0, stored-weaker S Z s f h.1, f set h.2)
call-weaker S Z b (call_alt s v) f h = (stored-weaker S Z s f h.0, h.1)
call-weaker S Z b call_end_leaf f h = tt
call-weaker S Z b call_end_inner f h = tt
call-weaker S Z b call_finish f h = tt

calls-weaker : (S Z : List (ℕ × ℕ) → Type 0) (b : ℕ) (cs : List WriterCall) → ((q : List (ℕ × ℕ)) → S q → Z q) → AllByRecursion (IsShortCall S b) cs → AllByRecursion (IsShortCall Z b) cs
calls-weaker S Z b [] f h = tt
calls-weaker S Z b (c ∷ cs) f h = (call-weaker S Z b c f h.0, calls-weaker S Z b cs f h.1)

pub short-weaker : (S Z : List (ℕ × ℕ) → Type 0) (b : ℕ) (made : List WriterCall) (next : WriterCall) (e : Option CopyFault) → ((q : List (ℕ × ℕ)) → S q → Z q) → AreShort S b made next e → AreShort Z b made next e
short-weaker S Z b made next e f h = record { each = calls-weaker S Z b made f h.each; last = long-map e (call-weaker S Z b next f) h.last }

pub raised-none : (p : List (ℕ × ℕ)) → raised 0 p ≡ p
raised-none [] = refl
raised-none (x ∷ p) = (let a : x.0 + 0 ≡ x.0 = omega arith in let b : x.1 + 0 ≡ x.1 = omega arith in λ i. (a i, b i) ∷ raised-none p i)

-- a set of one of the archives is made of one
pub made-first : (b n : ℕ) (q : List (ℕ × ℕ)) → IsRaisedOf b 0 q → IsMadeOf b n q
made-first b n q h = (Some h.0, None, h.1, tt, h.2 ∙ raised-none h.0)

pub made-second : (b n : ℕ) (q : List (ℕ × ℕ)) → IsRaisedOf b n q → IsMadeOf b n q
made-second b n q h = (None, Some h.0, tt, h.1, h.2)

pub short-made-first : (b n : ℕ) (made : List WriterCall) (next : WriterCall) (e : Option CopyFault) → AreShort (IsRaisedOf b 0) b made next e → AreShort (IsMadeOf b n) b made next e
short-made-first b n made next e h = short-weaker (IsRaisedOf b 0) (IsMadeOf b n) b made next e (made-first b n) h

pub short-made-second : (b n : ℕ) (made : List WriterCall) (next : WriterCall) (e : Option CopyFault) → AreShort (IsRaisedOf b n) b made next e → AreShort (IsMadeOf b n) b made next e
short-made-second b n made next e h = short-weaker (IsRaisedOf b n) (IsMadeOf b n) b made next e (made-second b n) h
