-- What stays true of calls that were made, however they ended, and of calls behind these.
use Rattle.std.proofs.Common.{◌≡◌, ◌≢◌, ℕ, List, ◌++◌, Option, Some, None, refl, sym, ap, subst, ◌∙◌}
use Rattle.record_writer.specs.Data.{PlainWriter, WriterCall}
use Rattle.record_writer.specs.Calls.{all_appended, after_all, Fits}
use Rattle.record_writer.proofs.WalkLaws.{appended-append, after-append}
use Rattle.record_copy.specs.Faults.{Unless, IfLong, IfWhole}
use Rattle.record_copy.specs.declared.fault.CopyFault.{CopyFault}
use Rattle.record_copy.specs.declared.fault.CopyFault.TheVariants.{Damage, Folder, TooLong, Memory}

pub whole-map : {P Q : Type 0} (e : Option CopyFault) → (P → Q) → IfWhole e P → IfWhole e Q
whole-map None f h = f h
whole-map (Some TooLong) f h = f h
whole-map (Some Damage) f h = tt
whole-map (Some Folder) f h = tt
whole-map (Some Memory) f h = tt

pub whole-always : {P : Type 0} (e : Option CopyFault) → P → IfWhole e P
whole-always None h = h
whole-always (Some TooLong) h = h
whole-always (Some Damage) h = tt
whole-always (Some Folder) h = tt
whole-always (Some Memory) h = tt

pub unless-map : {P Q : Type 0} (e : Option CopyFault) → (P → Q) → Unless e P → Unless e Q
unless-map None f h = f h
unless-map (Some d) f h = tt

pub unless-always : {P : Type 0} (e : Option CopyFault) → P → Unless e P
unless-always None h = h
unless-always (Some d) h = tt

pub long-map : {P Q : Type 0} (e : Option CopyFault) → (P → Q) → IfLong e P → IfLong e Q
long-map None f h = tt
long-map (Some TooLong) f h = f h
long-map (Some Damage) f h = tt
long-map (Some Folder) f h = tt
long-map (Some Memory) f h = tt

pub long-never : (P : Type 0) (e : Option CopyFault) → e ≢ Some TooLong → IfLong e P
long-never P None n = tt
long-never P (Some TooLong) n = absurd (n refl)
long-never P (Some Damage) n = tt
long-never P (Some Folder) n = tt
long-never P (Some Memory) n = tt

-- the calls of one part, and those of the part behind it
module _ (v w : PlainWriter) (made more : List WriterCall) (is : w ≡ after_all v made) where
  pub both-bytes : (xs ys : List ℕ) → xs ≡ all_appended v made → ys ≡ all_appended w more → xs ++ ys ≡ all_appended v (made ++ more)
  both-bytes xs ys h g = (λ i. h i ++ g i) ∙ ap (λ (x : PlainWriter). all_appended v made ++ all_appended x more) is ∙ sym (appended-append v made more)

  pub both-after : (u : PlainWriter) → u ≡ after_all w more → u ≡ after_all v (made ++ more)
  both-after u h = h ∙ ap (λ (x : PlainWriter). after_all x more) is ∙ sym (after-append v made more)

  pub both-over : (next : WriterCall) → ¬ Fits (after_all w more) next → ¬ Fits (after_all v (made ++ more)) next
  both-over next h = subst (λ (x : PlainWriter). ¬ Fits x next) (ap (λ (x : PlainWriter). after_all x more) is ∙ sym (after-append v made more)) h
