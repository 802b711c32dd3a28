-- Writing the text of a version.
use Rattle.std.proofs.Common.{◌≡◌, ℕ, ◌+◌, ◌-◌, List, [], ◌∷◌, ◌++◌, take, Option, Some, None, Result, Ok, Err, refl, ap, subst, ◌∙◌, arith}
use Rattle.xa_outside.specs.Causes.{HasCause}
use Rattle.xa_outside.specs.Folder.{Files}
use Rattle.xa_outside.specs.Numbers.{Numbers, IsMeter}
use Rattle.xa_outside.specs.NumberLaws.{PullsAtMost-none}
use Rattle.xa_outside.specs.Taken.{Taken, Takes, TakesPrefix, Puts}
use Rattle.xa_outside.specs.TakenLaws.{Takes-trans, TakesPrefix-after, TakesPrefix-more}
use Rattle.xa_outside.specs.declared.Failed.{Failed}
use Rattle.jsonml_print.specs.Calls.{calls_of, printed}
use Rattle.jsonml_print.specs.Pen.{Pen, fresh}
use Rattle.jsonml_print.specs.Printed.{tree_text}
use Rattle.jsonml_print.proofs.TreeWalk.{calls_print}
use Rattle.key_annotate.proofs.Insides.{plain-element}
use Rattle.keyed_tree.specs.Data.{PlainKeyed}
use Rattle.keyed_tree.specs.Plain.{plain}
use Rattle.keyed_print.specs.KeyedText.{keyed_text}
use Rattle.file_get.specs.Told.{IsSound}
use Rattle.file_get.specs.State.{State}
use Rattle.record_format.specs.Seen.{steps_for}
use Rattle.file_get.specs.Walks.{Walks, Prefixed}
use Rattle.file_get.specs.Roots.{RootPrinted, TextPut}
use Rattle.file_get.specs.declared.fault.GetFault.{GetFault}
use Rattle.file_get.proofs.States.{walks-then}
use Rattle.file_get.proofs.States as states

module _ {S K : Type 0} (files : S → Option Files) (draft : S → Option (List ℕ)) (numbers : S → Numbers) (faults : S → ℕ) (taken : K → Taken) (out_faults : K → ℕ) (i : ℕ) (name : List ℕ) (size first : ℕ) where
  abbrev pub at : S → K → Pen → ℕ → State
  at = states.at files draft numbers faults taken out_faults

  -- where the printer stands is not said
  walks-pens : (a b : S) (k l : K) (p q r : Pen) (m n : ℕ) (most : ℕ) (e : Option GetFault) → Walks most (at a k p m) (at b l q n) e → Walks most (at a k r m) (at b l r n) e
  walks-pens a b k l p q r m n most e h = record { same_files = h.same_files; same_draft = h.same_draft; later = h.later; out_later = h.out_later; cause = h.cause; behind = h.behind; pulls = h.pulls; gained = h.gained }

  text-is : (p : Pen) (k : PlainKeyed) → p ≡ fresh → printed p (calls_of (plain k)) ≡ tree_text (plain k)
  text-is p k e = ap (λ (q : Pen). printed q (calls_of (plain k))) e ∙ calls_print (plain k) (plain-element k)

  -- the element was not printed, or not to its end
  pub text-unprinted : (a b : S) (k l : K) (p q : Pen) (m n : ℕ) (e : GetFault) → p ≡ fresh → RootPrinted i name size first (at a k p m) (at b l q n) (Some e) → TextPut i name size first (at a k fresh m) (at b l fresh n) (Some e)
  unfolding keyed_text
  text-unprinted a b k l p q m n e new h = record {
    walks = walks-pens a b k l p q fresh m n (size - first) (Some e) h.walks;
    short = h.short;
    sound = λ bytes row c v x. (
        let s = h.shows bytes row c v (record { tells = x.tells; stands = x.stands; begins = x.begins; ends = x.ends; tail = x.tail; records = x.records; nested = x.nested; bodies = x.bodies; one = x.one; fits = x.fits; element = x.element; some = x.some }) in (
          s.sound,
          TakesPrefix-more (taken k) (taken l) (tree_text (plain v)) (10 ∷ []) (subst (TakesPrefix (taken k) (taken l)) (text-is p v new) s.bytes),
          s.pulls,
          s.steps,
          tt,
        ));
  }

  ended-out : (a b c : Taken) (x y : List ℕ) {T : Type 0} (r : Result T Failed) → Takes a b x → Puts b c r y → Prefixed a c (states.out_fault r) (x ++ y)
  ended-out a b c x y (Ok u) h g = Takes-trans a b c x y h g
  ended-out a b c x y (Err u) h g = TakesPrefix-after a b c x y h g

  put-walks : {T : Type 0} (b : S) (l j : K) (n : ℕ) (y : List ℕ) (r : Result T Failed) → IsMeter (numbers b) → Puts (taken l) (taken j) r y → HasCause (out_faults l) (out_faults j) r → Walks 0 (at b l fresh n) (at b j fresh n) (states.out_fault r)
  put-walks b l j n y (Ok u) meter h c = record { same_files = refl; same_draft = refl; later = omega arith; out_later = c.later; cause = tt; behind = tt; pulls = PullsAtMost-none 0 (numbers b) meter; gained = (y, h) }
  put-walks b l j n y (Err u) meter h c = record { same_files = refl; same_draft = refl; later = omega arith; out_later = c.later; cause = c.failed; behind = tt; pulls = PullsAtMost-none 0 (numbers b) meter; gained = (take h.count y, h.takes) }

  sound-out : {T : Type 0} (r : Result T Failed) → IsSound (states.out_fault r)
  sound-out (Ok u) = tt
  sound-out (Err u) = tt

  -- the element was printed, and the line feed, or not
  pub text-printed : {T : Type 0} (a b : S) (k l j : K) (p q : Pen) (m n : ℕ) (r : Result T Failed) → p ≡ fresh → IsMeter (numbers b) → RootPrinted i name size first (at a k p m) (at b l q n) None → Puts (taken l) (taken j) r (10 ∷ []) → HasCause (out_faults l) (out_faults j) r
      → TextPut i name size first (at a k fresh m) (at b j fresh n) (states.out_fault r)
  unfolding keyed_text
  text-printed a b k l j p q m n r new meter h puts cause = record {
    walks = walks-then (at a k fresh m) (at b l fresh n) (at b j fresh n) (states.out_fault r) (size - first) 0 (size - first) (omega arith) (walks-pens a b k l p q fresh m n (size - first) None h.walks) (put-walks b l j n (10 ∷ []) r meter puts cause);
    short = λ fs there none. absurd (h.short fs there none);
    sound = λ bytes row c v x. (
        let s = h.shows bytes row c v (record { tells = x.tells; stands = x.stands; begins = x.begins; ends = x.ends; tail = x.tail; records = x.records; nested = x.nested; bodies = x.bodies; one = x.one; fits = x.fits; element = x.element; some = x.some }) in (
          sound-out r,
          ended-out (taken k) (taken l) (taken j) (tree_text (plain v)) (10 ∷ []) r (subst (Takes (taken k) (taken l)) (text-is p v new) s.bytes) puts,
          s.pulls,
          s.steps,
          states.unless-out r (n ≡ m + steps_for c i) s.exact,
        ));
  }
