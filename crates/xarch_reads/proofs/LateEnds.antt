-- How a command ends that writes while it reads.
use Rattle.std.proofs.Common.{◌≡◌, ℕ, Bool, true, false, List, [], ◌∷◌, ◌++◌, length, length-take, take, drop, Option, Some, None, refl, sym, ap, ◌∙◌, subst, true≢false}
use Rattle.std.specs.Io.KnownBytes.{Appends}
use Rattle.std.specs.Str.{bytes_eq}
use Rattle.std.proofs.lemmas.List.{take_min}
use Rattle.std.proofs.lemmas.Slice.Eq.{bytes_eq-Decides}
use Rattle.xa_outside.specs.Taken.{Taken, Takes, TakesPrefix}
use Rattle.xa_outside.specs.TakenLaws.{TakesPrefix-all}
use Rattle.xarch_words.specs.Refusal.{PlainFault, folder_fault, out_fault, memory}
use Rattle.xarch_parts.specs.Archives.{NoRefusal}

-- ---- what was written, and of what it is a front

-- An output of which this is a front: the text, where what was written may be one of that.
pub record Whole (old new : Taken) (text : List ℕ) (Has : List ℕ → Type 0) : Type 0 where
  pub output : List ℕ
  pub has : Has output
  pub own : Has text → output ≡ text

appended : (v g x : List ℕ) → v ++ g ≡ v ++ x → g ≡ x
appended [] g x e = e
appended (b ∷ v) g x e = appended v g x (ap (drop 1) e)

-- What an output took that tells what it has taken.
module _ (old new : Taken) (v z : List ℕ) (e : old.bytes ≡ Some v) (f : new.bytes ≡ Some z) where
  took : (x : List ℕ) → Takes old new x → z ≡ v ++ x
  took x h = subst (λ (y : Option (List ℕ)). Appends y (Some z) x) e (subst (λ (y : Option (List ℕ)). Appends old.bytes y x) f h.bytes)

  one-piece : (x y : List ℕ) → Takes old new x → Takes old new y → x ≡ y
  one-piece x y h k = appended v x y (sym (took x h) ∙ took y k)

  is-front : (text g : List ℕ) → Takes old new g → TakesPrefix old new text → take (length g) text ≡ g
  is-front text g t h =
      let same : take h.count text ≡ g = one-piece (take h.count text) g h.takes t in
      ap (λ x. take (length x) text) (sym same) ∙ ap (λ n. take n text) (length-take h.count text) ∙ take_min h.count text ∙ same

  front-told : (text g : List ℕ) → Takes old new g → Whole old new text (TakesPrefix old new)
  front-told text g t = by_test (bytes_eq (take (length g) text) g) refl
    where
      by_test : (b : Bool) → bytes_eq (take (length g) text) g ≡ b → Whole old new text (TakesPrefix old new)
      by_test true e = record { output = text; has = record { count = length g; takes = subst (Takes old new) (sym ((bytes_eq-Decides (take (length g) text) g).0 e)) t }; own = λ _. refl }
      by_test false e = record { output = g; has = TakesPrefix-all old new g t; own = λ h. absurd (true≢false (sym ((bytes_eq-Decides (take (length g) text) g).1 (is-front text g t h)) ∙ e)) }

-- one that does not tell it may have taken anything
took-any : (old new : Taken) (g x : List ℕ) → old.bytes ≡ None → Takes old new g → Takes old new x
took-any old new g x e t = record { bytes = subst (λ (y : Option (List ℕ)). Appends y new.bytes x) (sym e) tt; behind = t.behind }

-- one that tells it goes on telling it
took-none : {P : Type 0} (old new : Taken) (v g : List ℕ) → old.bytes ≡ Some v → new.bytes ≡ None → Takes old new g → P
took-none old new v g e f t = absurd (subst (λ (y : Option (List ℕ)). Appends y None g) e (subst (λ (y : Option (List ℕ)). Appends old.bytes y g) f t.bytes))

-- all of it was written
pub all-of : (old new : Taken) (text g : List ℕ) → Takes old new g → Whole old new text (Takes old new)
all-of old new text g t = by_told old.bytes new.bytes refl refl
  where
    by_told : (o n : Option (List ℕ)) → old.bytes ≡ o → new.bytes ≡ n → Whole old new text (Takes old new)
    by_told None n e f = record { output = text; has = took-any old new g text e t; own = λ _. refl }
    by_told (Some v) None e f = took-none old new v g e f t
    by_told (Some v) (Some z) e f = record { output = g; has = t; own = λ h. one-piece old new v z e f g text t h }

-- a front of it was written
pub front-of : (old new : Taken) (text g : List ℕ) → Takes old new g → Whole old new text (TakesPrefix old new)
front-of old new text g t = by_told old.bytes new.bytes refl refl
  where
    by_told : (o n : Option (List ℕ)) → old.bytes ≡ o → new.bytes ≡ n → Whole old new text (TakesPrefix old new)
    by_told None n e f = record { output = text; has = record { count = 0; takes = took-any old new g (take 0 text) e t }; own = λ _. refl }
    by_told (Some v) None e f = took-none old new v g e f t
    by_told (Some v) (Some z) e f = front-told old new v z e f text g t

-- ---- a fault of the outside

-- it is no refusal
pub outside : (v w : PlainFault) → v ≡ w → NoRefusal w → NoRefusal v
outside v w e other q h = other q (sym e ∙ h)

pub no_folder : NoRefusal folder_fault
no_folder q h = cc

pub no_out : NoRefusal out_fault
no_out q h = cc

pub no_memory : NoRefusal memory
no_memory q h = cc
