-- How the parts of a command lead to its end.
use Rattle.std.specs.Result.{IsErrAnd}
use Rattle.std.proofs.Common.{◌≡◌, ◌≢◌, ℕ, ◌≤◌, Option, Some, None, Result, Ok, Err, IfOk, OnOk, refl, sym, ap, ◌∙◌, subst}
use Rattle.xa_outside.specs.CauseLaws.{Rose-later}
use Rattle.xarch_words.specs.Refusal.{Refusal, usage, PlainFault, refused, folder_fault, out_fault, in_fault, memory}
use Rattle.xarch_words.specs.View.{fault_view}
use Rattle.xarch_words.specs.declared.fault.Fault.{Fault}
use Rattle.xarch_parts.specs.Outcome.{and_then}
use Rattle.xarch_parts.specs.Ends.{Matches, fault_of, IsInside, IsOfFolder, IsOfOutput, IsOfCommand, HasItsCause, IsDefined}

-- ---- causes

pub IsOfFolder-inside : (a b : ℕ) (v : Option PlainFault) → IsInside v → IsOfFolder a b v
unfolding IsInside IsOfFolder
IsOfFolder-inside a b None h = tt
IsOfFolder-inside a b (Some (refused r)) h = h
IsOfFolder-inside a b (Some folder_fault) h = absurd h
IsOfFolder-inside a b (Some out_fault) h = h
IsOfFolder-inside a b (Some in_fault) h = h
IsOfFolder-inside a b (Some memory) h = tt

-- a cause in one call is a cause in all of them
pub IsOfFolder-later : (a b c d : ℕ) (v : Option PlainFault) → a ≤ b → c ≤ d → IsOfFolder b c v → IsOfFolder a d v
unfolding IsInside IsOfFolder
IsOfFolder-later a b c d None h i p = tt
IsOfFolder-later a b c d (Some (refused r)) h i p = p
IsOfFolder-later a b c d (Some folder_fault) h i p = Rose-later a b c d h p i
IsOfFolder-later a b c d (Some out_fault) h i p = p
IsOfFolder-later a b c d (Some in_fault) h i p = p
IsOfFolder-later a b c d (Some memory) h i p = tt

pub IsOfCommand-inside : (a b p q : ℕ) (v : Option PlainFault) → IsInside v → IsOfCommand a b p q v
unfolding IsInside IsOfFolder IsOfCommand
IsOfCommand-inside a b p q None h = tt
IsOfCommand-inside a b p q (Some (refused r)) h = h
IsOfCommand-inside a b p q (Some folder_fault) h = absurd h
IsOfCommand-inside a b p q (Some out_fault) h = absurd h
IsOfCommand-inside a b p q (Some in_fault) h = h
IsOfCommand-inside a b p q (Some memory) h = tt

pub IsOfCommand-folder : (a b c d p q : ℕ) (v : Option PlainFault) → a ≤ b → c ≤ d → IsOfFolder b c v → IsOfCommand a d p q v
unfolding IsInside IsOfFolder IsOfCommand
IsOfCommand-folder a b c d p q None h i r = tt
IsOfCommand-folder a b c d p q (Some (refused f)) h i r = r
IsOfCommand-folder a b c d p q (Some folder_fault) h i r = Rose-later a b c d h r i
IsOfCommand-folder a b c d p q (Some out_fault) h i r = absurd r
IsOfCommand-folder a b c d p q (Some in_fault) h i r = r
IsOfCommand-folder a b c d p q (Some memory) h i r = tt

pub IsOfCommand-output : (a b p q r s : ℕ) (v : Option PlainFault) → p ≤ q → r ≤ s → IsOfOutput q r v → IsOfCommand a b p s v
unfolding IsInside IsOfFolder IsOfOutput IsOfCommand
IsOfCommand-output a b p q r s None h i k = tt
IsOfCommand-output a b p q r s (Some (refused f)) h i k = absurd k
IsOfCommand-output a b p q r s (Some folder_fault) h i k = absurd k
IsOfCommand-output a b p q r s (Some out_fault) h i k = Rose-later p q r s h k i
IsOfCommand-output a b p q r s (Some in_fault) h i k = k
IsOfCommand-output a b p q r s (Some memory) h i k = absurd k

-- a fault of a command has its cause, and is not that the words are none
pub HasItsCause-command : (a b p q : ℕ) (v : Option PlainFault) → IsOfCommand a b p q v → HasItsCause a b p q v
unfolding IsInside IsOfFolder IsOfCommand HasItsCause
HasItsCause-command a b p q None h = tt
HasItsCause-command a b p q (Some (refused r)) h = tt
HasItsCause-command a b p q (Some folder_fault) h = h
HasItsCause-command a b p q (Some out_fault) h = h
HasItsCause-command a b p q (Some in_fault) h = h
HasItsCause-command a b p q (Some memory) h = tt

pub IsOfCommand-usage : (a b p q : ℕ) (v : Option PlainFault) → IsOfCommand a b p q v → v ≢ Some (refused usage)
unfolding IsInside IsOfFolder IsOfCommand
IsOfCommand-usage a b p q v h e = subst (IsOfCommand a b p q) e h

-- ---- steps of a definition

-- the first step is refused, and so is the whole
pub IsDefined-here : {A B : Type 0} (x : Result A Refusal) (f : A → Result B Refusal) (v : PlainFault) → IsDefined x v → IsDefined (and_then x f) v
unfolding IsDefined
IsDefined-here x f (refused r) p = ap (λ y. and_then y f) p
IsDefined-here x f folder_fault p = tt
IsDefined-here x f out_fault p = tt
IsDefined-here x f in_fault p = tt
IsDefined-here x f memory p = tt

-- the first step has a value, and the rest goes on with it
pub IsDefined-next : {A B : Type 0} (x : Result A Refusal) (f : A → Result B Refusal) (y : A) (v : PlainFault) → x ≡ Ok y → IsDefined (f y) v → IsDefined (and_then x f) v
IsDefined-next {A} {B} x f y v e p = subst (λ (z : Result A Refusal). IsDefined (and_then z f) v) (sym e) p

pub and_then-Ok : {A B : Type 0} (x : Result A Refusal) (f : A → Result B Refusal) (y : A) (z : Result B Refusal) → x ≡ Ok y → f y ≡ z → and_then x f ≡ z
and_then-Ok x f y z e p = ap (λ w. and_then w f) e ∙ p

-- ---- parts of a definition

-- a refusal that is named is the defined one
pub IsDefined-only : {A : Type 0} (x : Result A Refusal) (r : Refusal) (v : PlainFault) → x ≡ Err r → ((q : Refusal) → v ≡ refused q → q ≡ r) → IsDefined x v
unfolding IsDefined
IsDefined-only x r (refused q) e only = e ∙ ap (λ s. Err s) (sym (only q refl))
IsDefined-only x r folder_fault e only = tt
IsDefined-only x r out_fault e only = tt
IsDefined-only x r in_fault e only = tt
IsDefined-only x r memory e only = tt

-- what is refused before a value is looked at is refused whatever comes of it
pub IsDefined-whatever : {A B C : Type 0} (x : Result A Refusal) (g : A → B) (f : A → Result C Refusal) (v : PlainFault) → IsDefined (and_then x (λ a. Ok (g a))) v → IsDefined (and_then x f) v
unfolding IsDefined
IsDefined-whatever (Err e) g f (refused r) p = let same : e ≡ r = cc in ap (λ s. Err s) same
IsDefined-whatever (Ok a) g f (refused r) p = absurd cc
IsDefined-whatever x g f folder_fault p = tt
IsDefined-whatever x g f out_fault p = tt
IsDefined-whatever x g f in_fault p = tt
IsDefined-whatever x g f memory p = tt

-- two steps that a definition takes one by one
pub IsDefined-inner : {A B C : Type 0} (x : Result A Refusal) (g : A → Result B Refusal) (f : B → Result C Refusal) (v : PlainFault) → IsDefined (and_then x g) v → IsDefined (and_then x (λ a. and_then (g a) f)) v
unfolding IsDefined
IsDefined-inner (Ok a) g f v p = IsDefined-here (g a) f v p
IsDefined-inner (Err e) g f (refused r) p = let same : e ≡ r = cc in ap (λ s. Err s) same
IsDefined-inner (Err e) g f folder_fault p = tt
IsDefined-inner (Err e) g f out_fault p = tt
IsDefined-inner (Err e) g f in_fault p = tt
IsDefined-inner (Err e) g f memory p = tt

pub IsDefined-inner-next : {A B C : Type 0} (x : Result A Refusal) (g : A → Result B Refusal) (f : B → Result C Refusal) (y : B) (v : PlainFault) → and_then x g ≡ Ok y → IsDefined (f y) v
    → IsDefined (and_then x (λ a. and_then (g a) f)) v
IsDefined-inner-next (Ok a) g f y v e p = subst (λ z. IsDefined (and_then z f) v) (sym e) p
IsDefined-inner-next (Err e) g f y v h p = absurd cc

pub and_then-inner : {A B C : Type 0} (x : Result A Refusal) (g : A → Result B Refusal) (f : B → Result C Refusal) (y : B) → and_then x g ≡ Ok y → and_then x (λ a. and_then (g a) f) ≡ f y
and_then-inner (Ok a) g f y p = ap (λ z. and_then z f) p
and_then-inner (Err e) g f y p = absurd cc

-- a call ends with the fault of a part of it
pub IfOk-passed : {T : Type 0} (r : Result T Fault) (f : Fault) (P : T → Type 0) → IsErrAnd r (λ g. g ≡ f) → IfOk r P
IfOk-passed (Ok u) f P h = absurd h
IfOk-passed (Err g) f P h = tt

pub OnOk-passed : {T : Type 0} (r : Result T Fault) (f : Fault) (P : Type 0) → IsErrAnd r (λ g. g ≡ f) → OnOk r P
OnOk-passed (Ok u) f P h = absurd h
OnOk-passed (Err g) f P h = tt

pub inside-passed : {T : Type 0} (r : Result T Fault) (f : Fault) → IsErrAnd r (λ g. g ≡ f) → IsInside (Some (fault_view f)) → IsInside (fault_of r)
inside-passed (Ok u) f h p = absurd h
inside-passed (Err g) f h p = subst (λ (z : Fault). IsInside (Some (fault_view z))) (sym h) p

pub Matches-passed : {A T : Type 0} (view : T → A) (x : Result A Refusal) (r : Result T Fault) (f : Fault) → IsErrAnd r (λ g. g ≡ f) → IsDefined x (fault_view f) → Matches view x r
Matches-passed view x (Ok u) f h p = absurd h
Matches-passed view x (Err g) f h p = subst (λ (z : Fault). IsDefined x (fault_view z)) (sym h) p

-- the rest of a definition behind its first step
pub Matches-next : {A B T : Type 0} (view : T → B) (x : Result A Refusal) (f : A → Result B Refusal) (y : A) (r : Result T Fault) → x ≡ Ok y → Matches view (f y) r → Matches view (and_then x f) r
Matches-next view x f y r e p = subst (λ z. Matches view (and_then z f) r) (sym e) p

pub ruleset endings = (IsOfFolder-inside, IsOfFolder-later, IsOfCommand-inside, IsOfCommand-folder, IsOfCommand-output, IsDefined-here, IsDefined-next)
