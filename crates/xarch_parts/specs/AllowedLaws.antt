-- How the parts of a command lead to an end that it may have.
use Rattle.std.proofs.Common.{◌≡◌, ◌⊎◌, inl, inr, ℕ, List, [], take, Option, Some, None, Result, Ok, Err, IfErr, OnOk, refl, sym, ap, ◌∙◌, subst}
use Rattle.std.specs.Result.{IsErrAnd}
use Rattle.std.specs.FinMap as map
use Rattle.xa_outside.specs.Folder.{Files, committed}
use Rattle.xa_outside.specs.Taken.{Taken, Takes, TakesNone, TakesPrefix, Puts}
use Rattle.xa_outside.specs.TakenLaws.{Takes-nil, Takes-kept, TakesNone-refl, TakesPrefix-all}
use Rattle.xarch_words.specs.Refusal.{Refusal, PlainFault, refused, folder_fault, out_fault, in_fault, memory}
use Rattle.xarch_words.specs.View.{fault_view}
use Rattle.xarch_words.specs.declared.fault.Fault.{Fault}
use Rattle.xarch_parts.specs.Archives.{IsDrafted, NoRefusal}
use Rattle.xarch_parts.specs.Ends.{fault_of, EndsGained, Gained, IsDefined, IsOfOutput, TellsOnly}
use Rattle.xarch_parts.specs.Outcome.{Outcome, output_of}
use Rattle.xarch_parts.specs.Allowed.{MayEnd, PutSome}

module _ (M : Result Outcome Refusal → Type 0) where
  -- nothing was written yet
  pub MayEnd-stopped : (v : PlainFault) (after : Option Files) (t : Taken) → ((q : Refusal) → v ≡ refused q → M (Err q)) → MayEnd M (Some v) after t t
  unfolding MayEnd
  MayEnd-stopped (refused r) after t h = record { may = h r refl; output = TakesNone-refl t }
  MayEnd-stopped folder_fault after t h = inl (TakesNone-refl t)
  MayEnd-stopped out_fault after t h = inl (TakesNone-refl t)
  MayEnd-stopped in_fault after t h = inl (TakesNone-refl t)
  MayEnd-stopped memory after t h = inl (TakesNone-refl t)

  -- it did what it may do
  pub MayEnd-did : (o : Outcome) (after : Option Files) (old new : Taken) → M (Ok o) → TellsOnly after o.files → Takes old new o.output → MayEnd M None after old new
  unfolding MayEnd
  MayEnd-did o after old new may files output = record { outcome = o; may = may; files = files; output = output }

  -- a call ended with the fault of a part of it
  pub MayEnd-passed : (r : Result Unit Fault) (f : Fault) (after : Option Files) (t : Taken) → IsErrAnd r (λ g. g ≡ f) → ((q : Refusal) → fault_view f ≡ refused q → M (Err q)) → MayEnd M (fault_of r) after t t
  MayEnd-passed (Ok u) f after t h p = absurd h
  MayEnd-passed (Err g) f after t h p = subst (λ (z : Fault). MayEnd M (Some (fault_view z)) after t t) (sym h) (MayEnd-stopped (fault_view f) after t p)

  -- it was refused, and had written nothing
  pub MayEnd-refused : (r : Refusal) (after : Option Files) (old new : Taken) → M (Err r) → TakesNone old new → MayEnd M (Some (refused r)) after old new
  unfolding MayEnd
  MayEnd-refused r after old new may none = record { may = may; output = none }

  -- a fault of the outside, or want of memory
  pub MayEnd-outside : (v : PlainFault) (after : Option Files) (old new : Taken) → NoRefusal v → TakesNone old new ⊎ PutSome M old new → MayEnd M (Some v) after old new
  unfolding MayEnd
  MayEnd-outside (refused r) after old new other d = absurd (other r refl)
  MayEnd-outside folder_fault after old new other d = d
  MayEnd-outside out_fault after old new other d = d
  MayEnd-outside in_fault after old new other d = d
  MayEnd-outside memory after old new other d = d

  no_refusal : (f : Fault) → fault_view f ≡ folder_fault → (q : Refusal) → fault_view f ≡ refused q → M (Err q)
  no_refusal f e q h = let wrong : folder_fault ≡ refused q = sym e ∙ h in absurd cc

  -- a call ended with a fault of the folder in a part of it
  pub MayEnd-folder : (r : Result Unit Fault) (f : Fault) (after : Option Files) (t : Taken) → IsErrAnd r (λ g. g ≡ f) → fault_view f ≡ folder_fault → MayEnd M (fault_of r) after t t
  MayEnd-folder r f after t h e = MayEnd-passed r f after t h (no_refusal f e)

  -- it stores a file, and writes nothing
  pub MayEnd-stored : (files : Files) (r : Result Unit Fault) (after : Option Files) (t : Taken) → M (Ok (record { files = files; output = [] })) → OnOk r (TellsOnly after files) → IfErr r (λ f. fault_view f ≡ folder_fault)
      → MayEnd M (fault_of r) after t t
  MayEnd-stored files (Ok u) after t may tells fault = MayEnd-did (record { files = files; output = [] }) after t t may tells (Takes-nil t)
  MayEnd-stored files (Err f) after t may tells fault = MayEnd-stopped (fault_view f) after t (no_refusal f fault)

  failed : (o : Outcome) (v : PlainFault) (after : Option Files) (old new : Taken) (p q : ℕ) → M (Ok o) → TakesPrefix old new o.output → IsOfOutput p q (Some v) → MayEnd M (Some v) after old new
  unfolding MayEnd IsOfOutput
  failed o (refused r) after old new p q may bytes cause = absurd cause
  failed o folder_fault after old new p q may bytes cause = absurd cause
  failed o out_fault after old new p q may bytes cause = inr (record { outcome = Ok o; may = may; output = bytes })
  failed o in_fault after old new p q may bytes cause = absurd cause
  failed o memory after old new p q may bytes cause = absurd cause

  -- it writes what it may write, and files stay
  pub MayEnd-written : (o : Outcome) (result : Result Unit Fault) (after : Option Files) (old new : Taken) (p q : ℕ)
      → M (Ok o) → TellsOnly after o.files → Puts old new result o.output → IsOfOutput p q (fault_of result) → MayEnd M (fault_of result) after old new
  MayEnd-written o (Ok u) after old new p q may files bytes cause = MayEnd-did o after old new may files bytes
  MayEnd-written o (Err f) after old new p q may files bytes cause = failed o (fault_view f) after old new p q may bytes cause

  -- a part of it failed to write what it may write
  pub MayEnd-put_failed : (o : Outcome) (r : Result Unit Fault) (f : Fault) (after : Option Files) (old new : Taken) (p q : ℕ)
      → IsErrAnd r (λ g. g ≡ f) → M (Ok o) → TakesPrefix old new o.output → IsOfOutput p q (Some (fault_view f)) → MayEnd M (fault_of r) after old new
  MayEnd-put_failed o (Ok u) f after old new p q h may bytes cause = absurd h
  MayEnd-put_failed o (Err g) f after old new p q h may bytes cause = subst (λ (z : Fault). MayEnd M (Some (fault_view z)) after old new) (sym h) (failed o (fault_view f) after old new p q may bytes cause)

  not_committed : (o : Outcome) (v : PlainFault) (after : Option Files) (old new : Taken) → M (Ok o) → Takes old new o.output → v ≡ folder_fault → MayEnd M (Some v) after old new
  unfolding MayEnd
  not_committed o v after old new may bytes e = subst (λ (z : PlainFault). MayEnd M (Some z) after old new) (sym e) (inr (record { outcome = Ok o; may = may; output = TakesPrefix-all old new o.output bytes }))

  -- its output is written before it commits
  pub MayEnd-committed : (o : Outcome) (r : Result Unit Fault) (after : Option Files) (old new : Taken) → M (Ok o) → Takes old new o.output → OnOk r (TellsOnly after o.files) → IfErr r (λ f. fault_view f ≡ folder_fault)
      → MayEnd M (fault_of r) after old new
  MayEnd-committed o (Ok u) after old new may bytes tells fault = MayEnd-did o after old new may tells bytes
  MayEnd-committed o (Err f) after old new may bytes tells fault = not_committed o (fault_view f) after old new may bytes fault

-- what holds of the fault of a part holds of the fault of the whole
pub IfErr-passed : {T : Type 0} (r : Result T Fault) (f : Fault) (P : Fault → Type 0) → IsErrAnd r (λ g. g ≡ f) → P f → IfErr r P
IfErr-passed (Ok x) f P h p = tt
IfErr-passed (Err g) f P h p = subst P (sym h) p

pub IfErr-more : {T : Type 0} (r : Result T Fault) (P Q : Fault → Type 0) → ((f : Fault) → P f → Q f) → IfErr r P → IfErr r Q
IfErr-more (Ok x) P Q h p = tt
IfErr-more (Err f) P Q h p = h f p

-- a refusal of a step is the defined one
pub defined_refused : {A : Type 0} (x : Result A Refusal) (v : PlainFault) (q : Refusal) → IsDefined x v → v ≡ refused q → x ≡ Err q
unfolding IsDefined
defined_refused x v q d e = subst (IsDefined x) e d

-- told files stay
pub tells_same : (after : Option Files) (files : Files) → after ≡ Some files → TellsOnly after files
tells_same after files e = λ f told. let both : Some files ≡ Some f = sym e ∙ told in let same : files ≡ f = cc in sym same

-- told files with the draft under the name
committed-tells : (files : Files) (draft : Option (List ℕ)) (name bytes : List ℕ) → ((d : List ℕ) → draft ≡ Some d → d ≡ bytes) → TellsOnly (committed (Some files) draft name) (map.insert files name bytes)
committed-tells files None name bytes h = λ after e. absurd cc
committed-tells files (Some d) name bytes h = λ after e.
    let same : map.insert files name d ≡ after = cc in
    sym same ∙ ap (map.insert files name) (h d refl)

-- the same of a commit
pub commit-tells : (r : Result Unit Fault) (files : Files) (after before : Option Files) (draft : Option (List ℕ)) (name bytes : List ℕ) → OnOk r (after ≡ committed before draft name) → before ≡ Some files → IsDrafted draft bytes
    → OnOk r (TellsOnly after (map.insert files name bytes))
commit-tells (Ok u) files after before draft name bytes e told drafted = λ f is. committed-tells files draft name bytes drafted f (sym (ap (λ b. committed b draft name) told) ∙ sym e ∙ is)
commit-tells (Err f) files after before draft name bytes e told drafted = tt

-- a call ended with this fault of a part of it
pub passed-fault : (r : Result Unit Fault) (f : Fault) (v : PlainFault) → IsErrAnd r (λ g. g ≡ f) → fault_view f ≡ v → fault_of r ≡ Some v
passed-fault (Ok u) f v h e = absurd h
passed-fault (Err g) f v h e = ap (λ (z : Fault). Some (fault_view z)) h ∙ ap (λ w. Some w) e

-- an end that a command may have, where more is allowed
pub MayEnd-more : (M N : Result Outcome Refusal → Type 0) → ((r : Result Outcome Refusal) → M r → N r) → (e : Option PlainFault) (after : Option Files) (old new : Taken) → MayEnd M e after old new → MayEnd N e after old new
unfolding MayEnd
MayEnd-more M N h None after old new d = record { outcome = d.outcome; may = h (Ok d.outcome) d.may; files = d.files; output = d.output }
MayEnd-more M N h (Some (refused q)) after old new d = record { may = h (Err q) d.may; output = d.output }
MayEnd-more M N h (Some folder_fault) after old new d = elim d [ inl n ↦ inl n | inr p ↦ inr (record { outcome = p.outcome; may = h p.outcome p.may; output = p.output }) ]
MayEnd-more M N h (Some out_fault) after old new d = elim d [ inl n ↦ inl n | inr p ↦ inr (record { outcome = p.outcome; may = h p.outcome p.may; output = p.output }) ]
MayEnd-more M N h (Some in_fault) after old new d = elim d [ inl n ↦ inl n | inr p ↦ inr (record { outcome = p.outcome; may = h p.outcome p.may; output = p.output }) ]
MayEnd-more M N h (Some memory) after old new d = elim d [ inl n ↦ inl n | inr p ↦ inr (record { outcome = p.outcome; may = h p.outcome p.may; output = p.output }) ]

-- the end of a part that knows the files, where these are told
pub MayEnd-told : (M : Result Outcome Refusal → Type 0) (files : Files) (e : Option PlainFault) (after : Option Files) (old new : Taken) → after ≡ Some files → MayEnd M e (Some files) old new → MayEnd M e after old new
MayEnd-told M files e after old new told ends = subst (λ f. MayEnd M e f old new) (sym told) ends

-- ---- what the output gained

gained_nothing : (t : Taken) → Gained t t
gained_nothing t = record { bytes = []; takes = Takes-nil t }

gained_prefix : (old new : Taken) (piece : List ℕ) → TakesPrefix old new piece → Gained old new
gained_prefix old new piece p = record { bytes = take p.count piece; takes = p.takes }

-- nothing was written yet
pub gained-none : (v : Option PlainFault) (t : Taken) → EndsGained v t t
unfolding EndsGained
gained-none None t = gained_nothing t
gained-none (Some (refused r)) t = TakesNone-refl t
gained-none (Some folder_fault) t = gained_nothing t
gained-none (Some out_fault) t = gained_nothing t
gained-none (Some in_fault) t = gained_nothing t
gained-none (Some memory) t = gained_nothing t

gained_failed : (v : PlainFault) (old new : Taken) (piece : List ℕ) (p q : ℕ) → TakesPrefix old new piece → IsOfOutput p q (Some v) → EndsGained (Some v) old new
unfolding EndsGained IsOfOutput
gained_failed (refused r) old new piece p q bytes cause = absurd cause
gained_failed folder_fault old new piece p q bytes cause = absurd cause
gained_failed out_fault old new piece p q bytes cause = gained_prefix old new piece bytes
gained_failed in_fault old new piece p q bytes cause = absurd cause
gained_failed memory old new piece p q bytes cause = absurd cause

-- a piece was written last
pub gained-written : (result : Result Unit Fault) (old new : Taken) (piece : List ℕ) (p q : ℕ) → Puts old new result piece → IsOfOutput p q (fault_of result) → EndsGained (fault_of result) old new
unfolding EndsGained
gained-written (Ok u) old new piece p q bytes cause = record { bytes = piece; takes = bytes }
gained-written (Err f) old new piece p q bytes cause = gained_failed (fault_view f) old new piece p q bytes cause

-- a part failed to write a piece
pub gained-put_failed : (r : Result Unit Fault) (f : Fault) (old new : Taken) (piece : List ℕ) (p q : ℕ) → IsErrAnd r (λ g. g ≡ f) → TakesPrefix old new piece → IsOfOutput p q (Some (fault_view f)) → EndsGained (fault_of r) old new
gained-put_failed (Ok u) f old new piece p q h bytes cause = absurd h
gained-put_failed (Err g) f old new piece p q h bytes cause = subst (λ (z : Fault). EndsGained (Some (fault_view z)) old new) (sym h) (gained_failed (fault_view f) old new piece p q bytes cause)

gained_then : (v : PlainFault) (old new : Taken) → Gained old new → v ≡ folder_fault → EndsGained (Some v) old new
unfolding EndsGained
gained_then v old new g e = subst (λ (z : PlainFault). EndsGained (Some z) old new) (sym e) g

-- a piece was written, and then the folder may have failed
pub gained-committed : (r : Result Unit Fault) (old new : Taken) (piece : List ℕ) → Takes old new piece → IfErr r (λ f. fault_view f ≡ folder_fault) → EndsGained (fault_of r) old new
unfolding EndsGained
gained-committed (Ok u) old new piece bytes fault = record { bytes = piece; takes = bytes }
gained-committed (Err f) old new piece bytes fault = gained_then (fault_view f) old new (record { bytes = piece; takes = bytes }) fault

gained_some : (M : Result Outcome Refusal → Type 0) (old new : Taken) → TakesNone old new ⊎ PutSome M old new → Gained old new
gained_some M old new d = elim d [ inl none ↦ record { bytes = []; takes = Takes-kept old old new [] (Takes-nil old) none } | inr p ↦ gained_prefix old new (output_of p.outcome) p.output ]

-- by an end that a command may have
pub gained-may : (M : Result Outcome Refusal → Type 0) (e : Option PlainFault) (after : Option Files) (old new : Taken) → MayEnd M e after old new → EndsGained e old new
unfolding MayEnd EndsGained
gained-may M None after old new d = record { bytes = d.outcome.output; takes = d.output }
gained-may M (Some (refused q)) after old new d = d.output
gained-may M (Some folder_fault) after old new d = gained_some M old new d
gained-may M (Some out_fault) after old new d = gained_some M old new d
gained-may M (Some in_fault) after old new d = gained_some M old new d
gained-may M (Some memory) after old new d = gained_some M old new d
