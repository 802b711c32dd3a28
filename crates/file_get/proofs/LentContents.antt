-- What is printed of the content of a leaf.
use Rattle.std.proofs.Common.{◌≡◌, ℕ, ◌≤◌, List, [], take, Option, Some, None, Result, Ok, Err, refl, sym, ap, subst, ◌∙◌, arith, append-nil}
use Rattle.std.specs.Option.{option_map}
use Rattle.xa_outside.specs.Folder.{Files}
use Rattle.xa_outside.specs.Numbers.{Numbers, IsMeter}
use Rattle.xa_outside.specs.NumberLaws.{PullsAtMost-none}
use Rattle.xa_outside.specs.Taken.{Taken, Takes, TakesPrefix}
use Rattle.xa_outside.specs.TakenLaws.{TakesPrefix-more}
use Rattle.xa_fields.specs.Reading.{whole}
use Rattle.xa_fields.proofs.Fields.{some_is}
use Rattle.keyed_tree.specs.Data.{PlainKey, inside}
use Rattle.record_parts.specs.Bounds.{deepest}
use Rattle.jsonml_tree.specs.Data.{PlainContent}
use Rattle.jsonml_print.specs.Pen.{Pen}
use Rattle.jsonml_print.specs.Calls.{Call, printed, reached, content_calls}
use Rattle.jsonml_print.proofs.Walks.{printed-append}
use Rattle.record_parts.specs.Reading.{content_at}
use Rattle.file_get.specs.Contents.{ContentPrinted}
use Rattle.file_get.specs.Told.{IsCaused, IsBehind, fault_of, of_print}
use Rattle.file_get.specs.State.{State, state}
use Rattle.file_get.specs.Walks.{Walks, Shows}
use Rattle.file_get.specs.LeafBodies.{whole_inside}
use Rattle.content_print.specs.LentPrinted.{Output, output, Reading, whole_calls, ahead, PrintsRead}
use Rattle.content_print.specs.declared.fault.PrintFault.{PrintFault}
use Rattle.content_print.specs.declared.fault.PrintFault.TheVariants as print
use Rattle.file_get.specs.declared.fault.GetFault.{GetFault}
use Rattle.file_get.specs.declared.fault.GetFault.TheVariants.{NoVersion, Damage, Folder, Out, Memory}
use Rattle.content_print.proofs.LentReadings.{calls-are}

-- the content that a body has whose bytes are one
pub content-read : (bytes : List ℕ) (b : PlainKey) → whole_inside bytes ≡ Some b → (c : PlainContent) × (whole_calls bytes ≡ Some (content_calls c, [])) × (inside c ≡ b)
content-read bytes b e = found (whole (content_at deepest) bytes) e
  where
    calls : PlainContent → List Call × List ℕ
    calls c = (content_calls c, [])

    found : (read : Option PlainContent) → option_map inside read ≡ Some b → (c : PlainContent) × (option_map calls read ≡ Some (content_calls c, [])) × (inside c ≡ b)
    found None e = absurd cc
    found (Some c) e = (c, refl, some_is (inside c) b e)

-- a fault of the printing as one of the version
pub content-failed : (T U : Type 0) (s t : Output) (whole : Reading) (e : PrintFault) → PrintsRead {T = T} s t (λ u. []) whole (Err e) → ContentPrinted {T = U} s t whole (Err (of_print e))
content-failed T U s t whole print.Damage h = h
content-failed T U s t whole print.Out h = h

module _ {S K : Type 0} (files : S → Option Files) (draft : S → Option (List ℕ)) (numbers : S → Numbers) (faults : S → ℕ) (taken : K → Taken) (out_faults : K → ℕ) (folder : S) (a b : K) (p q : Pen) (n : ℕ) (read : Reading) where
  abbrev s : State
  s = state files draft numbers faults taken out_faults folder a p n

  abbrev t : State
  t = state files draft numbers faults taken out_faults folder b q n

  abbrev Printed : {T : Type 0} → Result T GetFault → Type 0
  Printed r = ContentPrinted (output taken out_faults a p) (output taken out_faults b q) read r

  walks-by : (e : Option GetFault) → IsMeter (numbers folder) → out_faults a ≤ out_faults b → IsCaused (faults folder) (faults folder) (out_faults a) (out_faults b) e → IsBehind e → (bytes : List ℕ) × Takes (taken a) (taken b) bytes → Walks 0 s t e
  walks-by e meter later cause behind gained = record { same_files = refl; same_draft = refl; later = omega arith; out_later = later; cause = cause; behind = behind; pulls = PullsAtMost-none 0 (numbers folder) meter; gained = gained }

  pub lent-walks : {T : Type 0} (r : Result T GetFault) → IsMeter (numbers folder) → Printed r → Walks 0 s t (fault_of r)
  lent-walks (Ok u) meter h = walks-by None meter h.later tt tt (printed p h.done, h.bytes)
  lent-walks (Err (NoVersion m)) meter h = absurd h
  lent-walks (Err Damage) meter h = walks-by (Some Damage) meter h.later tt tt h.gained
  lent-walks (Err Folder) meter h = absurd h
  lent-walks (Err Out) meter h = walks-by (Some Out) meter h.later h.rose tt (let bytes = h.bytes in (take bytes.count (printed p h.done), bytes.takes))
  lent-walks (Err Memory) meter h = absurd h

  stopped-shows : (calls : List Call) (done : List Call) (left : Reading) → TakesPrefix (taken a) (taken b) (printed p done) → ahead done left ≡ Some (calls, []) → TakesPrefix (taken a) (taken b) (printed p calls)
  stopped-shows calls done None h e = absurd cc
  stopped-shows calls done (Some x) h e =
      subst (λ (cs : List Call). TakesPrefix (taken a) (taken b) (printed p cs)) (calls-are done calls x e)
      (subst (TakesPrefix (taken a) (taken b)) (sym (printed-append p done x.0)) (TakesPrefix-more (taken a) (taken b) (printed p done) (printed (reached p done) x.0) h))

  pub lent-shows : {T : Type 0} (calls : List Call) (r : Result T GetFault) → IsMeter (numbers folder) → Printed r → read ≡ Some (calls, []) → Shows calls 0 0 s t (fault_of r)
  lent-shows calls (Ok u) meter h e =
      let same : h.done ≡ calls = sym (append-nil h.done) ∙ calls-are h.done calls ([], []) (h.reads ∙ e) in
      record {
        sound = tt;
        bytes = subst (λ (cs : List Call). Takes (taken a) (taken b) (printed p cs)) same h.bytes;
        pen = h.pen ∙ ap (reached p) same;
        pulls = PullsAtMost-none 0 (numbers folder) meter;
        steps = omega arith;
        exact = omega arith;
      }
  lent-shows calls (Err (NoVersion m)) meter h e = absurd h
  lent-shows calls (Err Damage) meter h e = absurd (let none : None ≡ Some (calls, []) = sym h.none ∙ e in cc)
  lent-shows calls (Err Folder) meter h e = absurd h
  lent-shows calls (Err Out) meter h e = record { sound = tt; bytes = stopped-shows calls h.done h.left h.bytes (h.reads ∙ e); pen = tt; pulls = PullsAtMost-none 0 (numbers folder) meter; steps = omega arith; exact = tt }
  lent-shows calls (Err Memory) meter h e = absurd h
