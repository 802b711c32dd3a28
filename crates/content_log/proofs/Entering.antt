-- Writing one entry.
use Rattle.std.proofs.Common.{rules, ◌≡◌, ℕ, ◌≤◌, List, [], ◌++◌, Option, Some, None, Result, Ok, Err, sym, ap, subst, ◌∙◌, arith}
use Rattle.std.specs.Result.{IsErrAnd}
use Rattle.std.specs.Prelude.{IsSome}
use Rattle.jsonml_print.specs.Printed.{tree_text}
use Rattle.jsonml_tree.specs.Data.{PlainContent, element}
use Rattle.keyed_tree.specs.Data.{PlainKey, scalar, inside}
use Rattle.xa_fields.specs.Reading.{byte_at, whole}
use Rattle.xa_fields.proofs.Combinators.{whole_again}
use Rattle.record_parts.specs.Bounds.{deepest, IsValue, IsContent}
use Rattle.record_parts.specs.Reading.{content_at}
use Rattle.record_parts.specs.Spelling.{value_bytes, content_bytes}
use Rattle.record_parts.specs.Values.{content_reads}
use Rattle.xa_outside.specs.Causes.{HasCause}
use Rattle.xa_outside.specs.Taken.{Taken, Takes, Puts}
use Rattle.xa_outside.specs.TakenLaws.{Takes-trans, TakesPrefix-none, TakesPrefix-after, TakesPrefix-more}
use Rattle.content_log.specs.Entries.{ContentIs, EntryPut, IsOutCause, IsScalarKey}
use Rattle.content_log.specs.Text.{body_text}
use Rattle.content_log.specs.Told.{fault_of}
use Rattle.content_log.specs.Written.{Prefixed}
use Rattle.content_log.specs.declared.fault.LogFault.{LogFault}
use Rattle.content_log.specs.declared.fault.LogFault.TheVariants.{Damage, Folder, Out, Memory}

-- a fault that `?` hands on
pub at-err : {T : Type 0} (r : Result T LogFault) (f : LogFault) → IsErrAnd r (λ d. d ≡ f) → (P : Option LogFault → Type 0) → P (Some f) → P (fault_of r)
at-err (Ok x) f h P p = absurd h
at-err (Err d) f h P p = subst (λ (z : LogFault). P (Some z)) (sym h) p

-- ---- one piece after another

pub put-none : (a : Taken) (n : ℕ) (text : List ℕ) → EntryPut a a n n text (Some Memory)
put-none a n text = record { bytes = TakesPrefix-none a text; later = omega arith; cause = tt }

pub put-done : {T E : Type 0} (a b : Taken) (n m : ℕ) (x : T) (text : List ℕ) → Puts {T = T} {E = E} a b (Ok x) text → HasCause {T = T} {E = E} n m (Ok x) → EntryPut a b n m text None
put-done a b n m x text h c = record { bytes = h; later = c.later; cause = tt }

pub put-failed : {T E : Type 0} (a b : Taken) (n m : ℕ) (e : E) (text : List ℕ) → Puts {T = T} {E = E} a b (Err e) text → HasCause {T = T} {E = E} n m (Err e) → EntryPut a b n m text (Some Out)
put-failed a b n m e text h c = record { bytes = h; later = c.later; cause = c.failed }

out-later : (n m k : ℕ) (e : Option LogFault) → n ≤ m → IsOutCause m k e → IsOutCause n k e
out-later n m k None le h = tt
out-later n m k (Some Damage) le h = h
out-later n m k (Some Folder) le h = h
out-later n m k (Some Out) le h = omega (arith, le, h)
out-later n m k (Some Memory) le h = tt

prefixed-then : (a b c : Taken) (x y : List ℕ) (e : Option LogFault) → Takes a b x → Prefixed b c e y → Prefixed a c e (x ++ y)
prefixed-then a b c x y None h g = Takes-trans a b c x y h g
prefixed-then a b c x y (Some e) h g = TakesPrefix-after a b c x y h g

pub put-then : (a b c : Taken) (n m k : ℕ) (x y : List ℕ) (e : Option LogFault) → EntryPut a b n m x None → EntryPut b c m k y e → EntryPut a c n k (x ++ y) e
put-then a b c n m k x y e h g = record {
  bytes = prefixed-then a b c x y e h.bytes g.bytes;
  later = (let l = h.later in let r = g.later in omega (arith, l, r));
  cause = out-later n m k e h.later g.cause;
}

pub put-cut : (a b : Taken) (n m : ℕ) (x y : List ℕ) (e : LogFault) → EntryPut a b n m x (Some e) → EntryPut a b n m (x ++ y) (Some e)
put-cut a b n m x y e h = record { bytes = TakesPrefix-more a b x y h.bytes; later = h.later; cause = h.cause }

-- ---- bodies

-- the first byte says whether a value is a content
pub content-told : (b : PlainKey) (bytes : List ℕ) (k : ℕ) (rest : List ℕ) → IsValue b → bytes ≡ value_bytes b → byte_at bytes ≡ Some (k, rest) → (k ≡ 1 → ContentIs b (Some rest)) × (¬ (k ≡ 1) → ContentIs b None)
content-told (scalar v) bytes k rest is e h = (λ one. absurd (zero-one k (sym (ap kind (sym (ap byte_at e) ∙ h))) one), λ no. tt)
  where
    kind : Option (ℕ × List ℕ) → ℕ
    kind None = 0
    kind (Some x) = x.0

    zero-one : (k : ℕ) → k ≡ 0 → k ≡ 1 → ⊥
    zero-one k f g = absurd (omega (arith, f, g))
content-told (inside c) bytes k rest is e h =
    let two : Some (1, content_bytes c) ≡ Some (k, rest) = sym (ap byte_at e) ∙ h in (
      λ one. ap (whole (content_at deepest)) (sym (ap behind two)) ∙ whole_again (content_at deepest) content_bytes (IsContent deepest) (content_reads deepest) c is,
      λ no. absurd (no (sym (ap kind two))),
    )
  where
    behind : Option (ℕ × List ℕ) → List ℕ
    behind None = []
    behind (Some x) = x.1

    kind : Option (ℕ × List ℕ) → ℕ
    kind None = 1
    kind (Some x) = x.0

pub content-some : (b : PlainKey) (bytes : List ℕ) → ContentIs b (Some bytes) → IsSome (whole (content_at deepest) bytes)
content-some (scalar v) bytes h = absurd h
content-some (inside c) bytes h = subst IsSome (sym h) (search rules)

pub content-put : {T E : Type 0} (tag : List ℕ) (b : PlainKey) (bytes : List ℕ) (r : Result T E) (x y : Taken) → ContentIs b (Some bytes) → ((c : PlainContent) → whole (content_at deepest) bytes ≡ Some c → Puts x y r (tree_text (element tag c))) → Puts x y r (body_text tag b)
content-put tag (scalar v) bytes r x y h f = absurd h
content-put tag (inside c) bytes r x y h f = f c h

pub none-scalar : (b : PlainKey) → ContentIs b None → IsScalarKey b
none-scalar (scalar v) h = tt
none-scalar (inside c) h = absurd h
