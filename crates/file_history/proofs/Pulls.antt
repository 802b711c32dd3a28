-- What is pulled in several calls, of which each leaves something.
use Rattle.std.proofs.Common.{ℕ, ◌+◌, ◌≤◌, None, Some, Option, sym, ap, ◌∙◌, List, arith}
use Rattle.xa_outside.specs.Folder.{Files}
use Rattle.xa_outside.specs.Numbers.{Numbers, IsMeter, PullsAtMost, after_pull}
use Rattle.xa_outside.specs.NumberLaws.{after_pull-none, after_pull-twice}
use Rattle.record_cursor.specs.Steps.{OnlyReads, IsCause}
use Rattle.record_cursor.specs.declared.fault.CursorFault.{CursorFault}
use Rattle.record_cursor.specs.declared.fault.CursorFault.TheVariants.{Damage, Folder, Memory}
use Rattle.file_history.specs.Pulled.{PullsBut}

pub but-none : (room : ℕ) (a : Numbers) → IsMeter a → PullsBut room room a a
but-none room a is = record { count = 0; within = omega arith; pulled = sym (after_pull-none a is) }

pub but-trans : (room left last : ℕ) (a b c : Numbers) → PullsBut room left a b → PullsBut left last b c → PullsBut room last a c
but-trans room left last a b c p q =
    let v = p.within in
    let w = q.within in
    record { count = p.count + q.count; within = omega (arith, v, w); pulled = q.pulled ∙ ap (λ m. after_pull m q.count) p.pulled ∙ after_pull-twice a p.count q.count }

pub but-all : (room left : ℕ) (a b : Numbers) → PullsBut room left a b → PullsAtMost room a b
but-all room left a b p = (let w = p.within in record { count = p.count; within = omega (arith, w); pulled = p.pulled })

pub but-most : (room left limit : ℕ) (a b : Numbers) → limit + left ≤ room → PullsAtMost limit a b → PullsBut room left a b
but-most room left limit a b fits p = (let w = p.within in record { count = p.count; within = omega (arith, w, fits); pulled = p.pulled })

-- less is left, and there is more room
pub but-less : (room left more less : ℕ) (a b : Numbers) → room + less ≤ more + left → PullsBut room left a b → PullsBut more less a b
but-less room left more less a b fits p = (let w = p.within in record { count = p.count; within = omega (arith, w, fits); pulled = p.pulled })

-- ---- only reading

later-cause : (a b c : ℕ) (e : Option CursorFault) → a ≤ b → IsCause b c e → IsCause a c e
later-cause a b c None h g = g
later-cause a b c (Some Damage) h g = g
later-cause a b c (Some Memory) h g = g
later-cause a b c (Some Folder) h g = omega (arith, h, g)

pub reads-trans : {S : Type 0} (files : S → Option Files) (draft : S → Option (List ℕ)) (faults : S → ℕ) (a b c : S) (first ended : Option CursorFault)
    → OnlyReads files draft faults a b first → OnlyReads files draft faults b c ended → OnlyReads files draft faults a c ended
reads-trans files draft faults a b c first ended p q =
    let v = p.later in
    let w = q.later in
    record { same_files = q.same_files ∙ p.same_files; same_draft = q.same_draft ∙ p.same_draft; later = omega (arith, v, w); cause = later-cause (faults a) (faults b) (faults c) ended v q.cause }

-- a call that leaves something, behind one that pulls at most so many
pub but-behind : (n room left more less : ℕ) (a b c : Numbers) → n + room + less ≤ more + left → PullsAtMost n a b → PullsBut room left b c → PullsBut more less a c
but-behind n room left more less a b c fits p q =
    let v = p.within in
    let w = q.within in
    record { count = p.count + q.count; within = omega (arith, v, w, fits); pulled = q.pulled ∙ ap (λ m. after_pull m q.count) p.pulled ∙ after_pull-twice a p.count q.count }

pub most-both : (n m limit : ℕ) (a b c : Numbers) → n + m ≤ limit → PullsAtMost n a b → PullsAtMost m b c → PullsAtMost limit a c
most-both n m limit a b c fits p q =
    let v = p.within in
    let w = q.within in
    record { count = p.count + q.count; within = omega (arith, v, w, fits); pulled = q.pulled ∙ ap (λ m. after_pull m q.count) p.pulled ∙ after_pull-twice a p.count q.count }

-- a call that pulls what was left
pub but-then : (room left : ℕ) (a b c : Numbers) → PullsBut room left a b → PullsAtMost left b c → PullsAtMost room a c
but-then room left a b c p q =
    let v = p.within in
    let w = q.within in
    record { count = p.count + q.count; within = omega (arith, v, w); pulled = q.pulled ∙ ap (λ m. after_pull m q.count) p.pulled ∙ after_pull-twice a p.count q.count }

-- a call that pulls some of what was left
pub but-on : (room some left : ℕ) (a b c : Numbers) → PullsBut room (some + left) a b → PullsAtMost some b c → PullsBut room left a c
but-on room some left a b c p q =
    let v = p.within in
    let w = q.within in
    record { count = p.count + q.count; within = omega (arith, v, w); pulled = q.pulled ∙ ap (λ m. after_pull m q.count) p.pulled ∙ after_pull-twice a p.count q.count }
