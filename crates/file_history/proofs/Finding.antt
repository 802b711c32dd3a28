-- What a search by halving goes on with.
use Rattle.std.proofs.Common.{◌≡◌, ℕ, ◌-◌, ◌<◌, ◌≤◌, List, length, Option, Some, None, Ok, Err, Result, subst, arith}
use Rattle.std.specs.Prelude.{IfOk, OnOk}
use Rattle.keyed_tree.specs.Data.{PlainLabel}
use Rattle.archive_tree.specs.Data.{PlainNode}
use Rattle.archive_tree.specs.Seek.{node_with}
use Rattle.xa_outside.specs.Folder.{Files}
use Rattle.xa_outside.specs.Numbers.{Numbers}
use Rattle.record_format.specs.Probed.{most_probes}
use Rattle.record_cursor.specs.Steps.{Filled}
use Rattle.record_cursor.specs.declared.fault.CursorFault.{CursorFault}
use Rattle.file_rows.specs.View.{PlainRow}
use Rattle.file_history.specs.Halving.{probes}
use Rattle.file_history.specs.Parts.{PartIs, BesideIs, IsFoundIn, ProbedIs, IsSmaller}
use Rattle.file_history.specs.Pulled.{PullsBut}
use Rattle.file_history.specs.View.{PlainPart, part_view, room_of, left_probed, OnFound}
use Rattle.file_history.specs.declared.open.Found.{Found}
use Rattle.file_history.specs.declared.search.Part.{Part}
use Rattle.file_history.specs.declared.search.Probed.{Probed}
use Rattle.file_history.specs.declared.search.Probed.TheVariants.{Here, Beside}
use Rattle.file_rows.proofs.Halves.{probes-less}
use Rattle.file_history.proofs.Probes.{probes-none}

pub here-told : (told : Option Files) (name bytes : List ℕ) (row : PlainRow) (parent : List (ℕ × ℕ)) (w : PlainLabel) (mid : List PlainNode) (a b : Numbers) (r : Result Probed CursorFault) (f : Found) → r ≡ Ok (Here f)
    → Filled r (ProbedIs told name bytes row parent w mid a b) → IsFoundIn bytes parent (node_with w mid) (Some f) × (probes w mid ≡ 1)
here-told told name bytes row parent w mid a b r f e h = subst (λ (s : Result Probed CursorFault). Filled s (ProbedIs told name bytes row parent w mid a b)) e h

pub beside-told : (told : Option Files) (name bytes : List ℕ) (row : PlainRow) (parent : List (ℕ × ℕ)) (w : PlainLabel) (mid : List PlainNode) (a b : Numbers) (r : Result Probed CursorFault) (next : Part) → r ≡ Ok (Beside next)
    → Filled r (ProbedIs told name bytes row parent w mid a b) → BesideIs told name bytes row parent w mid a b (part_view next)
beside-told told name bytes row parent w mid a b r next e h = subst (λ (s : Result Probed CursorFault). Filled s (ProbedIs told name bytes row parent w mid a b)) e h

pub beside-smaller : (part next : Part) (r : Result Probed CursorFault) → r ≡ Ok (Beside next) → IfOk r (IsSmaller part) → (next.high ≤ part.high) × (next.high - next.low < part.high - part.low)
beside-smaller part next r e h = subst (λ (s : Result Probed CursorFault). IfOk s (IsSmaller part)) e h

pub beside-pulls : (room : ℕ) (next : Part) (a b : Numbers) (r : Result Probed CursorFault) → r ≡ Ok (Beside next) → PullsBut room (left_probed r) a b → PullsBut room (room_of next) a b
beside-pulls room next a b r e h = subst (λ (s : Result Probed CursorFault). PullsBut room (left_probed s) a b) e h

-- where a child is looked at, it is a step of those that are allowed
pub some-probes : (told : Option Files) (name bytes : List ℕ) (row : PlainRow) (parent : List (ℕ × ℕ)) (part : PlainPart) (front mid back : List PlainNode) → PartIs told name bytes row parent part front mid back → part.low < part.high
    → 1 ≤ most_probes (length mid)
some-probes told name bytes row parent part front mid back h some =
    let many : 0 < length mid = omega (arith, h.low, h.high, some) in
    let one = probes-less 0 (length mid) many (omega arith) in
    omega (arith, one)

-- in an empty part there is none
pub no-probes : (told : Option Files) (name bytes : List ℕ) (row : PlainRow) (parent : List (ℕ × ℕ)) (part : PlainPart) (front mid back : List PlainNode) (w : PlainLabel) → PartIs told name bytes row parent part front mid back → part.high ≤ part.low
    → probes w mid ≡ 0
no-probes told name bytes row parent part front mid back w h none = probes-none w mid (omega (arith, h.low, h.high, none))

-- ---- steps that were counted

pub ok-more : {T : Type 0} (r : Result T CursorFault) (P Q : Type 0) → (P → Q) → OnOk r P → OnOk r Q
ok-more (Ok x) P Q f h = f h
ok-more (Err e) P Q f h = tt

pub found-more : {T : Type 0} (r : Result (Option T) CursorFault) (P Q : Type 0) → (P → Q) → OnFound r P → OnFound r Q
found-more (Ok (Some x)) P Q f h = f h
found-more (Ok None) P Q f h = tt
found-more (Err e) P Q f h = tt

pub found-some : {T : Type 0} (o : Option T) (x : T) (P : Type 0) → o ≡ Some x → OnFound (Ok o) P → P
found-some o x P e h = subst (λ p. OnFound (Ok p) P) e h
