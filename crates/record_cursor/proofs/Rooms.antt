-- Bytes that were read, few or many.
use Rattle.std.proofs.Common.{◌≡◌, ℕ, ◌≤◌, ◌<◌, true, false, leb, List, take, Result, Ok, Err, arith}
use Rattle.std.specs.Prelude.{nat_le, if◌then◌else◌}
use Rattle.std.proofs.lemmas.Bool.Decides.{nat_tests}
use Rattle.record_cursor.specs.Steps.{Filled}
use Rattle.record_cursor.specs.declared.fault.CursorFault.{CursorFault}

pub filled-as : {T : Type 0} (r : Result T CursorFault) (A B : Type 0) → (A → B) → Filled r (λ _. A) → Filled r (λ _. B)
filled-as (Ok x) A B f a = f a
filled-as (Err e) A B f a = a

pub few-bytes : (size : ℕ) (short long xs : List ℕ) → size ≤ 256 → take size short ≡ xs → (if nat_le size 256 then take size short else long) ≡ xs
few-bytes size short long xs le e = (let yes : leb size 256 ≡ true = grind (arith, nat_tests) in rw yes e)

pub many-bytes : (size : ℕ) (short long xs : List ℕ) → 256 < size → long ≡ xs → (if nat_le size 256 then take size short else long) ≡ xs
many-bytes size short long xs lt e = (let no : leb size 256 ≡ false = grind (arith, nat_tests) in rw no e)
