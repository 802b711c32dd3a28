-- What was said.
use Rattle.std.proofs.Common.{◌≡◌, ℕ, List, Result, Ok, Err, subst}
use Rattle.xa_outside.specs.Causes.{HasCause}
use Rattle.xa_outside.specs.Taken.{Taken, Puts}
use Rattle.xa_outside.specs.TakenLaws.{TakesPrefix-all}
use Rattle.xarch_words.specs.Lines.{fault_line}
use Rattle.xarch_words.specs.Refusal.{PlainFault}
use Rattle.xarch_meanings.specs.Ran.{Says}

-- a line that was written, or a prefix of it where the sink failed
pub says-put : {T E : Type 0} (a b : Taken) (r : Result T E) (x : List ℕ) (m n : ℕ) → Puts a b r x → HasCause m n r → Says a b m n x
says-put a b (Ok u) x m n puts cause = record { prefix = TakesPrefix-all a b x puts; whole = λ _. puts }
says-put a b (Err e) x m n puts cause = record { prefix = puts; whole = λ calm. absurd (calm cause.failed) }

-- the same fault, under another name
pub says-is : (a b : Taken) (m n : ℕ) (v w : PlainFault) → v ≡ w → Says a b m n (fault_line v) → Says a b m n (fault_line w)
says-is a b m n v w e says = subst (λ (u : PlainFault). Says a b m n (fault_line u)) e says
