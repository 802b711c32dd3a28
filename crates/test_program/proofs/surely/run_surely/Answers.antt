use Rattle.std.proofs.Common.{◌≡◌, ◌⊎◌, inl, inr, ℕ, Option, arith}
use Rattle.xa_outside.specs.Folder.{Files}
use Rattle.xa_outside.specs.Taken.{Taken}
use Rattle.xarch_parts.specs.Outcome.{Step}
use Rattle.xarch_meanings.specs.Ran.{Ran}
use Rattle.test_program.proofs.surely.run_surely.Goals as goal

status-of : {after : Option Files} {old new err_old err_new : Taken} {before now : ℕ} (answer : ℕ) (s : Step) → (answer ≡ 16) ⊎ Ran s answer after old new err_old err_new before now → (answer ≡ 16) ⊎ (answer ≡ s.status)
status-of answer s (inl e) = inl e
status-of answer s (inr ran) = inr ran.status

pub returns : goal.returns
returns c = record { answers = λ files s other told is. status-of c.run.result s ((c.run.ensures.step other).steady files s told is (λ rose. omega (arith, rose)) (λ rose. omega (arith, rose))) }
