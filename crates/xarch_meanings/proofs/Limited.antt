-- What was read is one, and is not refused by a limit.
use Rattle.std.proofs.Common.{◌≡◌, Some, Result, Ok, Err, sym, ◌∙◌}
use Rattle.xarch_words.specs.Refusal.{Refusal, PlainFault, refused, folder_fault, out_fault, in_fault, memory}
use Rattle.xarch_parts.specs.Ends.{IsDefined}
use Rattle.xarch_meanings.specs.Meanings.{IsLimited}

pub one-read : {A : Type 0} (x y : A) → ◌≡◌ {A = Result A Refusal} (Ok x) (Ok y) → x ≡ y
one-read x y e = cc

pub limited-given : {A : Type 0} (x : Result A Refusal) (y : A) (v : PlainFault) → IsDefined x v → x ≡ Ok y → IsLimited (Some v) → ⊥
unfolding IsDefined
limited-given x y (refused q) defined is limited = (let wrong : Ok y ≡ Err q = sym is ∙ defined in cc)
limited-given x y folder_fault defined is limited = limited
limited-given x y out_fault defined is limited = limited
limited-given x y in_fault defined is limited = limited
limited-given x y memory defined is limited = limited
