-- What is left of a folder by no call, and by one call behind another.
use Rattle.std.proofs.Common.{ℕ, List, Option, arith}
use Rattle.xa_outside.specs.Folder.{Files}
use Rattle.xarch_run.specs.Stays.{Stays}

pub Stays-none : {F : Type 0} (files : F → Option Files) (draft : F → Option (List ℕ)) (faults : F → ℕ) (f : F) → Stays files draft faults f f
Stays-none files draft faults f = record { untold = λ h. h; draft_untold = λ h. h; told = λ h. h; later = omega arith }

pub Stays-trans : {F : Type 0} (files : F → Option Files) (draft : F → Option (List ℕ)) (faults : F → ℕ) (f g h : F) → Stays files draft faults f g → Stays files draft faults g h → Stays files draft faults f h
Stays-trans files draft faults f g h p q =
    let first = p.later in
    let second = q.later in
    record { untold = λ none. q.untold (p.untold none); draft_untold = λ none. q.draft_untold (p.draft_untold none); told = λ told. q.told (p.told told); later = omega (arith, first, second) }
