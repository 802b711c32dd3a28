-- The laws that stand in specs/TakenLaws, under their former name.
pub use Rattle.xa_outside.specs.TakenLaws.{Grows-refl, Grows-from_keeps, Grows-trans, StaysBehind-refl, StaysBehind-trans, Takes-nil, Takes-trans, Takes-piece, Takes-kept, TakesNone-refl, TakesNone-trans, Takes-after_none, Writes-after_none, TakesPrefix-none, TakesPrefix-all, TakesPrefix-after, TakesPrefix-more, TakesPrefix-in, TakesPrefix-piece, TakesPrefix-from_err, TakesPrefix-from_puts, Puts-after, Puts-failed, Puts-cut, Puts-in, Puts-piece, Puts-stopped, outputs}
