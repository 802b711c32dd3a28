-- The texts of the paths that rules mark.
use Rattle.std.specs.Prelude.{◌≡◌, ℕ, List, ◌++◌, map, flat_map}
use Rattle.key_spec.specs.Data.{PlainRule}
use Rattle.key_spec.specs.Names.{slashed}
use Rattle.key_spec.specs.Texts.{TextSet, Holds, Adds, texts_along, target_text, implied_texts, end_texts}
use Rattle.key_spec.specs.declared.closing.Marks.{Marks}

-- these are the marks of the rules
pub record HoldMarks (marks : Marks) (rules : List PlainRule) : Type 0 where
  pub given : Holds marks.given (map target_text rules)
  pub implied : Holds marks.implied (flat_map implied_texts rules)
  pub ends : Holds marks.ends (flat_map end_texts rules)

-- the new marks have these texts besides the old ones
pub record AddMarks (old new : Marks) (targets along last : List (List ℕ)) : Type 0 where
  pub given : Adds old.given new.given targets
  pub implied : Adds old.implied new.implied along
  pub ends : Adds old.ends new.ends last

-- from one text to another, through these tags, and the new set has the texts on the way besides the old ones
pub record GoesAlong (old new : TextSet) (from end : List ℕ) (tags : List (List ℕ)) : Type 0 where
  pub here : end ≡ from ++ slashed tags
  pub texts : Adds old new (texts_along from tags)
