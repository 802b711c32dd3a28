-- The plain data of a plan.
use Rattle.std.specs.Prelude.{ℕ, map, vec_capacity}
use Rattle.version_set.specs.View.{pairs_of}
use Rattle.archive_tree.specs.View.{alt_view, node_view}
use Rattle.nested_merge.specs.Plan.{PlainMark, stay, grow, store, PlainAltStep, old_alt, new_alt, PlainStep, fresh_step, old_step, PlainChange, keep, kids_change, alts_change, steps_from}
use Rattle.nested_merge.specs.declared.space.Space.{Space}
use Rattle.nested_merge.specs.declared.plan.Mark.{Mark}
use Rattle.nested_merge.specs.declared.plan.Mark.TheVariants.{Stay, Grow, Store}
use Rattle.nested_merge.specs.declared.plan.AltStep.{AltStep}
use Rattle.nested_merge.specs.declared.plan.AltStep.TheVariants.{Old, New}
use Rattle.nested_merge.specs.declared.plan.Step.{Step, Step-F, fold-Step}
use Rattle.nested_merge.specs.declared.plan.Change.{Change, Change-F, fold-Change}

-- for how many items there is room
abbrev pub room_of : {T : Type 0} → Space T → ℕ
room_of s = vec_capacity s.items

abbrev pub mark_view : Mark → PlainMark
mark_view Stay = stay
mark_view Grow = grow
mark_view (Store s) = store (pairs_of s)

abbrev pub alt_step_view : AltStep → PlainAltStep
alt_step_view (Old m) = old_alt (mark_view m)
alt_step_view (New a) = new_alt (alt_view a)

-- one level, with each value inside already seen as its data
abbrev pub step_of : Step-F PlainChange PlainStep → PlainStep
step_of (Step-F.Fresh k) = fresh_step (node_view k)
step_of (Step-F.Old c) = old_step c

abbrev pub change_of : Change-F PlainChange PlainStep → PlainChange
change_of (Change-F.Keep m) = keep (mark_view m)
change_of (Change-F.Kids m ss s) = kids_change (mark_view m) (steps_from ss.items) (room_of s)
change_of (Change-F.Alts m ss s) = alts_change (mark_view m) (map alt_step_view ss.items) (room_of s)

abbrev pub step_view : Step → PlainStep
step_view = fold-Step PlainChange PlainStep change_of step_of

abbrev pub change_view : Change → PlainChange
change_view = fold-Change PlainChange PlainStep change_of step_of
