use Rattle.std.proofs.Common.{◌+◌, ◌-◌, ◌*◌, length}
use Rattle.jsonml_text.proofs.Pushing.{HasPushed}
use Rattle.jsonml_text.proofs.straight.+straight.Given as goal

abbrev pub decreases-read_element : goal.decreases-read_element
decreases-read_element l = 4 * l.levels

abbrev pub decreases-read_tree : goal.decreases-read_tree
decreases-read_tree l = 4 * l.levels + 1

abbrev pub decreases-read_row : goal.decreases-read_row
decreases-read_row l = 4 * l.levels + 3

abbrev pub decreases-read_items : goal.decreases-read_items
decreases-read_items l = 4 * l.levels + 2

-- what is left of the element decides
abbrev pub invariant-read_items-items : goal.invariant-read_items-items
invariant-read_items-items l = HasPushed l.levels l.text l.fn.at l.fn.room.trees.items l.room.trees.items l.end

abbrev pub decreases-read_items-items : goal.decreases-read_items-items
decreases-read_items-items l = length l.text - l.end
