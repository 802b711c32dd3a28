use Rattle.std.proofs.Common.{◌-◌, ◌*◌, ◌+◌}
use Rattle.file_get.proofs.walk.+walk.Given as goal

abbrev pub decreases-visit : goal.decreases-visit
decreases-visit g l = (121 - l.place.now.depth) * 68719476736 + 8 * l.span.count

abbrev pub decreases-print_row : goal.decreases-print_row
decreases-print_row g l = (121 - l.depth) * 68719476736 + 34359738369

abbrev pub decreases-print_child : goal.decreases-print_child
decreases-print_child g l = (121 - l.place.now.depth) * 68719476736 + 7

abbrev pub decreases-print_node : goal.decreases-print_node
decreases-print_node g l = (121 - l.place.depth) * 68719476736 + 6

abbrev pub decreases-print_element : goal.decreases-print_element
decreases-print_element g l = (121 - l.place.depth) * 68719476736 + 5

abbrev pub decreases-print_inside : goal.decreases-print_inside
decreases-print_inside g l = (121 - l.depth) * 68719476736 + 4
