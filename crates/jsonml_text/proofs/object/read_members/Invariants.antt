use Rattle.std.proofs.Common.{◌-◌, length, map}
use Rattle.jsonml_tree.specs.LentAttrs.{lent_attr_view}
use Rattle.jsonml_text.specs.Straight.{placed}
use Rattle.jsonml_text.proofs.Members.{HasPut}
use Rattle.jsonml_text.proofs.object.read_members.Given as goal

abbrev pub invariant-members : goal.invariant-members
invariant-members l = HasPut l.text l.fn.at (placed (map lent_attr_view l.attrs.items)) l.end

abbrev pub decreases-members : goal.decreases-members
decreases-members l = length l.text - l.end
