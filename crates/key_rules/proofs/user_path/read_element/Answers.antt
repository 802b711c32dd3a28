use Rattle.std.proofs.Common.{map}
use Rattle.keyed_tree.specs.View.{key_view}
use Rattle.key_rules.proofs.UserPathLemmas.{keys-well}
use Rattle.key_rules.proofs.user_path.read_element.Goals as goal

pub returns-clause-well_formed : goal.returns-clause-well_formed
returns-clause-well_formed c = keys-well (map key_view c.in-Some-2.keys.items) (rw c.in-Some-2.is at c.in_ok-keys.ensures.well_formed)
