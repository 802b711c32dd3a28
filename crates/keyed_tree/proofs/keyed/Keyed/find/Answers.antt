use Rattle.std.proofs.Common.{◌≡◌, rules}
use Rattle.std.specs.Option.{option_map}
use Rattle.keyed_tree.specs.Data.{kids_of}
use Rattle.keyed_tree.specs.Kids.{IsOrdered, kid_at}
use Rattle.keyed_tree.specs.View.{label_view, keyed_view}
use Rattle.keyed_tree.proofs.Views.{views}
use Rattle.keyed_tree.proofs.KidsKeep.{kid_ordered, found_keeps, found_kid, found_label, found_none}
use Rattle.keyed_tree.proofs.keyed.Keyed.find.Goals as goal

found : (c : goal.After-find_kid) → option_map (λ k. keyed_view k.now) c.find_kid.result ≡ kid_at (label_view c.args.label.now) (kids_of (keyed_view c.args.self.now))
found c = search (rules, views)

pub returns-in-Inner-clause-label : goal.returns-in-Inner-clause-label
returns-in-Inner-clause-label c = found_label (λ k. keyed_view k.now) (label_view c.args.label.now) (keyed_view c.args.self.now) c.find_kid.result (found c)

pub returns-in-Inner-clause-kid : goal.returns-in-Inner-clause-kid
returns-in-Inner-clause-kid c = found_kid (λ k. keyed_view k.now) (label_view c.args.label.now) (keyed_view c.args.self.now) c.find_kid.result (found c)

pub returns-in-Inner-clause-none : goal.returns-in-Inner-clause-none
returns-in-Inner-clause-none c = found_none (λ k. keyed_view k.now) (label_view c.args.label.now) (keyed_view c.args.self.now) c.find_kid.result (found c)

pub returns-in-Inner-clause-ordered : goal.returns-in-Inner-clause-ordered
returns-in-Inner-clause-ordered c = λ h. found_keeps (λ k. keyed_view k.now) IsOrdered (label_view c.args.label.now) (keyed_view c.args.self.now) c.find_kid.result (λ k m. kid_ordered (keyed_view c.args.self.now) k h m) (found c)
