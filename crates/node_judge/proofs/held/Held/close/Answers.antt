use Rattle.std.proofs.Common.{◌≡◌, ◌∙◌, ◌&&◌, ap, map, sym}
use Rattle.archive_tree.specs.Parts.{alt_sets}
use Rattle.archive_tree.specs.PartsTest.{are_parts, do_differ}
use Rattle.archive_tree.specs.Stands.{bodies}
use Rattle.node_judge.specs.HeldView.{held_numbers, held_view}
use Rattle.node_judge.specs.Holding.{stored_pairs}
use Rattle.node_judge.proofs.HoldingLaws.{close-stored, close-whole, sets-are, sets-canonical, sets-flat}
use Rattle.node_judge.proofs.held.Held.close.Goals as goal

pub returns-then-self : goal.returns-then-self
returns-then-self c xs holds = close-whole (held_numbers c.args.self) xs (held_view c.args.self) holds c.if-self.true

pub returns-then-divide : goal.returns-then-divide
returns-then-divide c xs holds =
    let h = c.args.self in
    let ns = held_numbers h in
    let stored = holds.stored c.if-self.false in
    let parts : c.divide.result ≡ are_parts ns (alt_sets ns xs) =
    c.divide.ensures (map stored_pairs xs) (sets-canonical ns xs stored.sets holds.stamps) (stored.pairs ∙ sets-flat xs) ∙ ap (are_parts ns) (sets-are ns xs stored.sets) in
    let differ : c.do_differ.result ≡ do_differ (bodies xs) = c.do_differ.ensures (bodies xs) stored.values stored.spelled in
    sym (ap (λ b. b && c.do_differ.result) c.if-divide.true) ∙ close-stored ns xs (held_view h) holds c.divide.result c.do_differ.result parts differ

pub returns-else-divide : goal.returns-else-divide
returns-else-divide c xs holds =
    let h = c.args.self in
    let ns = held_numbers h in
    let stored = holds.stored c.if-self.false in
    let parts : c.divide.result ≡ are_parts ns (alt_sets ns xs) =
    c.divide.ensures (map stored_pairs xs) (sets-canonical ns xs stored.sets holds.stamps) (stored.pairs ∙ sets-flat xs) ∙ ap (are_parts ns) (sets-are ns xs stored.sets) in
    c.if-divide.false ∙ sym (ap (λ b. b && do_differ (bodies xs)) c.if-divide.false) ∙ close-stored ns xs (held_view h) holds c.divide.result (do_differ (bodies xs)) parts (λ i. do_differ (bodies xs))
