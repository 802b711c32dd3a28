use Rattle.std.proofs.Common.{◌≡◌, ◌∙◌, true, false, is_some, map, take, drop, length, ◌-◌, arith}
use Rattle.std.proofs.lemmas.Grind.{common_steps}
use Rattle.std.specs.Ordering.{is_eq}
use Rattle.keyed_tree.specs.Data.{label_of}
use Rattle.keyed_tree.specs.Order.{label_cmp}
use Rattle.keyed_tree.specs.Paths.{node_at}
use Rattle.keyed_tree.specs.View.{label_view, keyed_view}
use Rattle.keyed_tree.proofs.KidsKeep.{holds_path, is_some-seen}
use Rattle.keyed_tree.proofs.keyed.Keyed.holds.Goals as goal

pub returns-then-is_eq : goal.returns-then-is_eq
returns-then-is_eq c =
    let k = keyed_view c.args.self.now in
    let labelled : is_eq (label_cmp (label_of k) (label_view c.first-item.result)) ≡ true = cc in
    let whole : take (length c.args.path.now - 1) (drop 1 c.args.path.now) ≡ drop 1 c.args.path.now = grind (arith, common_steps) in
    let leads : c.is_some.result ≡ is_some (node_at (map label_view (drop 1 c.args.path.now)) k) = rw (← whole) (c.is_some.ensures ∙ is_some-seen (λ x. keyed_view x.now) c.at.result _ c.at.ensures) in
    let law = holds_path label_view c.args.path.now c.first-item.result k (omega arith) c.first-item.is c.requires in
    let here = (rw labelled at law) in
    rw leads here

pub returns-else-is_eq : goal.returns-else-is_eq
returns-else-is_eq c =
    let k = keyed_view c.args.self.now in
    let other : is_eq (label_cmp (label_of k) (label_view c.first-item.result)) ≡ false = cc in
    let law = holds_path label_view c.args.path.now c.first-item.result k (omega arith) c.first-item.is c.requires in
    let here = (rw other at law) in
    rw c.if-is_eq.false here
