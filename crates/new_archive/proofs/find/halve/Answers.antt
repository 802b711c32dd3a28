use Rattle.std.proofs.Common.{rules}
use Rattle.std.proofs.lemmas.Fn.{always_returns_same}
use Rattle.keyed_tree.specs.Data.{label_of}
use Rattle.keyed_tree.specs.Order.{label_cmp}
use Rattle.keyed_parts.specs.View.{kid_view}
use Rattle.new_archive.specs.Full.{full_label}
use Rattle.new_archive.specs.View.{full_view}
use Rattle.new_archive.proofs.Places.{search_place}
use Rattle.new_archive.proofs.find.halve.Goals as goal

pub returns : goal.returns
returns c =
    let facts = c.binary_search_by.ensures in
    let l = label_of (kid_view c.args.kid) in
    let by_label = facts.position (λ k. label_cmp (full_label (full_view k)) l) (always_returns_same _ _ _ (λ a r g called. search rules)) in
    search_place (λ k. full_view k) l c.args.row.now c.binary_search_by.result c.requires facts.bound by_label
