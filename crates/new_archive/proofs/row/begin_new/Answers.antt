use Rattle.std.proofs.Common.{◌∙◌, [], ◌∷◌, ◌++◌, ℕ, ap}
use Rattle.std.proofs.lemmas.List.{map-append}
use Rattle.new_archive.specs.View.{fresh_view, full_view}
use Rattle.new_archive.specs.declared.node.NewNode.{NewNode}
use Rattle.new_archive.proofs.row.begin_new.Goals as goal

pub returns : goal.returns
returns c =
    let old = c.args.fresh.now.items in
    ap fresh_view c.in_ok-push.ensures.items ∙ map-append (λ (f : ℕ × NewNode). (f.0, full_view f.1)) old (_ ∷ []) ∙ (λ i. fresh_view old ++ (c.args.at, c.in_ok-node.ensures i) ∷ [])
