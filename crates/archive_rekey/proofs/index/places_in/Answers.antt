use Rattle.std.proofs.Common.{◌∙◌, arith}
use Rattle.std.proofs.lemmas.Result.{IfOk-weaker}
use Rattle.timestamp_tree.specs.View.{ts_view}
use Rattle.archive_rekey.proofs.IndexLemmas.{over-places}
use Rattle.archive_rekey.proofs.index.places_in.Goals as goal

pub returns : goal.returns
returns c = IfOk-weaker c.answers_of.result _ _ (λ v e ss o.
    let range = c.ranges.number in
    e ∙ over-places (ts_view c.args.sets.now) c.args.number ss o c.requires.first (omega (arith, range))) c.answers_of.ensures
