use Rattle.std.proofs.Common.{◌∙◌, map, ap}
use Rattle.std.proofs.lemmas.Result.{IfOk-weaker}
use Rattle.version_set.specs.View.{pairs_of}
use Rattle.archive_tree.specs.Data.{node_stamp}
use Rattle.archive_tree.specs.View.{node_view}
use Rattle.archive_rekey.proofs.IndexLemmas.{over-sets}
use Rattle.archive_rekey.proofs.index.row_tree.Goals as goal

pub returns : goal.returns
returns c =
    let sets = ap (map (λ s. pairs_of s.now)) c.deref.ensures.value ∙ c.in_ok-sets.ensures in
    IfOk-weaker c.tree_over.result _ _ (λ o h. over-sets o (map (λ s. pairs_of s.now) c.deref.result.now) (pairs_of c.all_numbers-all.result) (map node_stamp (map node_view c.args.nodes.now)) c.all_numbers-all.ensures sets h) c.tree_over.ensures
