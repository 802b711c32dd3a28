use Rattle.std.proofs.Common.{◌∙◌, map, ap}
use Rattle.std.proofs.lemmas.Result.{IfOk-weaker}
use Rattle.version_set.specs.View.{pairs_of}
use Rattle.archive_tree.specs.Data.{PlainAlt}
use Rattle.archive_tree.specs.View.{alt_view}
use Rattle.archive_rekey.proofs.IndexLemmas.{over-sets}
use Rattle.archive_rekey.proofs.index.leaf_tree.Goals as goal

pub returns : goal.returns
returns c =
    let sets = ap (map (λ s. pairs_of s.now)) c.deref.ensures.value ∙ c.in_ok-sets.ensures in
    IfOk-weaker c.tree_over.result _ _ (λ o h. over-sets o (map (λ s. pairs_of s.now) c.deref.result.now) (pairs_of c.all_numbers-all.result) (map (λ (x : PlainAlt). x.stamp) (map alt_view c.args.alts.now)) c.all_numbers-all.ensures sets h) c.tree_over.ensures
