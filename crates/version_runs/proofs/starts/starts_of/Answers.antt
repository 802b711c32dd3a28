use Rattle.std.proofs.Common.{◌≡◌, ◌++◌, [], ◌∷◌, ◌∙◌, eqb}
use Rattle.std.proofs.lemmas.List.Filters.{dedup_is}
use Rattle.archive_tree.specs.ArchiveView.{archive_view}
use Rattle.version_runs.specs.Runs.{row_cuts, upto}
use Rattle.version_runs.proofs.Archives.{sets_within}
use Rattle.version_runs.proofs.StartLemmas.{starts_found}
use Rattle.version_runs.proofs.starts.starts_of.Goals as goal

pub returns : goal.returns
returns c =
    let old = archive_view c.args.old.now in
    let kept = c.archives_stand_for_one_list.ensures.told old c.args.old.now.stands in
    let cuts : c.put_row_cuts.new.cuts.items ≡ upto old.n (1 ∷ []) ++ upto old.n (row_cuts old.kids) =
    c.in_ok-put_row_cuts.ensures ∙ (λ i. c.in_ok-cuts.ensures i ++ upto c.n-last.result (row_cuts (c.kids.ensures.nodes i)))
    ∙ (λ i. upto (c.n-last.ensures i) (1 ∷ []) ++ upto (c.n-last.ensures i) (row_cuts old.kids)) in
    dedup_is eqb _ _ c.dedup.ensures.filtered ∙ starts_found old.n old _ _ (sets_within kept.versions old kept.is) cuts c.sort_unstable.ensures.permutation c.sort_unstable.ensures.sorted
