use Rattle.std.proofs.Common.{ℕ, ◌∙◌, rules}
use Rattle.std.specs.List.Sorted.{IsNonDecreasingBy}
use Rattle.std.proofs.lemmas.List.Sorted.{IsNonDecreasingBy-from_sort, answers_always}
use Rattle.version_set.specs.View.{pairs_of}
use Rattle.archive_tree.specs.PartsTest.{do_tile}
use Rattle.node_judge.proofs.Dividing.{tiles-divide}
use Rattle.node_judge.proofs.tiles.divide.Goals as goal

pub returns : goal.returns
returns c ss canonical all =
    let up : IsNonDecreasingBy (λ (p : ℕ × ℕ). p.0) c.sort_unstable_by_key.new.self.items = IsNonDecreasingBy-from_sort (λ (p : ℕ × ℕ). p.0) _ (c.sort_unstable_by_key.ensures.sorted (λ (p : ℕ × ℕ). p.0) (answers_always _ _ _ (λ f a r g h. search rules))) in
    c.do_tile.ensures ∙ (λ i. do_tile 0 (c.pairs.ensures i) (c.deref.ensures.value i))
    ∙ tiles-divide (pairs_of c.args.set.now) ss _ _ c.args.set.now.canonical canonical all c.sort_unstable_by_key.ensures.permutation up
