use Rattle.std.proofs.Common.{ℕ, Bor, ◌∙◌, rules}
use Rattle.std.specs.List.Sorted.{IsNonDecreasingBy}
use Rattle.std.proofs.lemmas.List.Sorted.{IsNonDecreasingBy-from_sort, answers_always}
use Rattle.version_set.specs.View.{pairs_of}
use Rattle.version_set.specs.declared.set.VersionSet.{VersionSet}
use Rattle.archive_tree.specs.PartsTest.{do_tile}
use Rattle.archive_tree.proofs.Tiles.{tiles_tell}
use Rattle.archive_tree.proofs.check.are_parts.Goals as goal

pub returns : goal.returns
returns c =
    let up : IsNonDecreasingBy (λ (p : ℕ × ℕ). p.0) c.sort_unstable_by_key.new.self.items = IsNonDecreasingBy-from_sort (λ (p : ℕ × ℕ). p.0) _ (c.sort_unstable_by_key.ensures.sorted (λ (p : ℕ × ℕ). p.0) (answers_always _ _ _ (λ f a r g h. search rules))) in
    c.do_tile.ensures ∙ (λ i. do_tile 0 (c.pairs.ensures i) (c.deref.ensures.value i))
    ∙ tiles_tell (λ (s : Bor VersionSet). pairs_of s.now) (λ s. s.now.canonical) (pairs_of c.args.set.now) c.args.parts.now _ _ c.args.set.now.canonical c.in_ok-pairs.ensures c.sort_unstable_by_key.ensures.permutation up
