use Rattle.std.proofs.Common.{◌≡◌, ℕ, List, Some, sym, ap, ◌∙◌, slice_get}
use Rattle.std.specs.Option.{option_copied}
use Rattle.version_set.specs.View.{pairs_of}
use Rattle.archive_tree.proofs.Tells.{head-members}
use Rattle.archive_cut.proofs.alternatives.first_of.Goals as goal

pub returns-in-Some : goal.returns-in-Some
returns-in-Some c =
    let s = c.args.set.now in
    let p = c.in-Some.pair.now in
    let at : slice_get (pairs_of s) 0 ≡ Some p = ap (λ (ps : List (ℕ × ℕ)). slice_get ps 0) (sym c.pairs.ensures) ∙ sym c.first.ensures.value ∙ ap option_copied c.in-Some.is in
    sym (head-members p (pairs_of s) p s.canonical at)
