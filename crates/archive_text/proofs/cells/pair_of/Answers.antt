use Rattle.std.proofs.Common.{ap, ◌∙◌, decimal, lit<}
use Rattle.std.proofs.lemmas.Str.Pattern.{split_parts}
use Rattle.archive_text.proofs.ReadSets.{pair_cut, pair_whole}
use Rattle.archive_text.proofs.cells.pair_of.Goals as goal

pub returns-in-Some : goal.returns-in-Some
returns-in-Some c = λ p from to e. (
    let parts = split_parts 45 c.args.text.now c.split_once.result c.split_once.ensures.cases (lit< tt) in
    let part = rw c.in-Some.is at parts in
    let two = pair_cut p _ _ _ (record { from = from; to = to }) e part.0 part.1 in
    c.both_of.ensures p.0 p.1 from to two.0 two.1)

pub returns-in-None : goal.returns-in-None
returns-in-None c = λ p from to e. (
    let parts = split_parts 45 c.args.text.now c.split_once.result c.split_once.ensures.cases (lit< tt) in
    let whole = pair_whole p _ (record { from = from; to = to }) e (rw c.in-None.is at parts) in
    c.both_of-in-None.ensures p.0 p.1 from to whole.0 (whole.0 ∙ ap decimal whole.1))
