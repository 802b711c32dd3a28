use Rattle.std.proofs.Common.{◌∙◌, ap}
use Rattle.std.proofs.lemmas.List.{get_or_default}
use Rattle.archive_rekey.proofs.IndexLemmas.{below-get}
use Rattle.archive_rekey.proofs.index.found_below.Goals as goal

pub returns-then-below-at : goal.returns-then-below-at
returns-then-below-at c = λ ks h. (
    let xs = c.args.below.now in
    let at = c.partition_point-at.result in
    let d = c.index-below-at-then-below-at.result in
    let same = get_or_default xs at d c.index-below-at.result c.if-at-below.true in
    below-get xs at c.args.place d ks c.if-at-below.true (ap (λ z. z.0) same ∙ c.if-below-at.true) h)
