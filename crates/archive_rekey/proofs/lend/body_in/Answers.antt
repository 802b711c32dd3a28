use Rattle.std.proofs.Common.{◌∙◌, [], map, ap}
use Rattle.archive_tree.specs.Data.{PlainAlt}
use Rattle.archive_tree.specs.View.{alt_view}
use Rattle.archive_rekey.specs.Index.{body_of}
use Rattle.archive_rekey.proofs.IndexLemmas.{body-first}
use Rattle.archive_rekey.proofs.lend.body_in.Goals as goal

pub returns-in_ok-places-in-Some : goal.returns-in_ok-places-in-Some
returns-in_ok-places-in-Some c =
    let xs = map alt_view c.args.alts.now in
    let ss = map (λ (x : PlainAlt). x.stamp) xs in
    let found = c.in_ok-places-in-Some.ensures ss (c.in-Some.ensures ss [] c.requires.index) in
    c.picked_body.ensures ∙ ap (body_of xs) c.deref.ensures.value ∙ body-first c.args.number xs c.in_ok-places-in-Some.places.items found
