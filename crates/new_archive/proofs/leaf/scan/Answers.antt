use Rattle.std.proofs.Common.{◌≡◌, Some, None, map, arith}
use Rattle.std.proofs.lemmas.Grind.{common_steps}
use Rattle.keyed_tree.specs.LentView.{lent_val_view}
use Rattle.new_archive.specs.AltView.{alt_view}
use Rattle.new_archive.specs.Place.{place_from}
use Rattle.new_archive.proofs.AltRows.{alt_found}
use Rattle.new_archive.proofs.leaf.scan.Goals as goal

pub returns-then-is_same : goal.returns-then-is_same
returns-then-is_same c =
    let b = lent_val_view c.args.body in
    let xs = map alt_view c.args.alts.now in
    let found : Some c.loop-alt.at ≡ place_from b 0 xs = grind (arith, common_steps) in
    alt_found b xs (Some c.loop-alt.at) found

pub returns : goal.returns
returns c =
    let b = lent_val_view c.args.body in
    let xs = map alt_view c.args.alts.now in
    let none : None ≡ place_from b 0 xs = grind (arith, common_steps) in
    alt_found b xs None none
