use Rattle.std.proofs.Common.{map}
use Rattle.std.proofs.lemmas.Result.{IfOk-weaker}
use Rattle.archive_tree.specs.Data.{node_stamp}
use Rattle.archive_tree.specs.View.{node_view}
use Rattle.archive_rekey.proofs.index.row_places.Goals as goal

pub returns-in-Some : goal.returns-in-Some
returns-in-Some c =
    let ks = map node_view c.args.nodes.now in
    IfOk-weaker c.places_in.result _ _ (λ v h. h (map node_stamp ks) (c.in-Some.ensures (map node_stamp ks) ks c.requires.index)) c.places_in.ensures
