use Rattle.std.proofs.Common.{◌≡◌, ◌<◌, length, map, ap, sym, arith}
use Rattle.std.proofs.lemmas.Grind.{common_steps}
use Rattle.std.specs.Option.{option_map}
use Rattle.keyed_tree.specs.Plain.{plain}
use Rattle.archive_tree.specs.View.{node_view}
use Rattle.archive_rekey.specs.Index.{index_view}
use Rattle.archive_rekey.proofs.IndexLemmas.{all-places, beside-at, first-place, node-at, none-of, place-there, root-document, root-none, within-nodes}
use Rattle.archive_rekey.proofs.lend.lend_root.Goals as goal

pub returns-then-is_empty : goal.returns-then-is_empty
returns-then-is_empty c =
    let ks = map node_view c.args.nodes.now in
    let is = c.in_ok-places.places.items in
    let none : length is ≡ 0 = grind (arith, common_steps) in
    sym (ap (option_map plain) (root-none c.args.number ks is c.in_ok-places.ensures (none-of is none)))

pub bounds-nodes-place : goal.bounds-nodes-place
bounds-nodes-place c =
    let ks = map node_view c.args.nodes.now in
    let is = c.in_ok-places.places.items in
    let some : 0 < length is = grind (arith, common_steps) in
    let here = first-place c.args.number ks is c.index.result.now some c.index.ensures (all-places c.args.number ks is c.in_ok-places.ensures) in
    within-nodes c.args.number c.args.nodes.now c.index.result.now here

pub lend_node-requires-clause-there : goal.lend_node-requires-clause-there
lend_node-requires-clause-there c =
    let n = c.args.number in
    let ks = map node_view c.args.nodes.now in
    let is = c.in_ok-places.places.items in
    let node = c.index-nodes-place.result in
    let some : 0 < length is = grind (arith, common_steps) in
    let here = first-place n ks is c.index.result.now some c.index.ensures (all-places n ks is c.in_ok-places.ensures) in
    place-there n ks c.index.result.now (node_view node) (node-at n c.args.nodes.now c.index.result.now node c.index-nodes-place.is here) here

pub lend_node-requires-clause-index : goal.lend_node-requires-clause-index
lend_node-requires-clause-index c =
    let n = c.args.number in
    let ks = map node_view c.args.nodes.now in
    let is = c.in_ok-places.places.items in
    let node = c.index-nodes-place.result in
    let some : 0 < length is = grind (arith, common_steps) in
    let here = first-place n ks is c.index.result.now some c.index.ensures (all-places n ks is c.in_ok-places.ensures) in
    beside-at _ (node_view node) (option_map (λ x. index_view x.now) c.beside.result) (node-at n c.args.nodes.now c.index.result.now node c.index-nodes-place.is here) (c.beside.ensures ks c.requires.index)

pub returns : goal.returns
returns c =
    let n = c.args.number in
    let ks = map node_view c.args.nodes.now in
    let is = c.in_ok-places.places.items in
    let node = c.index-nodes-place.result in
    let some : 0 < length is = grind (arith, common_steps) in
    let here = first-place n ks is c.index.result.now some c.index.ensures (all-places n ks is c.in_ok-places.ensures) in
    root-document n ks is c.index.result.now (node_view node) _ c.in_ok-places.ensures some c.index.ensures (node-at n c.args.nodes.now c.index.result.now node c.index-nodes-place.is here) c.in_ok-document.ensures
