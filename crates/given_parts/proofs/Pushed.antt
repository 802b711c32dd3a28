-- What is pushed onto well formed parts is well formed.
use Rattle.std.proofs.Common.{IsTrue, List, [], ◌∷◌, ◌++◌, map, refl}
use Rattle.std.proofs.lemmas.Bool.{and_from}
use Rattle.keyed_tree.proofs.Kids.{both}
use Rattle.keyed_tree.specs.Data.{kids_from}
use Rattle.keyed_tree.specs.View.{key_view, keyed_view}
use Rattle.keyed_tree.specs.WellFormed.{is_key_well_formed, are_keys_well_formed, is_keyed_well_formed, are_kids_well_formed, IsKeyWellFormed, IsKeyedWellFormed}
use Rattle.keyed_tree.specs.declared.keyed.Keyed.{Keyed}
use Rattle.keyed_tree.specs.declared.label.KeyVal.{KeyVal}
use Rattle.archive_tree.specs.WellFormed.{are_alts_well_formed, is_node_well_formed, are_nodes_well_formed, IsNodeWellFormed, AreNodesWellFormed}
use Rattle.archive_tree.specs.View.{alt_view, node_view, nodes_view}
use Rattle.archive_tree.specs.declared.node.Alt.{Alt}
use Rattle.archive_tree.specs.declared.node.ANode.{ANode}

pub keys_pushed : (xs : List KeyVal) (x : KeyVal) → IsTrue (are_keys_well_formed (map key_view xs)) → IsKeyWellFormed (key_view x) → IsTrue (are_keys_well_formed (map key_view (xs ++ x ∷ [])))
keys_pushed [] x h g = and_from _ _ g refl
keys_pushed (y ∷ ys) x h g = (let two = both (is_key_well_formed (key_view y)) (are_keys_well_formed (map key_view ys)) h in and_from _ _ two.0 (keys_pushed ys x two.1 g))

pub alts_pushed : (xs : List Alt) (x : Alt) → IsTrue (are_alts_well_formed (map alt_view xs)) → IsKeyWellFormed (alt_view x).body → IsTrue (are_alts_well_formed (map alt_view (xs ++ x ∷ [])))
alts_pushed [] x h g = and_from _ _ g refl
alts_pushed (y ∷ ys) x h g = (let two = both (is_key_well_formed (alt_view y).body) (are_alts_well_formed (map alt_view ys)) h in and_from _ _ two.0 (alts_pushed ys x two.1 g))

pub nodes_pushed : (xs : List ANode) (x : ANode) → AreNodesWellFormed (nodes_view xs) → IsNodeWellFormed (node_view x) → AreNodesWellFormed (nodes_view (xs ++ x ∷ []))
nodes_pushed [] x h g = and_from _ _ g refl
nodes_pushed (y ∷ ys) x h g = (let two = both (is_node_well_formed (node_view y)) (are_nodes_well_formed (nodes_view ys)) h in and_from _ _ two.0 (nodes_pushed ys x two.1 g))

pub kids_pushed : (xs : List Keyed) (x : Keyed) → IsTrue (are_kids_well_formed (kids_from (map keyed_view xs))) → IsKeyedWellFormed (keyed_view x) → IsTrue (are_kids_well_formed (kids_from (map keyed_view (xs ++ x ∷ []))))
kids_pushed [] x h g = and_from _ _ g refl
kids_pushed (y ∷ ys) x h g = (let two = both (is_keyed_well_formed (keyed_view y)) (are_kids_well_formed (kids_from (map keyed_view ys))) h in and_from _ _ two.0 (kids_pushed ys x two.1 g))
