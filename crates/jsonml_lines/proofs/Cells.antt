-- The cells of values, one after another.
use Rattle.std.proofs.Common.{◌≡◌, ◌&&◌, true, IsTrue, List, [], ◌∷◌, ◌++◌, map, Option, Some, None, option_map, option_and_then, refl, sym, ap, ap₂, ◌∙◌, append_assoc}
use Rattle.std.proofs.lemmas.Bool.{and_parts}
use Rattle.std.proofs.lemmas.List.{map-append}
use Rattle.serde_json.specs.View.{view as data_of, items_view}
use Rattle.serde_json.specs.declared.value.Value.{Value}
use Rattle.keyed_tree.specs.Data.{PlainKey}
use Rattle.keyed_tree.specs.View.{key_view}
use Rattle.keyed_tree.specs.declared.label.KeyVal.{KeyVal}
use Rattle.keyed_tree.specs.WellFormed.{is_key_well_formed, are_keys_well_formed}
use Rattle.jsonml_lines.specs.Read.{cell_in, cells_in}

moved : (done : List PlainKey) (k : PlainKey) (o : Option (List PlainKey)) → option_map (λ ks. (done ++ k ∷ []) ++ ks) o ≡ option_map (λ ks. done ++ ks) (option_map (λ ks. k ∷ ks) o)
moved done k None = refl
moved done k (Some ks) = ap Some (append_assoc done (k ∷ []) ks)

pub cells_step : (us vs : List KeyVal) (u : KeyVal) (rest next : List Value) (v : Value) (whole : Option (List PlainKey)) → rest ≡ v ∷ next → vs ≡ us ++ u ∷ [] → Some (key_view u) ≡ cell_in (data_of v)
    → option_map (λ ks. map key_view us ++ ks) (cells_in (items_view rest)) ≡ whole → option_map (λ ks. map key_view vs ++ ks) (cells_in (items_view next)) ≡ whole
cells_step us vs u rest next v whole is pushed cell before =
    ap (λ (l : List PlainKey). option_map (λ ks. l ++ ks) (cells_in (items_view next))) (ap (map key_view) pushed ∙ map-append key_view us (u ∷ []))
    ∙ moved (map key_view us) (key_view u) (cells_in (items_view next))
    ∙ ap (λ o. option_map (λ ks. map key_view us ++ ks) (option_and_then (λ k. option_map (λ ks. k ∷ ks) (cells_in (items_view next))) o)) cell
    ∙ ap (λ l. option_map (λ ks. map key_view us ++ ks) (cells_in (items_view l))) (sym is)
    ∙ before

well_push : (ks : List PlainKey) (k : PlainKey) → IsTrue (are_keys_well_formed ks) → IsTrue (is_key_well_formed k) → IsTrue (are_keys_well_formed (ks ++ k ∷ []))
well_push [] k e h = ap (λ b. b && true) h
well_push (j ∷ js) k e h = let both = and_parts (is_key_well_formed j) (are_keys_well_formed js) e in ap₂ (λ a b. a && b) both.0 (well_push js k both.1 h)

pub well_step : (us vs : List KeyVal) (u : KeyVal) → vs ≡ us ++ u ∷ [] → IsTrue (are_keys_well_formed (map key_view us)) → IsTrue (is_key_well_formed (key_view u)) → IsTrue (are_keys_well_formed (map key_view vs))
well_step us vs u pushed e h = ap are_keys_well_formed (ap (map key_view) pushed ∙ map-append key_view us (u ∷ [])) ∙ well_push (map key_view us) (key_view u) e h
