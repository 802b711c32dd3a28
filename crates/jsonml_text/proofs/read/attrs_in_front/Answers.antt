use Rattle.std.proofs.Common.{◌≡◌, ◌∷◌, List, Some, map, rules, ap, ◌∙◌, Vec, Global, Bor}
use Rattle.serde_json.specs.Find.{as_object}
use Rattle.serde_json.specs.View.{view as data_of, items_view, members_view}
use Rattle.serde_json.specs.declared.value.Value.{Value}
use Rattle.jsonml_tree.specs.View.{attr_view}
use Rattle.jsonml_tree.specs.declared.scalar.Attr.{Attr}
use Rattle.jsonml_text.specs.Front.{front_at}
use Rattle.jsonml_text.specs.Spelled.{mapped}
use Rattle.jsonml_text.proofs.Contents.{front_object}
use Rattle.jsonml_text.proofs.Spelling.{Reads-handed}
use Rattle.jsonml_text.proofs.read.attrs_in_front.Goals as goal

pub returns-in_err-read_attrs-in-Some-as_object-clause-front : goal.returns-in_err-read_attrs-in-Some-as_object-clause-front
returns-in_err-read_attrs-in-Some-as_object-clause-front c =
    let first = data_of c.in-Some.first.now in
    let behind = items_view c.in-Some.rest.now in
    let members = members_view c.in-Some-as_object.members.now.entries in
    let whole : c.args.values.now ≡ c.in-Some.first.now ∷ c.in-Some.rest.now = search rules in
    let object : as_object first ≡ Some members = search rules in
    λ place. Reads-handed (λ (v : Vec Attr Global). map attr_view v.items) (λ (r : Vec Attr Global × Bor (List Value)). (map attr_view r.0.items, items_view r.1.now)) _ _ place place place
    c.in_err-read_attrs-in-Some-as_object.field-0.0 _
    (λ fault e. ap (λ vs. front_at place (items_view vs)) whole ∙ front_object place first behind members object ∙ ap (mapped (λ xs. (xs, behind))) e)
    (c.in_err-read_attrs-in-Some-as_object.ensures.attrs place) c.from_residual.ensures.1
