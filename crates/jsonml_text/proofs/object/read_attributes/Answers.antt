use Rattle.std.proofs.Common.{◌≡◌, map, subst, sym, ap, ◌∙◌, rules}
use Rattle.jsonml_tree.specs.LentAttrs.{lent_attr_view}
use Rattle.jsonml_text.specs.Objects.{ReadsObject}
use Rattle.jsonml_text.proofs.object.read_attributes.Goals as goal

pub returns : goal.returns
returns c =
    let end = c.in_ok-end in
    let attrs = c.in_ok-attrs in
    let fit : c.shrink_to_fit.new.self.items ≡ attrs.attrs.items = search rules in
    subst (λ xs. ReadsObject c.args.text.now c.args.at xs end.end) (sym (ap (map lent_attr_view) fit ∙ attrs.ensures)) end.ensures
