use Rattle.std.proofs.Common.{◌≡◌, List, [], ◌∷◌, ◌++◌, map, ap, ◌∙◌, rules}
use Rattle.std.proofs.lemmas.List.{map-append}
use Rattle.jsonml_tree.specs.LentAttrs.{lent_attr_view}
use Rattle.jsonml_tree.specs.declared.lent_attr.LentAttr.{LentAttr}
use Rattle.jsonml_text.specs.Straight.{placed}
use Rattle.jsonml_text.proofs.Placed.{placed-append}
use Rattle.jsonml_text.proofs.object.put_member.Goals as goal

pub returns : goal.returns
returns c =
    let a = c.in_ok-attr.attr in
    let old = c.args.attrs.now.items in
    let more : c.push.new.self.items ≡ old ++ a ∷ [] = search rules in
    record {
      attr = lent_attr_view a;
      reads = c.in_ok-attr.ensures;
      placed = ap (λ (l : List LentAttr). placed (map lent_attr_view l)) more ∙ ap placed (map-append lent_attr_view old (a ∷ [])) ∙ placed-append (map lent_attr_view old) (lent_attr_view a);
    }
