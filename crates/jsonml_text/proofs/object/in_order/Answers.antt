use Rattle.std.proofs.Common.{◌≡◌, true, map, sym, ap, ◌∙◌}
use Rattle.std.proofs.lemmas.List.Sorted.{IsPermutation-map, IsPermutation-refl}
use Rattle.jsonml_tree.specs.LentAttrs.{lent_attr_view}
use Rattle.jsonml_tree.specs.WellFormed.{is_ascending}
use Rattle.jsonml_text.proofs.Placed.{placed-sorted}
use Rattle.jsonml_text.proofs.object.in_order.Goals as goal

pub returns-then-do_names_ascend : goal.returns-then-do_names_ascend
returns-then-do_names_ascend c =
    let xs = c.args.attrs.items in
    let up : is_ascending (map lent_attr_view xs) ≡ true = sym (ap (λ l. is_ascending (map lent_attr_view l)) c.deref.ensures.value) ∙ sym c.do_names_ascend.ensures ∙ c.if-do_names_ascend.true in
    sym (placed-sorted (map lent_attr_view xs) (map lent_attr_view xs) (IsPermutation-refl (map lent_attr_view xs)) up)

pub returns : goal.returns
returns c =
    let xs = c.args.attrs.items in
    let ys = c.sort_unstable_by.new.self.items in
    let up : is_ascending (map lent_attr_view ys) ≡ true = sym (ap (λ l. is_ascending (map lent_attr_view l)) c.deref-2.ensures.value) ∙ sym c.do_names_ascend-2.ensures ∙ c.if-not-do_names_ascend.false in
    sym (placed-sorted (map lent_attr_view xs) (map lent_attr_view ys) (IsPermutation-map lent_attr_view xs ys c.sort_unstable_by.ensures.permutation) up)
