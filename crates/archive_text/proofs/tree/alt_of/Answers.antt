use Rattle.std.proofs.Common.{◌∙◌, ap, map, slice_get, length, arith}
use Rattle.std.proofs.lemmas.List.{length-map}
use Rattle.keyed_tree.specs.View.{key_view}
use Rattle.archive_text.proofs.Found.{hands_on}
use Rattle.archive_text.proofs.OneNode.{alt_is}
use Rattle.archive_text.proofs.ReadTree.{last_is, last_well}
use Rattle.archive_text.proofs.tree.alt_of.Goals as goal

pub returns-in_err-stamp-clause-found : goal.returns-in_err-stamp-clause-found
returns-in_err-stamp-clause-found c = λ x shaped e.
    hands_on _ _ c.from_residual.result c.in_err-stamp.field-0.0 c.from_residual.ensures.1
    (c.in_err-stamp.ensures x.stamp shaped.0 (c.text_at.ensures _ (ap (λ ks. slice_get (map key_view ks) 0) c.deref.ensures.value ∙ ap (λ ks. slice_get ks 0) e)))

pub returns-in-Some-clause-found : goal.returns-in-Some-clause-found
returns-in-Some-clause-found c = λ x shaped e.
    alt_is _ x (c.in_ok-stamp.ensures x.stamp shaped.0 (c.text_at.ensures _ (ap (λ ks. slice_get (map key_view ks) 0) c.deref.ensures.value ∙ ap (λ ks. slice_get ks 0) e)))
    (last_is _ _ _ _ _ (rw c.in-Some.is at c.pop.ensures.items) e)

pub returns-in-Some-clause-well_formed : goal.returns-in-Some-clause-well_formed
returns-in-Some-clause-well_formed c = last_well _ _ _ (rw c.in-Some.is at c.pop.ensures.items) c.requires

pub returns-clause-found : goal.returns-clause-found
returns-clause-found c = λ x shaped e.
    absurd (omega (arith, ap length e, length-map c.args.cells.items key_view, (rw c.in-None.is at c.pop.ensures.cases).0))
