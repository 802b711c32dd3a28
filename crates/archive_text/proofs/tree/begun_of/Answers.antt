use Rattle.std.proofs.Common.{◌∙◌, ap, map, slice_get, length, arith}
use Rattle.std.proofs.lemmas.List.{length-map}
use Rattle.keyed_tree.specs.View.{key_view}
use Rattle.archive_text.proofs.Found.{hands_on}
use Rattle.archive_text.proofs.OneNode.{label_is}
use Rattle.archive_text.proofs.ReadTree.{first_two, well_behind}
use Rattle.archive_text.proofs.tree.begun_of.Goals as goal

pub returns-then-len-lt2-clause-found : goal.returns-then-len-lt2-clause-found
returns-then-len-lt2-clause-found c = λ l s named stamp e. absurd (omega (arith, ap length e, length-map c.args.cells.items key_view, c.len.ensures, c.if-len-lt2.true))

pub returns-in_err-stamp-clause-found : goal.returns-in_err-stamp-clause-found
returns-in_err-stamp-clause-found c = λ l s named stamp e. (
    let two = first_two _ _ _ _ e in
    let front = c.deref-2.ensures.value ∙ c.in_ok-keys.ensures.items in
    hands_on _ _ c.from_residual-in_err-stamp.result c.in_err-stamp.field-0.0 c.from_residual-in_err-stamp.ensures.1
    (c.in_err-stamp.ensures s stamp (c.text_at-2.ensures _ (ap (λ ks. slice_get (map key_view ks) 0) front ∙ two.0))))

pub returns-clause-found : goal.returns-clause-found
returns-clause-found c = λ l s named stamp e. (
    let two = first_two _ _ _ _ e in
    let front = c.deref.ensures.value ∙ c.in_ok-keys.ensures.items in
    let front-2 = c.deref-2.ensures.value ∙ c.in_ok-keys.ensures.items in (
      label_is _ l (c.in_ok-name.ensures l.name named (c.text_at.ensures _ (ap (λ ks. slice_get (map key_view ks) 1) front ∙ two.1))) (ap (map key_view) c.in_ok-keys.ensures.tail ∙ two.2),
      c.in_ok-stamp.ensures s stamp (c.text_at-2.ensures _ (ap (λ ks. slice_get (map key_view ks) 0) front-2 ∙ two.0)),
    ))

pub returns-clause-well_formed : goal.returns-clause-well_formed
returns-clause-well_formed c = rw c.in_ok-keys.ensures.tail (well_behind c.args.cells.items (omega (arith, c.len.ensures, c.if-len-lt2.false)) c.requires)
