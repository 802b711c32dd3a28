use Rattle.std.proofs.Common.{◌≡◌, ◌<◌, ◌∷◌, [], List, length, get_or, rules, subst, ap, ◌∙◌}
use Rattle.xa_outside.specs.Taken.{Takes}
use Rattle.xa_outside.specs.Taken.{TakesPrefix}
use Rattle.jsonml_tree.specs.LentAttrs.{lent_attr_view}
use Rattle.jsonml_tree.specs.declared.lent_attr.LentAttr.{LentAttr}
use Rattle.jsonml_print.specs.Calls.{Call, attribute, printed, reached}
use Rattle.jsonml_print.proofs.Walks.{walk_stop, walk_bytes, walk_pen, walk_rest}
use Rattle.xa_outside.proofs.Output.{Takes-nil}
use Rattle.jsonml_print.proofs.print.print_lent_attrs.Goals as goal

abbrev calls : LentAttr → List Call
calls x = attribute (lent_attr_view x) ∷ []

pub returns-in_err-lent_attr-clause-prints : goal.returns-in_err-lent_attr-clause-prints
returns-in_err-lent_attr-clause-prints g c =
    let a = g.K.Sink.taken c.args.sink.now in
    let b = g.K.Sink.taken c.loop-attr.sink in
    let d = g.K.Sink.taken c.lent_attr.new.sink in
    let p = c.args.printer.now in
    let q = c.loop-attr.printer in
    let xs = c.args.attrs.now in
    let i = c.loop-attr.attr-index in
    let x = c.attr-item.result in
    let within : i < length xs = search rules in
    let is : attribute (lent_attr_view x) ≡ attribute (lent_attr_view (get_or xs i x)) = ap (λ (y : LentAttr). attribute (lent_attr_view y)) c.attr-item.is in
    walk_stop calls a b d p q c.lent_attr.new.self xs i x c.from_residual.result within c.loop-attr.invariant.bytes c.loop-attr.invariant.pen c.from_residual.ensures.0
    (subst (λ (k : Call). TakesPrefix b d (printed q (k ∷ []))) is c.in_err-lent_attr.ensures.prints.bytes)

pub loop-attr-preserved : goal.loop-attr-preserved
loop-attr-preserved g c =
    let a = g.K.Sink.taken c.args.sink.now in
    let b = g.K.Sink.taken c.loop-attr.sink in
    let d = g.K.Sink.taken c.lent_attr.new.sink in
    let p = c.args.printer.now in
    let q = c.loop-attr.printer in
    let r = c.lent_attr.new.self in
    let xs = c.args.attrs.now in
    let i = c.loop-attr.attr-index in
    let x = c.attr-item.result in
    let within : i < length xs = search rules in
    let is : attribute (lent_attr_view x) ≡ attribute (lent_attr_view (get_or xs i x)) = ap (λ (y : LentAttr). attribute (lent_attr_view y)) c.attr-item.is in
    let pen : r ≡ reached q (calls (get_or xs i x)) = subst (λ (k : Call). r ≡ reached q (k ∷ [])) is c.in_ok-lent_attr.ensures.prints.pen in
    record {
      bytes = walk_bytes calls a b d p q xs i x within c.loop-attr.invariant.bytes c.loop-attr.invariant.pen (subst (λ (k : Call). Takes b d (printed q (k ∷ []))) is c.in_ok-lent_attr.ensures.prints.bytes);
      pen = walk_pen calls p q r xs i x within c.loop-attr.invariant.pen pen;
      rest = walk_rest calls q r xs i x within pen c.loop-attr.invariant.rest;
      later = search rules;
    }

pub loop-attr-init : goal.loop-attr-init
loop-attr-init g c = record { bytes = Takes-nil _; pen = search rules; rest = search rules; later = search rules }
