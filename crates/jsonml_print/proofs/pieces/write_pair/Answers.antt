use Rattle.std.proofs.Common.{◌∷◌, List, ℕ, refl, subst}
use Rattle.xa_outside.specs.Taken.{Takes, TakesPrefix}
use Rattle.json.specs.Print.{escape}
use Rattle.jsonml_tree.specs.LentAttrs.{lent_scalar_view}
use Rattle.jsonml_print.specs.Printed.{scalar_text}
use Rattle.xa_outside.proofs.Output.{Puts-cut, Puts-after}
use Rattle.jsonml_print.proofs.pieces.write_pair.Goals as goal

pub returns-in_err-write_escaped-clause-bytes : goal.returns-in_err-write_escaped-clause-bytes
returns-in_err-write_escaped-clause-bytes g c =
    let name = subst (λ (l : List ℕ). TakesPrefix (g.K.Sink.taken c.args.sink.now) (g.K.Sink.taken c.write_escaped.new.sink) (escape l)) c.as_bytes.ensures.value c.in_err-write_escaped.ensures.bytes in
    Puts-cut _ _ c.from_residual.result _ (escape c.args.name.now) (34 ∷ 58 ∷ scalar_text (lent_scalar_view c.args.value)) refl c.from_residual.ensures.0 name

pub returns-clause-bytes : goal.returns-clause-bytes
returns-clause-bytes g c =
    let name = subst (λ (l : List ℕ). Takes (g.K.Sink.taken c.args.sink.now) (g.K.Sink.taken c.write_escaped.new.sink) (escape l)) c.as_bytes.ensures.value c.in_ok-write_escaped.ensures.bytes in
    Puts-after (g.K.Sink.taken c.args.sink.now) (g.K.Sink.taken c.write_escaped.new.sink) (g.K.Sink.taken c.write_value.new.sink) c.write_value.result (escape c.args.name.now) (34 ∷ 58 ∷ scalar_text (lent_scalar_view c.args.value)) name
    c.write_value.ensures.bytes
