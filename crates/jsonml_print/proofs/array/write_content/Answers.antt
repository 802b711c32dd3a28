use Rattle.std.proofs.Common.{◌∷◌, ◌++◌, [], drop, refl}
use Rattle.jsonml_tree.specs.View.{content_view}
use Rattle.xa_outside.proofs.Output.{Puts-cut, Puts-after}
use Rattle.jsonml_print.specs.Printed.{content_text}
use Rattle.jsonml_print.proofs.array.write_content.Goals as goal

pub returns-in_err-put_all-clause-bytes : goal.returns-in_err-put_all-clause-bytes
returns-in_err-put_all-clause-bytes g c = Puts-cut _ _ c.from_residual.result _ (91 ∷ []) (drop 1 (content_text (content_view c.args.content.now)) ++ 93 ∷ []) refl c.from_residual.ensures.0 c.in_err-put_all.ensures.bytes

pub returns-clause-bytes : goal.returns-clause-bytes
returns-clause-bytes g c =
    Puts-after (g.K.Sink.taken c.args.sink.now) (g.K.Sink.taken c.put_all.new.sink) (g.K.Sink.taken c.write_inside.new.sink) c.write_inside.result (91 ∷ []) (drop 1 (content_text (content_view c.args.content.now)) ++ 93 ∷ []) c.in_ok-put_all.ensures.bytes
    c.write_inside.ensures.bytes
