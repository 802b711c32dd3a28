use Rattle.std.proofs.Common.{◌∷◌, ◌++◌, [], refl}
use Rattle.json.specs.Print.{escape}
use Rattle.xa_outside.proofs.Output.{Puts-cut, Puts-after}
use Rattle.jsonml_lines.proofs.write.write_text_cell.Goals as goal

pub returns-in_err-put_all-clause-bytes : goal.returns-in_err-put_all-clause-bytes
returns-in_err-put_all-clause-bytes g c = Puts-cut _ _ c.from_residual.result _ (44 ∷ 34 ∷ []) (escape c.args.text.now ++ 34 ∷ []) refl c.from_residual.ensures.0 c.in_err-put_all.ensures.bytes

pub returns-clause-bytes : goal.returns-clause-bytes
returns-clause-bytes g c =
    Puts-after (g.K.Sink.taken c.args.sink.now) (g.K.Sink.taken c.put_all.new.sink) (g.K.Sink.taken c.write_behind_quote.new.sink) c.write_behind_quote.result (44 ∷ 34 ∷ []) (escape c.args.text.now ++ 34 ∷ []) c.in_ok-put_all.ensures.bytes
    c.write_behind_quote.ensures.bytes
