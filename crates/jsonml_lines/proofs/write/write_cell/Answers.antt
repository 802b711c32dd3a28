use Rattle.std.proofs.Common.{◌∷◌, [], refl}
use Rattle.jsonml_lines.specs.Lines.{cell_text}
use Rattle.keyed_tree.specs.View.{key_view}
use Rattle.xa_outside.proofs.Output.{Puts-cut, Puts-after}
use Rattle.jsonml_lines.proofs.write.write_cell.Goals as goal

pub returns-in_err-put_all-clause-bytes : goal.returns-in_err-put_all-clause-bytes
returns-in_err-put_all-clause-bytes g c = Puts-cut _ _ c.from_residual.result _ (44 ∷ []) (cell_text (key_view c.args.cell.now)) refl c.from_residual.ensures.0 c.in_err-put_all.ensures.bytes

pub returns-clause-bytes : goal.returns-clause-bytes
returns-clause-bytes g c =
    Puts-after (g.K.Sink.taken c.args.sink.now) (g.K.Sink.taken c.put_all.new.sink) (g.K.Sink.taken c.write_key.new.sink) c.write_key.result (44 ∷ []) (cell_text (key_view c.args.cell.now)) c.in_ok-put_all.ensures.bytes c.write_key.ensures.bytes
