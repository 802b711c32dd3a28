use Rattle.std.proofs.Common.{◌++◌, ◌∷◌, [], subst, sym, append_assoc}
use Rattle.json.specs.Print.{escape}
use Rattle.xa_outside.specs.Taken.{Puts}
use Rattle.jsonml_print.specs.Calls.{item_lead}
use Rattle.xa_outside.proofs.Output.{Puts-cut, Puts-after}
use Rattle.jsonml_print.proofs.pieces.write_text.Goals as goal

pub returns-in_err-write_text_lead-clause-bytes : goal.returns-in_err-write_text_lead-clause-bytes
returns-in_err-write_text_lead-clause-bytes g c =
    Puts-cut _ _ c.from_residual.result _ (item_lead c.args.last ++ 34 ∷ []) (escape c.args.text.now ++ 34 ∷ []) (sym (append_assoc (item_lead c.args.last) (34 ∷ []) (escape c.args.text.now ++ 34 ∷ []))) c.from_residual.ensures.0 c.in_err-write_text_lead.ensures.bytes

pub returns-clause-bytes : goal.returns-clause-bytes
returns-clause-bytes g c =
    let a = g.K.Sink.taken c.args.sink.now in
    let b = g.K.Sink.taken c.write_text_lead.new.sink in
    let d = g.K.Sink.taken c.write_behind_quote.new.sink in
    let held = escape c.args.text.now ++ 34 ∷ [] in
    subst (Puts a d c.write_behind_quote.result) (append_assoc (item_lead c.args.last) (34 ∷ []) held)
    (Puts-after a b d c.write_behind_quote.result (item_lead c.args.last ++ 34 ∷ []) held c.in_ok-write_text_lead.ensures.bytes c.write_behind_quote.ensures.bytes)
