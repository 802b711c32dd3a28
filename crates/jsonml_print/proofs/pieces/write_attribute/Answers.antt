use Rattle.std.proofs.Common.{◌≡◌, ◌++◌, ◌∷◌, [], List, ℕ, subst, sym, ap, append_assoc, ◌∙◌}
use Rattle.json.specs.Print.{escape}
use Rattle.xa_outside.specs.Taken.{Puts}
use Rattle.jsonml_tree.specs.LentAttrs.{lent_scalar_view}
use Rattle.jsonml_print.specs.Printed.{scalar_text}
use Rattle.jsonml_print.specs.Calls.{attribute_lead}
use Rattle.xa_outside.proofs.Output.{Puts-cut, Puts-after}
use Rattle.jsonml_print.proofs.pieces.write_attribute.Goals as goal

-- the first quote goes out with what comes before it
quote_moved : (lead name value : List ℕ) → (lead ++ 34 ∷ []) ++ (name ++ (34 ∷ 58 ∷ value)) ≡ lead ++ (34 ∷ ((name ++ 34 ∷ []) ++ (58 ∷ value)))
quote_moved lead name value = append_assoc lead (34 ∷ []) (name ++ (34 ∷ 58 ∷ value)) ∙ ap (λ l. lead ++ (34 ∷ l)) (sym (append_assoc name (34 ∷ []) (58 ∷ value)))

pub returns-in_err-write_attribute_lead-clause-bytes : goal.returns-in_err-write_attribute_lead-clause-bytes
returns-in_err-write_attribute_lead-clause-bytes g c =
    let lead = attribute_lead c.args.last in
    let name = escape c.args.name.now in
    let value = scalar_text (lent_scalar_view c.args.value) in
    Puts-cut _ _ c.from_residual.result _ (lead ++ 34 ∷ []) (name ++ (34 ∷ 58 ∷ value)) (sym (quote_moved lead name value)) c.from_residual.ensures.0 c.in_err-write_attribute_lead.ensures.bytes

pub returns-clause-bytes : goal.returns-clause-bytes
returns-clause-bytes g c =
    let a = g.K.Sink.taken c.args.sink.now in
    let d = g.K.Sink.taken c.write_pair.new.sink in
    let lead = attribute_lead c.args.last in
    let name = escape c.args.name.now in
    let value = scalar_text (lent_scalar_view c.args.value) in
    subst (Puts a d c.write_pair.result) (quote_moved lead name value)
    (Puts-after a (g.K.Sink.taken c.write_attribute_lead.new.sink) d c.write_pair.result (lead ++ 34 ∷ []) (name ++ (34 ∷ 58 ∷ value)) c.in_ok-write_attribute_lead.ensures.bytes c.write_pair.ensures.bytes)
