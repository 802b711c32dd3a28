use Rattle.std.proofs.Common.{◌≡◌, [], Err, sym, ap, subst}
use Rattle.std.specs.Result.{result_ok}
use Rattle.serde_json.specs.View.{view as data_of}
use Rattle.jsonml_tree.specs.View.{scalar_view}
use Rattle.jsonml_text.specs.Spelled.{fault_at, scalar_at}
use Rattle.jsonml_text.specs.Stops.{Reads}
use Rattle.jsonml_text.specs.declared.stop.Stop.{Stop}
use Rattle.jsonml_text.proofs.scalar.scalar_of.Goals as goal

pub returns-in-Err-Shape-clause-scalar : goal.returns-in-Err-Shape-clause-scalar
returns-in-Err-Shape-clause-scalar c =
    let d = data_of c.args.value.now in
    let fault : scalar_at [] d ≡ fault_at [] c.in-Err-Shape.field-0-0 = subst (λ (s : Stop). Reads scalar_view (scalar_at [] d) [] [] (Err s)) c.in-Err-Shape.field-0-is (c.in-Err-Shape.ensures.scalar []) in
    sym (ap result_ok fault)
