use Rattle.std.proofs.Common.{◌≡◌, Ok, Err, ap, ◌∙◌}
use Rattle.key_spec.specs.Canonical.{canonical}
use Rattle.key_spec.specs.Closed.{closed}
use Rattle.key_spec.specs.View.{spec_view}
use Rattle.xarch_gen.specs.Company.{company_rules, company_text}
use Rattle.xarch_gen.proofs.Spelled.{company_closed, company_canonical, refused}
use Rattle.xarch_gen.proofs.company.company_spec.Goals as goal

pub unreachable-requires : goal.unreachable-requires
unfolding company_text
unreachable-requires c =
    let fault : closed company_text ≡ Err (record { line = c.in-Err-Bad.field-0-0; why = c.in-Err-Bad.field-0-1 }) =
    refused (closed company_text) c.in-Err-Bad.field-0 c.in-Err-Bad.field-0-0 c.in-Err-Bad.field-0-1 c.in-Err-Bad.field-0-is c.in-Err-Bad.ensures.fault in
    let closes = company_closed in
    cc

pub returns-in-Ok : goal.returns-in-Ok
unfolding company_text
returns-in-Ok c =
    let found : closed company_text ≡ Ok (spec_view c.in-Ok.spec) = c.in-Ok.ensures.found in
    let closes = company_closed in
    let same : spec_view c.in-Ok.spec ≡ company_rules = cc in
    record { rules = same; text = ap canonical same ∙ company_canonical }
