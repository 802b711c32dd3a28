use Rattle.std.proofs.Common.{◌≡◌, get_or, ap, rules, of_calls, ◌∙◌}
use Rattle.std.proofs.lemmas.Fn.{always_returns_same}
use Rattle.std.proofs.lemmas.Map.Lookups.{exact_bytes}
use Rattle.std.specs.Cmp.Lexicographic.{slice_cmp}
use Rattle.std.specs.Ordering.{nat_cmp}
use Rattle.xa_fields.specs.Reading.{whole}
use Rattle.record_parts.specs.Reading.{value_at}
use Rattle.record_parts.specs.ShownViews.{value_in}
use Rattle.record_copy.specs.Parts.{alternative_view}
use Rattle.archive_join.specs.Held.{spelled}
use Rattle.archive_join.specs.declared.held.Entry.{Entry}
use Rattle.archive_join.proofs.Holding.{not_there}
use Rattle.archive_join.proofs.held.place_of.Goals as goal

pub returns-in-Ok-clause-found : goal.returns-in-Ok-clause-found
returns-in-Ok-clause-found c =
    let is = c.in-Ok.ensures.position (λ (e : Entry). slice_cmp nat_cmp e.alternative.body.items c.spelling-body.result.now)
    (always_returns_same _ (λ a r. r ≡ slice_cmp nat_cmp a.0.now.alternative.body.items c.spelling-body.result.now) _ (λ a r f k. search (rules, of_calls))) in
    (c.in-Ok.ensures.bound, λ d. ap (λ z. value_in (whole value_at z)) (exact_bytes (get_or c.args.entries.now c.in-Ok.at d).alternative.body.items c.spelling-body.result.now (is d) ∙ c.spelling-body.ensures.same))

pub returns-in-Err-clause-missing : goal.returns-in-Err-clause-missing
returns-in-Err-clause-missing c up none =
    not_there c.args.entries.now c.spelling-body.result.now (alternative_view c.args.alternative.now).body c.in-Err.field-0 c.spelling-body.ensures.spelled up
    (c.in-Err.ensures.position (λ (e : Entry). slice_cmp nat_cmp (spelled e) c.spelling-body.result.now)
    (always_returns_same _ (λ a r. r ≡ slice_cmp nat_cmp (spelled a.0.now) c.spelling-body.result.now) _ (λ a r f k. search (rules, of_calls))))
