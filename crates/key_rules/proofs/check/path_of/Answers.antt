use Rattle.std.proofs.Common.{◌≡◌, ◌≤◌, ◌-◌, length, map, sym, ap, ◌∙◌, arith}
use Rattle.std.proofs.lemmas.List.{length-map}
use Rattle.std.proofs.lemmas.Option.{slice_get_past}
use Rattle.key_spec.specs.View.{path_view}
use Rattle.key_rules.proofs.check.path_of.Goals as goal

pub returns-in_default : goal.returns-in_default
returns-in_default c =
    let items = c.args.rule.now.paths.items in
    let count : length (map path_view items) ≡ length c.deref.result.now = length-map items path_view ∙ sym (ap length c.deref.ensures.value) in
    let past : length (map path_view items) ≤ c.args.number - 1 = omega (arith, count, c.in_default.ensures.lookup.3, c.saturating_sub.ensures) in
    sym (slice_get_past (map path_view items) (c.args.number - 1) past)
