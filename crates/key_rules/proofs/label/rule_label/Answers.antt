use Rattle.std.proofs.Common.{◌≡◌, List, Ok, map, ap, sym, ◌∙◌}
use Rattle.jsonml_tree.specs.LentView.{lent_content_view}
use Rattle.keyed_tree.specs.Data.{tag}
use Rattle.key_spec.specs.View.{path_view, rule_view}
use Rattle.key_spec.specs.declared.rule.KeyPath.{KeyPath}
use Rattle.key_rules.specs.Labels.{and_then, keys_from}
use Rattle.key_rules.specs.LentView.{lent_keys_view}
use Rattle.key_rules.proofs.label.rule_label.Goals as goal

pub returns-in-Ok-clause-label : goal.returns-in-Ok-clause-label
returns-in-Ok-clause-label c =
    let content = lent_content_view c.args.content in
    let keys = lent_keys_view c.in-Ok.keys in
    let read : keys_from 1 (map path_view c.args.rule.now.paths.items) content ≡ Ok keys =
    ap (λ (ps : List KeyPath). keys_from 1 (map path_view ps) content) (sym c.deref.ensures.value) ∙ c.in-Ok.ensures.keys in
    ap (λ o. and_then o (λ ks. Ok (record { name = tag (rule_view c.args.rule.now).tag; keys = ks }))) read ∙ ap (λ t. Ok (record { name = tag t; keys = keys })) (sym c.as_str.ensures.value)
