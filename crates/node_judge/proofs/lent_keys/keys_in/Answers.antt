use Rattle.std.proofs.Common.{◌++◌, ap, map, ◌∙◌}
use Rattle.record_parts.specs.ShownViews.{shown_body}
use Rattle.node_judge.proofs.Values.{keys-there}
use Rattle.node_judge.proofs.lent_keys.keys_in.Goals as goal

pub returns : goal.returns
returns c l rest e =
    c.in_ok-keys_onto.ensures l.keys rest (keys-there c.args.bytes.now l rest e _ _ c.in-Some.ensures.found _ _ c.in-Some-take_text.ensures.found _ _ c.in-Some-take_u32.ensures.found)
    ∙ ap (λ ks. map shown_body ks ++ l.keys) c.new-keys.ensures.items
