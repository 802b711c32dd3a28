use Rattle.std.proofs.Common.{[], ap, ◌∙◌, sym}
use Rattle.std.proofs.lemmas.List.{append-nil}
use Rattle.record_parts.specs.Reading.{label_at}
use Rattle.record_parts.specs.ShownViews.{shown_label}
use Rattle.record_parts.specs.Spelling.{label_bytes}
use Rattle.node_judge.proofs.lent_keys.keys_of.Goals as goal

pub returns : goal.returns
returns c =
    let l = shown_label c.args.label.now in
    c.keys_in.ensures l [] (ap label_at (c.bytes.ensures.spelled ∙ sym (append-nil (label_bytes l))) ∙ c.parts_are_read_as_spelled.ensures.labels.again l [] c.bytes.ensures.is)
