use Rattle.std.proofs.Common.{◌∙◌, ◌==◌, ap, sym}
use Rattle.record_parts.specs.ShownViews.{shown_label}
use Rattle.node_judge.proofs.Kept.{first-above}
use Rattle.node_judge.proofs.label.KeptLabel.is_below.Goals as goal

pub returns-then-is_empty : goal.returns-then-is_empty
returns-then-is_empty c =
    let bytes = c.args.self.now.bytes in
    first-above bytes.items (shown_label c.args.label.now) (ap (λ n. n == 0) (sym bytes.ok.0) ∙ sym c.is_empty.ensures ∙ c.if-is_empty.true)
