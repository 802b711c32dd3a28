use Rattle.std.proofs.Common.{ap, ◌∙◌}
use Rattle.archive_tree.specs.Stands.{head_or}
use Rattle.archive_tree.specs.View.{stamp_view}
use Rattle.archive_cut.proofs.alternatives.push.Goals as goal

pub returns : goal.returns
returns c = record {
  held = _;
  is = c.in_ok-push.ensures.items;
  shown = ap (λ b. record { stamp = stamp_view c.args.stamp; body = b }) c.in_ok-body.ensures.same;
  known = c.first_of-first.ensures ∙ ap (head_or 0) c.effective.ensures.members;
}
