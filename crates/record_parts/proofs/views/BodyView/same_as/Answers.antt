use Rattle.std.proofs.Common.{ap, sym, ◌∙◌}
use Rattle.std.proofs.lemmas.Slice.Eq.{bytes_eq-Decides}
use Rattle.record_parts.specs.ShownViews.{shown_body}
use Rattle.record_parts.specs.Spelling.{value_bytes}
use Rattle.record_parts.specs.ShownParts.{same_values}
use Rattle.record_parts.proofs.views.BodyView.same_as.Goals as goal

pub returns : goal.returns
returns c =
    let same = bytes_eq-Decides c.bytes.result.now c.bytes-2.result.now in (
      λ e. same_values (shown_body c.args.self.now) (shown_body c.args.other.now) c.bytes.ensures.is c.bytes-2.ensures.is (sym c.bytes.ensures.spelled ∙ same.0 (sym c.eq.ensures ∙ e) ∙ c.bytes-2.ensures.spelled),
      λ e. c.eq.ensures ∙ same.1 (c.bytes.ensures.spelled ∙ ap value_bytes e ∙ sym c.bytes-2.ensures.spelled),
    )
