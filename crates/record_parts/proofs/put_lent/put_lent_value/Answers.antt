use Rattle.std.proofs.Common.{[], ◌∷◌}
use Rattle.jsonml_tree.specs.LentAttrs.{lent_scalar_view}
use Rattle.jsonml_tree.specs.LentView.{lent_content_view}
use Rattle.record_parts.specs.Bounds.{deepest}
use Rattle.record_parts.specs.Checks.{content_fits, scalar_fits}
use Rattle.record_parts.specs.Spelling.{content_bytes, scalar_bytes}
use Rattle.record_parts.proofs.Spelled.{spelled_behind}
use Rattle.record_parts.proofs.put_lent.put_lent_value.Goals as goal

pub returns-in_ok-append_u8-in-Scalar : goal.returns-in_ok-append_u8-in-Scalar
returns-in_ok-append_u8-in-Scalar c =
    let e = c.in-Scalar.is in
    let v = lent_scalar_view c.in-Scalar.scalar in
    rw e (spelled_behind (scalar_fits v) _ _ _ (0 ∷ []) (scalar_bytes v) c.put_lent_scalar.result c.in_ok-append_u8-in-Scalar.ensures.ok c.put_lent_scalar.ensures)

pub returns-in_ok-append_u8-in-Content : goal.returns-in_ok-append_u8-in-Content
returns-in_ok-append_u8-in-Content c =
    let e = c.in-Content.is in
    let v = lent_content_view c.in-Content.content in
    rw e (spelled_behind (content_fits deepest v) _ _ _ (1 ∷ []) (content_bytes v) c.put_content.result c.in_ok-append_u8-in-Content.ensures.ok c.put_content.ensures)
