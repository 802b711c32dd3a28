use Rattle.std.proofs.Common.{refl}
use Rattle.jsonml_tree.specs.Data.{only_text}
use Rattle.record_parts.specs.Bounds.{deepest}
use Rattle.record_parts.specs.Checks.{content_fits, text_fits}
use Rattle.record_parts.specs.Spelling.{content_bytes}
use Rattle.record_parts.proofs.Rows.{only_fits}
use Rattle.record_parts.proofs.Spelled.{spelled_as}
use Rattle.record_parts.proofs.put_lent.put_content.Goals as goal

pub returns-in-Text : goal.returns-in-Text
returns-in-Text c =
    let e = c.in-Text.is in
    let s = c.in-Text.text.now in
    rw e (spelled_as (text_fits s) (content_fits deepest (only_text s)) _ _ (content_bytes (only_text s)) (content_bytes (only_text s)) c.put_only_text.result (only_fits deepest s) refl c.put_only_text.ensures)
