use Rattle.std.proofs.Common.{[], ◌∷◌}
use Rattle.xa_fields.specs.Spelling.{text_bytes}
use Rattle.record_parts.specs.Checks.{text_fits}
use Rattle.record_parts.proofs.Spelled.{spelled_behind}
use Rattle.record_parts.proofs.put_lent.put_lent_name.Goals as goal

pub returns-in_ok-append_u8-in-Attr : goal.returns-in_ok-append_u8-in-Attr
returns-in_ok-append_u8-in-Attr c =
    let e = c.in-Attr.is in
    let s = c.in-Attr.text.now in
    rw e (spelled_behind (text_fits s) _ _ _ (0 ∷ []) (text_bytes s) c.put_short.result c.in_ok-append_u8-in-Attr.ensures.ok c.put_short.ensures)

pub returns-in_ok-append_u8-in-Tag : goal.returns-in_ok-append_u8-in-Tag
returns-in_ok-append_u8-in-Tag c =
    let e = c.in-Tag.is in
    let s = c.in-Tag.text.now in
    rw e (spelled_behind (text_fits s) _ _ _ (1 ∷ []) (text_bytes s) c.put_short-in-Tag.result c.in_ok-append_u8-in-Tag.ensures.ok c.put_short-in-Tag.ensures)
