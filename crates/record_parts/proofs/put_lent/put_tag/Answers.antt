use Rattle.std.proofs.Common.{rules, [], ◌∷◌, refl}
use Rattle.xa_fields.specs.Spelling.{text_bytes}
use Rattle.record_parts.specs.Checks.{tag_fits, text_fits}
use Rattle.record_parts.proofs.Rows.{no_tag, a_tag}
use Rattle.record_parts.proofs.Spelled.{spelled_as, spelled_behind}
use Rattle.record_parts.proofs.put_lent.put_tag.Goals as goal

pub returns-then-depth-eq0 : goal.returns-then-depth-eq0
returns-then-depth-eq0 c = no_tag c.args.depth c.args.tag.now c.if-depth-eq0.true

pub returns : goal.returns
returns c =
    let t = c.args.tag.now in
    spelled_as (text_fits t) (tag_fits c.args.depth t) _ _ (1 ∷ text_bytes t) (1 ∷ text_bytes t) c.put_short.result (a_tag c.args.depth t c.if-depth-eq0.false) refl
    (spelled_behind (text_fits t) _ _ _ (1 ∷ []) (text_bytes t) c.put_short.result (search rules) c.put_short.ensures)
