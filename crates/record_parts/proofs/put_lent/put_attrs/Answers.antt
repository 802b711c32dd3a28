use Rattle.std.proofs.Common.{◌<◌, ◌≤◌, ◌^◌, ◌&&◌, ltb, length, map, sym, ◌∙◌, arith}
use Rattle.std.proofs.lemmas.Bool.{lt-ltb}
use Rattle.std.proofs.lemmas.List.{length-map}
use Rattle.std.specs.List.{flat_map}
use Rattle.jsonml_tree.specs.LentAttrs.{lent_attr_view}
use Rattle.jsonml_tree.specs.WellFormed.{is_ascending}
use Rattle.xa_fields.specs.Spelling.{u32_bytes}
use Rattle.record_parts.specs.Checks.{each_attr_fits}
use Rattle.record_parts.specs.Spelling.{attr_bytes}
use Rattle.record_parts.proofs.Spelled.{and_first, and_second, long_false, spelled_tested}
use Rattle.record_parts.proofs.put_lent.put_attrs.Goals as goal

pub returns-then-attrs-ge-FIELD : goal.returns-then-attrs-ge-FIELD
returns-then-attrs-ge-FIELD c =
    let xs = map lent_attr_view c.args.attrs.now in
    let size = length-map c.args.attrs.now lent_attr_view in
    let many : 2 ^ 32 ≤ length xs = omega (arith, size, c.if-attrs-ge-FIELD.true) in
    and_first (ltb (length xs) (2 ^ 32) && each_attr_fits xs) (is_ascending xs) (and_first (ltb (length xs) (2 ^ 32)) (each_attr_fits xs) (long_false (length xs) many))

pub returns-then-not-do_names_ascend : goal.returns-then-not-do_names_ascend
returns-then-not-do_names_ascend c =
    let xs = map lent_attr_view c.args.attrs.now in
    and_second (ltb (length xs) (2 ^ 32) && each_attr_fits xs) (is_ascending xs) (sym c.do_names_ascend.ensures ∙ c.if-not-do_names_ascend.true)

pub returns : goal.returns
returns c =
    let xs = map lent_attr_view c.args.attrs.now in
    let size = length-map c.args.attrs.now lent_attr_view in
    let few : length xs < 2 ^ 32 = omega (arith, size, c.if-attrs-ge-FIELD.false) in
    spelled_tested (ltb (length xs) (2 ^ 32)) (each_attr_fits xs) (is_ascending xs) _ _ _ (u32_bytes (length xs)) (flat_map attr_bytes xs) c.put_each_attr.result (lt-ltb _ _ few) (sym c.do_names_ascend.ensures ∙ c.if-not-do_names_ascend.false)
    (grind (arith, size, c.in_ok-append_u32.ensures.ok)) c.put_each_attr.ensures
