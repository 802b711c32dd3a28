use Rattle.std.proofs.Common.{◌≡◌, ◌<◌, ◌≤◌, ◌^◌, ◌++◌, ◌&&◌, ltb, length, map, ap, ◌∙◌, arith}
use Rattle.std.proofs.lemmas.Bool.{lt-ltb}
use Rattle.std.proofs.lemmas.List.{length-map}
use Rattle.std.specs.List.{flat_map}
use Rattle.keyed_tree.specs.Data.{name_bytes}
use Rattle.keyed_tree.specs.LentView.{lent_val_view, shown_name}
use Rattle.xa_fields.specs.Spelling.{u32_bytes}
use Rattle.record_parts.specs.Checks.{text_fits, values_fit}
use Rattle.record_parts.specs.Spelling.{name_spelling, value_bytes}
use Rattle.record_parts.proofs.Spelled.{and_first, and_second, long_false, refused, spelled_counted}
use Rattle.record_parts.proofs.put_lent.put_lent_label.Goals as goal

pub returns-then-keys-ge-FIELD : goal.returns-then-keys-ge-FIELD
returns-then-keys-ge-FIELD c =
    let ks = map lent_val_view c.args.keys.now in
    let t = text_fits (name_bytes (shown_name c.args.name)) in
    let size = length-map c.args.keys.now lent_val_view in
    let many : 2 ^ 32 ≤ length ks = omega (arith, size, c.if-keys-ge-FIELD.true) in
    and_first (t && ltb (length ks) (2 ^ 32)) (values_fit ks) (and_second t (ltb (length ks) (2 ^ 32)) (long_false (length ks) many))

pub returns-in_err-put_lent_name : goal.returns-in_err-put_lent_name
returns-in_err-put_lent_name c =
    let ks = map lent_val_view c.args.keys.now in
    let t = text_fits (name_bytes (shown_name c.args.name)) in
    refused t ((t && ltb (length ks) (2 ^ 32)) && values_fit ks) c.args.out.now.items c.put_lent_name.new.out.items (name_spelling (shown_name c.args.name)) c.args.out.now.items _ (name_spelling (shown_name c.args.name) ++ (u32_bytes (length ks) ++ flat_map value_bytes ks)) c.from_residual.result c.in_err-put_lent_name.field-0.0 c.from_residual.ensures.1
    (λ wrong. and_first (t && ltb (length ks) (2 ^ 32)) (values_fit ks) (and_first t (ltb (length ks) (2 ^ 32)) wrong)) c.in_err-put_lent_name.ensures

pub returns : goal.returns
returns c =
    let ks = map lent_val_view c.args.keys.now in
    let t = text_fits (name_bytes (shown_name c.args.name)) in
    let size = length-map c.args.keys.now lent_val_view in
    let few : length ks < 2 ^ 32 = omega (arith, size, c.if-keys-ge-FIELD.false) in
    let name = c.in_ok-put_lent_name.ensures in
    let count : c.append_u32.new.out.items ≡ c.put_lent_name.new.out.items ++ u32_bytes (length ks) = c.in_ok-append_u32.ensures.ok ∙ ap (λ n. c.put_lent_name.new.out.items ++ u32_bytes n) (grind (arith, size)) in
    spelled_counted t (ltb (length ks) (2 ^ 32)) (values_fit ks) _ _ _ _ (name_spelling (shown_name c.args.name)) (u32_bytes (length ks)) (flat_map value_bytes ks) c.put_lent_values.result name.0 (lt-ltb _ _ few) name.1 count c.put_lent_values.ensures
