use Rattle.std.proofs.Common.{◌≡◌, ◌+◌, true, false, take, drop, string_bytes, ap, sym, ◌∙◌, arith}
use Rattle.std.proofs.lemmas.List.{drop_all}
use Rattle.key_spec.specs.View.{names_view}
use Rattle.key_spec.proofs.Steps.{map-drop, map-take}
use Rattle.csv_tables.specs.Records.{has_field, repeats}
use Rattle.csv_tables.proofs.ColumnLemmas.{repeats-new, repeats-old}
use Rattle.csv_tables.proofs.keys.are_different.Goals as goal

pub loop-at-preserved : goal.loop-at-preserved
loop-at-preserved c =
    let keys = c.args.keys.now in
    let i = c.loop-at.at in
    let item = c.index-keys-at.result in
    let names = names_view (take i keys) in
    let more = names_view (drop (i + 1) keys) in
    c.loop-at.invariant ∙ ap (repeats names) (map-drop string_bytes keys i item (omega arith) c.index-keys-at.is)
    ∙ repeats-new names more (string_bytes item) (sym c.has_field.ensures ∙ c.if-has_field.false)
    ∙ ap (λ e. repeats e more) (sym (map-take string_bytes keys i item (omega arith) c.index-keys-at.is))

pub returns-then-has_field : goal.returns-then-has_field
returns-then-has_field c =
    let keys = c.args.keys.now in
    let i = c.loop-at.at in
    let item = c.index-keys-at.result in
    let names = names_view (take i keys) in
    c.loop-at.invariant ∙ ap (repeats names) (map-drop string_bytes keys i item (omega arith) c.index-keys-at.is)
    ∙ repeats-old names (names_view (drop (i + 1) keys)) (string_bytes item) (sym c.has_field.ensures ∙ c.if-has_field.true)

pub returns : goal.returns
returns c = c.loop-at.invariant ∙ ap (λ ks. repeats (names_view (take c.loop-at.at c.args.keys.now)) (names_view ks)) (drop_all c.loop-at.at c.args.keys.now (omega arith))
