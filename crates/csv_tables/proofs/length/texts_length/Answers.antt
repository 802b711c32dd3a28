use Rattle.std.proofs.Common.{◌≡◌, ◌+◌, take, string_bytes, ap, ap₂, sym, ◌∙◌, arith}
use Rattle.key_spec.specs.View.{names_view}
use Rattle.key_spec.proofs.Steps.{map-take}
use Rattle.csv_tables.specs.Lengths.{at_most, quoted_size, sizes}
use Rattle.csv_tables.proofs.LengthLemmas.{at_most-both, sizes-more}
use Rattle.csv_tables.proofs.length.texts_length.Goals as goal

pub loop-text-preserved : goal.loop-text-preserved
loop-text-preserved c =
    let texts = c.args.texts.now in
    let i = c.loop-text.text-index in
    let item = c.text-item.result in
    let done = names_view (take i texts) in
    let quoted : c.quoted_length.result ≡ at_most (quoted_size (string_bytes item)) = c.quoted_length.ensures ∙ ap (λ s. at_most (quoted_size s)) c.as_str.ensures.value in
    c.sum-length.ensures ∙ ap₂ (λ a b. at_most (a + b)) c.loop-text.invariant quoted ∙ at_most-both (sizes done) (quoted_size (string_bytes item))
    ∙ ap at_most (sym (sizes-more done (string_bytes item)) ∙ ap sizes (sym (map-take string_bytes texts i item (omega arith) c.text-item.is)))
