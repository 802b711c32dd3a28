use Rattle.std.proofs.Common.{◌∙◌, ap, arith, Some, take}
use Rattle.std.proofs.Math.Nat.{sub-zero}
use Rattle.std.specs.List.{prefix_len}
use Rattle.key_spec.specs.Form.{is_word_byte, tokens}
use Rattle.key_spec.proofs.TokenLemmas.{boundary_behind_word, first_word-some, first_word-none}
use Rattle.key_spec.proofs.token.first_word.Goals as goal

pub returns-then-end-eq0 : goal.returns-then-end-eq0
returns-then-end-eq0 c = first_word-none c.args.line.now c.trimmed-line.result.now c.word_len-end.result c.trimmed-line.ensures (c.word_len-end.ensures.count ∙ ap (prefix_len is_word_byte) c.as_bytes.ensures.value) (omega arith)

pub range-requires-clause-end_boundary : goal.range-requires-clause-end_boundary
range-requires-clause-end_boundary c = boundary_behind_word c.trimmed-line.result.now c.word_len-end.result c.trimmed-line.utf8 (c.word_len-end.ensures.count ∙ ap (prefix_len is_word_byte) c.as_bytes.ensures.value)

pub range_from-requires : goal.range_from-requires
range_from-requires c = λ some. boundary_behind_word c.trimmed-line.result.now c.word_len-end.result c.trimmed-line.utf8 (c.word_len-end.ensures.count ∙ ap (prefix_len is_word_byte) c.as_bytes.ensures.value)

pub returns : goal.returns
returns c =
    let line = c.trimmed-line.result.now in
    let end = c.word_len-end.result in
    let found = first_word-some c.args.line.now line end c.trimmed-line.ensures (c.word_len-end.ensures.count ∙ ap (prefix_len is_word_byte) c.as_bytes.ensures.value) (omega arith) in
    ap (λ bs. Some (bs, tokens c.range_from.result.now)) (c.range.ensures.value ∙ ap (λ n. take n line) (sub-zero end)) ∙ ap (λ bs. Some (take end line, tokens bs)) c.range_from.ensures.value ∙ found
