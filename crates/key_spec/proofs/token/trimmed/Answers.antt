use Rattle.key_spec.proofs.TokenLemmas.{boundary_behind_blanks}
use Rattle.std.proofs.Common.{◌∙◌, ap}
use Rattle.std.specs.List.{prefix_len}
use Rattle.key_spec.specs.Lines.{is_blank}
use Rattle.key_spec.proofs.token.trimmed.Goals as goal

pub range_from-requires : goal.range_from-requires
range_from-requires c = λ some. boundary_behind_blanks c.args.line.now c.blank_len-blanks.result c.utf8.line (c.blank_len-blanks.ensures.count ∙ ap (prefix_len is_blank) c.as_bytes.ensures.value)
