use Rattle.std.proofs.Common.{sym, ◌∙◌, arith}
use Rattle.std.proofs.lemmas.Bool.{lt-ltb}
use Rattle.record_parts.specs.Encodable.{text_test}
use Rattle.record_parts.proofs.Spelled.{long_false}
use Rattle.record_parts.proofs.put_lent.put_short.Goals as goal

pub returns-then-text-ge-FIELD : goal.returns-then-text-ge-FIELD
returns-then-text-ge-FIELD c = sym (text_test c.args.text.now c.utf8.text) ∙ long_false _ c.if-text-ge-FIELD.true

pub returns : goal.returns
returns c = (sym (text_test c.args.text.now c.utf8.text) ∙ lt-ltb _ _ (omega (arith, c.if-text-ge-FIELD.false)), c.in_ok-append_text.ensures.ok)
