use Rattle.std.proofs.Common.{◌≡◌, ◌+◌, List, ℕ, drop, arith, subst, ◌∙◌}
use Rattle.json.specs.Lex.{between, in_string, lex}
use Rattle.jsonml_text.proofs.Contained.{byte_passed, escape_passed, quote_passed}
use Rattle.jsonml_text.proofs.string.string_end.Goals as goal

pub returns-then-bytes-at-eq34-clause-passed : goal.returns-then-bytes-at-eq34-clause-passed
returns-then-bytes-at-eq34-clause-passed c =
    subst (λ (d : List ℕ). lex in_string (drop c.args.from d) ≡ lex between (drop (c.loop-at.at + 1) d)) c.as_bytes-bytes.ensures.value
    (c.loop-at.invariant.passed ∙ quote_passed c.as_bytes-bytes.result.now c.loop-at.at c.loop-at-test.true c.if-bytes-at-eq34.true)

pub loop-at-preserved-then-bytes-at-eq92 : goal.loop-at-preserved-then-bytes-at-eq92
loop-at-preserved-then-bytes-at-eq92 c =
    record { passed = c.loop-at.invariant.passed ∙ escape_passed c.as_bytes-bytes.result.now c.loop-at.at c.loop-at-test.true c.if-bytes-at-eq92.true; later = omega arith }

pub loop-at-preserved : goal.loop-at-preserved
loop-at-preserved c =
    record {
      passed = c.loop-at.invariant.passed ∙ byte_passed c.as_bytes-bytes.result.now c.loop-at.at c.loop-at-test.true c.if-bytes-at-eq34.false c.if-bytes-at-eq92.false;
      later = omega arith;
    }
