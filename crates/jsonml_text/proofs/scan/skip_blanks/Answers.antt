use Rattle.std.proofs.Common.{arith, sym, ◌∙◌}
use Rattle.jsonml_text.proofs.Lexing.{blank_passed}
use Rattle.jsonml_text.proofs.scan.skip_blanks.Goals as goal

pub loop-at-preserved : goal.loop-at-preserved
loop-at-preserved c =
    record {
      same = sym (blank_passed c.as_bytes-bytes.result.now c.loop-at.at c.loop-at-test.true (sym c.if-is_blank.ensures)) ∙ c.loop-at.invariant.same;
      later = omega arith;
      within = omega arith;
    }
