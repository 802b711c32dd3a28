use Rattle.std.proofs.Common.{map, refl, arith}
use Rattle.archive_text.specs.Export.{alt_line, end_line}
use Rattle.archive_text.proofs.Found.{hands_on, read_fails}
use Rattle.archive_text.proofs.ReadTree.{alts_start, alts_end, alts_next, alts_pushed, alts_well}
use Rattle.archive_text.proofs.tree.read_alts.Goals as goal

pub loop-alts-init : goal.loop-alts-init
loop-alts-init c =
    record {
      left = λ xs rest g h. rw c.new-alts.ensures.items (alts_start xs rest _ g h);
      further = omega arith;
      within = c.requires;
      well_formed = rw c.new-alts.ensures.items refl;
    }

pub returns-in_err-line-clause-found : goal.returns-in_err-line-clause-found
returns-in_err-line-clause-found c = λ xs rest g h. (
    let left = c.loop-alts.invariant.left xs rest g h in
    read_fails (map alt_line left.left) end_line rest _ _ _ c.from_residual.result c.in_err-line.field-0.0 c.from_residual.ensures.1 left.lies c.in_err-line.ensures.found)

pub returns-then-not-has_word-clause-found : goal.returns-then-not-has_word-clause-found
returns-then-not-has_word-clause-found c = λ xs rest g h.
    alts_end xs rest _ _ _ _ (c.loop-alts.invariant.left xs rest g h) c.in_ok-line.ensures.found (c.has_word.ensures.no c.if-not-has_word.true)

pub returns-in_err-alt-clause-found : goal.returns-in_err-alt-clause-found
returns-in_err-alt-clause-found c = λ xs rest g h. (
    let n = alts_next xs rest _ _ _ _ (c.loop-alts.invariant.left xs rest g h) c.in_ok-line.ensures.found (c.has_word.ensures.yes c.if-not-has_word.false) in
    hands_on _ _ c.from_residual-in_err-alt.result c.in_err-alt.field-0.0 c.from_residual-in_err-alt.ensures.1 (c.in_err-alt.ensures.found n.alt n.shaped n.cells))

pub loop-alts-preserved : goal.loop-alts-preserved
loop-alts-preserved c =
    record {
      left = λ xs rest g h. (
          let n = alts_next xs rest _ _ _ _ (c.loop-alts.invariant.left xs rest g h) c.in_ok-line.ensures.found (c.has_word.ensures.yes c.if-not-has_word.false) in
          alts_pushed xs rest _ _ _ n.alt _ n.on (c.in_ok-alt.ensures.found n.alt n.shaped n.cells) c.in_ok-push.ensures.items);
      further = omega (arith, c.in_ok-line.ensures.further);
      within = c.in_ok-line.ensures.within;
      well_formed = alts_well _ _ _ c.in_ok-push.ensures.items c.loop-alts.invariant.well_formed c.in_ok-alt.ensures.well_formed;
    }
