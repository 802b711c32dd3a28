use Rattle.std.proofs.Common.{◌-◌, sym, subst, length, rules}
use Rattle.std.specs.Io.KnownBytes.{Consumes}
use Rattle.std.proofs.KnownBytes.{Consumes-trans}
use Rattle.xa_outside.proofs.Fronts.{take-put_mid_front}
use Rattle.xa_outside.proofs.source.fill.Goals as goal

pub loop-done-preserved : goal.loop-done-preserved
loop-done-preserved g c =
    let old = c.loop-done.invariant in
    let front = take-put_mid_front c.loop-done.done (length c.loop-done.buf - c.loop-done.done) c.in_ok-count.count c.loop-done.buf c.read.new.buf old.within c.in_ok-count.ensures.bound.0 in
    record {
      within = search rules;
      bytes = subst (Consumes _ _) (sym front) (Consumes-trans _ _ _ _ _ old.bytes c.in_ok-count.ensures.bytes.0);
      later = search rules;
    }
