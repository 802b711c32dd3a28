use Rattle.std.specs.Io.KnownBytes.{Keeps}
use Rattle.real_objects.proofs.again.write_again.Given as goal

-- A write that was interrupted has had nothing taken.
abbrev pub invariant-loop : goal.invariant-loop
invariant-loop g l = Keeps (g.W.Write.contents l.initial.writer) (g.W.Write.contents l.writer)
