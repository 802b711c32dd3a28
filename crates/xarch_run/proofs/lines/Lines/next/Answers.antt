use Rattle.std.proofs.Common.{◌≡◌, ◌<◌, Bool, true, Ok, refl, subst, rules}
use Rattle.xarch_run.specs.Feed.{Fills, budget}
use Rattle.xarch_run.specs.Taking.{PutsPiece}
use Rattle.xarch_run.specs.declared.lines.Lines.{Lines}
use Rattle.xarch_run.specs.declared.stop.Stop.TheVariants.{Memory}
use Rattle.xarch_run.proofs.LineReading.{in-all, in-ended, in-fewer, in-filled, in-handed, in-memory, in-stopped}
use Rattle.xarch_run.proofs.lines.Lines.next.Goals as goal

pub returns-in_err-has_more-clause-takes : goal.returns-in_err-has_more-clause-takes
returns-in_err-has_more-clause-takes g c =
    let filled : Lines = record { feed = c.has_more.new.self; line = c.loop-self.self.line } in
    in-handed c.args.self.now filled _ _ c.in_err-has_more.field-0.0 c.from_residual.result c.from_residual.ensures.1
    (in-stopped c.in_err-has_more.field-0.0 c.args.self.now c.loop-self.self filled filled _ _ _ c.loop-self.invariant.line c.in_err-has_more.ensures.fills)

pub returns-then-branch-clause-takes : goal.returns-then-branch-clause-takes
returns-then-branch-clause-takes g c =
    let filled : Lines = record { feed = c.has_more.new.self; line = c.loop-self.self.line } in
    let more : c.in_ok-has_more.field-0 ≡ true = search rules in
    let fills = subst (λ (b : Bool). Fills c.loop-self.self.feed c.has_more.new.self (g.S.Source.rest c.loop-self.input) (g.S.Source.rest c.has_more.new.input) (Ok b)) more c.in_ok-has_more.ensures.fills in
    let line = in-filled c.args.self.now c.loop-self.self filled _ _ _ c.loop-self.invariant.line fills refl in
    let put = subst (PutsPiece filled c.take_piece.new.self line.bytes) c.if-branch.true (c.in_ok-take_piece.ensures.puts line.bytes line.shows) in
    in-ended c.args.self.now filled c.take_piece.new.self _ _ line put c.take_piece.ensures.left

pub loop-self-smaller : goal.loop-self-smaller
loop-self-smaller g c =
    let filled : Lines = record { feed = c.has_more.new.self; line = c.loop-self.self.line } in
    let more : c.in_ok-has_more.field-0 ≡ true = search rules in
    let fills = subst (λ (b : Bool). Fills c.loop-self.self.feed c.has_more.new.self (g.S.Source.rest c.loop-self.input) (g.S.Source.rest c.has_more.new.input) (Ok b)) more c.in_ok-has_more.ensures.fills in
    let line = in-filled c.args.self.now c.loop-self.self filled _ _ _ c.loop-self.invariant.line fills refl in
    let put = subst (PutsPiece filled c.take_piece.new.self line.bytes) c.if-branch.false (c.in_ok-take_piece.ensures.puts line.bytes line.shows) in
    subst (λ n. budget c.take_piece.new.self.feed < n) fills.2 (in-fewer filled c.take_piece.new.self line.bytes fills.0 put c.take_piece.ensures.left)

pub loop-self-preserved : goal.loop-self-preserved
loop-self-preserved g c =
    let filled : Lines = record { feed = c.has_more.new.self; line = c.loop-self.self.line } in
    let more : c.in_ok-has_more.field-0 ≡ true = search rules in
    let fills = subst (λ (b : Bool). Fills c.loop-self.self.feed c.has_more.new.self (g.S.Source.rest c.loop-self.input) (g.S.Source.rest c.has_more.new.input) (Ok b)) more c.in_ok-has_more.ensures.fills in
    let line = in-filled c.args.self.now c.loop-self.self filled _ _ _ c.loop-self.invariant.line fills refl in
    let put = subst (PutsPiece filled c.take_piece.new.self line.bytes) c.if-branch.false (c.in_ok-take_piece.ensures.puts line.bytes line.shows) in
    record { line = in-all c.args.self.now filled c.take_piece.new.self _ _ line put c.take_piece.ensures.left; later = search rules }

pub returns-in_err-take_piece-clause-takes : goal.returns-in_err-take_piece-clause-takes
returns-in_err-take_piece-clause-takes g c =
    let filled : Lines = record { feed = c.has_more.new.self; line = c.loop-self.self.line } in
    let more : c.in_ok-has_more.field-0 ≡ true = search rules in
    let fills = subst (λ (b : Bool). Fills c.loop-self.self.feed c.has_more.new.self (g.S.Source.rest c.loop-self.input) (g.S.Source.rest c.has_more.new.input) (Ok b)) more c.in_ok-has_more.ensures.fills in
    let line = in-filled c.args.self.now c.loop-self.self filled _ _ _ c.loop-self.invariant.line fills refl in
    in-handed c.args.self.now c.take_piece.new.self _ _ Memory c.from_residual-in_err-take_piece.result c.from_residual-in_err-take_piece.ensures.1 (in-memory c.args.self.now filled c.take_piece.new.self _ _ line)
