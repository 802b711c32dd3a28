use Rattle.std.proofs.Common.{sym, ap, ◌∙◌, arith, rules}
use Rattle.std.specs.List.{position}
use Rattle.std.proofs.lemmas.Grind.{common_steps}
use Rattle.xarch_run.specs.Feed.{pending}
use Rattle.xarch_run.specs.Lines.{is_line_feed}
use Rattle.xarch_run.proofs.LineLemmas.{first_feed, no_feed}
use Rattle.xarch_run.proofs.LineReading.{puts-end, puts-all}
use Rattle.xarch_run.proofs.lines.Lines.take_piece.Goals as goal

pub returns-in_ok-add-in-Some-clause-puts : goal.returns-in_ok-add-in-Some-clause-puts
returns-in_ok-add-in-Some-clause-puts c = λ line s.
    let first = first_feed (pending c.args.self.now.feed) c.in-Some.at (sym (c.in-Some.ensures ∙ ap (position is_line_feed) c.pending.ensures)) in
    puts-end c.args.self.now _ line _ c.in-Some.at (c.in_ok-add-in-Some.ensures line s) (grind (arith, common_steps)) first c.skip.ensures.pending

pub returns-in_ok-add-in-None-clause-puts : goal.returns-in_ok-add-in-None-clause-puts
returns-in_ok-add-in-None-clause-puts c = λ line s.
    let none = no_feed (pending c.args.self.now.feed) (sym (c.in-None.ensures ∙ ap (position is_line_feed) c.pending.ensures)) in
    puts-all c.args.self.now _ line _ _ (c.in_ok-add-in-None.ensures line s) c.pending-in-None.ensures none (search rules) c.skip-in-None.ensures.pending
