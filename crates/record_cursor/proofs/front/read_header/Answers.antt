use Rattle.std.proofs.Common.{Option, List, ℕ, take, sym, subst, ◌∙◌}
use Rattle.std.specs.FinMap as map
use Rattle.xa_outside.specs.Folder.{bytes_or_none}
use Rattle.xa_outside.specs.Numbers.{Numbers, PullsAtMost}
use Rattle.record_cursor.specs.Moves.{TellsHeader}
use Rattle.record_cursor.proofs.front.read_header.Goals as goal

pub returns-in-Ok-clause-told : goal.returns-in-Ok-clause-told
returns-in-Ok-clause-told g c = λ files told. (
    let there = c.in-Ok.ensures.told files told in
    let bytes = take c.args.length (bytes_or_none (map.get files c.args.name.now)) in
    subst (λ (found : Option (List ℕ)). TellsHeader c.read_header_in.result found) (sym there) (c.read_header_in.ensures.told bytes (files, c.in-Ok.ensures.reads.same_files ∙ told, there)))

pub returns-in-Ok-clause-only : goal.returns-in-Ok-clause-only
returns-in-Ok-clause-only g c = λ bytes rules n first tells stands fits. (
    let pulls = c.read_header_in.ensures.only bytes rules n first (tells.0, c.in-Ok.ensures.reads.same_files ∙ tells.1, tells.2) stands fits in
    subst (λ (m : Numbers). PullsAtMost first m (g.F.Folder.numbers c.read_header_in.new.folder)) c.in-Ok.ensures.numbers pulls)

pub returns-in-Ok-clause-spelled : goal.returns-in-Ok-clause-spelled
returns-in-Ok-clause-spelled g c = λ bytes tells. c.read_header_in.ensures.spelled bytes (tells.0, c.in-Ok.ensures.reads.same_files ∙ tells.1, tells.2)
