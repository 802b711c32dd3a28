use Rattle.std.proofs.Common.{ℕ, ◌-◌, ◌≤◌, List, None}
use Rattle.xa_outside.specs.Numbers.{PullsAtMost}
use Rattle.archive_tree.specs.Data.{PlainAlt}
use Rattle.record_cursor.specs.Steps.{OnlyReads}
use Rattle.file_get.specs.Inside.{AltsTold}
use Rattle.file_get.proofs.Bodies.{AltsLeft}
use Rattle.file_get.proofs.body.read_body.Given as goal

-- the alternatives that are left stand there, and of the others no more was pulled than what is looked at
abbrev pub invariant-loop-alternative : goal.invariant-loop-alternative
invariant-loop-alternative g l =
    record {
      ordered : l.at ≤ l.end;
      onward : l.fn.at ≤ l.at;
      reads : OnlyReads g.F.Folder.files g.F.Folder.draft g.F.Folder.faults l.fn.folder l.folder None;
      pulls : PullsAtMost (l.at - l.fn.at) (g.F.Folder.numbers l.fn.folder) (g.F.Folder.numbers l.folder);
      told : (last : ℕ) (bytes more : List ℕ) (set : List (ℕ × ℕ)) (xs : List PlainAlt) → AltsTold l.ask.version (g.F.Folder.files l.fn.folder) l.ask.name.now bytes last l.fn.at l.end set xs more
          → AltsLeft l.ask.version (g.F.Folder.files l.folder) l.ask.name.now bytes last l.at l.end set xs more (g.F.Folder.numbers l.fn.folder) (g.F.Folder.numbers l.folder);
    }

abbrev pub decreases-loop-alternative : goal.decreases-loop-alternative
decreases-loop-alternative g l = l.end - l.at
