use Rattle.std.proofs.Common.{◌-◌, ◌≤◌, ◌≡◌, take, length}
use Rattle.xa_outside.specs.Numbers.{after_pull}
use Rattle.xa_outside.proofs.Fronts.{StandsAt}
use Rattle.xa_outside.proofs.folder.fill_rest.Given as goal

abbrev pub invariant-loop-done : goal.invariant-loop-done
invariant-loop-done g l =
    record {
      within : l.done ≤ length l.buf;
      stands : StandsAt (g.F.Folder.files l.initial.folder) l.name l.at (take l.done l.buf);
      files : g.F.Folder.files l.folder ≡ g.F.Folder.files l.initial.folder;
      draft : g.F.Folder.draft l.folder ≡ g.F.Folder.draft l.initial.folder;
      numbers : g.F.Folder.numbers l.folder ≡ after_pull (g.F.Folder.numbers l.initial.folder) l.done;
      later : g.F.Folder.faults l.initial.folder ≤ g.F.Folder.faults l.folder;
    }

abbrev pub decreases-loop-done : goal.decreases-loop-done
decreases-loop-done g l = length l.initial.buf - l.done
