use Rattle.std.proofs.Common.{◌-◌, ◌≡◌, ◌*◌, ◌≤◌, replicate}
use Rattle.xa_outside.specs.Folder.{Drafts}
use Rattle.version_notes.proofs.writer.append_empty.Given as goal

abbrev pub invariant-loop-done : goal.invariant-loop-done
invariant-loop-done g l =
    record {
      within : l.done ≤ l.size;
      whole : l.size ≡ 4 * l.count;
      zeros : l.zeros ≡ replicate 4096 0;
      files : g.F.Folder.files l.folder ≡ g.F.Folder.files l.initial.folder;
      drafts : Drafts (g.F.Folder.draft l.initial.folder) (g.F.Folder.draft l.folder) (g.F.Folder.numbers l.initial.folder) (g.F.Folder.numbers l.folder) (replicate l.done 0);
      later : g.F.Folder.faults l.initial.folder ≤ g.F.Folder.faults l.folder;
    }

abbrev pub decreases-loop-done : goal.decreases-loop-done
decreases-loop-done g l = l.size - l.done
