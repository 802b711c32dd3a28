use Rattle.std.proofs.Common.{◌-◌}
use Rattle.version_set.specs.View.{pairs_of}
use Rattle.content_log.specs.Written.{seen}
use Rattle.content_log.proofs.Coming.{On}
use Rattle.content_log.proofs.alternatives.put_alternatives.Given as goal

-- the alternatives that came are written
abbrev pub invariant-loop-item : goal.invariant-loop-item
invariant-loop-item g l =
    let f = g.F.Folder in
    let k = g.K.Sink in
    On l.tag (pairs_of l.set) l.fn.cursor (seen f.files f.draft f.numbers f.faults k.taken k.faults l.fn.folder l.fn.sink) l.came l.cursor (seen f.files f.draft f.numbers f.faults k.taken k.faults l.folder l.sink)

abbrev pub decreases-loop-item : goal.decreases-loop-item
decreases-loop-item g l = l.cursor.length - l.cursor.at
