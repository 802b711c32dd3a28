use Rattle.std.proofs.Common.{◌≡◌, ◌-◌}
use Rattle.node_judge.specs.FrameView.{leaf_view}
use Rattle.node_judge.specs.HeldView.{held_leaf, held_view}
use Rattle.node_walk.specs.Seen.{seen}
use Rattle.node_walk.proofs.Leaves.{AlternativesOn}
use Rattle.node_walk.proofs.alternatives.judge_alternatives.Given as goal

-- so many alternatives were judged
abbrev pub invariant-loop-held : goal.invariant-loop-held
invariant-loop-held g l =
    let f = g.F.Folder in
    record {
      leaf : held_leaf l.held ≡ leaf_view l.fn.leaf;
      on : AlternativesOn (leaf_view l.fn.leaf) (seen f.files f.draft f.numbers f.faults l.fn.folder l.fn.cursor) (seen f.files f.draft f.numbers f.faults l.folder l.cursor) (held_view l.held);
    }

abbrev pub decreases-loop-held : goal.decreases-loop-held
decreases-loop-held g l = l.cursor.length - l.cursor.at
