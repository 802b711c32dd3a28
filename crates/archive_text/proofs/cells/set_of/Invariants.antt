use Rattle.std.proofs.Common.{◌≡◌, ℕ, List, ◌∷◌, length, IsUtf8}
use Rattle.version_set.specs.Text.{set_text}
use Rattle.version_set.specs.View.{pairs_of}
use Rattle.record_parts.specs.Bounds.{IsSet}
use Rattle.archive_text.proofs.ReadSets.{SetLeft}
use Rattle.archive_text.proofs.cells.set_of.Given as goal

abbrev pub invariant-loop-first : goal.invariant-loop-first
invariant-loop-first l =
    record {
      utf8 : IsUtf8 l.left;
      left : (p : ℕ × ℕ) (ps : List (ℕ × ℕ)) → IsSet (p ∷ ps) → l.fn.text ≡ set_text (p ∷ ps) → SetLeft (p ∷ ps) (pairs_of l.set) l.left;
    }

abbrev pub decreases-loop-first : goal.decreases-loop-first
decreases-loop-first l = length l.left
