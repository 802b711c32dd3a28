-- The versions of an archive that has some can be told.
use Rattle.std.proofs.Common.{true, IsTrue}
use Rattle.std.proofs.Math.Bool.{Bool-set}
use Rattle.std.proofs.Math.Logic.{∥∥₁_elim}
use Rattle.archive_tree.specs.Data.{PlainArchive}
use Rattle.archive_tree.specs.PartsTest.{is_archive}
use Rattle.archive_tree.specs.Stands.{Kept}
use Rattle.archive_tree.proofs.Necessary.{necessary}
use Rattle.archive_tree.proofs.Rebuilt.{sufficient}
use Rattle.archive_tree.proofs.Tells.{archive_tells}

pub kept_told : (a : PlainArchive) → ∥ Kept a ∥₁ → Kept a
kept_told a kept =
    let passed = ∥∥₁_elim {P = IsTrue (is_archive a)} kept (Bool-set (is_archive a) true) (λ k. (archive_tells a).1 (necessary k.versions a k.is)) in
    sufficient a ((archive_tells a).0 passed)
