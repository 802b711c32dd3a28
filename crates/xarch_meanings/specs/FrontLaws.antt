-- The header that stands in front of a file, as a walk over the file sees it.
use Rattle.std.proofs.Common.{◌≡◌, ℕ, List, Option, Some}
use Rattle.xa_outside.specs.Folder.{Files}
use Rattle.record_cursor.specs.Moves.{TellsFront, IsHeaderOf}
use Rattle.record_cursor.specs.View.{PlainHeader}
use Rattle.xarch_parts.specs.Archives.{IsFrontOf}
use Rattle.xarch_parts.specs.CoreLaws.{core-told}

-- The header stands in front of the file of this name, among files that are told.
module _ (files : Files) (told : Option Files) (name : List ℕ) (h : PlainHeader) (tells : told ≡ Some files) (front : IsFrontOf files name h) where
  -- what stands before the notes
  pub front-told : TellsFront told name h.length front.core
  front-told = core-told files told name h.length front.core tells front.of

  pub header-is : IsHeaderOf h front.core
  header-is = front.is
