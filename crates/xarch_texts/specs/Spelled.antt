-- What a text makes a file of.
use Rattle.std.specs.Prelude.{ℕ, List, ◌++◌}
use Rattle.key_spec.specs.Data.{PlainRule}
use Rattle.keyed_tree.specs.Data.{PlainKeyed}
use Rattle.version_notes.specs.Notes.{notes_part}
use Rattle.noted_file.specs.Full.{FullAs}
use Rattle.archive_text.specs.Export.{ExportOf}

-- The bytes are the text of the archive that the core and the notes behind it are.
pub record IsFileOf (bytes core : List ℕ) (notes : List (List ℕ)) : Type 0 where
  pub rules : List PlainRule
  pub versions : List PlainKeyed
  pub spelled : ExportOf (record { rules = rules; versions = versions; notes = notes }) bytes
  pub full : FullAs (record { rules = rules; versions = versions; notes = notes }) (core ++ notes_part notes)
