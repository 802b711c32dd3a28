-- The files that are kept in memory.
use Rattle.std.specs.Prelude.{ℕ, List, map, String, string_bytes, Vec}
use Rattle.std.specs.declared.alloc.Global.{Global}
use Rattle.std.specs.FinMap as fin
use Rattle.xa_outside.specs.Folder.{Files}
use Rattle.xa_outside.specs.declared.named_files.NamedFiles.{NamedFiles}

abbrev pub named_bytes : List (String Global × Vec ℕ Global) → List (List ℕ × List ℕ)
named_bytes entries = map (λ e. (string_bytes e.0, e.1.items)) entries

abbrev pub stored_files : NamedFiles → Files
stored_files f = fin.from_entries (named_bytes f.files.entries)
