-- The plain data that each line stands for.
use Rattle.std.specs.Prelude.{map, string_bytes}
use Rattle.keyed_tree.specs.View.{key_view}
use Rattle.jsonml_lines.specs.Lines.{PlainLine}
use Rattle.jsonml_lines.specs.declared.line.Line.{Line}

abbrev pub line_view : Line → PlainLine
line_view l = record { word = string_bytes l.word; cells = map key_view l.cells.items }
