-- The text with its first bytes beside it.
use Rattle.std.specs.Prelude.{ℕ, List}
use Rattle.key_annotate.specs.declared.fronted.Fronted.{Fronted}

abbrev pub fronted_text : Fronted → List ℕ
fronted_text f = f.text.now
