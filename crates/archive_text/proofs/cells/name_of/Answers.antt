use Rattle.std.proofs.Common.{ap, ◌∙◌, lit<}
use Rattle.std.proofs.lemmas.Str.Pattern.{strip_prefix_char}
use Rattle.keyed_tree.specs.Data.{tag}
use Rattle.archive_text.proofs.OneNode.{name_none}
use Rattle.archive_text.proofs.cells.name_of.Goals as goal

pub returns-in_ok-from_str-in-None : goal.returns-in_ok-from_str-in-None
returns-in_ok-from_str-in-None c = λ n h e.
    let none = strip_prefix_char 64 c.args.text.now c.strip_prefix.result c.strip_prefix.ensures.cases (lit< tt) in
    ap tag c.in_ok-from_str-in-None.ensures.ok ∙ name_none n c.args.text.now e (rw c.in-None.is at none)
