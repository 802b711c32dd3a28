-- What holds of the calls of printers.
use Rattle.std.specs.Prelude.{◌≡◌}
use Rattle.jsonml_tree.specs.Data.{PlainTree}
use Rattle.jsonml_tree.specs.Fits.{IsElement}
use Rattle.jsonml_print.specs.Printed.{tree_text}
use Rattle.jsonml_print.specs.Pen.{fresh}
use Rattle.jsonml_print.specs.Calls.{printed, AllMayCome, calls_of}

-- the calls that walk an element print its text
abbrev pub CallsPrint : PlainTree → Type 0
CallsPrint t = IsElement t → printed fresh (calls_of t) ≡ tree_text t

-- each of them may come
abbrev pub CallsMayCome : PlainTree → Type 0
CallsMayCome t = IsElement t → AllMayCome fresh (calls_of t)
