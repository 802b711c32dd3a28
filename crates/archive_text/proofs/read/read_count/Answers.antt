use Rattle.std.proofs.Common.{[], map, ap, ◌∙◌, slice_get}
use Rattle.keyed_tree.specs.View.{key_view}
use Rattle.jsonml_lines.specs.Lines.{PlainLine}
use Rattle.archive_text.specs.Export.{count_line}
use Rattle.archive_text.proofs.Found.{read_fails}
use Rattle.archive_text.proofs.read.read_count.Goals as goal

pub returns-in_err-line-clause-found : goal.returns-in_err-line-clause-found
returns-in_err-line-clause-found c = λ n ls few h. read_fails [] (count_line n) ls _ _ _ c.from_residual.result c.in_err-line.field-0.0 c.from_residual.ensures.1 h c.in_err-line.ensures.found

pub returns-clause-found : goal.returns-clause-found
returns-clause-found c = λ n ls few h. (
    let read = c.in_ok-line.ensures.found (count_line n) ls h in
    let cell = ap (λ ks. slice_get (map key_view ks) 0) c.deref.ensures.value ∙ ap (λ (l : PlainLine). slice_get l.cells 0) read.0 in
    (c.number_at.ensures n few cell, read.1))
