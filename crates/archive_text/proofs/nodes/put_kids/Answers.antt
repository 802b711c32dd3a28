use Rattle.std.proofs.Common.{◌++◌, List, ℕ, ap}
use Rattle.xa_outside.proofs.Output.{Puts-cut}
use Rattle.jsonml_lines.specs.Lines.{line_text}
use Rattle.archive_text.specs.Export.{end_line}
use Rattle.archive_text.proofs.Chains.{two}
use Rattle.archive_text.proofs.LineLaws.{nodes_text}
use Rattle.archive_text.proofs.nodes.put_kids.Goals as goal

pub returns-in_err-put_nodes-clause-bytes : goal.returns-in_err-put_nodes-clause-bytes
returns-in_err-put_nodes-clause-bytes g c = Puts-cut _ _ c.from_residual.result _ _ (line_text end_line) (ap (λ (l : List ℕ). l ++ line_text end_line) (nodes_text c.args.nodes.now)) c.from_residual.ensures.0 c.in_err-put_nodes.ensures.bytes

pub returns-clause-bytes : goal.returns-clause-bytes
returns-clause-bytes g c = two c.put_node_end.result _ _ _ _ _ (line_text end_line) (ap (λ (l : List ℕ). l ++ line_text end_line) (nodes_text c.args.nodes.now)) c.in_ok-put_nodes.ensures.bytes c.put_node_end.ensures.bytes
