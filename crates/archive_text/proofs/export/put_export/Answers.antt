use Rattle.std.proofs.Common.{◌≡◌, List, ℕ, [], ◌++◌, map, string_bytes, sym, ap, ◌∙◌, subst, append-nil}
use Rattle.xa_outside.specs.InMemory.{SinkState}
use Rattle.xa_outside.specs.Taken.{Takes, TakesPrefix}
use Rattle.xa_outside.specs.TakenLaws.{Puts-cut, TakesPrefix-none}
use Rattle.key_spec.specs.Canonical.{canonical}
use Rattle.key_spec.specs.Data.{PlainRule}
use Rattle.key_spec.specs.View.{spec_view}
use Rattle.archive_tree.specs.ArchiveView.{archive_view}
use Rattle.archive_tree.specs.Data.{PlainNodes}
use Rattle.jsonml_lines.specs.Lines.{line_text}
use Rattle.archive_text.specs.Export.{count_line, end_line, export_text, key_line, lines_text, nodes_lines, note_lines}
use Rattle.archive_text.specs.Texts.{text_lines}
use Rattle.archive_text.proofs.Chains.{two, whole_is}
use Rattle.archive_text.proofs.export.put_export.Goals as goal

abbrev count : ℕ → List ℕ
count n = line_text (count_line n)

abbrev keys : List PlainRule → List ℕ
keys rules = lines_text (map key_line (text_lines (canonical rules)))

abbrev noted : List (List ℕ) → List ℕ
noted notes = lines_text (note_lines 1 notes)

abbrev kids : PlainNodes → List ℕ
kids ks = lines_text (nodes_lines ks) ++ line_text end_line

abbrev head : ℕ → List PlainRule → List (List ℕ) → List ℕ
head n rules notes = count n ++ (keys rules ++ noted notes)

pub returns-in_err-put_head-clause-bytes : goal.returns-in_err-put_head-clause-bytes
returns-in_err-put_head-clause-bytes g c =
    let text = export_text (spec_view c.args.spec.now) (archive_view c.args.archive.now) (map string_bytes c.args.notes.now) in
    Puts-cut _ _ c.from_residual.result text text [] (sym (append-nil text)) c.from_residual.ensures.0 (TakesPrefix-none _ text)

pub returns-in_err-put_all-clause-bytes : goal.returns-in_err-put_all-clause-bytes
returns-in_err-put_all-clause-bytes g c =
    let a = archive_view c.args.archive.now in
    let rules = spec_view c.args.spec.now in
    let notes = map string_bytes c.args.notes.now in
    let text : c.taken.result.now ≡ head a.n rules notes = c.taken.ensures ∙ (rw c.n.ensures at c.in_ok-put_head.ensures) ∙ ap (λ (s : SinkState). s.taken ++ head a.n rules notes) c.new-head.ensures in
    Puts-cut _ _ c.from_residual-in_err-put_all.result _ (head a.n rules notes) (kids a.kids) (whole_is (count a.n) (keys rules) (noted notes) (kids a.kids)) c.from_residual-in_err-put_all.ensures.0
    (subst (λ (l : List ℕ). TakesPrefix (g.K.Sink.taken c.args.out.now) (g.K.Sink.taken c.put_all.new.sink) l) text c.in_err-put_all.ensures.bytes)

pub returns-clause-bytes : goal.returns-clause-bytes
returns-clause-bytes g c =
    let a = archive_view c.args.archive.now in
    let rules = spec_view c.args.spec.now in
    let notes = map string_bytes c.args.notes.now in
    let text : c.taken.result.now ≡ head a.n rules notes = c.taken.ensures ∙ (rw c.n.ensures at c.in_ok-put_head.ensures) ∙ ap (λ (s : SinkState). s.taken ++ head a.n rules notes) c.new-head.ensures in
    two c.put_kids.result _ _ _ _ (head a.n rules notes) (kids a.kids) (whole_is (count a.n) (keys rules) (noted notes) (kids a.kids))
    (subst (λ (l : List ℕ). Takes (g.K.Sink.taken c.args.out.now) (g.K.Sink.taken c.put_all.new.sink) l) text c.in_ok-put_all.ensures.bytes) (rw c.kids.ensures.nodes at c.put_kids.ensures.bytes)
