use Rattle.std.proofs.Common.{[], ◌++◌, sym, ◌∙◌}
use Rattle.key_spec.specs.Canonical.{canonical}
use Rattle.archive_text.specs.Texts.{text_lines}
use Rattle.archive_text.proofs.Found.{hands_on}
use Rattle.archive_text.proofs.ReadParts.{key_lines, later_lines, behind_keys, behind_notes, rules_again, short_again, keys_lie, notes_lie, nodes_lie}
use Rattle.archive_text.proofs.read.read_parts.Goals as goal

pub returns-in_err-n : goal.returns-in_err-n
returns-in_err-n c = λ rules vs a notes is p.
    hands_on _ _ c.from_residual.result c.in_err-n.field-0.0 c.from_residual.ensures.1 (c.in_err-n.ensures.found a.n (key_lines rules ++ later_lines a notes) p.few p.lines)

pub returns-in_err-spec : goal.returns-in_err-spec
returns-in_err-spec c = λ rules vs a notes is p. (
    let count = c.in_ok-n.ensures.found a.n (key_lines rules ++ later_lines a notes) p.few p.lines in
    let b = behind_keys a notes in
    hands_on _ _ c.from_residual-in_err-spec.result c.in_err-spec.field-0.0 c.from_residual-in_err-spec.ensures.1
    (c.in_err-spec.ensures.found rules (text_lines (canonical rules)) b.first b.others (rules_again _ _ _ _ p) (short_again _ _ _ _ p) b.other (keys_lie rules a notes _ count.1)))

pub returns-in_err-notes : goal.returns-in_err-notes
returns-in_err-notes c = λ rules vs a notes is p. (
    let count = c.in_ok-n.ensures.found a.n (key_lines rules ++ later_lines a notes) p.few p.lines in
    let b = behind_keys a notes in
    let spec = c.in_ok-spec.ensures.found rules (text_lines (canonical rules)) b.first b.others (rules_again _ _ _ _ p) (short_again _ _ _ _ p) b.other (keys_lie rules a notes _ count.1) in
    let d = behind_notes a in
    hands_on _ _ c.from_residual-in_err-notes.result c.in_err-notes.field-0.0 c.from_residual-in_err-notes.ensures.1
    (c.in_err-notes.ensures.found notes d.first d.others (p.as_many ∙ sym count.0) d.other (notes_lie a notes _ spec.1)))

pub returns-in_err-archive : goal.returns-in_err-archive
returns-in_err-archive c = λ rules vs a notes is p. (
    let count = c.in_ok-n.ensures.found a.n (key_lines rules ++ later_lines a notes) p.few p.lines in
    let b = behind_keys a notes in
    let spec = c.in_ok-spec.ensures.found rules (text_lines (canonical rules)) b.first b.others (rules_again _ _ _ _ p) (short_again _ _ _ _ p) b.other (keys_lie rules a notes _ count.1) in
    let d = behind_notes a in
    let noted = c.in_ok-notes.ensures.found notes d.first d.others (p.as_many ∙ sym count.0) d.other (notes_lie a notes _ spec.1) in
    hands_on _ _ c.from_residual-in_err-archive.result c.in_err-archive.field-0.0 c.from_residual-in_err-archive.ensures.1
    (c.in_err-archive.ensures vs a [] (sym count.0) is p.kids (nodes_lie a _ noted.1)))

pub returns : goal.returns
returns c = λ rules vs a notes is p. (
    let count = c.in_ok-n.ensures.found a.n (key_lines rules ++ later_lines a notes) p.few p.lines in
    let b = behind_keys a notes in
    let spec = c.in_ok-spec.ensures.found rules (text_lines (canonical rules)) b.first b.others (rules_again _ _ _ _ p) (short_again _ _ _ _ p) b.other (keys_lie rules a notes _ count.1) in
    let d = behind_notes a in
    let noted = c.in_ok-notes.ensures.found notes d.first d.others (p.as_many ∙ sym count.0) d.other (notes_lie a notes _ spec.1) in
    (spec.0, c.in_ok-archive.ensures vs a [] (sym count.0) is p.kids (nodes_lie a _ noted.1), noted.0))
