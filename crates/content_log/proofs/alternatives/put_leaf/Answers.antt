use Rattle.std.proofs.Common.{◌≡◌, List, ℕ, ap, ◌∙◌}
use Rattle.file_rows.specs.View.{child_view}
use Rattle.record_cursor.specs.Places.{among_nodes}
use Rattle.record_cursor.specs.View.{PlainCursor, header_view}
use Rattle.content_log.specs.Written.{Seen, seen, LeafWritten}
use Rattle.content_log.specs.declared.fault.LogFault.TheVariants.{Memory}
use Rattle.content_log.proofs.Entering.{at-err}
use Rattle.content_log.proofs.LeafWrites.{leaf-unread, leaf-read}
use Rattle.content_log.proofs.alternatives.put_leaf.Given.{Over}
use Rattle.content_log.proofs.alternatives.put_leaf.Goals as goal

abbrev at : (g : Over) → g.row.F.Denot → g.row.K.Denot → Seen
at g a b = (let f = g.F.Folder in let k = g.K.Sink in seen f.files f.draft f.numbers f.faults k.taken k.faults a b)

pub returns-in_err-cursor : goal.returns-in_err-cursor
returns-in_err-cursor g c =
    let a = c.args in
    let s = at g a.folder.now a.sink.now in
    at-err c.from_residual.result Memory c.from_residual.ensures.1 (λ e. LeafWritten a.name.now a.tag.now (header_view a.header.now).length a.leaf.now s s e) (leaf-unread a.name.now a.tag.now (header_view a.header.now).length a.leaf.now s (g.met.F.Folder.metered a.folder.now))

pub returns : goal.returns
returns g c =
    let a = c.args in
    let child = child_view a.leaf.now.child in
    let named : c.in_ok-cursor.cursor.name ≡ a.name.now = ap (λ (x : PlainCursor). x.name) c.in_ok-cursor.ensures in
    leaf-read a.name.now a.tag.now (header_view a.header.now).length a.leaf.now c.seek.new.self (at g a.folder.now a.sink.now) _ _
    (c.seek.ensures ∙ ap (λ (n : List ℕ). record { name = n; length = child.end; standing = among_nodes 0; at = child.first }) named) c.requires.within c.put_records.ensures
