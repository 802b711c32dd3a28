use Rattle.std.proofs.Common.{◌≡◌, ◌-◌, ◌+◌, Result, Ok, sym, ◌∙◌, subst, arith}
use Rattle.jsonml_tree.specs.LentView.{lent_tree_view}
use Rattle.key_annotate.specs.LentView.{lent_view}
use Rattle.record_cursor.specs.View.{header_view}
use Rattle.key_annotate.specs.DocumentTexts.{keyed-texts}
use Rattle.xarch_words.specs.View.{fault_view}
use Rattle.xarch_parts.specs.EndLaws.{IsDefined-here, IsDefined-next, and_then-Ok}
use Rattle.xarch_parts.specs.Ends.{fault_of}
use Rattle.xarch_parts.specs.FolderLaws.{caused-inside, caused-passed}
use Rattle.xarch_parts.specs.Noted.{notes_bytes}
use Rattle.xarch_parts.specs.Readings.{document_of, keyed_of}
use Rattle.xarch_meanings.specs.Add.{tree_of}
use Rattle.xarch_writes.specs.Added.{Merges}
use Rattle.keyed_tree.specs.Data.{PlainKeyed}
use Rattle.stream_merge.specs.Short.{IsShortTree}
use Rattle.xarch_words.specs.Refusal.{Refusal}
use Rattle.xarch_writes.proofs.FullEnds.{limited-passed}
use Rattle.xarch_writes.proofs.MergeEnds.{merges-stopped, streams-none}
use Rattle.xarch_writes.proofs.add.add_text.Goals as goal
use Rattle.xarch_meanings.proofs.Limited.{limited-given}

-- ---- the bytes spell no document

pub returns-in_err-doc-clause-streams : goal.returns-in_err-doc-clause-streams
returns-in_err-doc-clause-streams g c = (let h = header_view c.args.front.now.header in streams-none (h.length - h.first + notes_bytes c.args.front.now.parts.notes) c.args.folder.now (fault_of c.from_residual.result) (g.met.F.Folder.metered c.args.folder.now))

pub returns-in_err-doc-clause-caused : goal.returns-in_err-doc-clause-caused
returns-in_err-doc-clause-caused g c = λ out. caused-passed _ _ _ _ c.from_residual.result _ c.from_residual.ensures.1 (caused-inside _ _ _ _ (omega arith) c.in_err-doc.ensures.cause)

pub returns-in_err-doc-clause-merges : goal.returns-in_err-doc-clause-merges
returns-in_err-doc-clause-merges g c = λ files told are front.
    let f = g.F.Folder in
    let h = header_view c.args.front.now.header in
    let v = fault_view c.in_err-doc.field-0.0 in
    merges-stopped files c.args.archive.now h (tree_of h.rules c.args.text.now) c.args.note.now (f.files c.args.folder.now) (f.numbers c.args.folder.now) c.from_residual.result c.in_err-doc.field-0.0 c.from_residual.ensures.1
    (IsDefined-here (document_of c.args.text.now) (keyed_of h.rules) v c.in_err-doc.ensures.told)

-- ---- the document does not satisfy the keys

pub returns-in_err-keyed-clause-streams : goal.returns-in_err-keyed-clause-streams
returns-in_err-keyed-clause-streams g c = (let h = header_view c.args.front.now.header in streams-none (h.length - h.first + notes_bytes c.args.front.now.parts.notes) c.args.folder.now (fault_of c.from_residual-in_err-keyed.result) (g.met.F.Folder.metered c.args.folder.now))

pub returns-in_err-keyed-clause-caused : goal.returns-in_err-keyed-clause-caused
returns-in_err-keyed-clause-caused g c = λ out. caused-passed _ _ _ _ c.from_residual-in_err-keyed.result _ c.from_residual-in_err-keyed.ensures.1 (caused-inside _ _ _ _ (omega arith) c.in_err-keyed.ensures.cause)

pub returns-in_err-keyed-clause-merges : goal.returns-in_err-keyed-clause-merges
returns-in_err-keyed-clause-merges g c = λ files told are front.
    let f = g.F.Folder in
    let h = header_view c.args.front.now.header in
    let v = fault_view c.in_err-keyed.field-0.0 in
    merges-stopped files c.args.archive.now h (tree_of h.rules c.args.text.now) c.args.note.now (f.files c.args.folder.now) (f.numbers c.args.folder.now) c.from_residual-in_err-keyed.result c.in_err-keyed.field-0.0 c.from_residual-in_err-keyed.ensures.1
    (IsDefined-next (document_of c.args.text.now) (keyed_of h.rules) (lent_tree_view c.in_ok-doc.doc) v c.in_ok-doc.ensures.told c.in_err-keyed.ensures.told)

-- ---- the archive is merged

pub add_tree-requires : goal.add_tree-requires
add_tree-requires g c =
    let h = header_view c.args.front.now.header in
    let doc = c.in_ok-doc.ensures in
    let stands = c.in_ok-keyed.ensures.stands in
    record {
      note = c.requires.note;
      keyed = record { document = lent_tree_view c.in_ok-doc.doc; element = doc.element; well_formed = doc.well_formed; shallow = doc.shallow; satisfies = stands.satisfies; stands = stands.keyed };
      texts = keyed-texts h.rules (lent_tree_view c.in_ok-doc.doc) (lent_view c.in_ok-keyed.keyed) doc.texts stands.keyed;
      blank = c.requires.blank;
    }

pub returns-clause-merges : goal.returns-clause-merges
returns-clause-merges g c = λ files told are front.
    let f = g.F.Folder in
    let h = header_view c.args.front.now.header in
    let tree = and_then-Ok (document_of c.args.text.now) (keyed_of h.rules) (lent_tree_view c.in_ok-doc.doc) (Ok (lent_view c.in_ok-keyed.keyed)) c.in_ok-doc.ensures.told c.in_ok-keyed.ensures.told in
    subst (λ x. Merges files c.args.archive.now h x c.args.note.now (f.files c.add_tree.new.folder) (f.numbers c.args.folder.now) (f.numbers c.add_tree.new.folder) (fault_of c.add_tree.result)) (sym tree) (c.add_tree.ensures.merges files told are front)

-- ---- a limit

pub returns-in_err-doc-clause-fills : goal.returns-in_err-doc-clause-fills
returns-in_err-doc-clause-fills g c = λ tree b is room limited.
    let h = header_view c.args.front.now.header in
    let v = fault_view c.in_err-doc.field-0.0 in
    absurd (limited-given (tree_of h.rules c.args.text.now) tree v (IsDefined-here (document_of c.args.text.now) (keyed_of h.rules) v c.in_err-doc.ensures.told) is (limited-passed c.from_residual.result c.in_err-doc.field-0.0 c.from_residual.ensures.1 limited))

pub returns-in_err-keyed-clause-fills : goal.returns-in_err-keyed-clause-fills
returns-in_err-keyed-clause-fills g c = λ tree b is room limited.
    let h = header_view c.args.front.now.header in
    let v = fault_view c.in_err-keyed.field-0.0 in
    let r = c.from_residual-in_err-keyed in
    absurd (limited-given (tree_of h.rules c.args.text.now) tree v (IsDefined-next (document_of c.args.text.now) (keyed_of h.rules) (lent_tree_view c.in_ok-doc.doc) v c.in_ok-doc.ensures.told c.in_err-keyed.ensures.told) is
    (limited-passed r.result c.in_err-keyed.field-0.0 r.ensures.1 limited))

pub returns-clause-fills : goal.returns-clause-fills
returns-clause-fills g c = λ tree b is room limited file short.
    let h = header_view c.args.front.now.header in
    let k = lent_view c.in_ok-keyed.keyed in
    let own = and_then-Ok (document_of c.args.text.now) (keyed_of h.rules) (lent_tree_view c.in_ok-doc.doc) (Ok k) c.in_ok-doc.ensures.told c.in_ok-keyed.ensures.told in
    let same : ◌≡◌ {A = Result PlainKeyed Refusal} (Ok tree) (Ok k) = sym is ∙ own in
    let trees : tree ≡ k = cc in
    c.add_tree.ensures.fills b room limited file (subst (IsShortTree b) trees short)
