use Rattle.std.proofs.Common.{◌≡◌, ◌++◌, ◌∷◌, [], ℕ, List, Option, Ok, IfErr, Result, sym, ap, subst, ◌∙◌}
use Rattle.xa_outside.specs.Folder.{Files}
use Rattle.xa_outside.specs.Numbers.{Numbers}
use Rattle.version_set.specs.Members.{upto_pairs}
use Rattle.version_set.specs.View.{pairs_of}
use Rattle.key_spec.specs.Data.{PlainRule}
use Rattle.key_spec.specs.View.{spec_view}
use Rattle.archive_tree.specs.Data.{PlainArchive, PlainNodes}
use Rattle.record_format.specs.Files.{header_bytes}
use Rattle.record_format.specs.Shapes.{AreShapedNodes}
use Rattle.record_writer.specs.Calls.{started}
use Rattle.record_writer.specs.Data.{PlainWriter, call_finish}
use Rattle.record_writer.specs.Faults.{Appends}
use Rattle.record_writer.specs.View.{writer_view}
use Rattle.record_writer.specs.Walks.{row_calls, walk_of}
use Rattle.record_writer.specs.declared.fault.WriteFault.{WriteFault}
use Rattle.spelled_archive.specs.ArchiveView.{spelled_archive_view}
use Rattle.spelled_archive.specs.View.{nodes_view}
use Rattle.archive_rekey.specs.Drafted.{Called, Drafted, IfTooLong}
use Rattle.archive_rekey.proofs.Calling.{at-err, called-as}
use Rattle.archive_rekey.proofs.WrittenFile.{HasNone, IsFileOf, file-drafted, header-failed, never-long, none-by}
use Rattle.archive_rekey.proofs.write.write_spelled.Goals as goal

pub returns-in_err-writer-clause-drafted : goal.returns-in_err-writer-clause-drafted
returns-in_err-writer-clause-drafted g c =
    let f = g.F.Folder in
    let rules = spec_view c.args.spec.now in
    let a = spelled_archive_view c.args.archive.now in
    let e = c.in_err-writer.ensures in
    let fault = c.in_err-writer.field-0.0 in
    at-err c.from_residual.result fault c.from_residual.ensures.1 (λ r. Drafted f.files f.draft f.numbers f.faults c.args.folder.now c.start.new.folder (IsFileOf rules a) r)
    (header-failed c.args.folder.now c.start.new.folder (header_bytes rules c.n.result) (IsFileOf rules a) fault (g.met.F.Folder.metered c.args.folder.now) e.folder)

pub returns-in_err-writer-clause-too_long : goal.returns-in_err-writer-clause-too_long
returns-in_err-writer-clause-too_long g c =
    let rules = spec_view c.args.spec.now in
    let a = spelled_archive_view c.args.archive.now in
    let e = c.in_err-writer in
    at-err c.from_residual.result e.field-0.0 c.from_residual.ensures.1 (λ r. IfErr r (λ f. IfTooLong f (HasNone rules a))) (never-long e.field-0.0 (HasNone rules a) e.ensures.never_too_long)

pub write_root-requires : goal.write_root-requires
write_root-requires g c =
    let s = c.in_ok-writer.ensures.started in
    let kids = c.requires.shaped.kids in
    record {
      no_leaf = ap (λ (w : PlainWriter). w.leaf) s;
      no_inner = ap (λ (w : PlainWriter). w.inners) s;
      shaped = subst AreShapedNodes (sym c.kids.ensures) kids;
    }

-- what was called behind the header
module _ {S : Type 0} {files : S → Option Files} {draft : S → Option (List ℕ)} {numbers : S → Numbers} {faults : S → ℕ} where
  walked : (rules : List PlainRule) (a : PlainArchive) (n : ℕ) (old new : S) (v z : PlainWriter) (q : List (ℕ × ℕ)) (ks : PlainNodes) (r : Result (Unit {0}) WriteFault) → n ≡ a.n → v ≡ started rules n → q ≡ upto_pairs n → ks ≡ a.kids
      → Called files draft numbers faults (row_calls q ks ++ call_finish ∷ []) old new v z r → Called files draft numbers faults (walk_of a) old new (started rules a.n) z r
  walked rules a n old new v z q ks r count start all kids h =
      subst (λ (w : PlainWriter). Called files draft numbers faults (walk_of a) old new w z r) (start ∙ ap (started rules) count)
      (called-as _ (walk_of a) old new v z r (λ i. row_calls (sym (all ∙ ap upto_pairs count) i) (sym kids i) ++ call_finish ∷ []) h)

pub returns-clause-drafted : goal.returns-clause-drafted
returns-clause-drafted g c =
    let f = g.F.Folder in
    let rules = spec_view c.args.spec.now in
    let a = spelled_archive_view c.args.archive.now in
    let i = c.in_ok-writer in
    let e = i.ensures in
    let head = subst (λ (k : ℕ). Appends f.files f.draft f.numbers f.faults c.args.folder.now c.start.new.folder (header_bytes rules k) (Ok i.writer)) c.n.ensures e.folder in
    file-drafted rules a e.short c.requires.shaped c.args.folder.now c.start.new.folder c.write_root.new.folder _ i.writer c.write_root.result (g.met.F.Folder.metered c.args.folder.now) head
    (walked rules a c.n.result c.start.new.folder c.write_root.new.folder (writer_view i.writer) _ (pairs_of c.upto-all.result) (nodes_view c.kids.result.now) c.write_root.result c.n.ensures e.started (c.upto-all.ensures.pairs ∙ ap upto_pairs (c.n-2.ensures ∙ sym c.n.ensures)) c.kids.ensures c.write_root.ensures)

pub returns-clause-too_long : goal.returns-clause-too_long
returns-clause-too_long g c =
    let rules = spec_view c.args.spec.now in
    let a = spelled_archive_view c.args.archive.now in
    let i = c.in_ok-writer in
    let e = i.ensures in
    let h = walked rules a c.n.result c.start.new.folder c.write_root.new.folder (writer_view i.writer) _ (pairs_of c.upto-all.result) (nodes_view c.kids.result.now) c.write_root.result c.n.ensures e.started (c.upto-all.ensures.pairs ∙ ap upto_pairs (c.n-2.ensures ∙ sym c.n.ensures)) c.kids.ensures c.write_root.ensures in
    none-by rules a e.short c.requires.shaped c.write_root.result h.fit
