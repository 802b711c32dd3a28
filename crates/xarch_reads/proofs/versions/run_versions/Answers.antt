use Rattle.std.proofs.Common.{inl, ◌≡◌, ◌∙◌, arith}
use Rattle.record_cursor.specs.View.{header_view}
use Rattle.xarch_words.specs.Commands.{versions}
use Rattle.xarch_words.specs.Refusal.{Refusal, memory, refused}
use Rattle.xarch_meanings.specs.Meanings.{MayBe}
use Rattle.xarch_meanings.specs.Versions.{versions_input}
use Rattle.xarch_parts.specs.Ends.{IsInside}
use Rattle.xarch_parts.specs.AllowedLaws.{MayEnd-passed, MayEnd-stopped, defined_refused, gained-none}
use Rattle.xarch_parts.specs.FolderLaws.{caused-passed, caused-read, keeps-read, reads-inside, reads-more}
use Rattle.xarch_reads.proofs.ListEnds.{list-caused, list-ends, list-gained, list-keeps, may_refuse_early}
use Rattle.xarch_reads.proofs.versions.run_versions.Goals as goal

-- want of memory is no refusal
no_memory : (A : Type 0) (q : Refusal) → memory ≡ refused q → A
no_memory A q e = cc

-- no header is read
pub returns-in_err-front : goal.returns-in_err-front
returns-in_err-front g c = record {
  keeps = keeps-read _ _ _ _ _ (reads-more _ _ _ _ _ (omega arith) c.in_err-front.ensures.reads);
  caused = caused-passed _ _ _ _ c.from_residual.result _ c.from_residual.ensures.1 (caused-read _ _ _ _ _ c.in_err-front.ensures.reads);
  may = λ files told.
      inl (MayEnd-passed (MayBe files (versions c.args.archive.now)) c.from_residual.result c.in_err-front.field-0.0 _ _ c.from_residual.ensures.1
      (λ q e. may_refuse_early c.full_files_have_parts.ensures.parts c.versions_have_one_file.ensures.header c.full_files_are_read_note_by_note.ensures.come files c.args.archive.now q
      (defined_refused (versions_input files c.args.archive.now) _ q (c.in_err-front.ensures.told files told) e)));
  by_words = tt;
  one_pass = tt;
  little = tt;
  gained = inl (gained-none _ _);
}

-- there is no memory for a reader
pub returns : goal.returns
unfolding IsInside
returns g c = record {
  keeps = keeps-read _ _ _ _ _ (reads-more _ _ _ _ _ (omega arith) c.in_ok-front.ensures.reads);
  caused = caused-read _ _ _ _ _ (reads-inside _ _ _ _ c.in_ok-front.ensures.reads tt);
  may = λ files told. inl (MayEnd-stopped (MayBe files (versions c.args.archive.now)) memory _ _ (λ q e. no_memory _ q e));
  by_words = tt;
  one_pass = tt;
  little = tt;
  gained = inl (gained-none _ _);
}

-- the versions are listed, or not
pub returns-in-Ok : goal.returns-in-Ok
returns-in-Ok g c =
    let f = c.in_ok-front.ensures in
    let h = header_view c.in_ok-front.front.header in
    let parts = c.in_ok-front.front.parts in
    let name = c.args.archive.now in
    let l = rw c.in-Ok.ensures at c.list_versions.ensures in
    let within = c.in_ok-front.front.heads.within in
    let core = c.in_ok-front.front.core in
    record {
      keeps = list-keeps g.F.Folder.files g.F.Folder.draft g.F.Folder.numbers g.F.Folder.faults g.O.Sink.taken g.O.Sink.faults name parts h.versions h.first _ _ _ _ _ _ _ _ f.reads f.once (omega (arith, within, core)) f.within l;
      caused = list-caused g.F.Folder.files g.F.Folder.draft g.F.Folder.numbers g.F.Folder.faults g.O.Sink.taken g.O.Sink.faults name parts h.versions h.first _ _ _ _ _ _ _ _ f.reads f.once (omega (arith, within, core)) f.within l;
      may = λ files told.
          let told1 = f.reads.same_files ∙ told in
          list-ends c.full_files_have_parts.ensures.parts c.versions_have_one_file.ensures.header c.full_files_are_read_note_by_note.ensures.come files name (h.rules, h.versions) (f.told files told) parts (f.front files told).0 _ (l.same_files ∙ told1) _ _ l.gained _ (l.ends files told1);
      by_words = tt;
      one_pass = tt;
      little = tt;
      gained = list-gained name _ _ _ l.only l.gained;
    }
