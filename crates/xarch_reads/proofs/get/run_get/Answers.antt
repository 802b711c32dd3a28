use Rattle.std.proofs.Common.{inl, ◌∙◌, take, refl, arith}
use Rattle.xa_outside.specs.NumberLaws.{PullsAtMost-more}
use Rattle.xarch_words.specs.Commands.{get}
use Rattle.xarch_words.specs.View.{fault_view}
use Rattle.xarch_parts.specs.CoreLaws.{of-parts}
use Rattle.xarch_parts.specs.AllowedLaws.{MayEnd-passed, gained-none}
use Rattle.xarch_parts.specs.FolderLaws.{caused-passed, caused-read, keeps-read, reads-more}
use Rattle.xarch_meanings.specs.Meanings.{MayBe}
use Rattle.xarch_reads.proofs.GetEnds.{absent-parts, get-caused, get-keeps, get-little}
use Rattle.xarch_reads.proofs.get.run_get.Goals as goal

-- the file is not there
pub returns-in_err-parts : goal.returns-in_err-parts
returns-in_err-parts g c = record {
  keeps = keeps-read _ _ _ _ _ (reads-more 16 _ _ _ _ (omega arith) c.in_err-parts.ensures.reads);
  caused = caused-passed _ _ _ _ c.from_residual.result _ c.from_residual.ensures.1 (caused-read _ _ _ _ _ c.in_err-parts.ensures.reads);
  may = λ files told.
      inl (MayEnd-passed (MayBe files (get c.args.archive.now c.args.version)) c.from_residual.result c.in_err-parts.field-0.0 _ _ c.from_residual.ensures.1
      (absent-parts c.full_files_have_parts.ensures.parts files c.args.archive.now c.args.version (fault_view c.in_err-parts.field-0.0) (c.in_err-parts.ensures.told files told)));
  by_words = tt;
  one_pass = tt;
  little = λ files held a told is of. PullsAtMost-more 16 _ _ _ (omega arith) c.in_err-parts.ensures.reads.pulls;
  gained = inl (gained-none _ _);
}

-- the version is written, or not
pub returns : goal.returns
returns g c = record {
  keeps = let f = g.F.Folder in
      let k = g.O.Sink in
      let within = c.in_ok-parts.ensures.within.within in
      get-keeps f.files f.draft f.numbers f.faults k.taken k.faults c.args.archive.now c.in_ok-parts.parts.core c.args.version _ _ _ _ _ _ c.in_ok-parts.ensures.reads c.write_version.ensures _ (omega (arith, within));
  caused = let f = g.F.Folder in
      let k = g.O.Sink in
      get-caused f.files f.draft f.numbers f.faults k.taken k.faults c.args.archive.now c.in_ok-parts.parts.core c.args.version _ _ _ _ _ _ c.in_ok-parts.ensures.reads c.write_version.ensures;
  may = λ files told.
      let parts = c.in_ok-parts.parts in
      let p = c.in_ok-parts.ensures.are files told in
      c.write_version.ensures.may files (take parts.core p.bytes) (c.in_ok-parts.ensures.reads.same_files ∙ told) (of-parts files c.args.archive.now parts p);
  by_words = tt;
  one_pass = tt;
  little = let f = g.F.Folder in
      let k = g.O.Sink in
      get-little f.files f.draft f.numbers f.faults k.taken k.faults c.args.archive.now c.in_ok-parts.parts.core c.args.version _ _ _ _ _ _ c.in_ok-parts.ensures.reads c.write_version.ensures c.in_ok-parts.parts refl c.in_ok-parts.ensures.are;
  gained = c.write_version.ensures.gained;
}
