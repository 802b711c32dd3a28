use Rattle.std.proofs.Common.{inl, ◌+◌, ◌∙◌, List, Ok, map, sym, ap, arith}
use Rattle.keyed_tree.specs.View.{label_view}
use Rattle.keyed_tree.specs.declared.label.Label.{Label}
use Rattle.record_cursor.specs.View.{header_view}
use Rattle.xa_outside.specs.NumberLaws.{PullsAtMost-more}
use Rattle.xarch_words.specs.Commands.{log}
use Rattle.xarch_meanings.specs.Log.{ending_at_frontier}
use Rattle.xarch_meanings.specs.History.{front_size, history_input}
use Rattle.xarch_meanings.specs.Meanings.{MayBe}
use Rattle.xarch_parts.specs.AllowedLaws.{MayEnd-passed, defined_refused, gained-none}
use Rattle.xarch_parts.specs.FolderLaws.{caused-passed, caused-read, keeps-read, reads-inside, reads-more}
use Rattle.xarch_reads.proofs.LogEnds.{given-there, little-logged, log-given, log-caused, log-keeps, log-refused, refused-before, refused-there}
use Rattle.xarch_reads.proofs.log.run_log.Goals as goal

-- no header is read, or the path spells no labels
pub returns-in_err-header : goal.returns-in_err-header
returns-in_err-header g c = record {
  keeps = keeps-read _ _ _ _ _ (reads-more _ _ _ _ _ (omega arith) c.in_err-header.ensures.reads);
  caused = caused-passed _ _ _ _ c.from_residual.result _ c.from_residual.ensures.1 (caused-read _ _ _ _ _ c.in_err-header.ensures.reads);
  may = λ files told.
      inl (let name = c.args.archive.now in
      let path = c.args.path.now in
      let input = c.in_err-header.ensures.told files told in
      MayEnd-passed (MayBe files (log name path)) c.from_residual.result c.in_err-header.field-0.0 _ _ c.from_residual.ensures.1
      (λ q e. log-refused c.full_files_have_parts.ensures.parts c.versions_have_one_file.ensures.header files name path q (refused-before files name path q (defined_refused (history_input files name path) _ q input e))));
  by_words = tt;
  one_pass = tt;
  little = λ files held a told is of. PullsAtMost-more (16 + front_size held.rules held.versions) _ _ _ (omega arith) (c.in_err-header.ensures.few files held told is);
  gained = inl (gained-none _ _);
}

-- the path does not end at the frontier
pub returns-in_err-end_at_frontier : goal.returns-in_err-end_at_frontier
returns-in_err-end_at_frontier g c =
    let read = reads-inside _ _ _ _ c.in_ok-header.ensures.reads c.in_err-end_at_frontier.ensures.cause in
    record {
      keeps = keeps-read _ _ _ _ _ (reads-more _ _ _ _ _ (omega arith) read);
      caused = caused-passed _ _ _ _ c.from_residual-in_err-end_at_frontier.result _ c.from_residual-in_err-end_at_frontier.ensures.1 (caused-read _ _ _ _ _ read);
      may = λ files told.
          inl (let name = c.args.archive.now in
          let path = c.args.path.now in
          let h = header_view c.in_ok-header.header in
          let labels = map label_view c.deref.result.now in
          let input = c.in_ok-header.ensures.told files told ∙ ap (λ (ls : List Label). Ok ((h.rules, h.versions), map label_view ls)) (sym c.deref.ensures.value) in
          MayEnd-passed (MayBe files (log name path)) c.from_residual-in_err-end_at_frontier.result c.in_err-end_at_frontier.field-0.0 _ _ c.from_residual-in_err-end_at_frontier.ensures.1
          (λ q e. log-refused c.full_files_have_parts.ensures.parts c.versions_have_one_file.ensures.header files name path q
          (refused-there files name path (h.rules, h.versions) labels input q (defined_refused (ending_at_frontier h.rules labels) _ q c.in_err-end_at_frontier.ensures.told e))));
      by_words = tt;
      one_pass = tt;
      little = λ files held a told is of. PullsAtMost-more (16 + front_size held.rules held.versions) _ _ _ (omega arith) (c.in_ok-header.ensures.few files held told is);
      gained = inl (gained-none _ _);
    }

-- the log is written, or not
pub returns : goal.returns
returns g c =
    let f = g.F.Folder in
    let k = g.O.Sink in
    let e = c.in_ok-header.ensures in
    let name = c.args.archive.now in
    let path = c.args.path.now in
    let h = header_view c.in_ok-header.header in
    let labels = map label_view c.deref.result.now in
    record {
      keeps = log-keeps f.files f.draft f.numbers f.faults k.taken k.faults name h labels _ _ _ _ _ _ _ _ e.header e.reads e.once c.write_log.ensures;
      caused = log-caused f.files f.draft f.numbers f.faults k.taken k.faults name h labels _ _ _ _ _ _ _ _ e.header e.reads e.once c.write_log.ensures;
      may = λ files told.
          let input = e.told files told ∙ ap (λ (ls : List Label). Ok ((h.rules, h.versions), map label_view ls)) (sym c.deref.ensures.value) in
          c.write_log.ensures.may files path (e.reads.same_files ∙ told) (e.front files told) (given-there files name path (h.rules, h.versions) labels input c.in_ok-end_at_frontier.ensures.told);
      by_words = tt;
      one_pass = tt;
      little = λ files held a told is of.
          let input = e.told files told ∙ ap (λ (ls : List Label). Ok ((h.rules, h.versions), map label_view ls)) (sym c.deref.ensures.value) in
          little-logged held.rules held.versions a path labels _ _ _
          (log-given c.full_files_have_parts.ensures.parts c.versions_have_one_file.ensures.header files name path (h.rules, h.versions) labels (given-there files name path (h.rules, h.versions) labels input c.in_ok-end_at_frontier.ensures.told) held is)
          (e.few files held told is) (c.write_log.ensures.little files held a (e.reads.same_files ∙ told) (e.front files told) is of);
      gained = c.write_log.ensures.gained path;
    }

pub write_log-requires-clause-header : goal.write_log-requires-clause-header
write_log-requires-clause-header g c = c.in_ok-header.ensures.header
