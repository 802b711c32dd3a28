use Rattle.std.proofs.Common.{inl, ◌+◌, ◌≡◌, List, Ok, map, sym, ap, ◌∙◌, arith}
use Rattle.keyed_tree.specs.View.{label_view}
use Rattle.keyed_tree.specs.declared.label.Label.{Label}
use Rattle.record_cursor.specs.View.{header_view}
use Rattle.xa_outside.specs.NumberLaws.{PullsAtMost-more}
use Rattle.xarch_words.specs.Commands.{history}
use Rattle.xarch_words.specs.Refusal.{Refusal, memory, refused}
use Rattle.xarch_meanings.specs.History.{front_size, history_input, numbers_text}
use Rattle.xarch_meanings.specs.Meanings.{MayBe}
use Rattle.xarch_parts.specs.AllowedLaws.{MayEnd-passed, MayEnd-written, defined_refused, gained-none, gained-written, tells_same}
use Rattle.xarch_parts.specs.FolderLaws.{caused-passed, caused-read, caused-written, keeps-read, reads-inside, reads-more}
use Rattle.xarch_reads.proofs.HistoryEnds.{little-read, may_refuse, may_refuse_early, may_write, searched-read}
use Rattle.xarch_reads.proofs.history.run_history.Goals as goal

-- want of memory is no refusal
no_memory : (A : Type 0) (q : Refusal) → memory ≡ refused q → A
no_memory A q e = cc

-- no header is read, or the path spells no labels
pub returns-in_err-header : goal.returns-in_err-header
returns-in_err-header g c = record {
  keeps = keeps-read _ _ _ _ _ (reads-more _ _ _ _ _ (omega arith) c.in_err-header.ensures.reads);
  caused = caused-passed _ _ _ _ c.from_residual.result _ c.from_residual.ensures.1 (caused-read _ _ _ _ _ c.in_err-header.ensures.reads);
  may = λ files told.
      inl (let input = c.in_err-header.ensures.told files told in
      MayEnd-passed (MayBe files (history c.args.archive.now c.args.path.now)) c.from_residual.result c.in_err-header.field-0.0 _ _ c.from_residual.ensures.1
      (λ q e. may_refuse_early c.full_files_have_parts.ensures.parts c.versions_have_one_file.ensures.header files c.args.archive.now c.args.path.now q (defined_refused (history_input files c.args.archive.now c.args.path.now) _ q input e)));
  by_words = tt;
  one_pass = tt;
  little = λ files held a told is of. PullsAtMost-more (16 + front_size held.rules held.versions) _ _ _ (omega arith) (c.in_err-header.ensures.few files held told is);
  gained = inl (gained-none _ _);
}

-- the search failed
pub returns-in_err-versions : goal.returns-in_err-versions
returns-in_err-versions g c = record {
  keeps = keeps-read _ _ _ _ _ (searched-read c.in_ok-header.ensures.header _ _ _ _ c.in_ok-header.ensures.reads c.in_ok-header.ensures.once c.in_err-versions.ensures.reads);
  caused = caused-passed _ _ _ _ c.from_residual-in_err-versions.result _ c.from_residual-in_err-versions.ensures.1
      (caused-read _ _ _ _ _ (searched-read c.in_ok-header.ensures.header _ _ _ _ c.in_ok-header.ensures.reads c.in_ok-header.ensures.once c.in_err-versions.ensures.reads));
  may = λ files told.
      inl (let h = header_view c.in_ok-header.header in
      let told1 = c.in_ok-header.ensures.reads.same_files ∙ told in
      let front = c.in_ok-header.ensures.front files told in
      let input = c.in_ok-header.ensures.told files told ∙ ap (λ (ls : List Label). Ok ((h.rules, h.versions), map label_view ls)) (sym c.deref.ensures.value) in
      MayEnd-passed (MayBe files (history c.args.archive.now c.args.path.now)) c.from_residual-in_err-versions.result c.in_err-versions.field-0.0 _ _ c.from_residual-in_err-versions.ensures.1
      (λ q e. may_refuse c.full_files_have_parts.ensures.parts c.versions_have_one_file.ensures.header files c.args.archive.now c.args.path.now (h.rules, h.versions) (map label_view c.deref.result.now) input q (c.in_err-versions.ensures.damaged q e)
      (λ held is. c.in_err-versions.ensures.undamaged files held told1 front is q e)));
  by_words = tt;
  one_pass = tt;
  little = λ files held a told is of.
      let h = header_view c.in_ok-header.header in
      let told1 = c.in_ok-header.ensures.reads.same_files ∙ told in
      let front = c.in_ok-header.ensures.front files told in
      let input = c.in_ok-header.ensures.told files told ∙ ap (λ (ls : List Label). Ok ((h.rules, h.versions), map label_view ls)) (sym c.deref.ensures.value) in
      little-read c.full_files_have_parts.ensures.parts c.versions_have_one_file.ensures.header files c.args.archive.now c.args.path.now (h.rules, h.versions) (map label_view c.deref.result.now) input held a _ _ _ is
      (c.in_ok-header.ensures.few files held told is) (c.in_err-versions.ensures.few files held a told1 front is of);
  gained = inl (gained-none _ _);
}

-- there is no memory for the line
pub returns-in_err-line : goal.returns-in_err-line
returns-in_err-line g c = record {
  keeps = keeps-read _ _ _ _ _ (searched-read c.in_ok-header.ensures.header _ _ _ _ c.in_ok-header.ensures.reads c.in_ok-header.ensures.once c.in_ok-versions.ensures.reads);
  caused = let read = searched-read c.in_ok-header.ensures.header _ _ _ _ c.in_ok-header.ensures.reads c.in_ok-header.ensures.once c.in_ok-versions.ensures.reads in
      caused-passed _ _ _ _ c.from_residual-in_err-line.result _ c.from_residual-in_err-line.ensures.1 (caused-read _ _ _ _ _ (reads-inside _ _ _ _ read c.in_err-line.ensures.cause));
  may = λ files told.
      inl (let command = MayBe files (history c.args.archive.now c.args.path.now) in
      MayEnd-passed command c.from_residual-in_err-line.result c.in_err-line.field-0.0 _ _ c.from_residual-in_err-line.ensures.1
      (λ q e. no_memory _ q (sym c.in_err-line.ensures.memory ∙ e)));
  by_words = tt;
  one_pass = tt;
  little = λ files held a told is of.
      let h = header_view c.in_ok-header.header in
      let told1 = c.in_ok-header.ensures.reads.same_files ∙ told in
      let front = c.in_ok-header.ensures.front files told in
      let input = c.in_ok-header.ensures.told files told ∙ ap (λ (ls : List Label). Ok ((h.rules, h.versions), map label_view ls)) (sym c.deref.ensures.value) in
      little-read c.full_files_have_parts.ensures.parts c.versions_have_one_file.ensures.header files c.args.archive.now c.args.path.now (h.rules, h.versions) (map label_view c.deref.result.now) input held a _ _ _ is
      (c.in_ok-header.ensures.few files held told is) (c.in_ok-versions.ensures.few files held a told1 front is of);
  gained = inl (gained-none _ _);
}

-- the line is written
pub returns : goal.returns
returns g c = record {
  keeps = keeps-read _ _ _ _ _ (searched-read c.in_ok-header.ensures.header _ _ _ _ c.in_ok-header.ensures.reads c.in_ok-header.ensures.once c.in_ok-versions.ensures.reads);
  caused = let read = searched-read c.in_ok-header.ensures.header _ _ _ _ c.in_ok-header.ensures.reads c.in_ok-header.ensures.once c.in_ok-versions.ensures.reads in
      caused-written _ _ _ _ _ _ read c.write_bytes.ensures.later c.write_bytes.ensures.cause;
  may = λ files told.
      inl (let h = header_view c.in_ok-header.header in
      let told1 = c.in_ok-header.ensures.reads.same_files ∙ told in
      let front = c.in_ok-header.ensures.front files told in
      let input = c.in_ok-header.ensures.told files told ∙ ap (λ (ls : List Label). Ok ((h.rules, h.versions), map label_view ls)) (sym c.deref.ensures.value) in
      MayEnd-written (MayBe files (history c.args.archive.now c.args.path.now)) (record { files = files; output = c.as_bytes.result.now }) c.write_bytes.result _ _ _ _ _
      (may_write c.full_files_have_parts.ensures.parts c.versions_have_one_file.ensures.header files c.args.archive.now c.args.path.now (h.rules, h.versions) (map label_view c.deref.result.now) input c.as_bytes.result.now
      (λ held is. c.as_bytes.ensures.value ∙ c.in_ok-line.ensures.text ∙ ap numbers_text (c.in_ok-versions.ensures.members files held told1 front is)))
      (tells_same _ files (c.in_ok-versions.ensures.reads.same_files ∙ told1)) c.write_bytes.ensures.bytes c.write_bytes.ensures.cause);
  by_words = tt;
  one_pass = tt;
  little = λ files held a told is of.
      let h = header_view c.in_ok-header.header in
      let told1 = c.in_ok-header.ensures.reads.same_files ∙ told in
      let front = c.in_ok-header.ensures.front files told in
      let input = c.in_ok-header.ensures.told files told ∙ ap (λ (ls : List Label). Ok ((h.rules, h.versions), map label_view ls)) (sym c.deref.ensures.value) in
      little-read c.full_files_have_parts.ensures.parts c.versions_have_one_file.ensures.header files c.args.archive.now c.args.path.now (h.rules, h.versions) (map label_view c.deref.result.now) input held a _ _ _ is
      (c.in_ok-header.ensures.few files held told is) (c.in_ok-versions.ensures.few files held a told1 front is of);
  gained = inl (gained-written c.write_bytes.result _ _ _ _ _ c.write_bytes.ensures.bytes c.write_bytes.ensures.cause);
}

pub versions_by-requires-clause-header : goal.versions_by-requires-clause-header
versions_by-requires-clause-header g c = c.in_ok-header.ensures.header
