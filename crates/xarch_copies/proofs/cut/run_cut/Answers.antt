use Rattle.std.proofs.Common.{inl, ◌≡◌, ◌+◌, ℕ, List, refl, sym, ap, ◌∙◌, subst, arith}
use Rattle.archive_cut.specs.Cut.{Overfull}
use Rattle.key_spec.specs.Data.{PlainRule}
use Rattle.record_cursor.specs.View.{header_view}
use Rattle.xarch_words.specs.Commands as command
use Rattle.xarch_words.specs.Refusal.{folder_fault}
use Rattle.xarch_words.specs.View.{fault_view}
use Rattle.xarch_parts.specs.AllowedLaws.{MayEnd-folder, MayEnd-passed, defined_refused, gained-none, passed-fault}
use Rattle.xarch_parts.specs.Ends.{fault_of}
use Rattle.xarch_parts.specs.FolderLaws.{caused-begin, caused-begun, caused-passed, caused-then, sized, streams-begun, streams-made, streams-not_begun}
use Rattle.xarch_parts.specs.Inputs.{size_in}
use Rattle.xarch_meanings.specs.Meanings.{IsLimited, MayBe}
use Rattle.xarch_meanings.specs.Cut.{cut_input}
use Rattle.xarch_meanings.specs.ReadLaws.{reads-once}
use Rattle.xarch_copies.specs.Making.{behind_front}
use Rattle.xarch_copies.proofs.CutEnds.{may-end, may-refuse}
use Rattle.xarch_copies.proofs.cut.run_cut.Goals as goal
use Rattle.xarch_meanings.proofs.Limited.{one-read, limited-given}

-- the draft is not begun
pub returns-in_err-begin : goal.returns-in_err-begin
returns-in_err-begin g c =
    let r = c.from_residual in
    let e = c.in_err-begin in
    record {
      performs = λ t n. record {
        keeps = streams-not_begun _ _ _ _ _ _ refl e.ensures.begins;
        caused = caused-passed _ _ _ _ r.result _ r.ensures.1 (caused-begin _ _ _ _ e.ensures.begins);
        may = λ files told. inl (MayEnd-folder (MayBe files (command.cut c.args.archive.now c.args.new.now c.args.first c.args.last)) r.result e.field-0.0 _ t r.ensures.1 e.ensures.fault);
        by_words = tt;
        one_pass = tt;
        little = tt;
        gained = inl (gained-none _ _);
      };
      fills = λ files rules n b told input limited. absurd (subst IsLimited (passed-fault r.result e.field-0.0 folder_fault r.ensures.1 e.ensures.fault) limited);
    }

-- the versions are not found
pub returns-in_err-front : goal.returns-in_err-front
returns-in_err-front g c =
    let began = c.in_ok-begin.ensures.begins in
    let r = c.from_residual-in_err-front in
    let e = c.in_err-front in
    let name = c.args.archive.now in
    let new = c.args.new.now in
    record {
      performs = λ t n. record {
        keeps = streams-begun _ _ _ _ _ _ _ began (sized _ _ _ _ _ _ began.same_files e.ensures.reads);
        caused = caused-passed _ _ _ _ r.result _ r.ensures.1 (caused-begun _ _ _ _ _ _ began e.ensures.reads);
        may = λ files told.
            inl (MayEnd-passed (MayBe files (command.cut name new c.args.first c.args.last)) r.result e.field-0.0 _ t r.ensures.1
            (λ q is. may-refuse c.full_files_have_parts.ensures.parts c.versions_have_one_file.ensures.header files name new c.args.first c.args.last q (defined_refused (cut_input files name new c.args.first c.args.last) _ q (e.ensures.told files (began.same_files ∙ told)) is)));
        by_words = tt;
        one_pass = tt;
        little = tt;
        gained = inl (gained-none _ _);
      };
      fills = λ files rules n b told input limited.
          absurd (limited-given (cut_input files name new c.args.first c.args.last) (rules, n) (fault_view e.field-0.0) (e.ensures.told files (began.same_files ∙ told)) input
          (subst IsLimited (passed-fault r.result e.field-0.0 (fault_view e.field-0.0) r.ensures.1 refl) limited));
    }

-- the new archive is made
pub returns : goal.returns
returns g c =
    let began = c.in_ok-begin.ensures.begins in
    let read = c.in_ok-front.ensures in
    let found = read.found in
    let made = c.make_archive.ensures in
    let h = header_view c.in_ok-front.front.header in
    let name = c.args.archive.now in
    let new = c.args.new.now in
    let fits = found.before.within.within in
    let within = c.in_ok-front.front.heads.within in
    let core = c.in_ok-front.front.core in
    let same = ap (λ f. size_in f name) began.same_files in
    record {
      performs = λ t n. record {
        keeps = streams-made _ _ (16 + h.first) (behind_front c.in_ok-front.front) _ _ _ _ _ (omega (arith, fits, within, core, same)) began (reads-once _ (16 + h.first) _ _ _ read.reads read.once) made.streams;
        caused = caused-then _ _ _ _ _ _ _ (caused-begun _ _ _ _ _ _ began read.reads) (made.caused n);
        may = λ files told.
            inl (let told1 = began.same_files ∙ told in
            may-end c.full_files_have_parts.ensures.parts c.versions_have_one_file.ensures.header files name new c.args.first c.args.last c.full_files_are_read_note_by_note.ensures.come _ (read.reads.same_files ∙ told1) c.in_ok-front.front (found.before.are files told1) (found.before.stands files told1)
            (read.told files told1) found.from c.requires found.most _ _ t (fault_of c.make_archive.result) made.ends);
        by_words = tt;
        one_pass = tt;
        little = tt;
        gained = inl (gained-none _ _);
      };
      fills = λ files rules n b told input limited room.
          let both : (h.rules, h.versions) ≡ (rules, n) = one-read (h.rules, h.versions) (rules, n) (sym (read.told files (began.same_files ∙ told)) ∙ input) in
          subst (λ (p : List PlainRule × ℕ). Overfull b p.0 c.args.first c.args.last (g.F.Folder.draft c.make_archive.new.folder)) both (made.fills limited b (omega (arith, fits, core, same, room)));
    }

pub make_archive-requires : goal.make_archive-requires
make_archive-requires g c =
    let found = c.in_ok-front.ensures.found in
    record {
      blank = λ b e. c.in_ok-begin.ensures.begins.blank refl b (sym c.in_ok-front.ensures.reads.same_draft ∙ e);
      from = found.from;
      order = c.requires;
      there = found.most;
    }
