use Rattle.std.proofs.Common.{inl, ◌+◌, ℕ, List, refl, sym, ap, ◌∙◌, subst, arith}
use Rattle.archive_join.specs.Join.{Overfull}
use Rattle.key_spec.specs.Data.{PlainRule}
use Rattle.record_cursor.specs.View.{header_view}
use Rattle.xarch_words.specs.Commands as command
use Rattle.xarch_words.specs.Refusal.{folder_fault}
use Rattle.xarch_words.specs.View.{fault_view}
use Rattle.xarch_parts.specs.AllowedLaws.{MayEnd-folder, MayEnd-passed, defined_refused, gained-none, passed-fault}
use Rattle.xarch_parts.specs.Ends.{fault_of}
use Rattle.xarch_parts.specs.FolderLaws.{caused-begin, caused-begun, caused-passed, caused-then, reads-more, streams-begun, streams-made, streams-not_begun}
use Rattle.xarch_parts.specs.Inputs.{size_in}
use Rattle.xarch_meanings.specs.Meanings.{IsLimited, MayBe}
use Rattle.xarch_meanings.specs.Join.{join_input}
use Rattle.xarch_meanings.specs.ReadLaws.{reads-once}
use Rattle.xarch_copies.specs.Joining.{AreFound, fronts_read}
use Rattle.xarch_copies.specs.Making.{behind_front}
use Rattle.xarch_copies.proofs.JoinEnds.{may-end, may-refuse}
use Rattle.xarch_copies.proofs.JoinPasses.{once-begun, once-made}
use Rattle.xarch_copies.proofs.join.run_join.Goals as goal
use Rattle.xarch_meanings.proofs.Limited.{one-read, limited-given}

-- the draft is not begun
pub returns-in_err-begin : goal.returns-in_err-begin
returns-in_err-begin g c =
    let r = c.from_residual in
    let e = c.in_err-begin in
    record {
      performs = λ t n. record {
        keeps = streams-not_begun _ _ _ _ _ _ refl e.ensures.begins;
        caused = caused-passed _ _ _ _ r.result _ r.ensures.1 (caused-begin _ _ _ _ e.ensures.begins);
        may = λ files told. inl (MayEnd-folder (MayBe files (command.join c.args.one.now c.args.two.now c.args.new.now)) r.result e.field-0.0 _ t r.ensures.1 e.ensures.fault);
        by_words = tt;
        one_pass = λ not. absurd (not (passed-fault r.result e.field-0.0 folder_fault r.ensures.1 e.ensures.fault));
        little = tt;
        gained = inl (gained-none _ _);
      };
      fills = λ files rules others n m b told input limited. absurd (subst IsLimited (passed-fault r.result e.field-0.0 folder_fault r.ensures.1 e.ensures.fault) limited);
    }

-- the archives are not found, or do not go together
pub returns-in_err-both : goal.returns-in_err-both
returns-in_err-both g c =
    let began = c.in_ok-begin.ensures.begins in
    let r = c.from_residual-in_err-both in
    let e = c.in_err-both in
    let one = c.args.one.now in
    let two = c.args.two.now in
    let new = c.args.new.now in
    let first = ap (λ f. size_in f one) began.same_files in
    let second = ap (λ f. size_in f two) began.same_files in
    record {
      performs = λ t n. record {
        keeps = streams-begun _ _ _ _ _ _ _ began (reads-more _ _ _ _ _ (omega (arith, first, second)) e.ensures.reads);
        caused = caused-passed _ _ _ _ r.result _ r.ensures.1 (caused-begun _ _ _ _ _ _ began e.ensures.reads);
        may = λ files told.
            inl (MayEnd-passed (MayBe files (command.join one two new)) r.result e.field-0.0 _ t r.ensures.1
            (λ q is. may-refuse c.full_files_have_parts.ensures.parts c.versions_have_one_file.ensures.header files one two new q (defined_refused (join_input files one two new) _ q (e.ensures.told files (began.same_files ∙ told)) is)));
        by_words = tt;
        one_pass = λ not. once-begun _ _ _ _ _ began (reads-more _ _ _ _ _ (omega (arith, first, second)) e.ensures.reads);
        little = tt;
        gained = inl (gained-none _ _);
      };
      fills = λ files rules others n m b told input limited.
          absurd (limited-given (join_input files one two new) ((rules, n), (others, m)) (fault_view e.field-0.0) (e.ensures.told files (began.same_files ∙ told)) input
          (subst IsLimited (passed-fault r.result e.field-0.0 (fault_view e.field-0.0) r.ensures.1 refl) limited));
    }

-- the new archive is made
pub returns : goal.returns
returns g c =
    let began = c.in_ok-begin.ensures.begins in
    let read = c.in_ok-both.ensures in
    let both = c.in_ok-both.both in
    let made = c.make_archive.ensures in
    let h = header_view both.one.header in
    let k = header_view both.two.header in
    let one = c.args.one.now in
    let two = c.args.two.now in
    let new = c.args.new.now in
    let fits = read.found.first.within.within in
    let fits2 = read.found.second.within.within in
    let inside = both.one.heads.within in
    let inside2 = both.two.heads.within in
    let core = both.one.core in
    let core2 = both.two.core in
    let same = ap (λ f. size_in f one) began.same_files in
    let same2 = ap (λ f. size_in f two) began.same_files in
    let least = 32 + h.first + k.first in
    record {
      performs = λ t n. record {
        keeps = streams-made _ _ least (behind_front both.one + behind_front both.two) _ _ _ _ _ (omega (arith, fits, fits2, inside, inside2, core, core2, same, same2)) began (reads-once _ least _ _ _ read.reads read.once) made.streams;
        caused = caused-then _ _ _ _ _ _ _ (caused-begun _ _ _ _ _ _ began read.reads) (made.caused n);
        may = λ files told.
            inl (let told1 = began.same_files ∙ told in
            may-end c.full_files_have_parts.ensures.parts c.versions_have_one_file.ensures.header files one two new c.full_files_are_read_note_by_note.ensures.come _ (read.reads.same_files ∙ told1) both
            (subst (λ fs. AreFound one two fs both) (sym read.reads.same_files) read.found) (read.told files told1) _ _ t (fault_of c.make_archive.result) made.ends);
        by_words = tt;
        one_pass = λ not. once-made _ least (behind_front both.one + behind_front both.two) _ _ _ _ _ (omega (arith, fits, fits2, inside, inside2, core, core2, same, same2)) began (reads-once _ least _ _ _ read.reads read.once) made.streams;
        little = tt;
        gained = inl (gained-none _ _);
      };
      fills = λ files rules others n m b told input limited room room2.
          let all = one-read (fronts_read both) ((rules, n), (others, m)) (sym (read.told files (began.same_files ∙ told)) ∙ input) in
          subst (λ (p : (List PlainRule × ℕ) × (List PlainRule × ℕ)). Overfull b p.0.0 p.0.1 p.1.1 (g.F.Folder.draft c.make_archive.new.folder)) all (made.fills limited b (omega (arith, fits, core, same, room)) (omega (arith, fits2, core2, same2, room2)));
    }

pub make_archive-requires : goal.make_archive-requires
make_archive-requires g c =
    let found = c.in_ok-both.ensures.found in
    record {
      together = found.together;
      blank = λ b e. c.in_ok-begin.ensures.begins.blank refl b (sym c.in_ok-both.ensures.reads.same_draft ∙ e);
    }
