use Rattle.std.proofs.Common.{inl, inr, ◌≡◌, ◌+◌, ◌-◌, ℕ, List, length, Ok, refl, sym, ap, ◌∙◌, subst, arith}
use Rattle.record_cursor.specs.View.{header_view}
use Rattle.xa_outside.specs.Numbers.{PullsAtMost}
use Rattle.xa_outside.specs.NumberLaws.{PullsAtMost-none}
use Rattle.xarch_words.specs.Commands.{add}
use Rattle.xarch_words.specs.View.{fault_view}
use Rattle.xarch_words.specs.declared.limits.TheConstants.{DOCUMENT}
use Rattle.xarch_parts.specs.AllowedLaws.{MayEnd-passed, MayEnd-folder, defined_refused, gained-none, passed-fault}
use Rattle.xarch_parts.specs.Archives.{short_note}
use Rattle.xarch_parts.specs.Ends.{fault_of}
use Rattle.xarch_parts.specs.FolderLaws.{caused-begin, caused-begun, caused-passed, caused-then, reads-none, sized, streams-begun, streams-made, streams-not_begun}
use Rattle.xarch_parts.specs.Inputs.{size_in}
use Rattle.xarch_parts.specs.Noted.{AreWithin, notes_bytes}
use Rattle.xarch_meanings.specs.Add.{document_size, text_read}
use Rattle.xarch_meanings.specs.History.{front_size}
use Rattle.xarch_meanings.specs.Meanings.{IsLimited, MayBe}
use Rattle.xarch_meanings.specs.ReadLaws.{reads-once}
use Rattle.xarch_writes.proofs.AddEnds.{may_refuse_note, may_refuse_text, may-ended}
use Rattle.xarch_writes.proofs.FullEnds.{full-by, given, limited-passed}
use Rattle.xarch_writes.proofs.NotesEnds.{note-is}
use Rattle.xarch_writes.proofs.OnePassEnds.{failed-so, one_pass-merged, one_pass-read}
use Rattle.xarch_writes.proofs.add.add_noted.Goals as goal
use Rattle.xarch_meanings.proofs.Limited.{limited-given}

-- the draft is not begun
pub returns-in_err-begin : goal.returns-in_err-begin
returns-in_err-begin g c = record {
  performs = λ t n. record {
    keeps = streams-not_begun _ _ _ _ _ _ refl c.in_err-begin.ensures.begins;
    caused = caused-passed _ _ _ _ c.from_residual.result _ c.from_residual.ensures.1 (caused-begin _ _ _ _ c.in_err-begin.ensures.begins);
    may = λ files told. inl (MayEnd-folder (MayBe files (add c.args.archive.now c.args.doc.now c.args.note.now)) c.from_residual.result c.in_err-begin.field-0.0 _ t c.from_residual.ensures.1 c.in_err-begin.ensures.fault);
    by_words = λ long. inr (failed-so c.from_residual.result c.in_err-begin.field-0.0 c.from_residual.ensures.1 c.in_err-begin.ensures.fault);
    one_pass = λ files held a told is of small not. absurd (not (failed-so c.from_residual.result c.in_err-begin.field-0.0 c.from_residual.ensures.1 c.in_err-begin.ensures.fault));
    little = tt;
    gained = inl (gained-none _ _);
  };
  fills = λ files rules n tree b told short input limited.
      absurd (subst IsLimited (failed-so c.from_residual.result c.in_err-begin.field-0.0 c.from_residual.ensures.1 c.in_err-begin.ensures.fault) limited);
}

-- the note is too long
pub returns-in_err-check_note : goal.returns-in_err-check_note
returns-in_err-check_note g c =
    let began = c.in_ok-begin.ensures.begins in
    let r = c.from_residual-in_err-check_note in
    let e = c.in_err-check_note in
    let meter = g.met.F.Folder.metered c.begin.new.folder in
    record {
      performs = λ t n. record {
        keeps = streams-begun _ _ _ _ _ _ _ began (reads-none _ _ _ meter e.ensures.cause);
        caused = caused-passed _ _ _ _ r.result _ r.ensures.1 (caused-begun 0 _ _ _ _ _ began (reads-none _ _ _ meter e.ensures.cause));
        may = λ files told.
            inl (MayEnd-passed (MayBe files (add c.args.archive.now c.args.doc.now c.args.note.now)) r.result e.field-0.0 _ t r.ensures.1
            (λ q is. may_refuse_note c.full_files_have_parts.ensures.parts c.versions_have_one_file.ensures.header files c.args.archive.now c.args.doc.now c.args.note.now q (defined_refused (short_note c.args.note.now) _ q e.ensures.told is)));
        by_words = λ long. inl (passed-fault r.result e.field-0.0 _ r.ensures.1 e.ensures.refused);
        one_pass = λ files held a told is of small not.
            let numbers = g.F.Folder.numbers in
            let none = PullsAtMost-none (16 + front_size held.rules held.versions + document_size files c.args.doc.now) (numbers c.begin.new.folder) meter in
            one_pass-read c.files_give_their_items.ensures.header c.full_files_have_parts.ensures.parts files c.args.archive.now c.args.doc.now held is a of (numbers c.args.folder.now) (numbers c.begin.new.folder) small
            (subst (λ m. PullsAtMost (16 + front_size held.rules held.versions + document_size files c.args.doc.now) m (numbers c.begin.new.folder)) (began.begun refl) none);
        little = tt;
        gained = inl (gained-none _ _);
      };
      fills = λ files rules n tree b told short input limited.
          absurd (limited-given (short_note c.args.note.now) tt (fault_view e.field-0.0) e.ensures.told short (limited-passed r.result e.field-0.0 r.ensures.1 limited));
    }

-- nothing is drafted yet
pub returns-in_err-front : goal.returns-in_err-front
returns-in_err-front g c =
    let began = c.in_ok-begin.ensures.begins in
    let r = c.from_residual-in_err-front in
    let e = c.in_err-front in
    record {
      performs = λ t n. record {
        keeps = streams-begun _ _ _ _ _ _ _ began (sized _ _ _ _ _ _ began.same_files e.ensures.reads);
        caused = caused-passed _ _ _ _ r.result _ r.ensures.1 (caused-begun _ _ _ _ _ _ began e.ensures.reads);
        may = λ files told.
            inl (let read = e.ensures.told files (began.same_files ∙ told) in
            MayEnd-passed (MayBe files (add c.args.archive.now c.args.doc.now c.args.note.now)) r.result e.field-0.0 _ t r.ensures.1
            (λ q is. may_refuse_text c.full_files_have_parts.ensures.parts c.versions_have_one_file.ensures.header files c.args.archive.now c.args.doc.now c.args.note.now c.in_ok-check_note.ensures.told q
            (defined_refused (text_read files c.args.archive.now c.args.doc.now) _ q read is)));
        by_words = λ long. absurd (let short = c.in_ok-check_note.ensures.short in omega (arith, long, short));
        one_pass = λ files held a told is of small not.
            let numbers = g.F.Folder.numbers in
            let few = e.ensures.few files held (began.same_files ∙ told) is in
            one_pass-read c.files_give_their_items.ensures.header c.full_files_have_parts.ensures.parts files c.args.archive.now c.args.doc.now held is a of (numbers c.args.folder.now) (numbers c.read_added.new.folder) small
            (subst (λ m. PullsAtMost (16 + front_size held.rules held.versions + document_size files c.args.doc.now) m (numbers c.read_added.new.folder)) (began.begun refl) few);
        little = tt;
        gained = inl (gained-none _ _);
      };
      fills = λ files rules n tree b told short input limited.
          let name = c.args.archive.now in
          let doc = c.args.doc.now in
          let gave = given files name doc rules n tree input in
          absurd (limited-given (text_read files name doc) _ (fault_view e.field-0.0) (e.ensures.told files (began.same_files ∙ told)) gave.read (limited-passed r.result e.field-0.0 r.ensures.1 limited));
    }

-- the archive is merged
pub returns : goal.returns
returns g c =
    let began = c.in_ok-begin.ensures.begins in
    let read = c.in_ok-front.ensures in
    let h = header_view c.in_ok-front.front.header in
    let parts = c.in_ok-front.front.parts in
    record {
      performs = λ t n. record {
        keeps = let fits = read.once.0.within in
            let within = c.in_ok-front.front.heads.within in
            let long = c.in_ok-front.front.core in
            let same = ap (λ f. size_in f c.args.archive.now) began.same_files in
            streams-made _ _ (16 + h.first + DOCUMENT) (h.length - h.first + notes_bytes parts.notes) _ _ _ _ _ (omega (arith, fits, within, long, same)) began (reads-once _ (16 + h.first + DOCUMENT) _ _ _ read.reads read.once.1) c.add_text.ensures.streams;
        caused = caused-then _ _ _ _ _ _ _ (caused-begun _ _ _ _ _ _ began read.reads) (c.add_text.ensures.caused n);
        may = λ files told.
            inl (let told1 = began.same_files ∙ told in
            let told2 = read.reads.same_files ∙ told1 in
            let front = read.front files told1 in
            let merges = c.add_text.ensures.merges files told2 front.0 front.1 in
            let text = c.deref.result.now in
            let same : ((h.rules, h.versions), c.in_ok-front.text.items) ≡ ((h.rules, h.versions), text) = ap (λ (bytes : List ℕ). ((h.rules, h.versions), bytes)) (sym c.deref.ensures.value) in
            may-ended c.full_files_have_parts.ensures.parts c.versions_have_one_file.ensures.header files c.args.archive.now c.args.doc.now c.args.note.now c.in_ok-check_note.ensures.told h text (read.told files told1 ∙ ap (λ p. Ok p) same) _ t (fault_of c.add_text.result) c.in_ok-front.front.heads.few merges.ends);
        by_words = λ long. absurd (let short = c.in_ok-check_note.ensures.short in omega (arith, long, short));
        one_pass = λ files held a told is of small not.
            let numbers = g.F.Folder.numbers in
            let told1 = began.same_files ∙ told in
            let told2 = read.reads.same_files ∙ told1 in
            let front = read.front files told1 in
            let merges = c.add_text.ensures.merges files told2 front.0 front.1 in
            let few = read.few files held told1 is in
            let fits = subst (λ f. AreWithin (size_in f c.args.archive.now) parts) told1 read.once.0 in
            one_pass-merged c.files_give_their_items.ensures.header c.full_files_have_parts.ensures.parts files c.args.archive.now c.args.doc.now held is a of h parts (numbers c.args.folder.now) (numbers c.read_added.new.folder) (numbers c.add_text.new.folder)
            c.in_ok-front.front.heads front.1 c.in_ok-front.front.core fits small (subst (λ m. PullsAtMost (16 + front_size held.rules held.versions + document_size files c.args.doc.now) m (numbers c.read_added.new.folder)) (began.begun refl) few) c.add_text.ensures.streams.counted (merges.gap held a is of);
        little = tt;
        gained = inl (gained-none _ _);
      };
      fills = λ files rules n tree b told short input limited file fit.
          let name = c.args.archive.now in
          let doc = c.args.doc.now in
          let fits = read.once.0.within in
          let long = c.in_ok-front.front.core in
          let same = ap (λ f. size_in f name) began.same_files in
          full-by files name doc h c.in_ok-front.text.items c.deref.result.now rules n tree b (g.F.Folder.draft c.add_text.new.folder) (read.told files (began.same_files ∙ told)) c.deref.ensures.value (given files name doc rules n tree input)
          (λ is room. c.add_text.ensures.fills tree b is room limited (omega (arith, fits, long, same, file)) fit);
    }

pub add_text-requires : goal.add_text-requires
add_text-requires g c =
    let held = c.in_ok-front.ensures.known in
    let same = ap (λ (bytes : List ℕ). length bytes) c.deref.ensures.value in
    record {
      short = omega (arith, held, same);
      note = note-is c.args.note.now c.requires c.in_ok-check_note.ensures.short;
      blank = λ b e. c.in_ok-begin.ensures.begins.blank refl b (sym c.in_ok-front.ensures.reads.same_draft ∙ e);
    }
