use Rattle.std.proofs.Common.{true≢false, sym, ◌∙◌, arith, string_bytes}
use Rattle.std.proofs.lemmas.List.{length-map}
use Rattle.archive_text.proofs.ReadWhole.{if_none, if_some, notes_of, all_notes, kept_of}
use Rattle.archive_text.proofs.read.file_with_notes.Goals as goal

pub returns-then-n-gt-MOST_VERSIONS-clause-complete : goal.returns-then-n-gt-MOST_VERSIONS-clause-complete
returns-then-n-gt-MOST_VERSIONS-clause-complete c = λ vs file is full. (
    let few = full.is.few in
    let count = is.count in
    absurd (omega (arith, c.n-n.ensures, c.if-n-gt-MOST_VERSIONS.true)))

pub returns-then-notes-n-clause-complete : goal.returns-then-notes-n-clause-complete
returns-then-notes-n-clause-complete c = λ vs file is full. (
    let many = full.as_many in
    let count = is.count in
    let long = length-map c.args.notes.now string_bytes in
    absurd (omega (arith, c.n-n.ensures, c.if-notes-n.true)))

pub returns-then-not-are_notes-clause-complete : goal.returns-then-not-are_notes-clause-complete
returns-then-not-are_notes-clause-complete c = λ vs file is full. absurd (true≢false (sym (all_notes _ full.each) ∙ sym c.are_notes.ensures ∙ c.if-not-are_notes.true))

pub returns-clause-kept : goal.returns-clause-kept
returns-clause-kept c =
    if_some _ _ c.sound_file.result
    (λ v h. kept_of _ _ _ v.items (omega (arith, c.n-n.ensures)) (length-map c.args.notes.now string_bytes ∙ omega (arith, c.n-n.ensures, c.if-notes-n.false)) (notes_of c.args.notes.now (sym c.are_notes.ensures ∙ c.if-not-are_notes.false)) h)
    c.sound_file.ensures.sound

pub returns-clause-complete : goal.returns-clause-complete
returns-clause-complete c = λ vs file is full. if_none _ _ c.sound_file.result (λ none. none vs full.core is full.is) c.sound_file.ensures.none
