use Rattle.std.proofs.Common.{true≢false, sym, ◌∙◌, arith}
use Rattle.archive_text.proofs.ReadWhole.{if_none, if_some}
use Rattle.archive_text.proofs.read.sound_file.Goals as goal

pub returns-then-not-branch-clause-none : goal.returns-then-not-branch-clause-none
returns-then-not-branch-clause-none c = λ vs core is s. true≢false (sym ((c.in_ok-is_keyed.ensures.keyed vs is).1 s.keyed) ∙ c.if-not-branch.true)

pub file_of-requires : goal.file_of-requires
file_of-requires c = record { few = c.requires; keyed = λ vs is. (c.in_ok-is_keyed.ensures.keyed vs is).0 c.if-not-branch.false }

pub returns-clause-sound : goal.returns-clause-sound
returns-clause-sound c =
    if_some _ _ c.file_of.result (λ v file vs is. (
    let few = c.requires in
    let count = is.count in
    record {
      specification = c.rules-rules.ensures.closed;
      keyed = (c.in_ok-is_keyed.ensures.keyed vs is).0 c.if-not-branch.false;
      few = omega arith;
      file = file vs is;
    }))
    c.file_of.ensures.file

pub returns-clause-none : goal.returns-clause-none
returns-clause-none c = if_none _ _ c.file_of.result (λ none vs core is s. none vs core is s.file) c.file_of.ensures.none
