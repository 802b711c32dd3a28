use Rattle.archive_text.proofs.Found.{hands_on}
use Rattle.archive_text.proofs.ReadWhole.{known}
use Rattle.archive_text.proofs.read.read_kept.Goals as goal

pub returns-in_err-kept-clause-found : goal.returns-in_err-kept-clause-found
returns-in_err-kept-clause-found c = λ held a file is full p. hands_on _ _ c.from_residual.result c.in_err-kept.field-0.0 c.from_residual.ensures.1 (c.in_err-kept.ensures held.rules held.versions a held.notes is p)

pub returns-in-Some-clause-kept : goal.returns-in-Some-clause-kept
returns-in-Some-clause-kept c = rw c.deref.ensures.value at (rw c.in-Some.is at c.in_ok-file.ensures.kept)

pub returns-in-Some-clause-text : goal.returns-in-Some-clause-text
returns-in-Some-clause-text c = rw c.deref.ensures.value at (rw c.in-Some.is at c.in_ok-file.ensures.text)

pub returns-in-Some-clause-found : goal.returns-in-Some-clause-found
returns-in-Some-clause-found c = λ held a file is full p. c.in_ok-kept.ensures held.rules held.versions a held.notes is p

pub returns-in-None-clause-found : goal.returns-in-None-clause-found
returns-in-None-clause-found c = λ held a file is full p. (
    let read = c.in_ok-kept.ensures held.rules held.versions a held.notes is p in
    let k = known held a file c.args.bytes.now is full p _ _ _ read.0 read.1 read.2 in
    (rw c.deref.ensures.value at (rw c.in-None.is at c.in_ok-file.ensures.complete)) held.versions file k.is k.full k.text)
