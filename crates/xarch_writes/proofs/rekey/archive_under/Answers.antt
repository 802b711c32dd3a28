use Rattle.std.proofs.Common.{arith}
use Rattle.key_rules.specs.View as keys
use Rattle.key_spec.specs.Canonical.{canonical}
use Rattle.key_spec.specs.View.{spec_view}
use Rattle.archive_tree.specs.ArchiveView.{archive_view}
use Rattle.spelled_archive.specs.ArchiveView.{spelled_archive_view}
use Rattle.xarch_parts.specs.Ends.{IsInside}
use Rattle.xarch_writes.proofs.RekeyEnds.{no-memory, told-version}
use Rattle.xarch_writes.proofs.rekey.archive_under.Goals as goal

pub rekey_spelled-requires : goal.rekey_spelled-requires
rekey_spelled-requires c = record { documents = λ vs is. (let read = c.requires.documents vs is in read.documents) }

pub returns-in-Ok-clause-cause : goal.returns-in-Ok-clause-cause
unfolding IsInside
returns-in-Ok-clause-cause c = tt

pub returns-in-Ok-clause-written : goal.returns-in-Ok-clause-written
returns-in-Ok-clause-written c =
    let kept = c.archives_stand_for_one_list.ensures.told (archive_view c.args.old) c.args.old.stands in
    let read = c.requires.documents kept.versions kept.is in
    let count = c.in-Ok.ensures.count in
    let few = c.requires.few in
    let rules = spec_view c.args.spec.now in
    let under = c.in-Ok.ensures.archive kept.versions kept.is in
    record { keyed = c.in-Ok.ensures.keyed; shaped = c.rekeyed_archives_are_shaped.ensures.shaped rules kept.versions (spelled_archive_view c.in-Ok.archive) (canonical rules, c.rules.ensures.closed) read.texts under c.in-Ok.ensures.keyed (omega (arith, count, few)) }

pub returns-in-Err-Key-clause-cause : goal.returns-in-Err-Key-clause-cause
unfolding IsInside
returns-in-Err-Key-clause-cause c = tt

pub returns-in-Err-Key-clause-refused : goal.returns-in-Err-Key-clause-refused
returns-in-Err-Key-clause-refused c = λ vs q is e.
    let key = rw c.in-Err-Key.field-0-is at c.in-Err-Key.ensures.key in
    let fault = keys.fault_view c.in-Err-Key.fault in
    record { number = c.in-Err-Key.version; fault = fault; first = key vs is; is = told-version c.in-Err-Key.version fault q e }

pub returns-clause-cause : goal.returns-clause-cause
unfolding IsInside
returns-clause-cause c = tt

pub returns-clause-refused : goal.returns-clause-refused
returns-clause-refused c = λ vs q is e. no-memory q e
