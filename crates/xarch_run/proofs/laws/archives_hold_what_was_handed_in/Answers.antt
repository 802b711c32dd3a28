use Rattle.xarch_run.proofs.CallLemmas.{calls-did, line-may, words-may}
use Rattle.xarch_run.proofs.CheckLemmas.{checking, judging}
use Rattle.xarch_run.proofs.HeldLemmas.{accepted, all-absent, all-hold, all-refused, counting, cutting, exact, exporting, getting, handed-holds, in-order, joining, keys-taken, keys-told, listing, logging, one-held, rekeying, satisfying, should-succeed, step-begins, telling}
use Rattle.xarch_run.proofs.ImportLemmas.{imported, importing, restoring, text-taken}
use Rattle.xarch_run.proofs.laws.archives_hold_what_was_handed_in.Goals as goal

pub returns-clause-headline : goal.returns-clause-headline
returns-clause-headline c = λ files commands steps name held did handed. exact c.full_files_have_one_reading.ensures.file c.full_files_have_one_reading.ensures.defined _ name held
    (handed-holds (record { one_list = c.versions_have_one_rekeying.ensures.one_list; apart = c.versions_have_one_rekeying.ensures.apart }) c.full_files_have_one_reading.ensures.reading c.texts_have_one_reading.ensures.reading c.sound_files_are_full.ensures.sound files name commands steps held did handed)

pub returns-clause-made : goal.returns-clause-made
returns-clause-made c = step-begins c.sound_files_are_full.ensures.sound

pub returns-clause-kept : goal.returns-clause-kept
returns-clause-kept c = λ files name commands steps held holds did. all-hold (record { one_list = c.versions_have_one_rekeying.ensures.one_list; apart = c.versions_have_one_rekeying.ensures.apart }) files name commands steps held holds did

pub returns-clause-exactly : goal.returns-clause-exactly
returns-clause-exactly c = exact c.full_files_have_one_reading.ensures.file c.full_files_have_one_reading.ensures.defined

pub returns-clause-only : goal.returns-clause-only
returns-clause-only c = one-held c.full_files_have_one_reading.ensures.reading

pub returns-clause-absent : goal.returns-clause-absent
returns-clause-absent c = all-absent

pub returns-clause-refused : goal.returns-clause-refused
returns-clause-refused c = all-refused

pub returns-clause-satisfied : goal.returns-clause-satisfied
returns-clause-satisfied c = λ files name doc note held s tree holds may handed. satisfying files name held s holds doc note tree may handed

pub returns-clause-accepted : goal.returns-clause-accepted
returns-clause-accepted c = λ files name doc note held s holds may zero. accepted files name held s holds doc note may zero

pub returns-clause-rekeyed : goal.returns-clause-rekeyed
returns-clause-rekeyed c = λ files name spec held under s holds may keyed. rekeying files name held s holds (record { one_list = c.versions_have_one_rekeying.ensures.one_list; apart = c.versions_have_one_rekeying.ensures.apart }) spec under may keyed

pub returns-clause-keys_taken : goal.returns-clause-keys_taken
returns-clause-keys_taken c = λ files name spec held s holds may zero. keys-taken files name held s holds spec may zero

pub returns-clause-keys_told : goal.returns-clause-keys_told
returns-clause-keys_told c = λ files name spec held s holds may. keys-told files name held s holds spec may

pub returns-clause-should : goal.returns-clause-should
returns-clause-should c = should-succeed c.what_should_succeed_is_not_refused.ensures.never

pub returns-clause-in_order : goal.returns-clause-in_order
returns-clause-in_order c = in-order

pub returns-clause-gets : goal.returns-clause-gets
returns-clause-gets c = λ files name held s i holds may. getting files name held s holds i may

pub returns-clause-tells : goal.returns-clause-tells
returns-clause-tells c = λ files name held s path holds may. telling files name held s holds path may

pub returns-clause-counts : goal.returns-clause-counts
returns-clause-counts c = λ files name held s holds may. counting files name held s holds may

pub returns-clause-lists : goal.returns-clause-lists
returns-clause-lists c = λ files name held s holds may. listing files name held s holds may

pub returns-clause-logs : goal.returns-clause-logs
returns-clause-logs c = λ files name held s path holds may. logging files name held s holds path may

pub returns-clause-exports : goal.returns-clause-exports
returns-clause-exports c = λ files name held s holds may. exporting files name held s holds may

pub returns-clause-cuts : goal.returns-clause-cuts
returns-clause-cuts c = λ files name new i j held s holds may. cutting files name held s holds new i j may

pub returns-clause-joins : goal.returns-clause-joins
returns-clause-joins c = λ files one two new first second s holds behind may. joining files one first s holds two new second behind may

pub returns-clause-imports : goal.returns-clause-imports
returns-clause-imports c = importing

pub returns-clause-imported : goal.returns-clause-imported
returns-clause-imported c = imported c.full_files_have_one_reading.ensures.reading c.texts_have_one_reading.ensures.reading c.sound_files_are_full.ensures.sound

pub returns-clause-spelled : goal.returns-clause-spelled
returns-clause-spelled c = text-taken c.sound_files_are_full.ensures.sound

pub returns-clause-restores : goal.returns-clause-restores
returns-clause-restores c =
    restoring c.full_files_have_one_reading.ensures.reading c.texts_have_one_reading.ensures.reading c.sound_files_are_full.ensures.sound c.full_files_have_one_reading.ensures.file c.full_files_have_one_reading.ensures.defined
    c.what_should_succeed_is_not_refused.ensures.never

pub returns-clause-checks : goal.returns-clause-checks
returns-clause-checks c = λ files name held s holds may. checking files name s c.full_files_have_one_reading.ensures.reading held holds may

pub returns-clause-judges : goal.returns-clause-judges
returns-clause-judges c = judging

pub returns-clause-calls : goal.returns-clause-calls
returns-clause-calls c = λ files now calls commands steps did. calls-did files calls now commands steps did

pub returns-clause-line : goal.returns-clause-line
returns-clause-line c = line-may

pub returns-clause-words : goal.returns-clause-words
returns-clause-words c = words-may
