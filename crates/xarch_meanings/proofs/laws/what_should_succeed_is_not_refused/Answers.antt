use Rattle.xarch_meanings.proofs.Succeeding.{never_refused, one_alone}
use Rattle.xarch_meanings.proofs.laws.what_should_succeed_is_not_refused.Goals as goal

pub returns-clause-never : goal.returns-clause-never
returns-clause-never c = never_refused c.versions_have_one_rekeying.ensures.one_list c.versions_have_one_rekeying.ensures.apart

pub returns-clause-single : goal.returns-clause-single
returns-clause-single c = one_alone
