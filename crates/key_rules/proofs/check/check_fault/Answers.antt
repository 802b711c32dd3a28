use Rattle.key_rules.proofs.CheckLemmas.{faulty-unkeyed, faulty-missing, faulty-twice}
use Rattle.key_rules.proofs.check.check_fault.Goals as goal

pub returns-in-Unkeyed : goal.returns-in-Unkeyed
returns-in-Unkeyed c = faulty-unkeyed _ c.args.fault c.in-Unkeyed.is

pub returns-in_ok-key_path-in-Missing : goal.returns-in_ok-key_path-in-Missing
returns-in_ok-key_path-in-Missing c = faulty-missing _ c.args.fault _ _ c.in-Missing.is c.in_ok-key_path-in-Missing.ensures

pub returns-in_ok-key_path-in-Twice : goal.returns-in_ok-key_path-in-Twice
returns-in_ok-key_path-in-Twice c = faulty-twice _ c.args.fault _ _ c.in-Twice.is c.in_ok-key_path-in-Twice.ensures
