use Rattle.std.proofs.Common.{◌≡◌, ◌++◌, ℕ, List, OnOk, subst}
use Rattle.record_parts.proofs.Wraps.{u64_bytes-wrapped}
use Rattle.record_parts.proofs.put_values.put_low.Goals as goal

pub returns-clause-ok : goal.returns-clause-ok
returns-clause-ok c = subst (λ (bytes : List ℕ). OnOk c.append_u64.result (c.append_u64.new.out.items ≡ c.args.out.now.items ++ bytes)) (u64_bytes-wrapped c.args.n) c.append_u64.ensures.ok
