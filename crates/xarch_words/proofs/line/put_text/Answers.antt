use Rattle.std.proofs.Common.{arith}
use Rattle.std.proofs.lemmas.Grind.{common_steps}
use Rattle.xarch_words.specs.Lines.{fault_text, refusal_text}
use Rattle.xarch_words.proofs.line.put_text.Goals as goal

pub returns-in-Usage-clause-bytes : goal.returns-in-Usage-clause-bytes
unfolding fault_text refusal_text
returns-in-Usage-clause-bytes g c = rw c.in-Usage.is c.put_all.ensures.bytes

pub returns-in-OutFault-clause-bytes : goal.returns-in-OutFault-clause-bytes
unfolding fault_text
returns-in-OutFault-clause-bytes g c = rw c.in-OutFault.is c.put_all-in-OutFault.ensures.bytes

pub returns-in-Damaged-clause-bytes : goal.returns-in-Damaged-clause-bytes
unfolding fault_text refusal_text
returns-in-Damaged-clause-bytes g c = rw (c.in-Damaged.is, ← c.as_bytes-in-Damaged.ensures.value) c.put_both-in-Damaged.ensures.bytes

pub returns-in-BadPath-clause-bytes : goal.returns-in-BadPath-clause-bytes
unfolding fault_text refusal_text
returns-in-BadPath-clause-bytes g c = rw c.in-BadPath.is c.put_number.ensures.bytes

pub returns-in-KeyFaultIn-clause-bytes : goal.returns-in-KeyFaultIn-clause-bytes
unfolding fault_text refusal_text
returns-in-KeyFaultIn-clause-bytes g c = rw c.in-KeyFaultIn.is c.put_key_fault_in.ensures.bytes

pub returns-in-Usage-clause-cause : goal.returns-in-Usage-clause-cause
returns-in-Usage-clause-cause g c = grind (arith, common_steps)

pub returns-in-NoFile-clause-cause : goal.returns-in-NoFile-clause-cause
returns-in-NoFile-clause-cause g c = grind (arith, common_steps)

pub returns-in-Exists-clause-cause : goal.returns-in-Exists-clause-cause
returns-in-Exists-clause-cause g c = grind (arith, common_steps)

pub returns-in-BadSpec-clause-cause : goal.returns-in-BadSpec-clause-cause
returns-in-BadSpec-clause-cause g c = grind (arith, common_steps)

pub returns-in-BadJson-clause-cause : goal.returns-in-BadJson-clause-cause
returns-in-BadJson-clause-cause g c = grind (arith, common_steps)

pub returns-in-BadShape-clause-cause : goal.returns-in-BadShape-clause-cause
returns-in-BadShape-clause-cause g c = grind (arith, common_steps)

pub returns-in-KeyFault-clause-cause : goal.returns-in-KeyFault-clause-cause
returns-in-KeyFault-clause-cause g c = grind (arith, common_steps)

pub returns-in-KeyFaultIn-clause-cause : goal.returns-in-KeyFaultIn-clause-cause
returns-in-KeyFaultIn-clause-cause g c = grind (arith, common_steps)

pub returns-in-NoVersion-clause-cause : goal.returns-in-NoVersion-clause-cause
returns-in-NoVersion-clause-cause g c = grind (arith, common_steps)

pub returns-in-BadPath-clause-cause : goal.returns-in-BadPath-clause-cause
returns-in-BadPath-clause-cause g c = grind (arith, common_steps)

pub returns-in-Damaged-clause-cause : goal.returns-in-Damaged-clause-cause
returns-in-Damaged-clause-cause g c = grind (arith, common_steps)

pub returns-in-Limit-clause-cause : goal.returns-in-Limit-clause-cause
returns-in-Limit-clause-cause g c = grind (arith, common_steps)

pub returns-in-FolderFault-clause-cause : goal.returns-in-FolderFault-clause-cause
returns-in-FolderFault-clause-cause g c = grind (arith, common_steps)

pub returns-in-OutFault-clause-cause : goal.returns-in-OutFault-clause-cause
returns-in-OutFault-clause-cause g c = grind (arith, common_steps)

pub returns-in-InFault-clause-cause : goal.returns-in-InFault-clause-cause
returns-in-InFault-clause-cause g c = grind (arith, common_steps)

pub returns-in-Memory-clause-cause : goal.returns-in-Memory-clause-cause
returns-in-Memory-clause-cause g c = grind (arith, common_steps)
