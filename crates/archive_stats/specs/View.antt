-- The plain data that counts stand for, and what a fault says.
use Rattle.std.specs.Prelude.{⊤}
use Rattle.archive_stats.specs.Counts.{PlainCounts}
use Rattle.archive_stats.specs.declared.counts.Counts.{Counts}
use Rattle.archive_stats.specs.declared.fault.StatsFault.{StatsFault}
use Rattle.archive_stats.specs.declared.fault.StatsFault.TheVariants.{Damage, Folder, Memory}
use Rattle.record_cursor.specs.declared.fault.CursorFault.{CursorFault}
use Rattle.record_cursor.specs.declared.fault.CursorFault.TheVariants as cursor

abbrev pub counts_view : Counts → PlainCounts
counts_view c =
    record {
      versions = c.versions;
      inner = c.inner;
      leaves = c.leaves;
      alternatives = c.alternatives;
      stamps = c.stamps;
      largest = c.largest;
      bytes = c.bytes;
    }

abbrev pub of_cursor : CursorFault → StatsFault
of_cursor cursor.Damage = Damage
of_cursor cursor.Folder = Folder
of_cursor cursor.Memory = Memory

abbrev pub IfDamage : StatsFault → Type 0 → Type 0
IfDamage Damage P = P
IfDamage other P = ⊤

abbrev pub IfFolder : StatsFault → Type 0 → Type 0
IfFolder Folder P = P
IfFolder other P = ⊤
