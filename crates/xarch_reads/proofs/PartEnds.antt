-- How much of an archive is read, part by part.
use Rattle.std.proofs.Common.{ℕ, ◌+◌, ◌≤◌, List, Option, None, arith}
use Rattle.xa_outside.specs.Folder.{Files}
use Rattle.xa_outside.specs.Numbers.{Numbers}
use Rattle.version_notes.specs.declared.parts.Parts.{Parts}
use Rattle.xarch_words.specs.Refusal.{PlainFault}
use Rattle.xarch_parts.specs.FolderLaws.{reads-then}
use Rattle.xarch_parts.specs.Folders.{ReadsOnly}
use Rattle.xarch_parts.specs.Noted.{AreWithin, notes_bytes}

module _ {S : Type 0} {files : S → Option Files} {draft : S → Option (List ℕ)} {numbers : S → Numbers} {faults : S → ℕ} where
  -- the length was asked for, the parts were read, and then what stands before the notes
  pub behind : (size : ℕ) (parts : Parts) (most : ℕ) (a b c d : S) (v : Option PlainFault) → size ≤ most → AreWithin size parts → ReadsOnly files draft numbers faults 0 a b None → ReadsOnly files draft numbers faults 16 b c None
      → ReadsOnly files draft numbers faults parts.core c d v → ReadsOnly files draft numbers faults (most + 16) a d v
  behind size parts most a b c d v fits within p q r =
      let all = within.within in
      reads-then 16 parts.core (most + 16) a c d v (omega (arith, fits, all)) (reads-then 0 16 16 a b c None (omega arith) p q) r

  -- the parts were read, then what stands before the notes, and then these
  pub three-parts : (parts : Parts) (most : ℕ) (a b c d : S) (v : Option PlainFault) → AreWithin most parts → ReadsOnly files draft numbers faults 16 a b None → ReadsOnly files draft numbers faults parts.core b c None
      → ReadsOnly files draft numbers faults (notes_bytes parts.notes) c d v → ReadsOnly files draft numbers faults (most + 16) a d v
  three-parts parts most a b c d v within p q r =
      let all = within.within in
      reads-then (16 + parts.core) (notes_bytes parts.notes) (most + 16) a c d v (omega (arith, all)) (reads-then 16 parts.core (16 + parts.core) a b c None (omega arith) p q) r

  pub two-parts : (parts : Parts) (most : ℕ) (a b c : S) (v : Option PlainFault) → AreWithin most parts → ReadsOnly files draft numbers faults 16 a b None → ReadsOnly files draft numbers faults parts.core b c v → ReadsOnly files draft numbers faults (most + 16) a c v
  two-parts parts most a b c v within p q =
      let all = within.within in
      reads-then 16 parts.core (most + 16) a b c v (omega (arith, all)) p q
