-- What is known of a part that only reads.
use Rattle.std.specs.Prelude.{ℕ, List, Option}
use Rattle.xa_outside.specs.Folder.{Files}
use Rattle.xa_outside.specs.Numbers.{Numbers, PullsAtMost}
use Rattle.xarch_words.specs.Refusal.{PlainFault}
use Rattle.xarch_parts.specs.Folders.{ReadsOnly}

-- a part that only reads, of which it is known how much
pub reads-once : {S : Type 0} {files : S → Option Files} {draft : S → Option (List ℕ)} {numbers : S → Numbers} {faults : S → ℕ} (m n : ℕ) (a b : S) (v : Option PlainFault) → ReadsOnly files draft numbers faults m a b v → PullsAtMost n (numbers a) (numbers b) → ReadsOnly files draft numbers faults n a b v
reads-once m n a b v p pulls = record { same_files = p.same_files; same_draft = p.same_draft; pulls = pulls; later = p.later; cause = p.cause }
