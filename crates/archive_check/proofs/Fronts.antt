-- The front of a file that is longer than an archive.
use Rattle.std.proofs.Common.{◌≡◌, ℕ, ◌<◌, Bool, true, false, cond, leb, List, length, take, Some, None, sym, ap, refl, ◌∙◌, arith}
use Rattle.std.proofs.lemmas.Bool.{leb-true}
use Rattle.std.proofs.lemmas.List.{length-take-le}
use Rattle.archive_file.specs.Sound.{Sound}
use Rattle.archive_file.proofs.SoundLaws.{sound-short}
use Rattle.record_format.specs.Files.{longest}
use Rattle.xa_fields.proofs.Fields.{some_is}
use Rattle.xa_outside.specs.Folder.{front}

has-length : (n : ℕ) (file bytes : List ℕ) (b : Bool) → leb n (length file) ≡ b → cond b (Some (take n file)) None ≡ Some bytes → length bytes ≡ n
has-length n file bytes true long e = ap length (sym (some_is (take n file) bytes e)) ∙ length-take-le n file (leb-true n (length file) long)
has-length n file bytes false long e = absurd cc

-- the front of a file is no sound archive where it is longer than the longest
pub long-front : (n : ℕ) (file bytes : List ℕ) → longest < n → front n file ≡ Some bytes → ¬ (Sound bytes)
long-front n file bytes long e s = (let short = sound-short s.rules s.versions bytes s.is in let same = has-length n file bytes (leb n (length file)) refl e in omega arith)
