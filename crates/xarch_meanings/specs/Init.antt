-- What `init` does: it makes an archive of no versions.
use Rattle.std.specs.Prelude.{ℕ, List, [], Result, ◌≡◌, Ok}
use Rattle.xa_outside.specs.Folder.{Files}
use Rattle.key_spec.specs.Data.{PlainRule}
use Rattle.noted_file.specs.Contents.{unnoted}
use Rattle.xarch_words.specs.Refusal.{specification, Refusal}
use Rattle.xarch_words.specs.declared.limits.TheConstants.{SPECIFICATION}
use Rattle.xarch_parts.specs.Archives.{free_in, GoesOn, Stores}
use Rattle.xarch_parts.specs.Inputs.{length_in, read_in}
use Rattle.xarch_parts.specs.Outcome.{Outcome, and_then}
use Rattle.xarch_parts.specs.Readings.{rules_of}
use Rattle.xarch_meanings.specs.Over.{HasFile}
use Rattle.xarch_meanings.specs.Meaning.{Meaning, new_archive, plain, stores}

-- the rules of the new archive: its name is free, and the specification is there, short enough and has a closed reading
abbrev pub init_rules : Files → List ℕ → List ℕ → Result (List PlainRule) Refusal
init_rules files archive spec = and_then (free_in files archive) (λ _. and_then (length_in files spec specification SPECIFICATION) (λ _. read_in files spec rules_of))

abbrev pub InitIs : Files → List ℕ → List ℕ → Result Outcome Refusal → Type 0
InitIs files archive spec r = GoesOn (init_rules files archive spec) (λ rules. Stores files archive (unnoted rules [])) r

-- ---- all that is said of it

-- It should succeed where the archive's name is free, the specification is there, short enough and has a closed reading, and no versions have a file under
-- it. A new archive holds the rules of the specification, and no versions.
abbrev pub init_meaning : List ℕ → List ℕ → Meaning
init_meaning archive spec = record (plain (stores (new_archive archive)) (λ files. InitIs files archive spec)) {
  Should = λ files. (rules : List PlainRule) × (init_rules files archive spec ≡ Ok rules) × HasFile (unnoted rules []);
  most = λ told. SPECIFICATION;
  Begins = λ files h. (read_in files spec rules_of ≡ Ok h.rules) × (h.versions ≡ []) × (h.notes ≡ []);
}
