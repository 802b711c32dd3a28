-- What `join` does: it makes an archive of the versions of two others.
use Rattle.std.specs.Prelude.{ℕ, ◌+◌, nat_le, List, ◌++◌, Result, Ok, Err, if◌then◌else◌, ◌≡◌, ◌≢◌, ◌⊎◌, ◌≤◌, Some}
use Rattle.std.specs.Str.{bytes_eq}
use Rattle.xa_outside.specs.Folder.{Files}
use Rattle.key_spec.specs.Canonical.{canonical}
use Rattle.key_spec.specs.Data.{PlainRule}
use Rattle.noted_file.specs.Contents.{Contents, header_of}
use Rattle.xarch_words.specs.Refusal.{Refusal, limit, spec_differs, versions, damaged}
use Rattle.xarch_parts.specs.Archives.{GoesOn, Opens, Stores, free_in, ArchiveIs}
use Rattle.xarch_parts.specs.Outcome.{Outcome, and_then}
use Rattle.record_parts.specs.declared.limits.TheConstants.{MOST_VERSIONS}
use Rattle.xa_outside.specs.Numbers.{PullsAndDrafts, after_begin}
use Rattle.archive_join.specs.Join.{Overfull}
use Rattle.xarch_parts.specs.Inputs.{file_length, read_in, size_in}
use Rattle.xarch_parts.specs.Readings.{front_in}
use Rattle.xarch_meanings.specs.Meaning.{Meaning, in_turn, new_archive, plain}
use Rattle.xarch_meanings.specs.Over.{HasArchive, HasArchiveWith, HasFile, MayMake}

-- the archives of these names have these rules: their canonical texts are the same
abbrev pub same_keys : List ℕ → List ℕ → List PlainRule → List PlainRule → Result Unit Refusal
same_keys one two rules others = if bytes_eq (canonical rules) (canonical others) then Ok tt else Err (spec_differs one two)

-- there is room for n versions and m behind them
abbrev pub room_for : ℕ → ℕ → Result Unit Refusal
room_for n m = if nat_le (n + m) MOST_VERSIONS then Ok tt else Err (limit versions MOST_VERSIONS)

-- the archives have one specification, and there is room for the versions of both, by the rules and the number of versions of each
abbrev pub are_joinable : List ℕ → List ℕ → List PlainRule × ℕ → List PlainRule × ℕ → Result Unit Refusal
are_joinable one two h g = and_then (same_keys one two h.0 g.0) (λ _. room_for h.1 g.1)

-- the new archive's name is free, and so they are
abbrev pub join_checked : Files → List ℕ → List ℕ → List ℕ → List PlainRule × ℕ → List PlainRule × ℕ → Result Unit Refusal
join_checked files one two new h g = and_then (free_in files new) (λ _. are_joinable one two h g)

-- what two archives hold, the one behind the other, under the rules of the one
abbrev pub joined : Contents → Contents → Contents
joined c d = record { rules = c.rules; versions = c.versions ++ d.versions; notes = c.notes ++ d.notes }

-- what comes where the first archive holds this, and the second that
abbrev pub JoinsFrom : Files → List ℕ → List ℕ → List ℕ → Contents → Contents → Result Outcome Refusal → Type 0
JoinsFrom files one two new c d r = GoesOn (join_checked files one two new (header_of c) (header_of d)) (λ _. Stores files new (joined c d)) r

abbrev pub JoinIs : Files → List ℕ → List ℕ → List ℕ → Result Outcome Refusal → Type 0
JoinIs files one two new r = Opens files one (λ c. Opens files two (JoinsFrom files one two new c)) r

-- ---- what is decided before the records of archives are looked at

-- The rules and the numbers of versions of two archives, or the first refusal: both are there, the new name is free, a header stands in front of each, both
-- have one specification, and there is room for the versions of both.
abbrev pub join_input : Files → List ℕ → List ℕ → List ℕ → Result ((List PlainRule × ℕ) × (List PlainRule × ℕ)) Refusal
join_input files one two new =
    and_then (file_length files one) (λ _.
    and_then (file_length files two) (λ _.
    and_then (free_in files new) (λ _.
    and_then (read_in files one (front_in one)) (λ h.
    and_then (read_in files two (front_in two)) (λ g.
    and_then (are_joinable one two h g) (λ _.
    Ok (h, g)))))))

-- One of the archives is damaged, or the new one would be too long, or some file comes under the new one's name.
abbrev pub MayJoin : Files → List ℕ → List ℕ → List ℕ → Result Outcome Refusal → Type 0
MayJoin files one two new r = (r ≡ Err (damaged one)) ⊎ MayMake files two new r

-- What may come whatever the archives of these names are, and what comes where both are sound; one that is sound is not said to be damaged.
pub record MayOverBoth (files : Files) (one two : List ℕ) (any : Result Outcome Refusal → Type 0)
    (exact : Contents → Contents → Result Outcome Refusal → Type 0) (r : Result Outcome Refusal) : Type 0 where
  pub whatever : any r
  pub first : (c : Contents) → ArchiveIs files one c → r ≢ Err (damaged one)
  pub second : (c : Contents) → ArchiveIs files two c → r ≢ Err (damaged two)
  pub sound : (c d : Contents) → ArchiveIs files one c → ArchiveIs files two d → exact c d r

-- ---- all that is said of it

-- It is what the archives of these names hold, the second behind the first.
pub record IsJoinedFrom (files : Files) (one two : List ℕ) (h : Contents) : Type 0 where
  pub first : Contents
  pub second : Contents
  pub from : ArchiveIs files one first
  pub behind : ArchiveIs files two second
  pub is : h ≡ joined first second

-- It should succeed where both archives are sound, the new name is free, they have one specification, there is room for the versions of both, and these have
-- a file. Over any archives it begins its draft before it reads, as long as the folder did not fail, and then reads no more bytes than both have, and 16 of
-- each in which it is looked where the notes begin. Where what it reads first is not refused, a limit refuses it only where one more call of the writer does
-- not fit behind the draft and behind calls that fit. Each label and body that a call was given takes at most as many bytes as the longer archive and 12,
-- and each set is made of one or two that do. A new archive holds the versions of two others, with their notes.
abbrev pub join_meaning : List ℕ → List ℕ → List ℕ → Meaning
join_meaning one two new = record (plain (in_turn (new_archive new)) (λ files. JoinIs files one two new)) {
  May = λ files. MayOverBoth files one two (GoesOn (join_input files one two new) (λ _. MayJoin files one two new)) (JoinsFrom files one two new);
  Should = λ files. HasArchiveWith files one (λ c. HasArchiveWith files two (λ d. (join_checked files one two new (header_of c) (header_of d) ≡ Ok tt) × HasFile (joined c d)));
  most = λ told. size_in told one + (size_in told two + 32);
  Once = λ told before after failed. ¬ failed → PullsAndDrafts (size_in told one + (size_in told two + 32)) (after_begin before) after;
  Fills = λ told draft limited. (files : Files) (rules others : List PlainRule) (n m b : ℕ) → told ≡ Some files → join_input files one two new ≡ Ok ((rules, n), (others, m))
      → limited → size_in told one + 12 ≤ b → size_in told two + 12 ≤ b → Overfull b rules n m draft;
  Begins = λ files. IsJoinedFrom files one two;
  Over = λ files. HasArchive files one × HasArchive files two;
}
