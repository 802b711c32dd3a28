-- What a folder tells, and what its calls do.
use Rattle.std.specs.Prelude.{◌≡◌, ℕ, List, [], ◌++◌, length, take, drop, Option, Some, None, option_map, option_and_then, ⊤, ◌<◌, ◌≤◌, nat_le, if◌then◌else◌}
use Rattle.std.specs.Ordering.{nat_cmp}
use Rattle.std.specs.Cmp.Lexicographic.{slice_cmp}
use Rattle.std.specs.FinMap as map
use Rattle.xa_outside.specs.Numbers.{Numbers, after_draft}

-- a finite map from names to bytes
abbrev pub Files : Type 0
Files = map.FinMap (slice_cmp nat_cmp) (List ℕ)

-- the bytes of a name that has no file are none
abbrev pub bytes_or_none : Option (List ℕ) → List ℕ
bytes_or_none None = []
bytes_or_none (Some bytes) = bytes

-- so many bytes from the front, where there are so many
abbrev pub front : ℕ → List ℕ → Option (List ℕ)
front n bytes = if nat_le n (length bytes) then Some (take n bytes) else None

-- so many bytes from the front of a file, where it has so many; a name without a file has no bytes
abbrev pub front_of : Files → List ℕ → ℕ → Option (List ℕ)
front_of files name n = front n (bytes_or_none (map.get files name))

-- `files` with this draft under the name, where both are told
abbrev pub committed : Option Files → Option (List ℕ) → List ℕ → Option Files
committed files draft name = option_and_then (λ fs. option_map (λ bytes. map.insert fs name bytes) draft) files

-- an empty draft, where the draft is told
abbrev pub emptied : Option (List ℕ) → Option (List ℕ)
emptied draft = option_map (λ _. []) draft

-- where the draft is told, it is empty
abbrev pub IsBlank : Option (List ℕ) → Type 0
IsBlank draft = (bytes : List ℕ) → draft ≡ Some bytes → bytes ≡ []

-- a draft that is told gained some bytes
pub record Lengthens (old new : Option (List ℕ)) : Type 0 where
  pub bytes : List ℕ
  pub is : new ≡ option_map (λ d. d ++ bytes) old

-- the draft grows by these bytes, and they are counted
pub record Drafts (old new : Option (List ℕ)) (before after : Numbers) (bytes : List ℕ) : Type 0 where
  pub draft : new ≡ option_map (λ d. d ++ bytes) old
  pub numbers : after ≡ after_draft before (length bytes)

-- the draft grows by a prefix of the piece, which is counted
pub record DraftsPrefix (old new : Option (List ℕ)) (before after : Numbers) (piece : List ℕ) : Type 0 where
  pub count : ℕ
  pub within : count ≤ length piece
  pub drafts : Drafts old new before after (take count piece)

-- what `length` answers
abbrev pub TellsLength : Option Files → List ℕ → Option ℕ → Type 0
TellsLength None name r = ⊤
TellsLength (Some fs) name r = r ≡ option_map length (map.get fs name)

-- these bytes stand in the file at the offset, none where there is room only at its end
abbrev pub Gives : Option Files → List ℕ → ℕ → List ℕ → ℕ → Type 0
Gives None name at bytes room = ⊤
Gives (Some fs) name at bytes room =
    (take (length bytes) (drop at (bytes_or_none (map.get fs name))) ≡ bytes)
    × (bytes ≡ [] → 0 < room → length (bytes_or_none (map.get fs name)) ≤ at)

-- these bytes stand in the file at the offset, fewer than there is room for only at its end
abbrev pub FillsFrom : Option Files → List ℕ → ℕ → List ℕ → ℕ → Type 0
FillsFrom None name at bytes room = ⊤
FillsFrom (Some fs) name at bytes room = bytes ≡ take room (drop at (bytes_or_none (map.get fs name)))
