-- A map from the encodings of bodies to their places.
use Rattle.std.specs.Prelude.{◌≡◌, ℕ, ◌<◌, ◌&&◌, true, false, if◌then◌else◌, List, Option, Some, None, IsSome, get_or, length, map, Vec}
use Rattle.std.specs.declared.alloc.Global.{Global}
use Rattle.std.specs.Ordering.{is_eq, nat_cmp}
use Rattle.std.specs.Cmp.Lexicographic.{slice_cmp}
use Rattle.std.specs.Map.{lookup}
use Rattle.jsonml_tree.specs.Lists.{Has}
use Rattle.keyed_tree.specs.Data.{PlainKey}
use Rattle.record_parts.specs.Checks.{value_fits}
use Rattle.record_parts.specs.Spelling.{value_bytes}
use Rattle.spelled_archive.specs.View.{kept_view}
use Rattle.new_archive.specs.declared.node.NewAlt.{NewAlt}

-- the entries of a map from bytes to places
abbrev pub Places : Type 0
Places = List (Vec ℕ Global × ℕ)

-- the place that stands at these bytes, if one does
abbrev pub place_at : List ℕ → Places → Option ℕ
place_at bytes es = lookup (λ (k : Vec ℕ Global). is_eq (slice_cmp nat_cmp bytes k.items)) es

-- the body has an encoding, and these bytes are it
abbrev pub IsEncoding : PlainKey → List ℕ → Type 0
IsEncoding b bytes = (value_fits b ≡ true) × (bytes ≡ value_bytes b)

-- these bytes are the encoding of the body at the place
abbrev pub IsSpelledAt : List PlainKey → List ℕ → ℕ → Type 0
IsSpelledAt bs bytes i = (i < length bs) × ((d : PlainKey) → IsEncoding (get_or bs i d) bytes)

-- each of these bodies that has an encoding is found by that, and what is found at some bytes is the place of a body whose encoding they are
pub record AreCovered (bs : List PlainKey) (es : Places) : Type 0 where
  pub found : (b : PlainKey) → Has b bs → value_fits b ≡ true → IsSome (place_at (value_bytes b) es)
  pub placed : (bytes : List ℕ) (i : ℕ) → place_at bytes es ≡ Some i → IsSpelledAt bs bytes i

-- at the encoding of the body, if it has one, the place was put, and all else stands as it did
abbrev pub IsAdded : PlainKey → ℕ → Places → Places → Type 0
IsAdded b i es fs = (bytes : List ℕ) → place_at bytes fs ≡ (if value_fits b && is_eq (slice_cmp nat_cmp bytes (value_bytes b)) then Some i else place_at bytes es)

-- the encoding of the body, or that it has none
abbrev pub IsSpelling : PlainKey → Option (Vec ℕ Global) → Type 0
IsSpelling b (Some v) = IsEncoding b v.items
IsSpelling b None = value_fits b ≡ false

abbrev pub kept_bodies : List NewAlt → List PlainKey
kept_bodies xs = map (λ (a : NewAlt). kept_view a.body) xs
