-- The JSON value that stands in some bytes.
use Rattle.std.specs.Prelude.{ℕ, ◌-◌, ◌&&◌, ◌==◌, List, length, take, slice_index, nat_lt, Bool, Option, None, if◌then◌else◌}
use Rattle.std.specs.Str.{is_utf8}
use Rattle.serde_json.specs.Data.{Data}
use Rattle.serde_json.specs.Read.{read}

abbrev pub ends_with_lf : List ℕ → Bool
ends_with_lf bytes = nat_lt 0 (length bytes) && slice_index bytes (length bytes - 1) == 10

-- the bytes, less one LF where they end in one
abbrev pub less_lf : List ℕ → List ℕ
less_lf bytes = if ends_with_lf bytes then take (length bytes - 1) bytes else bytes

-- what `serde_json` reads as one value from them
unfoldable pub reading : List ℕ → Option Data
reading bytes = if is_utf8 (less_lf bytes) then read (less_lf bytes) else None
