-- What stands at the front of an archive file.
use Rattle.std.specs.Prelude.{ℕ, List, length, take, drop, Option, Some, None, option_map, nat_lt, nat_le, bytes_eq, if◌then◌else◌}
use Rattle.std.specs.Int.{w32}
use Rattle.key_spec.specs.Data.{PlainRule}
use Rattle.key_spec.specs.Canonical.{spelled_by}
use Rattle.key_spec.specs.Closed.{closed}
use Rattle.xa_fields.specs.Reading.{Reader, ◌>>=◌, number_at, both_at, only_at}
use Rattle.record_parts.specs.Bounds.{most}
use Rattle.record_format.specs.Files.{magic}

-- a length of four bytes, and that many bytes
unfoldable pub bytes_at : Reader (List ℕ)
bytes_at bytes = do
  n ← number_at w32 bytes
  if nat_lt (length n.1) n.0 then None else Some (take n.0 n.1, drop n.0 n.1)

-- the magic, some bytes, and a number of versions
unfoldable pub front_at : Reader (List ℕ × ℕ)
front_at bytes = if bytes_eq (take (length magic) bytes) magic then both_at bytes_at (only_at (λ n. nat_le n most) (number_at w32)) (drop (length magic) bytes) else None

-- the number of versions, where the fields of a header stand there
abbrev pub fixed : List ℕ → Option ℕ
fixed bytes = option_map (λ x. x.0.1) (front_at bytes)

-- the specification and the number of versions, where a header stands there, and the bytes behind it
unfoldable pub header_at : Reader (List PlainRule × ℕ)
header_at bytes = do
  front ← front_at bytes
  rules ← spelled_by front.0.0 (closed front.0.0)
  Some ((rules, front.0.1), front.1)

abbrev pub header : List ℕ → Option (List PlainRule × ℕ)
header bytes = option_map (λ x. x.0) (header_at bytes)
