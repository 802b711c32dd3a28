-- What has come of the bytes that are awaited.
use Rattle.std.specs.Prelude.{ℕ, List, [], ◌∷◌, ◌++◌, length, take, Some, option_to_list}
use Rattle.xa_outside.specs.Taken.{Behind, Taken}
use Rattle.archive_text.specs.declared.expected.Expected.{Expected}

-- the bytes that are awaited
abbrev pub awaited : Expected → List ℕ
awaited e = e.bytes.now

-- the bytes that came
abbrev pub came : Expected → List ℕ
came e = take e.done e.bytes.now ++ option_to_list e.odd

abbrev pub failures_of : Expected → ℕ
failures_of e = e.failures

-- what is awaited, as if it stood behind, under its length
abbrev pub waits : List ℕ → List Behind
waits bytes = record { name = length bytes; bytes = Some bytes } ∷ []

-- What has come was taken. What is awaited is told as if it stood behind: so who writes on to any sink is known to leave it as it is.
abbrev pub expected_taken : Expected → Taken
expected_taken e = record { bytes = Some (came e); behind = waits (awaited e) }
