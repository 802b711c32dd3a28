-- The bytes that wait in a buffer.
use Rattle.std.specs.Prelude.{ℕ, List, take, drop}
use Rattle.xa_outside.specs.declared.held.Held.{Held}

abbrev pub held_bytes : Held → List ℕ
held_bytes h = drop h.start (take h.end h.bytes)

-- how far the buffer is in use
abbrev pub held_end : Held → ℕ
held_end h = h.end
