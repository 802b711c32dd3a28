-- What is kept of a line.
use Rattle.std.specs.Prelude.{◌≡◌, ℕ, ◌+◌, ◌<◌, List, ◌++◌, length, vec_len}
use Rattle.xarch_words.specs.declared.limits.TheConstants.{LINE}
use Rattle.xarch_run.specs.Lines.{is_blank}
use Rattle.xarch_run.specs.declared.line.Line.{Line}

-- Of a line's bytes at most one more is kept than a line may have.
pub record Shows (line : Line) (bytes : List ℕ) : Type 0 where
  pub more : List ℕ
  pub is : bytes ≡ line.bytes.items ++ more
  pub full : 0 < length more → vec_len line.bytes ≡ LINE + 1
  pub blank : line.blank ≡ is_blank bytes
