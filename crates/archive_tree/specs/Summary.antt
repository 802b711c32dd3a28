-- A number of a body, which usually tells it apart from others: equal bodies have the same.
use Rattle.std.specs.Prelude.{ℕ, ◌+◌, ◌*◌, ◌-◌, ◌^◌, ◌%◌, List, length, drop}
use Rattle.std.specs.List.{fold}
use Rattle.std.specs.Int.{cast_unsigned, w128}
use Rattle.jsonml_tree.specs.Data.{PlainScalar, null, boolean, whole, string, text, element, PlainContent, content, no_trees, tree}
use Rattle.keyed_tree.specs.Data.{PlainKey, scalar, inside}

-- the last eight bytes of a text as one number, the last of them lowest
abbrev pub text_end : List ℕ → ℕ
text_end s = fold (λ n b. (n * 256 + b) % 2 ^ 64) 0 (drop (length s - 8) s)

-- a whole number from its last 64 bits, a text from its end
abbrev pub scalar_summary : PlainScalar → ℕ
scalar_summary null = 0
scalar_summary (boolean b) = 0
scalar_summary (whole n) = cast_unsigned w128 n % 2 ^ 64
scalar_summary (string s) = text_end s

-- from the end of the first text, where the first of the items and of theirs lead to one
abbrev pub content_summary : PlainContent → ℕ
content_summary (content xs no_trees) = 0
content_summary (content xs (tree (text s) ts)) = text_end s
content_summary (content xs (tree (element t c) ts)) = content_summary c

abbrev pub summary_of : PlainKey → ℕ
summary_of (scalar s) = scalar_summary s
summary_of (inside c) = content_summary c
