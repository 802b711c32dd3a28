-- What the value that is read of a leaf stands for.
use Rattle.std.specs.Prelude.{ℕ, List, Option, Some, None, option_map}
use Rattle.jsonml_tree.specs.LentAttrs.{lent_scalar_view}
use Rattle.keyed_tree.specs.Data.{PlainKey, scalar, inside}
use Rattle.xa_fields.specs.Reading.{whole}
use Rattle.record_parts.specs.Bounds.{deepest}
use Rattle.record_parts.specs.Reading.{content_at}
use Rattle.file_get.specs.declared.value.Body.{Body}
use Rattle.file_get.specs.declared.value.Body.TheVariants.{Content, Scalar}

-- the body whose content all of the bytes are
abbrev pub whole_inside : List ℕ → Option PlainKey
whole_inside bytes = option_map inside (whole (content_at deepest) bytes)

-- The bytes of a content may be none.
abbrev pub body_view : Body → Option PlainKey
body_view (Content bytes) = whole_inside bytes.now
body_view (Scalar s) = Some (scalar (lent_scalar_view s))

abbrev pub body_found : Option Body → Option PlainKey
body_found None = None
body_found (Some v) = body_view v
