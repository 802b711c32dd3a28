-- Which records have parts to lend.
use Rattle.std.specs.Prelude.{Bool, true, false, Option, Some, None, if◌then◌else◌}
use Rattle.record_format.specs.Data.{PlainRec, inner_rec, leaf_rec, alt_rec, end_rec, leaf_end}

-- whether a record opens a node, or is an alternative
abbrev pub has_parts : PlainRec → Bool
has_parts (inner_rec l s) = true
has_parts (leaf_rec l s) = true
has_parts (alt_rec s b) = true
has_parts (end_rec d) = false
has_parts leaf_end = false

abbrev pub with_parts : Option PlainRec → Option PlainRec
with_parts None = None
with_parts (Some r) = if has_parts r then Some r else None
