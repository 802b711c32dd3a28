-- Which records have an encoding: each part has one, and each number, length and count fits its field.
use Rattle.std.specs.Prelude.{◌≡◌, ◌<◌, ◌^◌, length, ⊤}
use Rattle.std.specs.List.{AllByRecursion}
use Rattle.record_parts.specs.Bounds.{IsValue, IsLabel, IsSet, IsStamp}
use Rattle.record_format.specs.Data.{PlainEntry, PlainDir, PlainRec, inner_rec, leaf_rec, alt_rec, end_rec, leaf_end}
use Rattle.record_format.specs.Spelling.{body_bytes}

pub record IsEntry (e : PlainEntry) : Type 0 where
  pub start : e.start < 2 ^ 64
  pub length : e.length < 2 ^ 64
  pub dir : e.dir < 2 ^ 64

pub record IsDir (d : PlainDir) : Type 0 where
  pub few : length d.entries < 2 ^ 32
  pub entries : AllByRecursion IsEntry d.entries
  pub sets : AllByRecursion IsSet d.sets
  pub paired : length d.sets ≡ length d.entries

abbrev pub IsBody : PlainRec → Type 0
IsBody (inner_rec l s) = IsLabel l × IsStamp s
IsBody (leaf_rec l s) = IsLabel l × IsStamp s
IsBody (alt_rec s b) = IsStamp s × IsValue b
IsBody (end_rec d) = IsDir d
IsBody leaf_end = ⊤

pub record IsRec (r : PlainRec) : Type 0 where
  pub body : IsBody r
  pub short : length (body_bytes r) < 2 ^ 64
