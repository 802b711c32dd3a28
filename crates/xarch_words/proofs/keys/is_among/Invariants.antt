use Rattle.std.proofs.Common.{◌≡◌, map, drop}
use Rattle.csv_tables.specs.Records.{has_field}
use Rattle.xarch_words.proofs.keys.is_among.Given as goal

-- what is left decides
abbrev pub invariant-loop-other : goal.invariant-loop-other
invariant-loop-other l = has_field (map (λ t. t.now) l.texts) l.text ≡ has_field (map (λ t. t.now) (drop l.other-index l.texts)) l.text
