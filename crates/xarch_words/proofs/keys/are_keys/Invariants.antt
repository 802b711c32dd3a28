use Rattle.std.proofs.Common.{◌≡◌, ◌≤◌, true, false, [], length, map, take}
use Rattle.std.specs.List.{list_all}
use Rattle.csv_tables.specs.Records.{repeats}
use Rattle.key_spec.specs.Names.{is_name}
use Rattle.xarch_words.proofs.keys.are_keys.Given as goal

-- the parts so far are names, at most 16, all different, and kept
abbrev pub invariant-loop-name : goal.invariant-loop-name
invariant-loop-name l = record {
  named : list_all is_name (map (λ part. part.now) l.yielded) ≡ true;
  apart : repeats [] (map (λ part. part.now) l.yielded) ≡ false;
  kept : map (λ part. part.now) (take l.count l.names) ≡ map (λ part. part.now) l.yielded;
  counted : l.count ≡ length l.yielded;
  few : l.count ≤ 16;
  room : length l.names ≡ 16;
}
