use Rattle.std.proofs.Common.{◌≡◌, ◌+◌, ◌*◌, ◌^◌, ◌%◌, take}
use Rattle.std.specs.List.{fold}
use Rattle.archive_tree.proofs.check.text_end.Given as goal

-- the number of the bytes so far
abbrev pub invariant-loop-byte : goal.invariant-loop-byte
invariant-loop-byte l = l.value ≡ fold (λ n b. (n * 256 + b) % 2 ^ 64) 0 (take l.byte-index l.end)
