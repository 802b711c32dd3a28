-- Whether nodes take the version that a plan adds without more memory: each set to which it adds it has room for one
-- more interval, and the version is behind all its numbers.
use Rattle.std.specs.Prelude.{ℕ, Bool, true, ◌&&◌, List, [], ◌∷◌, Option, Some, None, nat_le, nat_lt}
use Rattle.version_set.specs.Pairs.{last_of}
use Rattle.version_set.specs.View.{pairs_of, spare_of}
use Rattle.version_set.specs.declared.set.VersionSet.{VersionSet}
use Rattle.archive_tree.specs.declared.node.Alt.{Alt}
use Rattle.archive_tree.specs.declared.node.ANode.{ANode, ANode-F, fold-ANode}
use Rattle.nested_merge.specs.Plan.{PlainMark, stay, grow, store, PlainAltStep, old_alt, new_alt, fresh_step, old_step, PlainChange, keep, kids_change, alts_change, PlainSteps, no_steps, step}

abbrev pub can_grow : ℕ → Option VersionSet → Bool
can_grow n None = true
can_grow n (Some s) = nat_lt (last_of (pairs_of s)) n && nat_le 1 (spare_of s)

abbrev pub is_stamp_ready : ℕ → Option VersionSet → PlainMark → Bool
is_stamp_ready n s stay = true
is_stamp_ready n s grow = can_grow n s
is_stamp_ready n s (store t) = true

abbrev pub are_alts_ready : ℕ → List Alt → List PlainAltStep → Bool
are_alts_ready n xs [] = true
are_alts_ready n xs (new_alt a ∷ ss) = are_alts_ready n xs ss
are_alts_ready n [] (old_alt m ∷ ss) = true
are_alts_ready n (x ∷ xs) (old_alt m ∷ ss) = is_stamp_ready n x.stamp m && are_alts_ready n xs ss

-- each node of a row, of which it is known whether it takes a change, takes the one of its step
abbrev pub are_ready : List (PlainChange → Bool) → PlainSteps → Bool
are_ready ks no_steps = true
are_ready ks (step (fresh_step k) ss) = are_ready ks ss
are_ready [] (step (old_step c) ss) = true
are_ready (k ∷ ks) (step (old_step c) ss) = k c && are_ready ks ss

abbrev pub is_level_ready : ℕ → ANode-F (PlainChange → Bool) → PlainChange → Bool
is_level_ready n (ANode-F.Inner l s ks) (keep m) = is_stamp_ready n s m
is_level_ready n (ANode-F.Inner l s ks) (kids_change m ss room) = is_stamp_ready n s m && are_ready ks.items ss
is_level_ready n (ANode-F.Inner l s ks) (alts_change m ss room) = true
is_level_ready n (ANode-F.Leaf l s xs) (keep m) = is_stamp_ready n s m
is_level_ready n (ANode-F.Leaf l s xs) (kids_change m ss room) = true
is_level_ready n (ANode-F.Leaf l s xs) (alts_change m ss room) = is_stamp_ready n s m && are_alts_ready n xs.items ss

-- whether the node takes the change
abbrev pub is_ready : ℕ → ANode → PlainChange → Bool
is_ready n = fold-ANode (PlainChange → Bool) (is_level_ready n)
