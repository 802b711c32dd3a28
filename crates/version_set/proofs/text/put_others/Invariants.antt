use Rattle.std.proofs.Common.{◌≡◌, ℕ, ◌∷◌, ◌++◌, drop}
use Rattle.std.specs.String.{string_bytes}
use Rattle.std.specs.List.{flat_map}
use Rattle.version_set.specs.Text.{pair_text}
use Rattle.version_set.proofs.text.put_others.Given as goal

-- what is left makes the whole
abbrev pub invariant-loop-pair : goal.invariant-loop-pair
invariant-loop-pair l =
    string_bytes l.text ++ flat_map (λ (p : ℕ × ℕ). 44 ∷ pair_text p) (drop l.pair-index l.others)
    ≡ string_bytes l.fn.text ++ flat_map (λ (p : ℕ × ℕ). 44 ∷ pair_text p) l.others
