-- What is prepared, where a given label or body was spelled or not.
use Rattle.std.proofs.Common.{◌≡◌, ◌↔◌, ℕ, Bool, true, false, IsTrue, List, ◌++◌, Result, Ok, Err, sym, ap, ◌∙◌, true≢false}
use Rattle.record_parts.specs.Spells.{Spells}
use Rattle.record_parts.specs.declared.fault.SpellFault.{SpellFault}
use Rattle.record_parts.specs.declared.fault.SpellFault.TheVariants as spell

-- what fits, where the test passed
pub fits-where : {Is Shape Fits : Type 0} (b : Bool) → (IsTrue b ↔ Is) → (Is ↔ (Shape × Fits)) → b ≡ true → Fits
fits-where b test parts e = (parts.0 (test.0 e)).1

-- what does not, where it failed
pub fits-not : {Is Shape Fits : Type 0} (b : Bool) → (IsTrue b ↔ Is) → (Is ↔ (Shape × Fits)) → Shape → b ≡ false → Fits → ⊥
fits-not b test parts shape e fits = true≢false (sym (test.1 (parts.1 (shape, fits))) ∙ e)

-- what a record lends fits
pub old-spelled : {T Is : Type 0} (b : Bool) (old new bytes other : List ℕ) (r : Result T SpellFault) → (IsTrue b ↔ Is) → Is → bytes ≡ other → Spells true old new bytes r → Spells b old new other r
old-spelled b old new bytes other (Ok v) test is same h = (test.1 is, h.1 ∙ ap (λ (z : List ℕ). old ++ z) same)
old-spelled b old new bytes other (Err spell.TooLong) test is same h = absurd (true≢false h)
old-spelled b old new bytes other (Err spell.Memory) test is same h = tt
