-- Commands by themselves, and a batch.
use Rattle.std.proofs.Common.{◌≡◌, ◌⊎◌, ◌↔◌, inl, inr, ℕ, Bool, true, false, IsTrue, Option, None, Some, refl, sym, ap, ◌∙◌, arith}
use Rattle.xa_outside.specs.Causes.{Rose}
use Rattle.xarch_words.specs.Commands.{PlainCommand, batch}
use Rattle.xarch_meanings.specs.CommandLaws.{single-alone}
use Rattle.xarch_meanings.specs.Step.{alone}
use Rattle.xarch_run.specs.Batch.{IsAnswer}

-- what is no command by itself is none, or a batch
pub none-alone : (c : Option PlainCommand) → alone c ≡ None → ¬ (c ≡ Some batch) → c ≡ None
none-alone None e other = refl
none-alone (Some command) e other = sym (single-alone command (λ is. other (ap (λ z. Some z) is))) ∙ e

-- ---- which branch

pub holds : (P : Type 0) (b : Bool) → b ≡ true → (IsTrue b ↔ P) → P
holds P b e h = h.0 e

pub fails : (P : Type 0) (b : Bool) → b ≡ false → (IsTrue b ↔ P) → P → ⊥
fails P b e h p = let t : b ≡ true = h.1 p in cc

pub batch-none : (c : Option PlainCommand) → c ≡ Some batch → c ≡ None → ⊥
batch-none c e none = cc

-- ---- the answers of a batch

module _ (a b c d e f r : ℕ) where
  pub answer-folder : IsAnswer a b c d e f r → r ≡ 13 → Rose a b
  answer-folder (inl is) h = absurd (omega (arith, is, h))
  answer-folder (inr (inl is)) h = absurd (omega (arith, is, h))
  answer-folder (inr (inr (inl k))) h = k.1
  answer-folder (inr (inr (inr (inl k)))) h = let is = k.0 in absurd (omega (arith, is, h))
  answer-folder (inr (inr (inr (inr (inl k))))) h = let is = k.0 in absurd (omega (arith, is, h))
  answer-folder (inr (inr (inr (inr (inr is))))) h = absurd (omega (arith, is, h))

  pub answer-out : IsAnswer a b c d e f r → r ≡ 14 → Rose e f
  answer-out (inl is) h = absurd (omega (arith, is, h))
  answer-out (inr (inl is)) h = absurd (omega (arith, is, h))
  answer-out (inr (inr (inl k))) h = let is = k.0 in absurd (omega (arith, is, h))
  answer-out (inr (inr (inr (inl k)))) h = k.1
  answer-out (inr (inr (inr (inr (inl k))))) h = let is = k.0 in absurd (omega (arith, is, h))
  answer-out (inr (inr (inr (inr (inr is))))) h = absurd (omega (arith, is, h))

  pub answer-input : IsAnswer a b c d e f r → r ≡ 15 → Rose c d
  answer-input (inl is) h = absurd (omega (arith, is, h))
  answer-input (inr (inl is)) h = absurd (omega (arith, is, h))
  answer-input (inr (inr (inl k))) h = let is = k.0 in absurd (omega (arith, is, h))
  answer-input (inr (inr (inr (inl k)))) h = let is = k.0 in absurd (omega (arith, is, h))
  answer-input (inr (inr (inr (inr (inl k))))) h = k.1
  answer-input (inr (inr (inr (inr (inr is))))) h = absurd (omega (arith, is, h))

  pub answer-words : IsAnswer a b c d e f r → r ≡ 2 → ⊥
  answer-words (inl is) h = omega (arith, is, h)
  answer-words (inr (inl is)) h = omega (arith, is, h)
  answer-words (inr (inr (inl k))) h = let is = k.0 in omega (arith, is, h)
  answer-words (inr (inr (inr (inl k)))) h = let is = k.0 in omega (arith, is, h)
  answer-words (inr (inr (inr (inr (inl k))))) h = let is = k.0 in omega (arith, is, h)
  answer-words (inr (inr (inr (inr (inr is))))) h = omega (arith, is, h)

  pub answer-calm : IsAnswer a b c d e f r → ¬ Rose a b → ¬ Rose c d → ¬ Rose e f → ¬ (r ≡ 12) → (r ≡ 0) ⊎ (r ≡ 16)
  answer-calm (inl is) folder input out within = inl is
  answer-calm (inr (inl is)) folder input out within = absurd (within is)
  answer-calm (inr (inr (inl k))) folder input out within = absurd (folder k.1)
  answer-calm (inr (inr (inr (inl k)))) folder input out within = absurd (out k.1)
  answer-calm (inr (inr (inr (inr (inl k))))) folder input out within = absurd (input k.1)
  answer-calm (inr (inr (inr (inr (inr is))))) folder input out within = inr is
