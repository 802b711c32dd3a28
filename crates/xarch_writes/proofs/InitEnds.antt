-- How the parts of `init` lead to its end.
use Rattle.std.proofs.Common.{◌≡◌, inl, inr, ℕ, List, [], ◌∷◌, Ok, Err, refl, sym, ap, subst, arith}
use Rattle.std.specs.FinMap as map
use Rattle.xa_outside.specs.Folder.{Files}
use Rattle.key_spec.specs.Data.{PlainRule}
use Rattle.keyed_tree.specs.Data.{PlainKeyed}
use Rattle.archive_tree.specs.Data.{PlainArchive}
use Rattle.archive_tree.specs.Stands.{ArchiveOf}
use Rattle.record_format.specs.Files.{FileOf}
use Rattle.record_format.specs.declared.limits.TheConstants.{LONGEST}
use Rattle.archive_file.specs.KeyedBy.{AreKeyedBy}
use Rattle.noted_file.specs.Contents.{unnoted}
use Rattle.noted_file.specs.Full.{FullAs}
use Rattle.xarch_words.specs.Refusal.{archive, Refusal, limit}
use Rattle.xarch_parts.specs.Archives.{GoesOn, Stores}
use Rattle.xarch_meanings.specs.Init.{InitIs, init_rules}

-- the archive of no versions has no others
pub none_keyed : (rules : List PlainRule) (a : PlainArchive) → ArchiveOf [] a → (vs : List PlainKeyed) → ArchiveOf vs a → AreKeyedBy rules vs
none_keyed rules a e [] h = tt
none_keyed rules a e (v ∷ vs) h = absurd (let none = e.count in let some = h.count in omega (arith, none, some))

module _ (files : Files) (name spec : List ℕ) where
  -- a refusal before anything is made
  pub init_refused_early : (q : Refusal) → init_rules files name spec ≡ Err q → InitIs files name spec (Err q)
  init_refused_early q e = subst (λ x. GoesOn x (λ rules. Stores files name (unnoted rules [])) (Err q)) (sym e) refl

  module _ (rules : List PlainRule) (input : init_rules files name spec ≡ Ok rules) where
    -- the file comes
    pub init_stored : (new : List ℕ) → FullAs (unnoted rules []) new → InitIs files name spec (Ok (record { files = map.insert files name new; output = [] }))
    init_stored new full = subst (λ x. GoesOn x (λ rules. Stores files name (unnoted rules [])) (Ok (record { files = map.insert files name new; output = [] }))) (sym input) (inl (record { bytes = new; full = full; is = refl }))

    -- there is none
    pub init_refused : (q : Refusal) → q ≡ limit archive LONGEST → ((bytes : List ℕ) → ¬ FileOf rules [] bytes) → InitIs files name spec (Err q)
    init_refused q e none = subst (λ x. GoesOn x (λ rules. Stores files name (unnoted rules [])) (Err q)) (sym input) (inr (record { none = none; is = ap (λ s. Err s) e }))
