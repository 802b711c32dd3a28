-- What several appends, one after the other, do to a draft.
use Rattle.std.proofs.Common.{◌≡◌, ℕ, ◌+◌, List, [], ◌++◌, length, take, Option, None, Some, refl, sym, ap, ◌∙◌, subst, arith, append-nil, append_assoc, length-append}
use Rattle.std.specs.Prelude.{option_map}
use Rattle.std.proofs.Math.Seq.{take-append-add, take-length}
use Rattle.std.proofs.lemmas.List.{take-append-le}
use Rattle.xa_outside.specs.Numbers.{Numbers, IsMeter, after_draft}
use Rattle.xa_outside.specs.Folder.{Drafts, DraftsPrefix}
use Rattle.xa_outside.specs.NumberLaws.{after_draft-none, after_draft-twice}

grown_none : (d : Option (List ℕ)) → d ≡ option_map (λ x. x ++ []) d
grown_none None = refl
grown_none (Some x) = ap Some (sym (append-nil x))

grown_twice : (d : Option (List ℕ)) (x y : List ℕ) → option_map (λ l. l ++ y) (option_map (λ l. l ++ x) d) ≡ option_map (λ l. l ++ (x ++ y)) d
grown_twice None x y = refl
grown_twice (Some d) x y = ap Some (append_assoc d x y)

module _ (a : Option (List ℕ)) (m : Numbers) where
  pub Drafts-nil : IsMeter m → Drafts a a m m []
  Drafts-nil is = record { draft = grown_none a; numbers = sym (after_draft-none m is) }

  pub DraftsPrefix-none : (x : List ℕ) → IsMeter m → DraftsPrefix a a m m x
  DraftsPrefix-none x is = record { count = 0; within = omega arith; drafts = Drafts-nil is }

module _ (a b : Option (List ℕ)) (m n : Numbers) where
  pub DraftsPrefix-all : (x : List ℕ) → Drafts a b m n x → DraftsPrefix a b m n x
  DraftsPrefix-all x p = record { count = length x; within = omega arith; drafts = subst (Drafts a b m n) (sym (take-length x)) p }

  pub DraftsPrefix-more : (x y : List ℕ) → DraftsPrefix a b m n x → DraftsPrefix a b m n (x ++ y)
  DraftsPrefix-more x y p =
      let within = p.within in
      record { count = p.count; within = omega (arith, length-append x y); drafts = subst (Drafts a b m n) (sym (take-append-le p.count x y within)) p.drafts }

module _ (a b c : Option (List ℕ)) (m n k : Numbers) where
  pub Drafts-trans : (x y : List ℕ) → Drafts a b m n x → Drafts b c n k y → Drafts a c m k (x ++ y)
  Drafts-trans x y p q =
      record {
        draft = q.draft ∙ ap (option_map (λ l. l ++ y)) p.draft ∙ grown_twice a x y;
        numbers = q.numbers ∙ ap (λ o. after_draft o (length y)) p.numbers ∙ after_draft-twice m (length x) (length y) ∙ ap (after_draft m) (sym (length-append x y));
      }

  pub DraftsPrefix-after : (x y : List ℕ) → Drafts a b m n x → DraftsPrefix b c n k y → DraftsPrefix a c m k (x ++ y)
  DraftsPrefix-after x y p q =
      let within = q.within in
      record {
        count = length x + q.count;
        within = omega (arith, length-append x y);
        drafts = subst (Drafts a c m k) (sym (take-append-add x y q.count)) (Drafts-trans x (take q.count y) p q.drafts);
      }

-- for callers: a goal on a whole from what its pieces did
pub ruleset drafts = (Drafts-nil, Drafts-trans, DraftsPrefix-none, DraftsPrefix-all, DraftsPrefix-more, DraftsPrefix-after)
