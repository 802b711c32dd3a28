-- How the parts of `norm` lead to its end.
use Rattle.std.proofs.Common.{◌≡◌, ℕ, List, Result, Ok, Err, refl, sym, ap, ◌∙◌, subst}
use Rattle.xa_outside.specs.Folder.{Files}
use Rattle.jsonml_tree.specs.Data.{PlainTree}
use Rattle.key_spec.specs.Data.{PlainRule}
use Rattle.xarch_words.specs.Refusal.{document, specification, Refusal, PlainFault}
use Rattle.xarch_words.specs.declared.limits.TheConstants.{DOCUMENT, SPECIFICATION}
use Rattle.xarch_parts.specs.Ends.{IsDefined}
use Rattle.xarch_parts.specs.Inputs.{file_of, length_in, read_in}
use Rattle.xarch_meanings.specs.Norm.{norm_from, norm_input, norm_of, norm_of_tree}
use Rattle.xarch_parts.specs.Outcome.{Outcome, and_then}
use Rattle.xarch_parts.specs.Readings.{document_of, rules_of}
use Rattle.xarch_parts.specs.EndLaws.{IsDefined-here}

-- the inputs first, and then what comes of them
behind : (x y : Result ℕ Refusal) (z : Result (List PlainRule) Refusal) (w : Result (List ℕ) Refusal) (D : List ℕ → Result PlainTree Refusal) (K : List PlainRule → PlainTree → Result Outcome Refusal)
    → and_then x (λ _. and_then y (λ _. and_then z (λ r. and_then (and_then w D) (λ t. K r t))))
    ≡ and_then (and_then x (λ _. and_then y (λ _. and_then z (λ r. and_then w (λ b. Ok (r, b)))))) (λ (p : List PlainRule × List ℕ). and_then (D p.1) (λ t. K p.0 t))
behind (Err e) y z w D K = refl
behind (Ok n) (Err e) z w D K = refl
behind (Ok n) (Ok m) (Err e) w D K = refl
behind (Ok n) (Ok m) (Ok r) (Err e) D K = refl
behind (Ok n) (Ok m) (Ok r) (Ok b) D K = refl

module _ (files : Files) (spec doc : List ℕ) where
  norm-is : norm_of files spec doc ≡ and_then (norm_input files spec doc) (λ p. norm_from files p.0 p.1)
  norm-is = behind (length_in files spec specification SPECIFICATION) (length_in files doc document DOCUMENT) (read_in files spec rules_of) (file_of files doc) document_of (norm_of_tree files)

  pub norm-refused : (v : PlainFault) → IsDefined (norm_input files spec doc) v → IsDefined (norm_of files spec doc) v
  norm-refused v p = subst (λ x. IsDefined x v) (sym norm-is) (IsDefined-here (norm_input files spec doc) (λ p. norm_from files p.0 p.1) v p)

  pub norm-goes_on : (rules : List PlainRule) (bytes : List ℕ) → norm_input files spec doc ≡ Ok (rules, bytes) → norm_of files spec doc ≡ norm_from files rules bytes
  norm-goes_on rules bytes e = norm-is ∙ ap (λ x. and_then x (λ (p : List PlainRule × List ℕ). norm_from files p.0 p.1)) e
