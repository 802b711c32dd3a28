-- How the parts of `demo` lead to its end.
use Rattle.std.proofs.Common.{◌≡◌, ℕ, List, Result, Ok, Err, refl, sym, ap, ◌∙◌, subst}
use Rattle.xa_outside.specs.Folder.{Files}
use Rattle.xarch_words.specs.Refusal.{Refusal}
use Rattle.xarch_parts.specs.Archives.{GoesOn, free_in}
use Rattle.xarch_meanings.specs.Demo.{DemoIs, MakesOrNone, demo_input}
use Rattle.xarch_parts.specs.Inputs.{at_most}
use Rattle.xarch_parts.specs.Outcome.{Outcome, and_then}
use Rattle.xarch_words.specs.Refusal as refusal
use Rattle.xarch_words.specs.declared.limits.TheConstants.{DEMO}

module _ (files : Files) (seed count : ℕ) (name : List ℕ) where
  -- too many documents, or a name that is not free
  pub refused_early : (q : Refusal) → demo_input files count name ≡ Err q → DemoIs files seed count name (Err q)
  refused_early q e = subst (λ x. GoesOn x (λ _. MakesOrNone files name seed count) (Err q)) (sym e) refl

  pub refused_many : (q : Refusal) → at_most refusal.demo DEMO count ≡ Err q → DemoIs files seed count name (Err q)
  refused_many q e = refused_early q (ap (λ x. and_then x (λ _. free_in files name)) e)

  module _ (few : at_most refusal.demo DEMO count ≡ Ok count) where
    pub refused_name : (q : Refusal) → free_in files name ≡ Err q → DemoIs files seed count name (Err q)
    refused_name q e = refused_early q (ap (λ x. and_then x (λ _. free_in files name)) few ∙ e)

    module _ (free : free_in files name ≡ Ok tt) where
      input : demo_input files count name ≡ Ok tt
      input = ap (λ x. and_then x (λ _. free_in files name)) few ∙ free

      -- what may come then
      pub goes_on : (r : Result Outcome Refusal) → MakesOrNone files name seed count r → DemoIs files seed count name r
      goes_on r h = subst (λ x. GoesOn x (λ _. MakesOrNone files name seed count) r) (sym input) h
