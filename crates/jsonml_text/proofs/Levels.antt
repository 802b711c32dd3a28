-- Elements that stand too deep, and how deep a tree is.
use Rattle.std.proofs.Common.{◌≡◌, ℕ, ◌+◌, ◌≤◌, List, [], ◌∷◌, ◌++◌, length, Bool, true, false, cond, Option, Some, None, refl, ap, ◌∙◌, arith, length-append}
use Rattle.std.specs.Prelude.{nat_lt}
use Rattle.std.specs.Option.{option_or}
use Rattle.std.proofs.lemmas.Bool.{ltb-false, le-ltb}
use Rattle.jsonml_tree.specs.Data.{PlainTree, text, element, content, PlainTrees, no_trees, tree, tree_depth, trees_depth}
use Rattle.jsonml_tree.specs.declared.limits.TheConstants.{GREATEST_DEPTH}
use Rattle.jsonml_text.specs.Document.{too_deep_at, too_deep_from}

none_parts : {A : Type 0} (a b : Option A) → option_or a b ≡ None → (a ≡ None) × (b ≡ None)
none_parts None b e = (refl, e)
none_parts (Some x) b e = absurd (cc)

none_from : {A : Type 0} (a b : Option A) → a ≡ None → b ≡ None → option_or a b ≡ None
none_from None b e f = f
none_from (Some x) b e f = absurd (cc)

not_deep : (b : Bool) (place : List ℕ) (o : Option (List ℕ)) → cond b (Some place) o ≡ None → (b ≡ false) × (o ≡ None)
not_deep true place o e = absurd (cc)
not_deep false place o e = (refl, e)

one_more : (place : List ℕ) (n : ℕ) → length (place ++ n ∷ []) ≡ length place + 1
one_more place n = length-append place (n ∷ [])

-- no element that stands too deep is found in a tree that is shallow enough below its place, and only there
mutual
  pub depth_at : (place : List ℕ) (t : PlainTree) → length place ≤ GREATEST_DEPTH → too_deep_at place t ≡ None → length place + tree_depth t ≤ GREATEST_DEPTH
  depth_at place (text s) within e = omega arith
  depth_at place (element tag (content xs ts)) within e =
      let both = not_deep (nat_lt GREATEST_DEPTH (length place + 1)) place (too_deep_from place 1 ts) e in
      let room : length place + 1 ≤ GREATEST_DEPTH = ltb-false GREATEST_DEPTH (length place + 1) both.0 in
      omega (arith, depth_from place 1 ts room both.1)

  pub depth_from : (place : List ℕ) (n : ℕ) (ts : PlainTrees) → length place + 1 ≤ GREATEST_DEPTH → too_deep_from place n ts ≡ None → length place + 1 + trees_depth ts ≤ GREATEST_DEPTH
  depth_from place n no_trees room e = omega arith
  depth_from place n (tree t ts) room e =
      let both = none_parts (too_deep_at (place ++ n ∷ []) t) (too_deep_from place (n + 1) ts) e in
      let here = depth_at (place ++ n ∷ []) t (omega (arith, one_more place n)) both.0 in
      omega (arith, one_more place n, here, depth_from place (n + 1) ts room both.1)

mutual
  pub found_at : (place : List ℕ) (t : PlainTree) → length place + tree_depth t ≤ GREATEST_DEPTH → too_deep_at place t ≡ None
  found_at place (text s) shallow = refl
  found_at place (element tag (content xs ts)) shallow =
      ap (λ b. cond b (Some place) (too_deep_from place 1 ts)) (le-ltb GREATEST_DEPTH (length place + 1) (omega arith)) ∙ found_from place 1 ts (omega arith)

  pub found_from : (place : List ℕ) (n : ℕ) (ts : PlainTrees) → length place + 1 + trees_depth ts ≤ GREATEST_DEPTH → too_deep_from place n ts ≡ None
  found_from place n no_trees shallow = refl
  found_from place n (tree t ts) shallow = none_from _ _ (found_at (place ++ n ∷ []) t (omega (arith, one_more place n))) (found_from place (n + 1) ts (omega arith))
