-- Given as lines of their own, the rules of a closed list have no fault, and close to themselves.
use Rattle.std.proofs.Common.{◌≡◌, ℕ, true, false, not, inl, inr, ⊎_elim, List, [], ◌∷◌, ◌++◌, length, ltb, map, refl, ap, ap₂, sym, ◌∙◌, subst, Ok}
use Rattle.std.proofs.lemmas.Bool.{and_left, and_right, not_from_true, false_from_ne_true}
use Rattle.std.proofs.lemmas.Cmp.{tied_itself}
use Rattle.std.specs.List.{list_any}
use Rattle.std.specs.Ordering.{is_eq}
use Rattle.std.specs.declared.cmp.Ordering.TheVariants.{Equal}
use Rattle.key_spec.specs.Data.{PlainRule}
use Rattle.key_spec.specs.Rules.{path_cmp, rule_cmp, place_cmp, below}
use Rattle.key_spec.specs.Laws.{rule_cmp_total}
use Rattle.key_spec.specs.Closed.{target_of, implied_by, implied_rules, frontier_ends, has_path, has_place, lacks_context, is_keyed_twice, passes_end, closed_rules, within_limits}
use Rattle.key_spec.specs.ClosedList.{IsClosedList}
use Rattle.key_spec.proofs.ClosedLaws.{to_path, from_path, implied_unkeyed, IsFine}
use Rattle.key_spec.proofs.Members.{In, from-Contains, to-Contains, In-left, In-right, In-cases, In-flat_map, In-map, from_any, to_any, In-put_all, put_all-new, one_place, same_sorted}
use Rattle.key_spec.proofs.OrderLaws.{path_cmp-Decides}
use Rattle.key_spec.proofs.ParseLemmas.{limits-kept}
use Rattle.key_spec.proofs.SearchLemmas.{closed_rules-sorted}
use Rattle.key_spec.proofs.TokenLemmas.{by_test}

-- a context and a tag can be told from their target
pub below-injective : (c d : List (List ℕ)) (t u : List ℕ) → below c t ≡ below d u → (c ≡ d) × (t ≡ u)
below-injective [] [] t u e = (refl, cc)
below-injective [] (y ∷ []) t u e = cc
below-injective [] (y ∷ z ∷ zs) t u e = cc
below-injective (x ∷ []) [] t u e = cc
below-injective (x ∷ w ∷ ws) [] t u e = cc
below-injective (x ∷ xs) (y ∷ ys) t u e =
    let first : x ≡ y = cc in
    let tails : below xs t ≡ below ys u = cc in
    let rest = below-injective xs ys t u tails in
    (ap₂ (λ n ns. n ∷ ns) first rest.0, rest.1)

module _ (rules : List PlainRule) (h : IsClosedList rules) where
  implied-in : (i : PlainRule) → In i (implied_rules rules) → In i rules
  implied-in i g =
      let rule = In-flat_map implied_by rules i g in
      from-Contains rules i (h.implied rule.0 i (to-Contains rules rule.0 rule.1) (to-Contains (implied_by rule.0) i rule.2))

  context-fine : (r : PlainRule) → In r rules → lacks_context rules r ≡ false
  context-fine r g =
      ⊎_elim
      (λ e. and_left (ltb 0 (length r.context)) _ (ap (λ q. ltb 0 (length q)) e))
      (λ c. let e = In-map target_of rules r.context (from-Contains (map target_of rules) r.context c) in
      and_right _ (not (has_path (map target_of (rules ++ implied_rules rules)) r.context)) (not_from_true _ (to_path (rules ++ implied_rules rules) e.0 r.context (In-left e.0 rules (implied_rules rules) e.1) (sym e.2))))
      (h.contexts r (to-Contains rules r g))

  keys-fine : (r : PlainRule) → In r rules → is_keyed_twice rules r ≡ false
  keys-fine r g =
      by_test (has_place (implied_rules rules) r)
      (λ e. let i = from_path (implied_rules rules) (target_of r) e in
      let both = below-injective i.0.context r.context i.0.tag r.tag i.2 in
      let tied : rule_cmp i.0 r ≡ Equal = ap₂ (λ c t. place_cmp c t r.context r.tag) both.0 both.1 ∙ tied_itself rule_cmp_total r in
      let same : i.0 ≡ r = one_place rule_cmp_total rules i.0 r h.ascending (implied-in i.0 i.1) g tied in
      let none : r.paths ≡ [] = ap (λ (q : PlainRule). q.paths) (sym same) ∙ implied_unkeyed rules i.0 i.1 in
      and_left (ltb 0 (length r.paths)) _ (ap (λ ps. ltb 0 (length ps)) none))
      (λ e. and_right (ltb 0 (length r.paths)) _ e)

  on-way : (r s : PlainRule) → In r rules → In s (r ∷ implied_by r) → In s rules
  on-way r s g (inl e) = subst (λ q. In q rules) (sym e) g
  on-way r s g (inr k) = from-Contains rules s (h.implied r s (to-Contains rules r g) (to-Contains (implied_by r) s k))

  way-fine : (r : PlainRule) → In r rules → passes_end rules r ≡ false
  way-fine r g =
      false_from_ne_true (passes_end rules r) (λ e.
      let past = from_any (λ (s : PlainRule). has_path (frontier_ends rules) s.context) (r ∷ implied_by r) e in
      let end = from_any (λ q. is_eq (path_cmp q past.0.context)) (frontier_ends rules) past.2 in
      let same = (path_cmp-Decides end.0 past.0.context).0 end.2 in
      let some : list_any (λ (s : PlainRule). is_eq (path_cmp s.context end.0)) rules ≡ true =
      to_any (λ (s : PlainRule). is_eq (path_cmp s.context end.0)) rules past.0 (on-way r past.0 g past.1) ((path_cmp-Decides past.0.context end.0).1 (sym same)) in
      let no : false ≡ true = sym (ap not some) ∙ h.ends end.0 (to-Contains (frontier_ends rules) end.0 end.1) in cc)

  pub list-fine : (r : PlainRule) → In r rules → IsFine rules r
  list-fine r g = record { context = context-fine r g; keys = keys-fine r g; way = way-fine r g }

  -- closing them gives them again
  pub list-again : closed_rules rules ≡ rules
  list-again =
      let inside = λ (z : PlainRule) (g : In z (closed_rules rules)).
      let found : In z rules = ⊎_elim (λ no. absurd no) (λ l. ⊎_elim (implied-in z) (λ k. k) (In-cases z (implied_rules rules) rules l)) (In-put_all rule_cmp_total [] (implied_rules rules ++ rules) z g) in found in
      let outside = λ (z : PlainRule) (g : In z rules).
      let c = put_all-new rule_cmp_total [] (implied_rules rules ++ rules) z (In-right z (implied_rules rules) rules g) in
      let same : c.0 ≡ z = one_place rule_cmp_total rules c.0 z h.ascending (inside c.0 c.1) g c.2 in
      let found : In z (closed_rules rules) = subst (λ r. In r (closed_rules rules)) same c.1 in found in
      same_sorted rule_cmp_total (closed_rules rules) rules (closed_rules-sorted rules) h.ascending inside outside

  pub list-within : within_limits rules ≡ Ok rules
  list-within = limits-kept rules h.few h.short
