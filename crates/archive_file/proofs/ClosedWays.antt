-- The key paths of closed rules lead somewhere: each of their tags has a rule without key paths, and where they name no attribute they end at the frontier.
use Rattle.std.proofs.Common.{◌≡◌, ℕ, true, false, cond, inl, inr, List, [], ◌∷◌, ◌++◌, Option, Some, None, is_some, flat_map, refl, ap, sym, subst, ◌∙◌, append_assoc, append-nil, true≢false}
use Rattle.std.proofs.lemmas.Cmp.{tied_itself}
use Rattle.std.specs.List.{AllByRecursion}
use Rattle.std.specs.Ordering.{is_eq}
use Rattle.std.specs.declared.cmp.Ordering.{Ordering}
use Rattle.std.specs.declared.cmp.Ordering.TheVariants.{Less, Equal, Greater}
use Rattle.std.proofs.lemmas.Map.Lookups.{exact_bytes}
use Rattle.jsonml_tree.specs.Laws.{lists_exact, both_equal}
use Rattle.key_spec.specs.Data.{PlainPath, PlainRule}
use Rattle.key_spec.specs.Rules.{place_cmp, path_cmp, name_cmp, rule_of, is_frontier, below}
use Rattle.key_spec.specs.Laws.{rule_cmp_total}
use Rattle.key_spec.specs.Closed.{target_of, implied_along, end_at, IsClosed}
use Rattle.key_spec.proofs.Members.{In, to_flat_map}
use Rattle.key_spec.proofs.SpecLaws.{one_rule, tags_are_rules, ends_are_frontier}
use Rattle.archive_file.proofs.Ways.{IsBare, IsWay, PathsLead}

-- ---- the rule for a context and a tag

is-equal : (o : Ordering) → is_eq o ≡ true → o ≡ Equal
is-equal Less e = absurd (true≢false (sym e))
is-equal Equal e = refl
is-equal Greater e = absurd (true≢false (sym e))

pub record Found (rules : List PlainRule) (path : List (List ℕ)) (t : List ℕ) (r : PlainRule) : Type 0 where
  pub has : In r rules
  pub context_is : r.context ≡ path
  pub tag_is : r.tag ≡ t

found-rule : (rules : List PlainRule) (path : List (List ℕ)) (t : List ℕ) (r : PlainRule) → rule_of rules path t ≡ Some r → Found rules path t r
found-rule [] path t r e = cc
found-rule (s ∷ rules) path t r e =
    elim (is_eq (place_cmp s.context s.tag path t)) as (λ b. is_eq (place_cmp s.context s.tag path t) ≡ b → cond b (Some s) (rule_of rules path t) ≡ Some r → Found (s ∷ rules) path t r) [
      | true ↦ λ d f. (
          let same : s ≡ r = cc in
          let two = both_equal (path_cmp s.context path) (name_cmp s.tag t) (is-equal _ d) in
          record {
            has = inl (sym same);
            context_is = ap (λ (z : PlainRule). z.context) (sym same) ∙ lists_exact exact_bytes s.context path two.0;
            tag_is = ap (λ (z : PlainRule). z.tag) (sym same) ∙ exact_bytes s.tag t two.1;
          })
      | false ↦ λ d f. (let rest = found-rule rules path t r f in record { has = inr rest.has; context_is = rest.context_is; tag_is = rest.tag_is })
    ] refl e

-- some rule is found where there is one
some-rule : (rules : List PlainRule) (i : PlainRule) → In i rules → (r : PlainRule) × (rule_of rules i.context i.tag ≡ Some r)
some-rule [] i h = absurd h
some-rule (s ∷ rules) i h =
    elim (is_eq (place_cmp s.context s.tag i.context i.tag)) as (λ b. is_eq (place_cmp s.context s.tag i.context i.tag) ≡ b → (r : PlainRule) × (cond b (Some s) (rule_of rules i.context i.tag) ≡ Some r)) [
      | true ↦ λ d. (s, refl)
      | false ↦ λ d. elim h [
        | inl e ↦ absurd (true≢false (sym (ap is_eq (tied_itself rule_cmp_total i)) ∙ subst (λ (z : PlainRule). is_eq (place_cmp z.context z.tag i.context i.tag) ≡ false) (sym e) d))
        | inr n ↦ some-rule rules i n
      ]
    ] refl

-- the tags of a key path without attribute end there
at-end : (target path : List (List ℕ)) (p : PlainPath) → p.attr ≡ None → target ≡ path → In (path ++ p.tags) (end_at target p)
at-end target path p none e =
    subst (λ z. In (z ++ p.tags) (end_at target p)) e (subst (λ o. In (target ++ p.tags) (cond (is_some o) [] ((target ++ p.tags) ∷ []))) (sym none) (inl refl))

module _ (rules : List PlainRule) (closed_ : IsClosed rules) where
  -- a rule without key paths is the one for its context and tag
  bare : (path : List (List ℕ)) (t : List ℕ) → In (record { context = path; tag = t; paths = [] }) rules → IsBare rules path t
  bare path t h =
      let some = some-rule rules (record { context = path; tag = t; paths = [] }) h in
      let f = found-rule rules path t some.0 some.1 in
      let same = one_rule rules closed_ some.0 (record { context = path; tag = t; paths = [] }) f.has h f.context_is f.tag_is in
      (some.0, some.1, ap (λ (r : PlainRule). r.paths) same)

  way : (path : List (List ℕ)) (tags : List (List ℕ)) (at : Option (List ℕ)) → ((i : PlainRule) → In i (implied_along path tags) → In i rules)
      → (at ≡ None → is_frontier rules (path ++ tags) ≡ true) → IsWay rules path tags at
  way path [] None each ends = ap (is_frontier rules) (sym (append-nil path)) ∙ ends refl
  way path [] (Some name) each ends = tt
  way path (t ∷ tags) at each ends = (
    bare path t (each (record { context = path; tag = t; paths = [] }) (inl refl)),
    way (below path t) tags at (λ i m. each i (inr m)) (λ e. ap (is_frontier rules) (append_assoc path (t ∷ []) tags) ∙ ends e),
  )

  ways : (r : PlainRule) → In r rules → (path : List (List ℕ)) → target_of r ≡ path → (ps : List PlainPath) → ((p : PlainPath) → In p ps → In p r.paths) → AllByRecursion (λ (p : PlainPath). IsWay rules path p.tags p.attr) ps
  ways r h path e [] all = tt
  ways r h path e (p ∷ ps) all = (
    way path p.tags p.attr
        (λ i m. (tags_are_rules rules closed_ r i h (to_flat_map (λ (q : PlainPath). implied_along (target_of r) q.tags) r.paths p i (all p (inl refl)) (subst (λ z. In i (implied_along z p.tags)) (sym e) m))).0)
        (λ none. ends_are_frontier rules closed_ (path ++ p.tags) (to_flat_map (λ (rule : PlainRule). flat_map (end_at (target_of rule)) rule.paths) rules r (path ++ p.tags) h
        (to_flat_map (end_at (target_of r)) r.paths p (path ++ p.tags) (all p (inl refl)) (at-end (target_of r) path p none e)))),
    ways r h path e ps (λ q m. all q (inr m)),
  )

  pub closed-lead : PathsLead rules
  closed-lead path t r e =
      let f = found-rule rules path t r e in
      let target : target_of r ≡ below path t = ap (λ z. below z r.tag) f.context_is ∙ ap (below path) f.tag_is in
      ways r f.has (below path t) target r.paths (λ p m. m)
