-- What holds of the closed rules of a text.
use Rattle.std.proofs.Common.{◌≡◌, ℕ, ◌≤◌, Bool, true, false, cond, ◌&&◌, ◌⊎◌, inl, inr, ⊎_elim, List, [], ◌∷◌, ◌++◌, length, ltb, map, flat_map, refl, ap, ap₂, sym, ◌∙◌, subst, arith, Option, Some, None, Ok, is_some, option_map}
use Rattle.std.proofs.lemmas.Bool.{cond-false, or_left, and_from, not_from_false, false_from_ne_true, lt-ltb}
use Rattle.std.specs.List.{cons_option, list_any}
use Rattle.std.specs.List.Sorted.{IsStrictlySortedBy}
use Rattle.std.specs.Option.{option_or}
use Rattle.std.specs.Ordering.{is_eq}
use Rattle.std.specs.declared.cmp.Ordering.TheVariants.{Equal}
use Rattle.key_spec.specs.Data.{PlainPath, PlainRule, GivenRule}
use Rattle.key_spec.specs.Names.{is_named}
use Rattle.key_spec.specs.Form.{line_rule}
use Rattle.key_spec.specs.Rules.{path_cmp, rule_cmp, below}
use Rattle.key_spec.specs.Laws.{rule_cmp_total}
use Rattle.key_spec.specs.Canonical.{canonical}
use Rattle.key_spec.specs.Closed.{given_rules, paths_why, rule_why, line_fault, first_of_all, target_of, implied_along, implied_by, implied_rules, end_at, frontier_ends, has_path, has_place, lacks_context, is_keyed_twice, passes_end, closing_why, closing_fault, closed_rules, within_limits, closed}
use Rattle.key_spec.specs.ClosedList.{IsClosedList}
use Rattle.key_spec.proofs.ClosingLemmas.{implied_rules-named}
use Rattle.key_spec.proofs.Members.{In, from-Contains, to-Contains, In-left, In-right, In-cases, In-flat_map, to_flat_map, In-map, to_map, from_any, to_any, from_all, In-put_all, Covers, put_all-new}
use Rattle.key_spec.proofs.OrderLaws.{path_cmp-Decides, rule_cmp-Equal}
use Rattle.key_spec.proofs.ParseLemmas.{lines_of, rules_of, given_rules-named, limits-kept}
use Rattle.key_spec.proofs.SearchLemmas.{closed-parts, limits-ok, closed_rules-sorted}
use Rattle.key_spec.proofs.TokenLemmas.{by_test}

-- ---- rules at one place

-- rules at one place have one target
target_same : (r s : PlainRule) → rule_cmp r s ≡ Equal → target_of r ≡ target_of s
target_same r s e = let both = rule_cmp-Equal r s e in ap₂ below both.0 both.1

-- and where neither has key paths they are one
unkeyed_same : (r s : PlainRule) → rule_cmp r s ≡ Equal → r.paths ≡ [] → s.paths ≡ [] → r ≡ s
unkeyed_same r s e a b =
    let both = rule_cmp-Equal r s e in
    let context : r.context ≡ s.context = both.0 in
    let tag : r.tag ≡ s.tag = both.1 in
    let paths : r.paths ≡ s.paths = a ∙ sym b in
    λ i. record { context = context i; tag = tag i; paths = paths i }

-- a path that some rule has as its target
pub to_path : (rules : List PlainRule) (r : PlainRule) (p : List (List ℕ)) → In r rules → target_of r ≡ p → has_path (map target_of rules) p ≡ true
to_path rules r p h e = to_any (λ q. is_eq (path_cmp q p)) (map target_of rules) (target_of r) (to_map target_of rules r h) ((path_cmp-Decides (target_of r) p).1 e)

pub from_path : (rules : List PlainRule) (p : List (List ℕ)) → has_path (map target_of rules) p ≡ true → (r : PlainRule) × In r rules × (target_of r ≡ p)
from_path rules p e =
    let found = from_any (λ q. is_eq (path_cmp q p)) (map target_of rules) e in
    let of = In-map target_of rules found.0 found.1 in
    (of.0, of.1, sym of.2 ∙ (path_cmp-Decides found.0 p).0 found.2)

-- ---- implied rules

along_unkeyed : (p tags : List (List ℕ)) (i : PlainRule) → In i (implied_along p tags) → i.paths ≡ []
along_unkeyed p [] i h = absurd h
along_unkeyed p (tag ∷ tags) i (inl e) = ap (λ (r : PlainRule). r.paths) e
along_unkeyed p (tag ∷ tags) i (inr h) = along_unkeyed (below p tag) tags i h

pub implied_unkeyed : (rules : List PlainRule) (i : PlainRule) → In i (implied_rules rules) → i.paths ≡ []
implied_unkeyed rules i h =
    let rule = In-flat_map implied_by rules i h in
    let path = In-flat_map (λ (p : PlainPath). implied_along (target_of rule.0) p.tags) rule.0.paths i rule.2 in
    along_unkeyed (target_of rule.0) path.0.tags i path.2

-- the context of an implied rule is where the way begins, or the target of the one before it
along_context : (p tags : List (List ℕ)) (i : PlainRule) → In i (implied_along p tags) → (i.context ≡ p) ⊎ ((j : PlainRule) × In j (implied_along p tags) × (target_of j ≡ i.context))
along_context p [] i h = absurd h
along_context p (tag ∷ tags) i (inl e) = inl (ap (λ (r : PlainRule). r.context) e)
along_context p (tag ∷ tags) i (inr h) =
    let first : PlainRule = record { context = p; tag = tag; paths = [] } in
    ⊎_elim (λ e. inr (first, inl refl, sym e)) (λ f. inr (f.0, inr f.1, f.2)) (along_context (below p tag) tags i h)

implied_context : (rules : List PlainRule) (i : PlainRule) → In i (implied_rules rules) → (s : PlainRule) × In s (implied_rules rules ++ rules) × (target_of s ≡ i.context)
implied_context rules i h =
    let rule = In-flat_map implied_by rules i h in
    let way = λ (p : PlainPath). implied_along (target_of rule.0) p.tags in
    let path = In-flat_map way rule.0.paths i rule.2 in
    ⊎_elim
    (λ e. (rule.0, In-right rule.0 (implied_rules rules) rules rule.1, sym e))
    (λ f. (f.0, In-left f.0 (implied_rules rules) rules (to_flat_map implied_by rules rule.0 f.0 rule.1 (to_flat_map way rule.0.paths path.0 f.0 path.1 f.1)), f.2))
    (along_context (target_of rule.0) path.0.tags i path.2)

-- a rule without key paths implies nothing and ends nowhere
nothing_implied : (r : PlainRule) → r.paths ≡ [] → (i : PlainRule) → In i (implied_by r) → ⊥
nothing_implied r e i h = subst (λ ps. In i (flat_map (λ (p : PlainPath). implied_along (target_of r) p.tags) ps)) e h

no_end : (r : PlainRule) → r.paths ≡ [] → (p : List (List ℕ)) → In p (flat_map (end_at (target_of r)) r.paths) → ⊥
no_end r e p h = subst (λ ps. In p (flat_map (end_at (target_of r)) ps)) e h

-- ---- what the passes say of each rule

-- the second pass has no fault for a rule, behind some earlier ones
pub record IsFine (rules : List PlainRule) (r : PlainRule) : Type 0 where
  pub context : lacks_context rules r ≡ false
  pub keys : is_keyed_twice rules r ≡ false
  pub way : passes_end rules r ≡ false

chosen : (b : Bool) (o p : Option ℕ) → cond b o p ≡ None → is_some o ≡ true → (b ≡ false) × (p ≡ None)
chosen true o p e some = let no : true ≡ false = sym some ∙ ap is_some e in cc
chosen false o p e some = (refl, e)

fine_parts : (rules before : List PlainRule) (r : PlainRule) → closing_why rules before r ≡ None → IsFine rules r
fine_parts rules before r e =
    let two = chosen (lacks_context rules r) (Some 2) _ e refl in
    let three = chosen (has_place before r) (Some 3) _ two.1 refl in
    let five = chosen (is_keyed_twice rules r) (Some 5) _ three.1 refl in
    let six = chosen (passes_end rules r) (Some 6) None five.1 refl in
    record { context = two.0; keys = five.0; way = six.0 }

pub fine_why : (rules before : List PlainRule) (r : PlainRule) → IsFine rules r → has_place before r ≡ false → closing_why rules before r ≡ None
fine_why rules before r f e =
    cond-false (lacks_context rules r) (Some 2) _ f.context ∙ cond-false (has_place before r) (Some 3) _ e ∙ cond-false (is_keyed_twice rules r) (Some 5) _ f.keys ∙ cond-false (passes_end rules r) (Some 6) None f.way

or_none : {X : Type 0} (o p : Option X) → option_or o p ≡ None → (o ≡ None) × (p ≡ None)
or_none None p e = (refl, e)
or_none (Some x) p e = cc

map_none : {X Y : Type 0} (f : X → Y) (o : Option X) → option_map f o ≡ None → o ≡ None
map_none f None e = refl
map_none f (Some x) e = cc

all_fine : (rules before : List PlainRule) (given : List GivenRule) (r : PlainRule) → closing_fault rules before given ≡ None → In r (map (λ (g : GivenRule). g.rule) given) → IsFine rules r
all_fine rules before [] r e h = absurd h
all_fine rules before (g ∷ given) r e (inl same) =
    subst (IsFine rules) (sym same) (fine_parts rules before g.rule (map_none _ (closing_why rules before g.rule) (or_none _ (closing_fault rules (before ++ g.rule ∷ []) given) e).0))
all_fine rules before (g ∷ given) r e (inr h) =
    all_fine rules (before ++ g.rule ∷ []) given r (or_none (option_map _ (closing_why rules before g.rule)) (closing_fault rules (before ++ g.rule ∷ []) given) e).1 h

-- the first pass has no fault for the key paths of a given rule
given_paths : (ls : List (ℕ × List ℕ)) (r : PlainRule) → first_of_all line_fault ls ≡ None → In r (map (λ (g : GivenRule). g.rule) (given_rules ls)) → paths_why r.paths ≡ None
given_paths [] r e h = absurd h
given_paths (line ∷ ls) r e h =
    let both = or_none (line_fault line) (first_of_all line_fault ls) e in
    of_line (line_rule line.1) refl (map_none _ (rule_why (line_rule line.1)) both.0) h (given_paths ls r both.1)
  where
    of_line : (o : Option PlainRule) → line_rule line.1 ≡ o → rule_why (line_rule line.1) ≡ None
        → In r (map (λ (g : GivenRule). g.rule) (cons_option (option_map (λ rule. record { line = line.0; rule = rule }) (line_rule line.1)) (given_rules ls)))
        → (In r (map (λ (g : GivenRule). g.rule) (given_rules ls)) → paths_why r.paths ≡ None) → paths_why r.paths ≡ None
    of_line None f why g later = later (subst (λ p. In r (map (λ (g : GivenRule). g.rule) (cons_option (option_map (λ rule. record { line = line.0; rule = rule }) p) (given_rules ls)))) f g)
    of_line (Some rule) f why g later =
        ⊎_elim (λ same. ap (λ (t : PlainRule). paths_why t.paths) same ∙ sym (ap rule_why f) ∙ why) later
        (subst (λ p. In r (map (λ (g : GivenRule). g.rule) (cons_option (option_map (λ rule. record { line = line.0; rule = rule }) p) (given_rules ls)))) f g)

-- ---- the closed rules of a text

module _ (text : List ℕ) (rs : List PlainRule) (closes : closed text ≡ Ok rs) where
  is_closed : closed_rules (rules_of text) ≡ rs
  is_closed = (limits-ok (closed_rules (rules_of text)) rs (closed-parts text rs closes).2).0

  sorted : IsStrictlySortedBy rule_cmp rs
  sorted = subst (IsStrictlySortedBy rule_cmp) is_closed (closed_rules-sorted (rules_of text))

  -- each closed rule is implied or given
  from_closed : (r : PlainRule) → In r rs → In r (implied_rules (rules_of text)) ⊎ In r (rules_of text)
  from_closed r h =
      ⊎_elim (λ no. absurd no) (λ l. In-cases r (implied_rules (rules_of text)) (rules_of text) l)
      (In-put_all rule_cmp_total [] (implied_rules (rules_of text) ++ rules_of text) r (subst (In r) (sym is_closed) h))

  -- and each place of an implied or given rule has a closed one
  covered : (z : PlainRule) → In z (implied_rules (rules_of text) ++ rules_of text) → Covers rule_cmp_total rs z
  covered z h = subst (λ xs. Covers rule_cmp_total xs z) is_closed (put_all-new rule_cmp_total [] (implied_rules (rules_of text) ++ rules_of text) z h)

  given_fine : (r : PlainRule) → In r (rules_of text) → IsFine (rules_of text) r
  given_fine r h = all_fine (rules_of text) [] (given_rules (lines_of text)) r (closed-parts text rs closes).1 h

  -- what a line implies has no key, wherever it is given
  unkeyed : (e i : PlainRule) → In e (rules_of text) → In i (implied_rules (rules_of text)) → target_of i ≡ target_of e → e.paths ≡ []
  unkeyed e i h g same =
      let known : has_place (implied_rules (rules_of text)) e ≡ true = to_path (implied_rules (rules_of text)) i (target_of e) g same in
      let none : (ltb 0 (length e.paths) && true) ≡ false = ap (λ b. ltb 0 (length e.paths) && b) (sym known) ∙ (given_fine e h).keys in
      empty e.paths none
    where
      empty : (ps : List PlainPath) → (ltb 0 (length ps) && true) ≡ false → ps ≡ []
      empty [] f = refl
      empty (p ∷ ps) f = let yes : true ≡ false = ap (λ b. b && true) (sym (lt-ltb 0 (length (p ∷ ps)) (omega arith))) ∙ f in cc

  -- so each implied rule is closed
  pub implied_closed : (i : PlainRule) → In i (implied_rules (rules_of text)) → In i rs
  implied_closed i h =
      let c = covered i (In-left i (implied_rules (rules_of text)) (rules_of text) h) in
      let no_keys : c.0.paths ≡ [] = ⊎_elim (λ l. implied_unkeyed (rules_of text) c.0 l) (λ l. unkeyed c.0 i l h (sym (target_same c.0 i c.2))) (from_closed c.0 c.1) in
      subst (λ r. In r rs) (unkeyed_same c.0 i c.2 no_keys (implied_unkeyed (rules_of text) i h)) c.1

  -- what closed rules imply is what the given ones imply
  pub implied_again : (i : PlainRule) → In i (implied_rules rs) → In i (implied_rules (rules_of text))
  implied_again i h =
      let rule = In-flat_map implied_by rs i h in
      ⊎_elim
      (λ l. absurd (nothing_implied rule.0 (implied_unkeyed (rules_of text) rule.0 l) i rule.2))
      (λ l. to_flat_map implied_by (rules_of text) rule.0 i l rule.2)
      (from_closed rule.0 rule.1)

  ends_again : (p : List (List ℕ)) → In p (frontier_ends rs) → In p (frontier_ends (rules_of text))
  ends_again p h =
      let ends = λ (r : PlainRule). flat_map (end_at (target_of r)) r.paths in
      let rule = In-flat_map ends rs p h in
      ⊎_elim
      (λ l. absurd (no_end rule.0 (implied_unkeyed (rules_of text) rule.0 l) p rule.2))
      (λ l. to_flat_map ends (rules_of text) rule.0 p l rule.2)
      (from_closed rule.0 rule.1)

  -- a closed rule's context is `/` or the target of a closed rule
  pub has_context : (r : PlainRule) → In r rs → (r.context ≡ []) ⊎ ((e : PlainRule) × In e rs × (target_of e ≡ r.context))
  has_context r h =
      let at = λ (s : (z : PlainRule) × In z (implied_rules (rules_of text) ++ rules_of text) × (target_of z ≡ r.context)). let c = covered s.0 s.1 in
      let found : (e : PlainRule) × In e rs × (target_of e ≡ r.context) = (c.0, c.1, target_same c.0 s.0 c.2 ∙ s.2) in found in
      ⊎_elim
      (λ l. inr (at (implied_context (rules_of text) r l)))
      (λ l. of_given (r.context) refl (given_fine r l).context at)
      (from_closed r h)
    where
      swapped : (z : PlainRule) → In z (rules_of text ++ implied_rules (rules_of text)) → In z (implied_rules (rules_of text) ++ rules_of text)
      swapped z g = ⊎_elim (λ l. In-right z (implied_rules (rules_of text)) (rules_of text) l) (λ l. In-left z (implied_rules (rules_of text)) (rules_of text) l) (In-cases z (rules_of text) (implied_rules (rules_of text)) g)

      of_given : (p : List (List ℕ)) → r.context ≡ p → lacks_context (rules_of text) r ≡ false
          → ((s : (z : PlainRule) × In z (implied_rules (rules_of text) ++ rules_of text) × (target_of z ≡ r.context)) → (e : PlainRule) × In e rs × (target_of e ≡ r.context))
          → (r.context ≡ []) ⊎ ((e : PlainRule) × In e rs × (target_of e ≡ r.context))
      of_given [] e f at = inl e
      of_given (n ∷ ns) e f at =
          let some : ltb 0 (length r.context) ≡ true = ap (λ q. ltb 0 (length q)) e ∙ lt-ltb 0 (length (n ∷ ns)) (omega arith) in
          let known : has_path (map target_of (rules_of text ++ implied_rules (rules_of text))) r.context ≡ true =
          by_test (has_path (map target_of (rules_of text ++ implied_rules (rules_of text))) r.context) (λ g. g)
          (λ g. let no : true ≡ false = sym (and_from _ _ some (not_from_false _ g)) ∙ f in cc) in
          let found = from_path (rules_of text ++ implied_rules (rules_of text)) r.context known in
          inr (at (found.0, swapped found.0 found.1, found.2))

  -- a rule on the way of a given one
  on_way : (r s : PlainRule) → In r rs → In s (r ∷ implied_by r) → (g : PlainRule) × In g (rules_of text) × In s (g ∷ implied_by g)
  on_way r s h k =
      ⊎_elim
      (λ l. let rule = In-flat_map implied_by (rules_of text) r l in
      ⊎_elim (λ e. (rule.0, rule.1, inr (subst (λ t. In t (implied_by rule.0)) (sym e) rule.2))) (λ m. absurd (nothing_implied r (implied_unkeyed (rules_of text) r l) s m)) k)
      (λ l. (r, l, k))
      (from_closed r h)

  way_fine : (r : PlainRule) → In r rs → passes_end rs r ≡ false
  way_fine r h =
      false_from_ne_true (passes_end rs r) (λ e.
      let past = from_any (λ (s : PlainRule). has_path (frontier_ends rs) s.context) (r ∷ implied_by r) e in
      let end = from_any (λ q. is_eq (path_cmp q past.0.context)) (frontier_ends rs) past.2 in
      let old = ends_again end.0 end.1 in
      let way = on_way r past.0 h past.1 in
      let again : has_path (frontier_ends (rules_of text)) past.0.context ≡ true = to_any (λ q. is_eq (path_cmp q past.0.context)) (frontier_ends (rules_of text)) end.0 old end.2 in
      let twice : passes_end (rules_of text) way.0 ≡ true = to_any (λ (s : PlainRule). has_path (frontier_ends (rules_of text)) s.context) (way.0 ∷ implied_by way.0) past.0 way.2 again in
      let no : true ≡ false = sym twice ∙ (given_fine way.0 way.1).way in cc)

  pub closed_paths : (r : PlainRule) → In r rs → paths_why r.paths ≡ None
  closed_paths r h =
      ⊎_elim
      (λ l. ap paths_why (implied_unkeyed (rules_of text) r l))
      (λ l. given_paths (lines_of text) r (closed-parts text rs closes).0 l)
      (from_closed r h)

  pub closed_named : (r : PlainRule) → In r rs → is_named r ≡ true
  closed_named r h =
      let names = given_rules-named (lines_of text) in
      ⊎_elim
      (λ l. from_all is_named (implied_rules (rules_of text)) r (implied_rules-named (rules_of text) names) l)
      (λ l. from_all is_named (rules_of text) r names l)
      (from_closed r h)

  pub closed_within : within_limits rs ≡ Ok rs
  closed_within =
      let kept = limits-ok (closed_rules (rules_of text)) rs (closed-parts text rs closes).2 in
      limits-kept rs (subst (λ xs. length xs ≤ 4096) kept.0 kept.1) (subst (λ xs. length (canonical xs) ≤ 1048576) kept.0 kept.2)

  pub closed_ascends : IsStrictlySortedBy rule_cmp rs
  closed_ascends = sorted

  -- no closed rule has a frontier end as its context
  pub closed_open : (r : PlainRule) (p : List (List ℕ)) → In r rs → In p (frontier_ends rs) → is_eq (path_cmp r.context p) ≡ true → ⊥
  closed_open r p h g e =
      let same = (path_cmp-Decides r.context p).0 e in
      let at_end : has_path (frontier_ends rs) r.context ≡ true = to_any (λ q. is_eq (path_cmp q r.context)) (frontier_ends rs) p g ((path_cmp-Decides p r.context).1 (sym same)) in
      let past : passes_end rs r ≡ true = or_left (has_path (frontier_ends rs) r.context) _ at_end in
      let no : true ≡ false = sym past ∙ way_fine r h in cc

  pub closed_list : IsClosedList rs
  closed_list =
      let kept = limits-ok (closed_rules (rules_of text)) rs (closed-parts text rs closes).2 in
      record {
        ascending = sorted;
        named = λ r h. closed_named r (from-Contains rs r h);
        keys = λ r h. closed_paths r (from-Contains rs r h);
        contexts = λ r h. ⊎_elim (λ e. inl e) (λ f. inr (to-Contains (map target_of rs) r.context (subst (λ p. In p (map target_of rs)) f.2 (to_map target_of rs f.0 f.1)))) (has_context r (from-Contains rs r h));
        implied = λ r i h g. to-Contains rs i (implied_closed i (implied_again i (to_flat_map implied_by rs r i (from-Contains rs r h) (from-Contains (implied_by r) i g))));
        ends = λ p h. not_from_false _ (false_from_ne_true (list_any (λ (r : PlainRule). is_eq (path_cmp r.context p)) rs) (λ e.
            let found = from_any (λ (r : PlainRule). is_eq (path_cmp r.context p)) rs e in
            closed_open found.0 p found.1 (from-Contains (frontier_ends rs) p h) found.2));
        few = subst (λ xs. length xs ≤ 4096) kept.0 kept.1;
        short = subst (λ xs. length (canonical xs) ≤ 1048576) kept.0 kept.2;
      }
