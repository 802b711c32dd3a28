-- The canonical text of a specification specifies it again.
use Rattle.std.proofs.Common.{◌≡◌, ℕ, ◌+◌, true, false, inl, inr, List, [], ◌∷◌, ◌++◌, map, refl, ap, ap₂, sym, ◌∙◌, subst, Option, Some, None, Result, Ok, String, Global, string_bytes, option_map, IfSome, IsUtf8, append_assoc}
use Rattle.std.proofs.lemmas.Bool.{false_from_ne_true}
use Rattle.std.proofs.lemmas.Str.{IsUtf8-string_bytes}
use Rattle.std.proofs.Math.Logic.{∥∥₁_elim}
use Rattle.std.proofs.Math.Nat.{ℕ_set}
use mathlib.Core.List.{is_set as List-set}
use mathlib.Core.Sum.{⊎_set}
use Rattle.std.proofs.lemmas.Cmp.{tied_itself}
use Rattle.std.proofs.lemmas.Map.Keys.{sorted_tail}
use Rattle.std.specs.List.{AllByRecursion}
use Rattle.std.specs.List.Sorted.{IsStrictlySortedBy}
use Rattle.std.specs.declared.cmp.Ordering.TheVariants.{Less, Equal}
use Rattle.key_spec.specs.Data.{PlainPath, PlainRule, GivenRule, PlainSpecFault}
use Rattle.key_spec.specs.Names.{is_named}
use Rattle.key_spec.specs.Rules.{rule_cmp, place_cmp}
use Rattle.key_spec.specs.Laws.{rule_cmp_total}
use Rattle.key_spec.specs.Canonical.{canonical}
use Rattle.key_spec.specs.Closed.{target_of, has_place, closing_fault, closed_rules, within_limits, closed, IsClosed, given_rules}
use Rattle.key_spec.specs.ClosedList.{IsClosedList}
use Rattle.key_spec.specs.RuleView.{names_view, path_view, rule_view}
use Rattle.key_spec.specs.declared.rule.KeyPath.{KeyPath}
use Rattle.key_spec.specs.declared.rule.Rule.{Rule}
use Rattle.key_spec.proofs.CanonicalLines.{IsTextPath, IsText, number_from, numbered_rules, given-canonical, first-canonical}
use Rattle.key_spec.proofs.ClosedLaws.{from_path, IsFine, fine_why, closed_list}
use Rattle.key_spec.proofs.ListLaws.{below-injective, list-fine, list-again, list-within}
use Rattle.key_spec.proofs.ClosingLemmas.{closing_fault-none}
use Rattle.key_spec.proofs.Members.{In, to-Contains, In-map, In-right, head_less}
use Rattle.key_spec.proofs.ParseLemmas.{lines_of, rules_of, closed-limits}

-- ---- the texts of rules are UTF-8

names_utf8 : (names : List (String Global)) → AllByRecursion IsUtf8 (names_view names)
names_utf8 [] = tt
names_utf8 (name ∷ names) = (IsUtf8-string_bytes name, names_utf8 names)

attr_utf8 : (attr : Option (String Global)) → IfSome (option_map string_bytes attr) IsUtf8
attr_utf8 None = tt
attr_utf8 (Some name) = IsUtf8-string_bytes name

paths_utf8 : (paths : List KeyPath) → AllByRecursion IsTextPath (map path_view paths)
paths_utf8 [] = tt
paths_utf8 (path ∷ paths) = (record { tags = names_utf8 path.tags.items; attr = attr_utf8 path.attr }, paths_utf8 paths)

rule_utf8 : (rule : Rule) → IsText (rule_view rule)
rule_utf8 rule = record { context = names_utf8 rule.context.items; tag = IsUtf8-string_bytes rule.tag; paths = paths_utf8 rule.paths.items }

-- ---- the second pass over rules that ascend

before_less : (before more : List PlainRule) (rule b : PlainRule) → IsStrictlySortedBy rule_cmp (before ++ rule ∷ more) → In b before → rule_cmp b rule ≡ Less
before_less [] more rule b s h = absurd h
before_less (x ∷ before) more rule b s (inl e) =
    ap (λ y. rule_cmp y rule) e ∙ head_less rule_cmp_total x (before ++ rule ∷ more) rule s (In-right rule before (rule ∷ more) (inl refl))
before_less (x ∷ before) more rule b s (inr h) = before_less before more rule b (sorted_tail rule_cmp x (before ++ rule ∷ more) s) h

-- no rule stands at the place of an earlier one
once : (before more : List PlainRule) (rule : PlainRule) → IsStrictlySortedBy rule_cmp (before ++ rule ∷ more) → has_place before rule ≡ false
once before more rule s =
    false_from_ne_true (has_place before rule) (λ e.
    let found = from_path before (target_of rule) e in
    let both = below-injective found.0.context rule.context found.0.tag rule.tag found.2 in
    let same : rule_cmp found.0 rule ≡ Equal = ap₂ (λ c t. place_cmp c t rule.context rule.tag) both.0 both.1 ∙ tied_itself rule_cmp_total rule in
    let no : Less ≡ Equal = sym (before_less before more rule found.0 s found.1) ∙ same in cc)

all_closing : (rules before more : List PlainRule) (n : ℕ) → rules ≡ before ++ more → IsStrictlySortedBy rule_cmp rules → ((r : PlainRule) → In r rules → IsFine rules r)
    → closing_fault rules before (number_from n more) ≡ None
all_closing rules before [] n e s fine = refl
all_closing rules before (rule ∷ more) n e s fine =
    let here : In rule rules = subst (In rule) (sym e) (In-right rule before (rule ∷ more) (inl refl)) in
    let why = fine_why rules before rule (fine rule here) (once before more rule (subst (IsStrictlySortedBy rule_cmp) e s)) in
    closing_fault-none rules before (record { line = n; rule = rule }) (number_from (n + 1) more) why
    ∙ all_closing rules (before ++ rule ∷ []) more (n + 1) (e ∙ sym (append_assoc before (rule ∷ []) more)) s fine

-- ---- the round trip

pub closed-canonical : (rules : List PlainRule) → IsClosedList rules → ((r : PlainRule) → In r rules → IsText r) → closed (canonical rules) ≡ Ok rules
closed-canonical rules h utf8 =
    let named = λ (r : PlainRule) (g : In r rules). let both : (is_named r ≡ true) × IsText r = (h.named r (to-Contains rules r g), utf8 r g) in both in
    let given = given-canonical 1 rules named in
    let none = first-canonical 1 rules named (λ r g. h.keys r (to-Contains rules r g)) in
    let read : rules_of (canonical rules) ≡ rules = ap (map (λ (g : GivenRule). g.rule)) given ∙ numbered_rules 1 rules in
    let closing : closing_fault (rules_of (canonical rules)) [] (given_rules (lines_of (canonical rules))) ≡ None =
    ap₂ (λ rs gs. closing_fault rs [] gs) read given ∙ all_closing rules [] rules 1 refl h.ascending (list-fine rules h) in
    closed-limits (canonical rules) none closing
    ∙ ap (λ rs. within_limits (closed_rules rs)) read
    ∙ ap within_limits (list-again rules h)
    ∙ list-within rules h

rules_utf8 : (rules : List Rule) (r : PlainRule) → In r (map rule_view rules) → IsText r
rules_utf8 rules r h = let found = In-map rule_view rules r h in subst IsText (sym found.2) (rule_utf8 found.0)

pub round_trip : (rules : List Rule) → IsClosed (map rule_view rules) → closed (canonical (map rule_view rules)) ≡ Ok (map rule_view rules)
round_trip rules h = closed-canonical (map rule_view rules) (closed_list h.0 (map rule_view rules) h.1) (rules_utf8 rules)

-- ---- an answer is given in one way

names_set : IsSet (List (List ℕ))
names_set = List-set (List-set ℕ_set)

paths_set : IsSet (List PlainPath)
paths_set = List-set (hlevel (⊎_set, names_set, List-set ℕ_set, ℕ_set))

answer_set : IsSet (Result (List PlainRule) PlainSpecFault)
answer_set = hlevel (⊎_set, List-set {A = PlainRule} (hlevel (names_set, paths_set, List-set ℕ_set, ℕ_set)), ℕ_set)

-- the same where it is only known that the rules are closed
pub kept_round_trip : (rules : List Rule) → ∥ IsClosed (map rule_view rules) ∥₁ → closed (canonical (map rule_view rules)) ≡ Ok (map rule_view rules)
kept_round_trip rules h = ∥∥₁_elim h (answer_set (closed (canonical (map rule_view rules))) (Ok (map rule_view rules))) (round_trip rules)
