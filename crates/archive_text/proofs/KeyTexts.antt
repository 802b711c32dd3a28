-- The lines of a canonical text that specifies its rules are UTF-8.
use Rattle.std.proofs.Common.{◌≡◌, ℕ, ◌+◌, ◌==◌, not, cond, true, false, List, [], ◌∷◌, map, Option, Some, None, Result, Ok, option_map, inl, inr, refl, sym, ap, ◌∙◌, subst, IsUtf8, append_assoc}
use Rattle.std.specs.List.{AllByRecursion, list_all}
use Rattle.std.specs.Option.{option_or}
use Rattle.std.specs.Str.{is_utf8}
use Rattle.std.proofs.lemmas.Bool.{false_from_ne_true, eqb-true, not_from_false}
use Rattle.std.proofs.lemmas.List.Sums.{AllPass-from_list_all}
use Rattle.std.proofs.lemmas.Str.{IsUtf8-from_is_utf8}
use Rattle.key_spec.specs.Data.{PlainRule, PlainSpecFault}
use Rattle.key_spec.specs.Names.{is_name_byte, is_named}
use Rattle.key_spec.specs.Lines.{lines}
use Rattle.key_spec.specs.Form.{tokens, spelled, line_rule}
use Rattle.key_spec.specs.Canonical.{rule_text, canonical}
use Rattle.key_spec.specs.Closed.{closed, numbered, rule_why, line_fault, first_of_all, unless}
use Rattle.key_spec.proofs.CanonicalLines.{pass-rule, lines-canonical}
use Rattle.key_spec.proofs.Members.{In}
use Rattle.archive_text.specs.Texts.{text_lines}
use Rattle.archive_text.proofs.GoodLines.{rules_named}
use Rattle.archive_text.proofs.LineLaws.{Without, first_line}

-- ---- how it is cut

no_feed_byte : (b : ℕ) → is_name_byte b ≡ true → not (b == 10) ≡ true
no_feed_byte b may = not_from_false _ (false_from_ne_true (b == 10) (λ same. let e : is_name_byte b ≡ is_name_byte 10 = ap is_name_byte (eqb-true b 10 same) in cc))

no_feed : (rule : PlainRule) → is_named rule ≡ true → Without 10 (rule_text rule)
no_feed rule e i h is =
    let passes : list_all (λ b. not (b == 10)) (rule_text rule) ≡ true = pass-rule (λ b. not (b == 10)) no_feed_byte refl refl refl refl refl refl refl refl refl rule e in
    let own = AllPass-from_list_all (λ b. not (b == 10)) (rule_text rule) passes i 0 h in
    let wrong : not (10 == 10) ≡ true = ap (λ b. not (b == 10)) (sym is) ∙ own in
    cc

texts_are : (rules : List PlainRule) → ((r : PlainRule) → In r rules → is_named r ≡ true) → text_lines (canonical rules) ≡ map rule_text rules
unfolding canonical
texts_are [] named = refl
texts_are (r ∷ rules) named =
    ap text_lines (append_assoc (rule_text r) (10 ∷ []) (canonical rules)) ∙ first_line (rule_text r) (canonical rules) (no_feed r (named r (inl refl)))
    ∙ ap (λ ls. rule_text r ∷ ls) (texts_are rules (λ u h. named u (inr h)))

-- ---- what the first pass says of it

none_of : {Y : Type 0} (o p : Option Y) → option_or o p ≡ None → (o ≡ None) × (p ≡ None)
none_of None p e = (refl, e)
none_of (Some x) p e = absurd cc

unless_none : {X : Type 0} (o : Option PlainSpecFault) (r : Result X PlainSpecFault) (x : X) → unless o r ≡ Ok x → o ≡ None
unless_none None r x e = refl
unless_none (Some f) r x e = absurd cc

no_fault : (text : List ℕ) (rules : List PlainRule) → closed text ≡ Ok rules → first_of_all line_fault (numbered 1 (lines text)) ≡ None
unfolding closed
no_fault text rules e = unless_none (first_of_all line_fault (numbered 1 (lines text))) _ rules e

is_text : (line : List ℕ) (n : ℕ) → line_fault (n, line) ≡ None → IsUtf8 line
unfolding line_rule
is_text line n e =
    elim (is_utf8 line) as (λ b. is_utf8 line ≡ b → option_map {U = PlainSpecFault} (λ why. record { line = n; why = why }) (rule_why (cond b (spelled (tokens line)) None)) ≡ None → IsUtf8 line) [
      | true ↦ λ d f. IsUtf8-from_is_utf8 line d
      | false ↦ λ d f. absurd cc
    ] refl e

each_text : (n : ℕ) (rules : List PlainRule) → ((r : PlainRule) → In r rules → is_named r ≡ true) → first_of_all line_fault (numbered n (lines (canonical rules))) ≡ None → AllByRecursion IsUtf8 (map rule_text rules)
each_text n [] named e = tt
each_text n (r ∷ rules) named e =
    let own = named r (inl refl) in
    let first = sym (ap (λ ls. first_of_all line_fault (numbered n ls)) (lines-canonical r rules own)) ∙ e in
    let parts = none_of (line_fault (n, rule_text r)) (first_of_all line_fault (numbered (n + 1) (lines (canonical rules)))) first in
    (is_text (rule_text r) n parts.0, each_text (n + 1) rules (λ u h. named u (inr h)) parts.1)

pub key_texts : (rules : List PlainRule) → closed (canonical rules) ≡ Ok rules → AllByRecursion IsUtf8 (text_lines (canonical rules))
key_texts rules e =
    let named = rules_named rules e in
    subst (AllByRecursion IsUtf8) (sym (texts_are rules named)) (each_text 1 rules named (no_fault (canonical rules) rules e))
