-- What holds of every specification, for the crates above.
use Rattle.std.proofs.Common.{◌≡◌, ℕ, ◌<◌, ◌≤◌, Bool, true, false, cond, leb, List, [], length, Some, None, Result, Ok, Err, refl, ap, ap₂, ◌∙◌, arith}
use Rattle.std.proofs.lemmas.Bool.{false_from_ne_true, not_from_false, leb-false}
use Rattle.std.proofs.lemmas.Cmp.{tied_itself}
use Rattle.std.proofs.lemmas.Slice.Eq.{bytes_eq-Decides}
use Rattle.std.specs.Bool.{OnFalse}
use Rattle.std.specs.List.{list_any}
use Rattle.std.specs.Str.{bytes_eq}
use Rattle.std.specs.Ordering.{is_eq}
use Rattle.key_spec.specs.Data.{PlainRule, PlainSpecFault}
use Rattle.key_spec.specs.Canonical.{canonical, spelled_by}
use Rattle.key_spec.specs.Closed.{closed, implied_by, frontier_ends, IsClosed}
use Rattle.key_spec.specs.Laws.{rule_cmp_total}
use Rattle.key_spec.specs.Rules.{path_cmp, place_cmp, is_frontier}
use Rattle.key_spec.specs.View.{spec_view}
use Rattle.key_spec.specs.declared.spec.Spec.{Spec}
use Rattle.key_spec.proofs.ClosedLaws.{closed_ascends, closed_list, implied_closed, implied_again, implied_unkeyed, closed_open}
use Rattle.key_spec.proofs.Members.{In, to_flat_map, from_any, one_place}
use Rattle.key_spec.proofs.ParseLemmas.{rules_of}
use Rattle.key_spec.proofs.RoundTrip.{kept_round_trip}

-- the canonical text of a specification specifies it again
pub spec_again : (s : Spec) → closed (canonical (spec_view s)) ≡ Ok (spec_view s)
spec_again s = kept_round_trip s.rules.items s.closed

-- so its rules are the closed rules of a text
pub spec_closed : (s : Spec) → IsClosed (spec_view s)
spec_closed s = (canonical (spec_view s), spec_again s)

-- a context and a tag have one rule
pub one_rule : (rules : List PlainRule) → IsClosed rules → (r s : PlainRule) → In r rules → In s rules → r.context ≡ s.context → r.tag ≡ s.tag → r ≡ s
one_rule rules h r s a b context tag =
    one_place rule_cmp_total rules r s (closed_ascends h.0 rules h.1) a b (ap₂ (λ c t. place_cmp c t s.context s.tag) context tag ∙ tied_itself rule_cmp_total s)

-- the tags of a key path are rules, whose key is {}
pub tags_are_rules : (rules : List PlainRule) → IsClosed rules → (r i : PlainRule) → In r rules → In i (implied_by r) → In i rules × (i.paths ≡ [])
tags_are_rules rules h r i a b =
    let given = implied_again h.0 rules h.1 i (to_flat_map implied_by rules r i a b) in
    (implied_closed h.0 rules h.1 i given, implied_unkeyed (rules_of h.0) i given)

-- a frontier end is at the frontier
pub ends_are_frontier : (rules : List PlainRule) → IsClosed rules → (p : List (List ℕ)) → In p (frontier_ends rules) → is_frontier rules p ≡ true
ends_are_frontier rules h p a =
    not_from_false _ (false_from_ne_true (list_any (λ (r : PlainRule). is_eq (path_cmp r.context p)) rules) (λ e. let found = from_any (λ (r : PlainRule). is_eq (path_cmp r.context p)) rules e in
    closed_open h.0 rules h.1 found.0 p found.1 a found.2))

-- ---- canonical texts

-- a specification has a short text
pub canonical_short : (text : List ℕ) (rules : List PlainRule) → closed text ≡ Ok rules → length (canonical rules) ≤ 1048576
canonical_short text rules e = (closed_list text rules e).short

spelled-test : (text : List ℕ) (rules : List PlainRule) (b : Bool) → closed text ≡ Ok rules → bytes_eq (canonical rules) text ≡ b → spelled_by text (closed text) ≡ cond b (Some rules) None
spelled-test text rules b e f = ap (spelled_by text) e ∙ ap (λ c. cond c (Some rules) None) f

pub spelled-other : (text : List ℕ) (rules : List PlainRule) → closed text ≡ Ok rules → ¬ (canonical rules ≡ text) → spelled_by text (closed text) ≡ None
spelled-other text rules e f = spelled-test text rules false e (false_from_ne_true (bytes_eq (canonical rules) text) (λ g. f ((bytes_eq-Decides (canonical rules) text).0 g)))

pub spelled-bad : (text : List ℕ) (f : PlainSpecFault) → closed text ≡ Err f → spelled_by text (closed text) ≡ None
spelled-bad text f e = ap (spelled_by text) e

spelled-of : (text : List ℕ) (answer : Result (List PlainRule) PlainSpecFault) → closed text ≡ answer → 1048576 < length text → spelled_by text (closed text) ≡ None
spelled-of text (Err f) e long = spelled-bad text f e
spelled-of text (Ok rules) e long = let short = canonical_short text rules e in spelled-other text rules e (λ same. omega (arith, short, long, ap length same))

-- a text that is longer is no specification's
pub spelled_long : (text : List ℕ) → 1048576 < length text → spelled_by text (closed text) ≡ None
spelled_long text long = spelled-of text (closed text) refl long

pub spelled_short : (n : ℕ) (b : Bool) → leb n 1048576 ≡ b → OnFalse b ((text : List ℕ) → length text ≡ n → spelled_by text (closed text) ≡ None)
spelled_short n true e = tt
spelled_short n false e = λ text f. spelled_long text (omega (arith, leb-false n 1048576 e, f))
