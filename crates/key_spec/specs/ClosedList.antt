-- What a closed list of rules is.
use Rattle.std.specs.Prelude.{◌≡◌, ℕ, ◌≤◌, true, ◌⊎◌, List, [], length, map, None}
use Rattle.std.specs.List.{Contains}
use Rattle.std.specs.List.Sorted.{IsStrictlySortedBy}
use Rattle.key_spec.specs.Data.{PlainRule}
use Rattle.key_spec.specs.Names.{is_named}
use Rattle.key_spec.specs.Canonical.{canonical}
use Rattle.key_spec.specs.Closed.{paths_why, target_of, implied_by, frontier_ends}
use Rattle.key_spec.specs.Rules.{rule_cmp, is_frontier}
use Rattle.key_spec.specs.declared.limits.TheConstants.{LONGEST_TEXT, MOST_RULES}

pub record IsClosedList (rules : List PlainRule) : Type 0 where
  -- it ascends by context and then by tag, with one rule for each
  pub ascending : IsStrictlySortedBy rule_cmp rules
  -- each rule is made of names
  pub named : (r : PlainRule) → Contains rules r → is_named r ≡ true
  -- no rule has a key path twice, or `.` beside another, or more than 16 of them, or one of more than 8 tags
  pub keys : (r : PlainRule) → Contains rules r → paths_why r.paths ≡ None
  -- each context but `/` is the target of a rule
  pub contexts : (r : PlainRule) → Contains rules r → (r.context ≡ []) ⊎ Contains (map target_of rules) r.context
  -- the tags of a key path are rules too, without key paths
  pub implied : (r i : PlainRule) → Contains rules r → Contains (implied_by r) i → Contains rules i
  -- no rule goes on behind the end of a key path without an attribute
  pub ends : (path : List (List ℕ)) → Contains (frontier_ends rules) path → is_frontier rules path ≡ true
  -- there are few, and their text is short
  pub few : length rules ≤ MOST_RULES
  pub short : length (canonical rules) ≤ LONGEST_TEXT
