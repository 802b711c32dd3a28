use Rattle.std.proofs.Common.{◌≡◌, drop, string_bytes}
use Rattle.std.specs.BTreeSet.{contains_text}
use Rattle.std.specs.List.{list_any}
use Rattle.key_spec.specs.Texts.{contexts_along}
use Rattle.key_spec.specs.View.{names_view}
use Rattle.key_spec.proofs.closing.leads_past.Given as goal

abbrev pub invariant-loop-tag : goal.invariant-loop-tag
invariant-loop-tag l = list_any (contains_text l.ends) (contexts_along l.target (names_view l.tags)) ≡ list_any (contains_text l.ends) (contexts_along (string_bytes l.here) (names_view (drop l.tag-index l.tags)))
