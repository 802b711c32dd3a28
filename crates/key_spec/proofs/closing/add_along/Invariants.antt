use Rattle.std.proofs.Common.{◌≡◌, ◌++◌, ◌||◌, ℕ, List, drop, string_bytes}
use Rattle.std.specs.BTreeSet.{contains_text}
use Rattle.key_spec.specs.Names.{slashed}
use Rattle.key_spec.specs.Texts.{texts_along, has_text}
use Rattle.key_spec.specs.View.{names_view}
use Rattle.key_spec.proofs.closing.add_along.Given as goal

-- what is there and what is left to go through are all
abbrev pub invariant-loop-tag : goal.invariant-loop-tag
invariant-loop-tag l = record {
  here : string_bytes l.initial.here ++ slashed (names_view l.tags) ≡ string_bytes l.here ++ slashed (names_view (drop l.tag-index l.tags));
  texts : (q : List ℕ) → (contains_text l.initial.texts q || has_text (texts_along (string_bytes l.initial.here) (names_view l.tags)) q)
      ≡ (contains_text l.texts q || has_text (texts_along (string_bytes l.here) (names_view (drop l.tag-index l.tags))) q);
}
