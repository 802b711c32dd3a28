use Rattle.std.proofs.Common.{◌≡◌, ℕ, ◌+◌, List, ◌++◌, length, map, IsTrue, vec_len, vec_capacity}
use Rattle.serde_json.specs.View.{members_view}
use Rattle.jsonml_tree.specs.View.{attr_view}
use Rattle.jsonml_tree.specs.WellFormed.{are_in_range}
use Rattle.jsonml_text.specs.Spelled.{mapped, attrs_at}
use Rattle.jsonml_text.proofs.scalar.read_attrs.Given as goal

-- what is left decides
abbrev pub invariant-loop-name : goal.invariant-loop-name
invariant-loop-name l =
    record {
      in_range : IsTrue (are_in_range (map attr_view l.attrs.items));
      so_far : (place : List ℕ) → mapped (λ xs. map attr_view l.attrs.items ++ xs) (attrs_at place (members_view l.name-iterator)) ≡ attrs_at place (members_view l.members.entries);
      room : vec_len l.attrs + length l.name-iterator ≡ vec_capacity l.attrs;
    }
