use Rattle.std.proofs.Common.{◌≡◌, IsTrue, drop, option_map, string_bytes}
use Rattle.keyed_tree.specs.View.{key_view}
use Rattle.key_spec.specs.View.{names_view}
use Rattle.archive_tree.specs.Seek.{is_sorted}
use Rattle.archive_tree.specs.View.{node_view}
use Rattle.archive_file.specs.NodeFits.{node_leads}
use Rattle.archive_file.proofs.lead.leads.Given as goal

-- the tags that are left lead on from the node
abbrev pub invariant-loop-tag : goal.invariant-loop-tag
invariant-loop-tag l = record {
  sorted : IsTrue (is_sorted (node_view l.node));
  left : node_leads (names_view l.path.tags.items) (option_map string_bytes l.path.attr) (key_view l.value) (node_view l.from)
      ≡ node_leads (names_view (drop l.tag-index l.path.tags.items)) (option_map string_bytes l.path.attr) (key_view l.value) (node_view l.node);
}
