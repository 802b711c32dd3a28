use Rattle.std.proofs.lemmas.Grind.{common_steps}
use Rattle.std.proofs.Common.{ltb, ◌^◌, length, map, sym, ap, ◌∙◌, arith}
use Rattle.version_set.specs.View.{pairs_of}
use Rattle.archive_tree.specs.View.{nodes_view}
use Rattle.record_format.specs.View.{entry_view}
use Rattle.archive_file.specs.Laid.{dir_with}
use Rattle.archive_file.proofs.Least.{no_room}
use Rattle.archive_file.proofs.ends.is_directory.Goals as goal

pub returns-then-not-do_pairs_fit : goal.returns-then-not-do_pairs_fit
returns-then-not-do_pairs_fit c =
    no_room (ltb (length c.args.nodes.now) (2 ^ 32)) (dir_with (map entry_view c.args.entries.now) (pairs_of c.args.parent.now) (nodes_view c.args.nodes.now)) _ c.args.body.now
    (ap (map (λ s. pairs_of s.now)) c.deref.ensures.value ∙ c.in_ok-sets.ensures.sets) (sym c.do_pairs_fit.ensures ∙ c.if-not-do_pairs_fit.true)

pub returns-then-nodes-ge-FIELD : goal.returns-then-nodes-ge-FIELD
returns-then-nodes-ge-FIELD c = grind (arith, common_steps)
