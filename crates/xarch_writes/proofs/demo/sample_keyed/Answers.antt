use Rattle.std.proofs.Common.{◌≡◌}
use Rattle.jsonml_tree.specs.View.{tree_view}
use Rattle.key_annotate.specs.Stands.{Stands}
use Rattle.key_spec.specs.View.{spec_view}
use Rattle.archive_file.specs.KeyedBy.{IsKeyedBy}
use Rattle.xarch_gen.specs.Company.{company_rules}
use Rattle.xarch_meanings.specs.Demo.{sample_tree}
use Rattle.xarch_writes.proofs.SampleLemmas.{keyed_by, of_tree, tree_is}
use Rattle.xarch_writes.proofs.demo.sample_keyed.Goals as goal

pub returns-clause-tree : goal.returns-clause-tree
returns-clause-tree c =
    let t = tree_view c.in_ok-tree.tree in
    let rules = spec_view c.args.spec.now in
    of_tree c.tree_of.result (Stands rules t) (λ k. k ≡ sample_tree c.args.seed c.args.document) (λ k stands. tree_is rules t k c.requires.rules stands c.args.seed c.args.document c.in_ok-tree.ensures.document) c.tree_of.ensures

pub returns-clause-keyed : goal.returns-clause-keyed
returns-clause-keyed c =
    let t = tree_view c.in_ok-tree.tree in
    let rules = spec_view c.args.spec.now in
    let d = c.in_ok-tree.ensures in
    of_tree c.tree_of.result (Stands rules t) (IsKeyedBy company_rules) (λ k stands. keyed_by rules t k c.requires.rules stands d.element d.well_formed d.shallow) c.tree_of.ensures
