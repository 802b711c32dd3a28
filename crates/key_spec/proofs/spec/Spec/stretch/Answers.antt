use Rattle.std.proofs.Common.{arith}
use Rattle.key_spec.specs.StretchView.{start_of, end_of}
use Rattle.key_spec.specs.Stretches.{path_at, count_before, count_up_to}
use Rattle.key_spec.specs.View.{spec_view}
use Rattle.key_spec.proofs.StretchLaws.{at-number, counts-ascend, counts-within}
use Rattle.key_spec.proofs.spec.Spec.stretch.Goals as goal

pub returns-clause-start : goal.returns-clause-start
returns-clause-start c =
    let spec = c.args.self.now in
    at-number start_of (count_before (spec_view spec)) spec.stretches.items (spec_view spec) c.args.number c.index.result.now spec.starts c.requires c.index.ensures

pub returns-clause-end : goal.returns-clause-end
returns-clause-end c =
    let spec = c.args.self.now in
    at-number end_of (count_up_to (spec_view spec)) spec.stretches.items (spec_view spec) c.args.number c.index.result.now spec.ends c.requires c.index.ensures

pub returns-clause-ordered : goal.returns-clause-ordered
returns-clause-ordered c =
    let rules' = spec_view c.args.self.now in
    omega (arith, returns-clause-start c, returns-clause-end c, counts-ascend (path_at rules' c.args.number) rules')

pub returns-clause-within : goal.returns-clause-within
returns-clause-within c =
    let rules' = spec_view c.args.self.now in
    omega (arith, returns-clause-end c, counts-within (path_at rules' c.args.number) rules')
