use Rattle.std.proofs.Common.{◌↔◌, IsTrue, sym, subst}
use Rattle.key_spec.specs.View.{spec_view}
use Rattle.key_spec.proofs.SpecLaws.{spec_closed}
use Rattle.archive_tree.specs.ArchiveView.{archive_view}
use Rattle.archive_file.specs.KeyedBy.{AreKeyedBy}
use Rattle.archive_file.proofs.AlikeLaws.{keyed-alike}
use Rattle.archive_file.proofs.ArchiveKeyed.{archive-keyed}
use Rattle.archive_file.proofs.ClosedWays.{closed-lead}
use Rattle.archive_file.proofs.keyedness.is_keyed.Goals as goal

pub returns-clause-keyed : goal.returns-clause-keyed
returns-clause-keyed c = λ vs h.
    let rules = spec_view c.args.spec.now in
    let law = archive-keyed vs (archive_view c.args.archive.now) h rules (closed-lead rules (spec_closed c.args.spec.now)) c.args.archive.now.well_formed in
    subst (λ z. IsTrue z ↔ AreKeyedBy rules vs) (sym c.are_nodes_keyed.ensures) law

pub returns-clause-alike : goal.returns-clause-alike
returns-clause-alike c = λ vs h. keyed-alike (spec_view c.args.spec.now) vs h
