use Rattle.std.proofs.Common.{◌≡◌, Some, None, option_map, sym, ap, ◌∙◌}
use Rattle.key_rules.specs.Faults.{first_fault}
use Rattle.key_rules.specs.View.{fault_view}
use Rattle.key_spec.specs.View.{names_view, spec_view}
use Rattle.csv_tables.specs.Documents.{table_tree}
use Rattle.csv_tables.specs.View.{table_view}
use Rattle.xarch_parts.specs.Ends.{IsDefined}
use Rattle.xarch_tables.proofs.DocumentEnds.{keyed-apart, keyed-bad, keyed-good}
use Rattle.xarch_tables.proofs.document.check_keys.Goals as goal

pub returns-then-branch-clause-told : goal.returns-then-branch-clause-told
returns-then-branch-clause-told c =
    let table = table_view c.args.table.now in
    let tag = c.args.tag.now in
    let names = names_view c.args.names.now in
    keyed-apart table tag names (spec_view c.args.spec.now) (c.tables_satisfy_their_keys.ensures.satisfies table tag names) (c.tables_satisfy_their_keys.ensures.faultless table tag names) c.requires.rules c.requires.regular c.requires.columns (c.in_ok-are_apart.ensures c.if-branch.true)

pub returns-in-None-clause-told : goal.returns-in-None-clause-told
returns-in-None-clause-told c =
    let rules = spec_view c.args.spec.now in
    let doc = table_tree (table_view c.args.table.now) c.args.tag.now in
    let none : first_fault rules doc ≡ None = ap (first_fault rules) (sym c.in_ok-doc.ensures.tree) ∙ sym c.in_ok-first_fault.ensures.fault ∙ ap (option_map fault_view) c.in-None.is in
    keyed-good rules doc none

pub returns-clause-told : goal.returns-clause-told
unfolding IsDefined
returns-clause-told c =
    let rules = spec_view c.args.spec.now in
    let doc = table_tree (table_view c.args.table.now) c.args.tag.now in
    let some : first_fault rules doc ≡ Some (fault_view c.in-Some.fault) = ap (first_fault rules) (sym c.in_ok-doc.ensures.tree) ∙ sym c.in_ok-first_fault.ensures.fault ∙ ap (option_map fault_view) c.in-Some.is in
    keyed-bad rules doc (fault_view c.in-Some.fault) some
