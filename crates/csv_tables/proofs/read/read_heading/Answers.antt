use Rattle.std.proofs.Common.{◌≡◌, [], true, false, None, Ok, ap, sym, ◌∙◌, subst}
use Rattle.std.proofs.lemmas.Result.{err_from_is_err_and}
use Rattle.csv.specs.Records.{fields_of}
use Rattle.key_spec.specs.View.{names_view}
use Rattle.csv_tables.specs.Records.{repeats}
use Rattle.csv_tables.specs.Steps.{Steps, IsHeading}
use Rattle.csv_tables.proofs.HeadingLemmas.{heading-fails, no-heading, heading-bytes, heading-twice, heading-good, at_none, at_some}
use Rattle.csv_tables.proofs.read.read_heading.Goals as goal

pub returns-in_err-next : goal.returns-in_err-next
returns-in_err-next g c =
    λ text s. (let p = err_from_is_err_and c.from_residual.result c.from_residual.ensures.1 in
    rw (p.1, p.2) (heading-fails g.R.Read.remaining c.next.new.reader text (fields_of c.next.new.row) c.in_err-next.field-0.0 (c.in_err-next.ensures text [] None s)))

pub returns-then-not-branch : goal.returns-then-not-branch
returns-then-not-branch g c =
    λ text s. no-heading g.R.Read.remaining c.next.new.reader text (fields_of c.next.new.row)
    (subst (λ b. Steps g.R.Read.remaining c.next.new.reader text [] None (fields_of c.next.new.row) 1 (Ok b)) c.if-not-branch.true (c.in_ok-next.ensures text [] None s))

pub returns-in_err-heading : goal.returns-in_err-heading
returns-in_err-heading g c =
    λ text s. (let p = err_from_is_err_and c.from_residual-in_err-heading.result c.from_residual-in_err-heading.ensures.1 in
    rw (p.1, p.2) (heading-bytes g.R.Read.remaining c.next.new.reader text (fields_of c.next.new.row) c.in_err-heading.field-0.0
    (subst (λ b. Steps g.R.Read.remaining c.next.new.reader text [] None (fields_of c.next.new.row) 1 (Ok b)) c.if-not-branch.false (c.in_ok-next.ensures text [] None s)) c.in_err-heading.ensures))

pub returns-then-is_none : goal.returns-then-is_none
returns-then-is_none g c =
    λ text s. (let owns = c.in_ok-heading.ensures in
    let twice : repeats [] (names_view c.deref.result.now) ≡ true = at_none c.in_ok-columns_of.field-0 c.is_none.result c.if-is_none.true c.is_none.ensures c.in_ok-columns_of.ensures.none in
    heading-twice g.R.Read.remaining c.next.new.reader text (fields_of c.next.new.row)
    (subst (λ b. Steps g.R.Read.remaining c.next.new.reader text [] None (fields_of c.next.new.row) 1 (Ok b)) c.if-not-branch.false (c.in_ok-next.ensures text [] None s))
    owns.1 (ap (repeats []) (sym owns.0) ∙ ap (λ ns. repeats [] (names_view ns)) (sym c.deref.ensures.value) ∙ twice))

pub returns : goal.returns
returns g c =
    λ text s. (let owns = c.in_ok-heading.ensures in
    let apart : repeats [] (names_view c.deref.result.now) ≡ false = at_some c.in_ok-columns_of.field-0 c.is_none.result c.if-is_none.false c.is_none.ensures c.in_ok-columns_of.ensures.different in
    subst (IsHeading g.R.Read.remaining c.next.new.reader text) (sym owns.0)
    (heading-good g.R.Read.remaining c.next.new.reader text (fields_of c.next.new.row)
    (subst (λ b. Steps g.R.Read.remaining c.next.new.reader text [] None (fields_of c.next.new.row) 1 (Ok b)) c.if-not-branch.false (c.in_ok-next.ensures text [] None s))
    owns.1 (ap (repeats []) (sym owns.0) ∙ ap (λ ns. repeats [] (names_view ns)) (sym c.deref.ensures.value) ∙ apart)))
