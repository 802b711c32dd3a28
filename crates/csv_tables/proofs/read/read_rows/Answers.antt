use Rattle.std.proofs.Common.{◌≡◌, ◌+◌, [], ◌∷◌, ◌++◌, Some, None, Ok, length, refl, sym, subst, arith}
use Rattle.std.proofs.lemmas.List.{length-append}
use Rattle.std.proofs.lemmas.Result.{err_from_is_err_and}
use Rattle.csv.specs.Records.{fields_of}
use Rattle.csv_tables.specs.Records.{first_bad}
use Rattle.csv_tables.specs.Steps.{Stands, Steps}
use Rattle.csv_tables.specs.View.{rows_view}
use Rattle.csv_tables.proofs.FieldLemmas.{push-row}
use Rattle.csv_tables.proofs.HeadingLemmas.{row-fails, row-bytes, row-good, rows-end}
use Rattle.csv_tables.proofs.read.read_rows.Goals as goal

pub loop-number-init : goal.loop-number-init
loop-number-init g c = λ text heading head s. rw c.new-rows.ensures.items (s, refl, refl)

pub returns-in_err-next : goal.returns-in_err-next
returns-in_err-next g c =
    λ text heading head s. (let inv = c.loop-number.invariant text heading head s in
    let done = rows_view c.loop-number.rows.items in
    let p = err_from_is_err_and c.from_residual.result c.from_residual.ensures.1 in
    rw (p.1, p.2) (row-fails g.R.Read.remaining c.next.new.reader text heading done c.loop-number.number head inv.1 inv.2 (fields_of c.next.new.row) c.in_err-next.field-0.0
    (c.in_err-next.ensures text (heading ∷ done) (Some (length heading)) inv.0)))

pub returns-then-not-branch : goal.returns-then-not-branch
returns-then-not-branch g c =
    λ text heading head s. (let inv = c.loop-number.invariant text heading head s in
    let done = rows_view c.loop-number.rows.items in
    rows-end g.R.Read.remaining c.next.new.reader text heading done c.loop-number.number head inv.1 inv.2 c.loop-number.reader (fields_of c.next.new.row) inv.0
    (subst (λ b. Steps g.R.Read.remaining c.next.new.reader text (heading ∷ done) (Some (length heading)) (fields_of c.next.new.row) c.loop-number.number (Ok b)) c.if-not-branch.true
    (c.in_ok-next.ensures text (heading ∷ done) (Some (length heading)) inv.0)))

pub returns-in_err-own_fields : goal.returns-in_err-own_fields
returns-in_err-own_fields g c =
    λ text heading head s. (let inv = c.loop-number.invariant text heading head s in
    let done = rows_view c.loop-number.rows.items in
    let p = err_from_is_err_and c.from_residual-in_err-own_fields.result c.from_residual-in_err-own_fields.ensures.1 in
    rw (p.1, p.2) (row-bytes g.R.Read.remaining c.next.new.reader text heading done c.loop-number.number head inv.1 inv.2 (fields_of c.next.new.row) c.in_err-own_fields.field-0.0
    (subst (λ b. Steps g.R.Read.remaining c.next.new.reader text (heading ∷ done) (Some (length heading)) (fields_of c.next.new.row) c.loop-number.number (Ok b)) c.if-not-branch.false
    (c.in_ok-next.ensures text (heading ∷ done) (Some (length heading)) inv.0))
    c.in_err-own_fields.ensures))

pub loop-number-preserved : goal.loop-number-preserved
loop-number-preserved g c =
    λ text heading head s. (let inv = c.loop-number.invariant text heading head s in
    let done = rows_view c.loop-number.rows.items in
    let fields = fields_of c.next.new.row in
    let owns = c.in_ok-own_fields.ensures in
    let good = row-good g.R.Read.remaining c.next.new.reader text heading done c.loop-number.number head inv.1 inv.2 fields
    (subst (λ b. Steps g.R.Read.remaining c.next.new.reader text (heading ∷ done) (Some (length heading)) fields c.loop-number.number (Ok b)) c.if-not-branch.false
    (c.in_ok-next.ensures text (heading ∷ done) (Some (length heading)) inv.0)) owns.1 in
    let same : rows_view c.push.new.self.items ≡ done ++ fields ∷ [] =
    push-row done c.loop-number.rows.items c.push.new.self.items c.in_ok-own_fields.field-0 fields refl c.in_ok-push.ensures.items owns.0 in
    let len = length-append done (fields ∷ []) in
    let count : c.loop-number.number + 1 ≡ 2 + length (done ++ fields ∷ []) = omega (arith, len, inv.2) in
    subst (λ rows. Stands g.R.Read.remaining c.next.new.reader text (heading ∷ rows) (Some (length heading)) × (first_bad (length heading) 2 rows ≡ None) × (c.loop-number.number + 1 ≡ 2 + length rows))
    (sym same) (good.0, good.1, count))
