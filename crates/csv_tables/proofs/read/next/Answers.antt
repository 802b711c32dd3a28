use Rattle.std.proofs.Common.{refl, sym, ◌∙◌}
use Rattle.csv.specs.Reading.{error_kind}
use Rattle.csv.specs.Records.{fields_of}
use Rattle.csv_tables.proofs.StepLemmas.{step-ok, step-uneven}
use Rattle.csv_tables.proofs.read.next.Goals as goal

pub returns-in-Ok : goal.returns-in-Ok
returns-in-Ok g c = λ text done columns s. step-ok g.R.Read.remaining c.args.reader.now c.read_byte_record.new.self text done columns c.args.number s (fields_of c.read_byte_record.new.row) c.in-Ok.found c.in-Ok.ensures.reads c.in-Ok.ensures.reads_on

pub returns-in-UnequalLengths : goal.returns-in-UnequalLengths
returns-in-UnequalLengths g c =
    λ text done columns s. (
      refl,
      refl,
      step-uneven g.R.Read.remaining c.args.reader.now c.read_byte_record.new.self text done columns c.args.number s (error_kind c.in-Err.error) c.in-UnequalLengths.pos c.in-UnequalLengths.expected_len c.in-UnequalLengths.len
          (sym c.kind.ensures ∙ c.in-UnequalLengths.is) c.in-Err.ensures.why,
    )
