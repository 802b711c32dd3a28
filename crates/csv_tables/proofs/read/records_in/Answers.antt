use Rattle.std.proofs.Common.{inr, refl, sym, ◌∙◌}
use Rattle.csv.specs.Reading.{Reached, strip_bom}
use Rattle.csv_tables.proofs.read.records_in.Goals as goal

pub returns : goal.returns
unfolding Reached
returns c =
    let fr = c.from_reader.ensures in
    let e = c.has_headers.ensures in
    record {
      trim = rw e at fr.trim ∙ c.new.ensures.trim;
      ready = inr (inr (rw e at fr.has_headers, fr.headers));
      config = rw e at fr.config ∙ c.new.ensures.config;
      strict = rw e at fr.flexible ∙ c.new.ensures.flexible;
      expected = fr.expected;
      left = strip_bom c.args.bytes.now;
      source = fr.source;
      reached = (sym fr.state, refl);
    }
