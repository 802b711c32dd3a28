use Rattle.jsonml_text.proofs.RoundTrips.{content_reads_back}
use Rattle.jsonml_text.proofs.laws.contents_read_back.Goals as goal

pub returns : goal.returns
returns c = content_reads_back
