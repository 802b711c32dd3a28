use Rattle.jsonml_text.proofs.RoundTrips.{text_reads_back, document_reads_back, scalar_reads_back}
use Rattle.jsonml_text.proofs.laws.printed_documents_read_back.Goals as goal

pub returns-clause-text : goal.returns-clause-text
returns-clause-text c = text_reads_back

pub returns-clause-document : goal.returns-clause-document
returns-clause-document c = document_reads_back

pub returns-clause-scalar : goal.returns-clause-scalar
returns-clause-scalar c = scalar_reads_back
