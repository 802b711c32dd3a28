use Rattle.record_parts.specs.Encodable.{text_test}
use Rattle.record_parts.proofs.fits.text_fits.Goals as goal

pub returns : goal.returns
returns c = text_test c.args.text.now c.utf8.text
