use Rattle.std.proofs.Common.{sym, lit<}
use Rattle.std.proofs.lemmas.Str.Pattern.{strip_prefix_char}
use Rattle.key_spec.proofs.NameLemmas.{context_of-none}
use Rattle.key_spec.proofs.name.read_context.Goals as goal

pub returns-in-None : goal.returns-in-None
returns-in-None c = sym (context_of-none c.args.text.now (rw c.in-None.is at (strip_prefix_char 47 c.args.text.now c.strip_prefix.result c.strip_prefix.ensures.cases (lit< tt))))
