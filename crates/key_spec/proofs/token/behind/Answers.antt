use Rattle.std.proofs.lemmas.Str.Pattern.{strip_prefix_char}
use Rattle.key_spec.proofs.TokenLemmas.{behind-stripped, sign_is_ascii}
use Rattle.key_spec.proofs.token.behind.Goals as goal

pub returns : goal.returns
returns c = behind-stripped c.args.sign c.args.line.now c.trimmed.result.now c.strip_prefix.result c.requires c.trimmed.ensures (strip_prefix_char c.args.sign c.trimmed.result.now c.strip_prefix.result c.strip_prefix.ensures.cases (sign_is_ascii c.args.sign c.requires))
