use Rattle.std.proofs.Common.{arith}
use Rattle.std.proofs.lemmas.Str.Pattern.{strip_prefix_char}
use Rattle.key_rules.proofs.UserPathLemmas.{stripped}
use Rattle.key_rules.proofs.user_path.attr_name.Goals as goal

pub returns : goal.returns
returns c = stripped c.args.word.now c.strip_prefix.result (strip_prefix_char 64 c.args.word.now c.strip_prefix.result c.strip_prefix.ensures.cases (omega arith))
