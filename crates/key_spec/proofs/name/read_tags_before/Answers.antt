use Rattle.std.proofs.Common.{sym, lit<, arith}
use Rattle.std.proofs.lemmas.Str.Pattern.{strip_suffix_char}
use Rattle.std.proofs.lemmas.Bool.Decides.{nat_tests}
use Rattle.key_spec.proofs.NameLemmas.{tags_before-none}
use Rattle.key_spec.proofs.name.read_tags_before.Goals as goal

pub returns-in-None : goal.returns-in-None
returns-in-None c = sym (tags_before-none c.args.front.now (grind (arith, nat_tests)) (rw c.in-None.is at (strip_suffix_char 47 c.args.front.now c.strip_suffix.result c.strip_suffix.ensures.cases (lit< tt))))
