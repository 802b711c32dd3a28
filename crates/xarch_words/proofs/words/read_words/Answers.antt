use Rattle.std.proofs.Common.{arith}
use Rattle.std.proofs.lemmas.Grind.{common_steps}
use Rattle.xarch_words.specs.View.{words_view}
use Rattle.xarch_words.proofs.Spelled.{spelled-as}
use Rattle.xarch_words.proofs.words.read_words.Goals as goal

pub returns-in-len1-clause-command : goal.returns-in-len1-clause-command
returns-in-len1-clause-command c = grind (arith, common_steps)

pub returns-in-len2-clause-command : goal.returns-in-len2-clause-command
returns-in-len2-clause-command c = grind (arith, common_steps)

pub returns-in-len3-clause-command : goal.returns-in-len3-clause-command
returns-in-len3-clause-command c = grind (arith, common_steps)

pub returns-in-len4-clause-command : goal.returns-in-len4-clause-command
returns-in-len4-clause-command c = grind (arith, common_steps)

pub returns-in-len5-clause-command : goal.returns-in-len5-clause-command
returns-in-len5-clause-command c = grind (arith, common_steps)

pub returns-in_default-clause-command : goal.returns-in_default-clause-command
returns-in_default-clause-command c = grind (arith, common_steps)

pub returns-in-len1-clause-spelled : goal.returns-in-len1-clause-spelled
returns-in-len1-clause-spelled c = spelled-as c.one_word.result (words_view c.args.words.now) (returns-in-len1-clause-command c)

pub returns-in-len2-clause-spelled : goal.returns-in-len2-clause-spelled
returns-in-len2-clause-spelled c = spelled-as c.two_words.result (words_view c.args.words.now) (returns-in-len2-clause-command c)

pub returns-in-len3-clause-spelled : goal.returns-in-len3-clause-spelled
returns-in-len3-clause-spelled c = spelled-as c.three_words.result (words_view c.args.words.now) (returns-in-len3-clause-command c)

pub returns-in-len4-clause-spelled : goal.returns-in-len4-clause-spelled
returns-in-len4-clause-spelled c = spelled-as c.four_words.result (words_view c.args.words.now) (returns-in-len4-clause-command c)

pub returns-in-len5-clause-spelled : goal.returns-in-len5-clause-spelled
returns-in-len5-clause-spelled c = spelled-as c.five_words.result (words_view c.args.words.now) (returns-in-len5-clause-command c)
